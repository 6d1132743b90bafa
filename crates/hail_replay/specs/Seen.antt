-- How a tally sees one event, and how it is kept.
--
--   IsSeen expected tolerance outcome seen
--                                == what was seen of an event is what its outcome is to the counts
--   FlagsBy tolerance m          == whom a moment flags by the setup in effect are those whose count is above
--                                   this tolerance
--   SeesOne expected tolerance outcome old new
--                                == counts over any run become those over this run with one more command,
--                                   whose last moment has this outcome and flags by this tolerance; the
--                                   moments before it are steps that went on
--   counts_in t                  == the counts that a tally keeps
--   IsTally t                    == none of them is above the count of events
use Rattle.std.specs.Prelude.{◌≡◌, ◌≤◌, ℕ, List, ◌∷◌, ◌++◌}
use Rattle.machine_defs.specs.Events.{Outcome}
use Rattle.machine_defs.specs.Runs.{Moment}
use Rattle.machine_defs.specs.States.{setup_in}
use Rattle.machine_defs.specs.Transcripts.{Instruction, GoOn}
use Rattle.hail_replay.specs.declared.seen.Seen.{Seen}
use Rattle.hail_replay.specs.declared.tally.Tally.TheInside.{Inside}
use Rattle.hail_replay.specs.Counts.{TrialCounts, is_got, is_expected, is_audited, is_repaired, is_stopped, flagged_by, counts_of}

-- what was seen of an event is what its outcome is to the counts
pub record IsSeen (expected : List ℕ) (tolerance : ℕ) (outcome : Outcome) (seen : Seen) : Type 0 where
  pub got : seen.got ≡ is_got outcome
  pub right : seen.right ≡ is_expected expected outcome
  pub audited : seen.audited ≡ is_audited outcome
  pub flagged : seen.flagged.items ≡ flagged_by tolerance outcome
  pub repaired : seen.repaired ≡ is_repaired outcome
  pub stopped : seen.stopped ≡ is_stopped outcome

-- a moment flags by this tolerance
abbrev pub FlagsBy : ℕ → Moment → Type 0
FlagsBy tolerance m =
    flagged_by (setup_in m.state).tolerance m.outcome ≡ flagged_by tolerance m.outcome

-- counts over any run become those over this run with one more command
abbrev pub SeesOne : List ℕ → ℕ → Outcome → TrialCounts → TrialCounts → Type 0
SeesOne expected tolerance outcome old new =
    (commands : List Instruction) (command : Instruction) (ms steps : List Moment) (m : Moment) (job : ℕ)
    → m.outcome ≡ outcome → FlagsBy tolerance m → GoOn job steps → old ≡ counts_of expected commands ms
    → new ≡ counts_of expected (command ∷ commands) (m ∷ (steps ++ ms))

-- the counts that a tally keeps
abbrev pub counts_in : Inside → TrialCounts
counts_in t = record {
  events = t.events;
  gets = t.gets;
  right = t.right;
  audits = t.audits;
  flagged = t.flagged.items;
  repairs = t.repairs;
  stops = t.stops;
}

-- no count is above that of events
pub record IsTally (t : Inside) : Type 0 where
  pub gets : t.gets ≤ t.events
  pub right : t.right ≤ t.events
  pub audits : t.audits ≤ t.events
  pub repairs : t.repairs ≤ t.events
  pub stops : t.stops ≤ t.events
