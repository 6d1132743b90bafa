-- What a trial counts over its run, and the six lines that tell it. Commands and moments have the newest
-- first.
--
--   TrialCounts                       == how many events were done; how many gets ended with bytes, and with
--                                        the right ones; how many audits ended, and whom they flagged, in
--                                        order; how many repairs ended, and how many stops there were
--   is_got outcome                    == a get ended with bytes
--   is_expected expected outcome      == a get ended with the expected bytes
--   is_audited outcome                == an audit ended
--   is_repaired outcome               == a repair ended
--   is_stopped outcome                == the client was stopped
--   flag_of tolerance j count         == provider j, where its count is above the tolerance
--   flagged_from tolerance j counts   == of the providers from j on those whose count is
--   flagged_by tolerance outcome      == whom an audit flagged that ended so; nobody at another outcome
--   how_many is_one ms, flagged_in ms == the same over moments, each audit by the tolerance of the setup in
--                                        effect at its end; the oldest flags first
--   counts_of expected commands ms    == the counts, where moments carry out commands and gets are to give
--                                        the expected bytes
--   counts_on expected tolerance outcome old
--                                     == the counts after one more event that came to this outcome
--   table_tolerance table             == the tolerance of the setup that a table has; 0 where there is none
--   trial_lines number counts         == the six lines of a trial
use Rattle.std.specs.Prelude.{ℕ, ◌+◌, Bool, true, false, List, [], ◌∷◌, ◌++◌, length, codes, Option, Some, None, nat_lt, if◌then◌else◌}
use Rattle.std.specs.List.{flat_map}
use Rattle.std.specs.Str.{bytes_eq}
use Rattle.machine_defs.specs.Answers.{Got, Audited, Repaired}
use Rattle.machine_defs.specs.Events.{Outcome, Ended, Stopped}
use Rattle.machine_defs.specs.Runs.{Moment}
use Rattle.machine_defs.specs.Transcripts.{Instruction}
use Rattle.machine_defs.specs.Lines.{line, then_number}
use Rattle.machine_defs.specs.Setups.{setup_or_none}
use Rattle.machine_defs.specs.States.{setup_in}
use Rattle.vault_table.specs.Values.{Kept}

-- what a trial counts
pub record TrialCounts : Type 0 where
  pub events : ℕ
  pub gets : ℕ
  pub right : ℕ
  pub audits : ℕ
  pub flagged : List ℕ
  pub repairs : ℕ
  pub stops : ℕ

-- a get ended with bytes
abbrev pub is_got : Outcome → Bool
is_got (Ended (Got bytes)) = true
is_got outcome = false

-- a get ended with the expected bytes
abbrev pub is_expected : List ℕ → Outcome → Bool
is_expected expected (Ended (Got bytes)) = bytes_eq bytes expected
is_expected expected outcome = false

-- an audit ended
abbrev pub is_audited : Outcome → Bool
is_audited (Ended (Audited number undecided counts)) = true
is_audited outcome = false

-- a repair ended
abbrev pub is_repaired : Outcome → Bool
is_repaired (Ended (Repaired number)) = true
is_repaired outcome = false

-- a stop
abbrev pub is_stopped : Outcome → Bool
is_stopped Stopped = true
is_stopped outcome = false

-- provider j, where its count is above the tolerance
abbrev pub flag_of : ℕ → ℕ → ℕ → List ℕ
flag_of tolerance j count = if nat_lt tolerance count then j ∷ [] else []

-- of the providers from j on those whose count is above the tolerance
abbrev pub flagged_from : ℕ → ℕ → List ℕ → List ℕ
flagged_from tolerance j [] = []
flagged_from tolerance j (count ∷ counts) =
    flag_of tolerance j count ++ flagged_from tolerance (j + 1) counts

-- whom an audit flagged that ended so
abbrev pub flagged_by : ℕ → Outcome → List ℕ
flagged_by tolerance (Ended (Audited number undecided counts)) = flagged_from tolerance 0 counts
flagged_by tolerance outcome = []

-- 1 where it is so
abbrev pub one_if : Bool → ℕ
one_if true = 1
one_if false = 0

-- how many moments are so
abbrev pub how_many : (Outcome → Bool) → List Moment → ℕ
how_many is_one [] = 0
how_many is_one (m ∷ ms) = how_many is_one ms + one_if (is_one m.outcome)

-- whom all audits flagged, each by the setup in effect at its end
abbrev pub flagged_in : List Moment → List ℕ
flagged_in [] = []
flagged_in (m ∷ ms) = flagged_in ms ++ flagged_by (setup_in m.state).tolerance m.outcome

-- the counts of a run
abbrev pub counts_of : List ℕ → List Instruction → List Moment → TrialCounts
counts_of expected commands ms = record {
  events = length commands;
  gets = how_many is_got ms;
  right = how_many (is_expected expected) ms;
  audits = how_many is_audited ms;
  flagged = flagged_in ms;
  repairs = how_many is_repaired ms;
  stops = how_many is_stopped ms;
}

-- the counts after one more event
abbrev pub counts_on : List ℕ → ℕ → Outcome → TrialCounts → TrialCounts
counts_on expected tolerance outcome old = record {
  events = old.events + 1;
  gets = old.gets + one_if (is_got outcome);
  right = old.right + one_if (is_expected expected outcome);
  audits = old.audits + one_if (is_audited outcome);
  flagged = old.flagged ++ flagged_by tolerance outcome;
  repairs = old.repairs + one_if (is_repaired outcome);
  stops = old.stops + one_if (is_stopped outcome);
}

-- the tolerance of the setup that the table of an open vault has
abbrev pub table_tolerance : Option Kept → ℕ
table_tolerance None = 0
table_tolerance (Some table) = (setup_or_none table.setup).tolerance

-- the six lines of a trial
abbrev pub trial_lines : ℕ → TrialCounts → List ℕ
trial_lines number c =
    line (codes "trial" ++ then_number number) ++ line (codes "events" ++ then_number c.events)
    ++ line (codes "gets" ++ then_number c.gets ++ codes " right" ++ then_number c.right)
    ++ line (codes "audits" ++ then_number c.audits ++ codes " flagged" ++ flat_map then_number c.flagged)
    ++ (line (codes "repairs" ++ then_number c.repairs) ++ line (codes "stops" ++ then_number c.stops))
