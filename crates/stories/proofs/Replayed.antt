-- A replay over a store that was set up, of which the moments are given: it answers as its text says.
use Rattle.stories.proofs.Words.{◌≡◌, ℕ, ◌+◌, List, [], ◌∷◌, ◌++◌, ◌≤◌, length, None, Some, refl, ap, sym, subst, ◌∙◌, inl, reverse, EachImage, StandsActive, lines_of, Entry, heard_in, CarriesOut, Once, RunJob, Seen, sinking, IsSchedule, longest_schedule, devices_of_seen, AnswersReplay, Replays, AreLeft, called_behind, ends_hearing, before_byte, before_text}
use Rattle.std.proofs.Common.{append-nil}
use Rattle.machine_defs.specs.Transcripts.{Instruction as Command}
use Rattle.second_half_laws.proofs.Failed.{failures_rose}
use Rattle.command_defs.specs.Seen.{ReadsUpTo}
use Rattle.headline.proofs.Parts.{headline}
use Rattle.vault_open.specs.Devices.{AreDevices}
use Rattle.damage_run.specs.Words.{Reopen, Opened, State, Moment, IsRun, now, Instruction, Comes, run_of}
use Rattle.command_runs.specs.Devices.{each}
use Rattle.turn_laws.specs.Turned.{with_doubt, left_by}
use Rattle.turn_laws.proofs.Turned.{stand-so, handed-four}
use Rattle.stories.proofs.Behind.{AreFitBehind, alone, behind, behind-run}
use Rattle.stories.proofs.Reopened.{found, opened, first, first-run}

-- instructions behind the reopening as such alone, their moments behind the call of the program, and the last state
abbrev pub alone-of : List Instruction → State → List Moment → List Instruction
alone-of own start before =
    alone start (first start before) own ++ Comes Reopen Opened (λ w. opened start before) ∷ []

abbrev pub made : List Instruction → State → List Moment → List Moment
made own start before = run_of (found start before) (alone-of own start before)

abbrev pub at-end : List Instruction → State → List Moment → State
at-end own start before = now start (behind start (first start before) own)

-- moments that carry out commands
pub record Goes (start : State) (before : List Moment) (commands : List Command) (lines : List ℕ)
    (heard : List Entry) (new : Seen) : Type 0 where
  pub later : List Moment
  pub carried : CarriesOut commands later lines
  pub run : IsRun 8 start (later ++ called_behind start before)
  pub last : AreDevices (devices_of_seen new) (now start (later ++ called_behind start before))
  pub heard_is : heard ≡ heard_in start (later ++ called_behind start before)

-- so go instructions that fit, whose commands and lines these are, and which leave the devices so
pub goes-so : (own : List Instruction) (commands : List Command) (lines : List ℕ) (heard : List Entry) (new : Seen)
    (start : State) (before : List Moment) → AreLeft start before (devices_of_seen before_byte) →
    AreFitBehind start (first start before) own → CarriesOut commands (made own start before) lines →
    made own start before ++ called_behind start before ≡ behind start (first start before) own →
    EachImage new.disk (λ image. StandsActive image (at-end own start before).area
    (with_doubt (at-end own start before).doubt (at-end own start before).journal)) →
    (at-end own start before).disk_faults ≡ new.disk_faults → (at-end own start before).handed ≡ 4 →
    each (at-end own start before).providers ≡ new.providers →
    heard ≡ heard_in start (behind start (first start before) own) → Goes start before commands lines heard new
goes-so own commands lines heard new start before L fits carried same images faults handed providers is_heard = record {
  later = made own start before;
  carried = carried;
  run = subst (IsRun 8 start) (sym same) (behind-run start (first start before) own (first-run start before L) fits);
  last = subst (λ l. AreDevices (devices_of_seen new) (now start l)) (sym same) (record {
    images = stand-so new.disk (at-end own start before) None (left_by (at-end own start before) None) refl images;
    faults = faults;
    providers = handed-four (at-end own start before) handed providers;
  });
  heard_is = is_heard ∙ ap (heard_in start) (sym same);
}

-- the newest command apart from the others
newest-apart : (command : Command) (commands : List Command) (later : List Moment) (lines : List ℕ) →
    CarriesOut (command ∷ commands) later lines → (newest : List Moment) × (older : List Moment) × (before : List ℕ)
    × (more : List ℕ) × (later ≡ newest ++ older) × CarriesOut commands older before × (lines ≡ before ++ more)
newest-apart (Once event) commands later lines (m, older, before, is, here, others, lines_are) =
    (m ∷ [], older, before, lines_of m.outcome, is, others, lines_are)
newest-apart (RunJob job) commands later lines (m, steps, older, before, is, here, others, lines_are) =
    (m ∷ steps, older, before, lines_of m.outcome, is, others, lines_are)

module _ (text lines : List ℕ) (command : Command) (commands : List Command) (heard : List Entry) (new : Seen)
    (sunk : new.sink ≡ Some lines) where
  pub replayed : (start : State) (before : List Moment) → AreLeft start before (devices_of_seen before_byte) →
      Goes start before (command ∷ commands) lines heard new → Replays start before (reverse (command ∷ commands)) 0
      (sinking (before_text text) new) heard (devices_of_seen new)
  replayed start before L G = (let N = newest-apart command commands G.later lines G.carried in record {
    done = command ∷ commands;
    left = [];
    order = sym (append-nil (reverse (command ∷ commands)));
    whole = λ ok. refl;
    later = G.later;
    lines = lines;
    carries = record {
      carried_out = G.carried;
      run = G.run;
      last = G.last;
      heard_is = G.heard_is;
      counted = λ count n fails. failures_rose 8 start G.later (called_behind start before) count n G.run fails;
      headline = headline 8 start (G.later ++ called_behind start before) L.starts G.run;
    };
    wrote = inl (refl, sunk);
    stops = record {
      newest = N.0;
      older = N.1;
      before = N.2;
      more = N.3;
      moments = N.4;
      others = N.5;
      lines_are = N.6;
      cut = inl (refl, sunk ∙ ap Some N.6);
    };
  })

  -- the replay
  pub answers : IsSchedule text (reverse (command ∷ commands)) →
      ReadsUpTo (longest_schedule + 1) (Some text) new.source text → length text ≤ longest_schedule →
      ((start : State) (before : List Moment) → AreLeft start before (devices_of_seen before_byte) →
      Goes start before (command ∷ commands) lines heard new) →
      AnswersReplay (before_text text) new (ends_hearing 0 heard)
  answers spelled reads short goes = AnswersReplay.done text reads short (record {
    commands = reverse (command ∷ commands);
    schedule = spelled;
    ends = inl refl;
    place = refl;
    runs = λ start before told L. replayed start before L (goes start before L);
  })
