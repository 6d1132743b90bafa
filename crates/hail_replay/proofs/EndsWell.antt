-- A replay and a trial end well where nothing is amiss; and instances of both.
use Rattle.hail_replay.proofs.Words.{◌≡◌, ◌⊎◌, ℕ, ◌+◌, ◌≤◌, ◌<◌, List, [], ◌∷◌, ◌++◌, length, Option, Some, None, refl, ap, sym, subst, ◌∙◌, inl, inr, arith, append-nil, length-append, then_told, Seen, Ending, ReadsUpTo, sinking, headline, failures_rose, Step, Names, Closed, lines_of, Moment, now, IsRun, State, continued, Instruction, Once, RunJob, CarriesOut, longest_schedule, trial_providers, devices_of_seen, CarriedOut, AnswersReplay, AnswersTrial, trial_bytes, trial_commands, counts_of, trial_lines, Replays, AreLeft, called_behind}
use Rattle.std.specs.Prelude.{reverse}
use Rattle.device_defs.specs.Faults.{Rose}
use Rattle.schedule_text.specs.Schedules.{IsSchedule, IsFirstBadLine}
use Rattle.hail_replay.specs.TrialLines.{TellsTrial}
use Rattle.hail_replay.specs.Examples.{list_text, list_commands, list_written, list_before, list_behind, trial_seen, ended_with, closed_moments}
use Rattle.hail_replay.proofs.Loops.{continued-devices}

-- ---- what was read

-- a source had at least what was read of it
read-of : (text front : List ℕ) (old new : Option (List ℕ)) → old ≡ Some text → old ≡ then_told front new →
    (rest : List ℕ) × (text ≡ front ++ rest)
read-of text front old None is taken = absurd (let e : Some text ≡ None = sym is ∙ taken in cc)
read-of text front old (Some rest) is taken =
    (rest, (let e : Some text ≡ Some (front ++ rest) = sym is ∙ taken in cc))

-- what was read to the end is what was there
pub whole : (most : ℕ) (text read : List ℕ) (old new : Option (List ℕ)) → old ≡ Some text →
    ReadsUpTo most old new read → length read < most → read ≡ text
whole most text read old None is reads few = absurd (let e : Some text ≡ None = sym is ∙ reads.front in cc)
whole most text read old (Some rest) is reads few = (let none : rest ≡ [] = reads.end few in
    let e : Some text ≡ Some (read ++ rest) = sym is ∙ reads.front in
    let f : text ≡ read ++ rest = cc in
    sym (f ∙ ap (λ (l : List ℕ). read ++ l) none ∙ append-nil read))

-- ---- how they end

ends-by : (old new : Seen) (status : ℕ) → (Rose old.sink_faults new.sink_faults → ⊥) →
    CarriedOut status (sinking old new) → (status ≡ 0) ⊎ (status ≡ 70)
ends-by old new status writes (inl is) = inl is
ends-by old new status writes (inr (inl (is, rose))) = absurd (writes rose)
ends-by old new status writes (inr (inr is)) = inr is

module _ (bad : (text : List ℕ) (number : ℕ) (commands : List Instruction) → IsFirstBadLine text number →
    IsSchedule text commands → ⊥)
    (text : List ℕ) (commands : List Instruction) (old new : Seen) (end : Ending)
    (source : old.source ≡ Some text) (spells : IsSchedule text commands)
    (few : length text ≤ longest_schedule) (reads : Rose old.source_faults new.source_faults → ⊥)
    (writes : Rose old.sink_faults new.sink_faults → ⊥) where
  -- a replay of a schedule ends well
  pub replay-ends : AnswersReplay old new end → (end.status ≡ 0) ⊎ (end.status ≡ 70)
  replay-ends (AnswersReplay.source_fault rose taken undone) = absurd (reads rose)
  replay-ends (AnswersReplay.too_long front taken long undone) =
      (let parts = read-of text front old.source new.source source taken.front in
      absurd (let e = ap length parts.1 in let l = length-append front parts.0 in
      omega (arith, e, l, long, few)))
  replay-ends (AnswersReplay.bad_line read number taken short first undone) =
      absurd (bad text number commands (subst (λ (t : List ℕ). IsFirstBadLine t number)
      (whole (longest_schedule + 1) text read old.source new.source source taken (omega (arith, short)))
      first) spells)
  replay-ends (AnswersReplay.no_memory taken undone) = inr undone.status_is
  replay-ends (AnswersReplay.done read taken short does) = ends-by old new end.status writes does.ends

-- a trial over six providers ends well
pub trial-ends : (number : ℕ) (old new : Seen) (end : Ending) → AnswersTrial number old new end →
    trial_providers ≤ length old.providers → (Rose old.sink_faults new.sink_faults → ⊥) →
    (end.status ≡ 0) ⊎ (end.status ≡ 70)
trial-ends number old new end (AnswersTrial.too_few few same undone) enough writes =
    absurd (omega (arith, few, enough))
trial-ends number old new end (AnswersTrial.no_memory same undone) enough writes = inr undone.status_is
trial-ends number old new end (AnswersTrial.done many same does) enough writes =
    ends-by old new end.status writes does.ends

-- ---- instances

-- the one line spells a list
pub list-spelled : IsSchedule list_text list_commands
list-spelled = inr (Once Names, [], refl, refl, inl (tt, refl))

list-done : (start : State) (before : List Moment) → AreLeft start before (devices_of_seen list_before) →
    Replays start before list_commands 0 (sinking list_before list_behind) [] (devices_of_seen list_behind)
list-done start before L = (let w : State = continued (now start before) in
    let m : Moment = record { event = Names; outcome = Closed; state = w } in
    let run : IsRun 8 start (m ∷ called_behind start before) = (tt, refl, (tt, refl, L.run)) in
    record {
      done = list_commands;
      left = [];
      order = refl;
      whole = λ ok. refl;
      later = m ∷ [];
      lines = list_written;
      carries = record {
        carried_out = (m, [], [], refl, refl, (refl, refl), refl);
        run = run;
        last = continued-devices (devices_of_seen list_before) (now start before) L.devices;
        heard_is = refl;
        counted = λ count n fails.
            failures_rose 8 start (m ∷ []) (called_behind start before) count n run fails;
        headline = headline 8 start (m ∷ called_behind start before) L.starts run;
      };
      wrote = inl (refl, refl);
      stops = record {
        newest = m ∷ [];
        older = [];
        before = [];
        more = list_written;
        moments = refl;
        others = (refl, refl);
        lines_are = refl;
        cut = inl (refl, refl);
      };
    })

-- a replay of `list` over an empty disk
pub list-replayed : AnswersReplay list_before list_behind (ended_with 0)
list-replayed = AnswersReplay.done list_text
    (record { are_bytes = refl; front = refl; few = omega arith; end = λ l. refl }) (omega arith) (record {
      commands = list_commands;
      schedule = list-spelled;
      ends = inl refl;
      place = refl;
      runs = λ start before told L. list-done start before L;
    })

-- a trial for which there was no memory
pub trial-refused : AnswersTrial 7 trial_seen trial_seen (ended_with 70)
trial-refused = AnswersTrial.no_memory (refl, refl) (record {
  status_is = refl;
  place = refl;
  heard = refl;
  disk = refl;
  disk_faults = refl;
  providers = refl;
  sink = refl;
})

closed-out : (w : State) (commands : List Instruction) →
    (lines : List ℕ) × CarriesOut commands (closed_moments w commands) lines
closed-out w [] = ([], (refl, refl))
closed-out w (Once event ∷ commands) = (let rest = closed-out w commands in (
  rest.0 ++ lines_of Closed,
  (
    record { event = event; outcome = Closed; state = w },
    closed_moments w commands,
    rest.0,
    refl,
    refl,
    rest.1,
    refl,
  ),
))
closed-out w (RunJob job ∷ commands) = (let rest = closed-out w commands in (
  rest.0 ++ lines_of Closed,
  (
    record { event = Step job; outcome = Closed; state = w },
    [],
    closed_moments w commands,
    rest.0,
    refl,
    record { step = refl; over = λ e. absurd cc; before = tt },
    rest.1,
    refl,
  ),
))

-- a trial whose events came to `closed` is told
pub closed-told : (w : State) (number : ℕ) →
    TellsTrial number (closed_moments w (reverse (trial_commands number)))
    (trial_lines number (counts_of (trial_bytes number) (reverse (trial_commands number))
    (closed_moments w (reverse (trial_commands number)))))
closed-told w number = (let out = closed-out w (reverse (trial_commands number)) in
    record { left_out = out.0; carried_out = out.1; text_is = refl })
