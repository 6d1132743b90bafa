-- A schedule or a trial, carried out or not.
use Rattle.hail_top.proofs.Words.{◌≡◌, ◌≢◌, ◌⊎◌, ◌<◌, inl, inr, ℕ, ◌+◌, List, [], reverse, refl, ap, sym, subst, ◌∙◌, arith, reverse-reverse, Seen, Ending, sinking, Rose, Sinking, Entry, Moment, State, Devices, IsUndone, devices_of_seen, longest_schedule, AnswersReplay, AnswersTrial, Form, AnswersForm, FormGoesOn, KeepsTheHeadline, none-taken, ending_with}
use Rattle.std.proofs.lemmas.List.{append-nil}
use Rattle.machine_defs.specs.Transcripts.{Instruction}
use Rattle.hail_replay.specs.Replayed.{Replays}
use Rattle.hail_replay.specs.Trials.{RunsTrial, RunsTo}
use Rattle.hail_replay.specs.Answers as answers
use Rattle.hail_replay.specs.declared.forms.Form.TheVariants as forms
use Rattle.trial_maker.specs.Trials.{trial_commands}

-- no event was done
pub undone : (status at : ℕ) (old new : Seen) (end : Ending) → end ≡ ending_with status at →
    new.disk ≡ old.disk → new.disk_faults ≡ old.disk_faults
    → new.providers ≡ old.providers → new.sink ≡ old.sink → IsUndone status at old new end
undone status at old new end is disk faults providers sink = record {
  status_is = ap (λ (e : Ending). e.status) is;
  place = ap (λ (e : Ending). e.at) is;
  heard = ap (λ (e : Ending). e.heard) is;
  disk = disk;
  disk_faults = faults;
  providers = providers;
  sink = sink;
}

-- how a report of a replay ends
pub carried-status : {status at before now : ℕ} {heard : List Entry} {end : Ending} →
    end ≡ record { status = status; at = at; heard = heard }
    → (status ≡ 0) ⊎ ((status ≡ 15) × Rose before now) ⊎ (status ≡ 70) →
    (end.status ≡ 0) ⊎ ((end.status ≡ 15) × Rose before now) ⊎ (end.status ≡ 70)
carried-status {status} {at} {before} {now} {heard} {end} is c =
    subst (λ (e : Ending). (e.status ≡ 0) ⊎ ((e.status ≡ 15) × Rose before now) ⊎ (e.status ≡ 70)) (sym is) c

-- an ending with no place tells none
pub carried-place : {status : ℕ} {heard : List Entry} {end : Ending} →
    end ≡ record { status = status; at = 0; heard = heard } → end.at ≡ 0
carried-place {status} {heard} {end} is = ap (λ (e : Ending). e.at) is

-- an ending tells what was heard
pub carried-heard : {status at : ℕ} {heard : List Entry} {end : Ending} {start : State} {before : List Moment}
    {commands : List Instruction} {sink : Sinking} {d : Devices}
    → end ≡ record { status = status; at = at; heard = heard } →
    Replays start before commands status sink heard d →
    Replays start before commands end.status sink end.heard d
carried-heard {status} {at} {heard} {end} {start} {before} {commands} {sink} {d} is r =
    subst (λ (e : Ending). Replays start before commands e.status sink e.heard d) (sym is) r

-- ---- the headline

-- a status above 0
other : (status : ℕ) → 0 < status → status ≢ 0
other status l is = absurd (omega (arith, l, is))

replay-keeps : (old new : Seen) (end : Ending) → AnswersReplay old new end →
    KeepsTheHeadline forms.Replay old new end
replay-keeps old new end (answers.source_fault rose reads undone) = inl (14, 0, other 14 (omega arith), undone)
replay-keeps old new end (answers.too_long front reads long undone) = inl (16, 0, other 16 (omega arith), undone)
replay-keeps old new end (answers.bad_line text number reads short bad undone) =
    inl (19, number, other 19 (omega arith), undone)
replay-keeps old new end (answers.no_memory reads undone) = inl (70, 0, other 70 (omega arith), undone)
replay-keeps old new end (answers.done text reads short does) = inr (record {
  commands = does.commands;
  asks = record { text = text; reads = reads; spells = does.schedule };
  goes_on = λ start before told left. (let R = does.runs start before told left in record {
    goes = record { done = R.done; later = R.later; lines = R.lines; carries = R.carries };
    left = R.left;
    order = R.order;
    whole = R.whole;
    told = R.wrote;
  });
})

trial-goes-on : (number : ℕ) (start : State) (before : List Moment) (old new : Seen) (end : Ending) →
    RunsTrial number start before end.status (sinking old new) end.heard (devices_of_seen new)
    ⊎ ((end.status ≡ 70) × (new.sink ≡ old.sink)
    × RunsTo start before (trial_commands number) end.heard (devices_of_seen new)) →
    FormGoesOn (forms.Trial number) (trial_commands number) start before old new end
trial-goes-on number start before old new end (inl R) = record {
  goes = record {
    done = reverse (trial_commands number);
    later = R.later;
    lines = R.left_out;
    carries = R.carries;
  };
  left = [];
  order = sym (append-nil (reverse (reverse (trial_commands number))) ∙ reverse-reverse (trial_commands number));
  whole = λ ok. refl;
  told = inl (R.text, R.tells, R.wrote);
}
trial-goes-on number start before old new end (inr (is, at, R)) = record {
  goes = record { done = R.done; later = R.later; lines = R.lines; carries = R.carries };
  left = R.left;
  order = R.order;
  whole = λ ok. absurd (other 70 (omega arith) (sym is ∙ ok));
  told = inr (is, at);
}

trial-keeps : (number : ℕ) (old new : Seen) (end : Ending) → AnswersTrial number old new end →
    KeepsTheHeadline (forms.Trial number) old new end
trial-keeps number old new end (answers.too_few few same undone) = inl (22, 0, other 22 (omega arith), undone)
trial-keeps number old new end (answers.no_memory same undone) = inl (70, 0, other 70 (omega arith), undone)
trial-keeps number old new end (answers.done enough same does) = inr (record {
  commands = trial_commands number;
  asks = refl;
  goes_on = λ start before told left. trial-goes-on number start before old new end
      (does.runs start before told left);
})

-- what any form answers keeps the headline
pub form-keeps : (form : Form) (old new : Seen) (end : Ending) → AnswersForm form old new end →
    KeepsTheHeadline form old new end
form-keeps forms.Replay old new end a = replay-keeps old new end a
form-keeps (forms.Trial number) old new end a = trial-keeps number old new end a

-- a form for which there was no memory, and no device was called
pub unstarted-form : (form : Form) (same : Seen) (end : Ending) → end ≡ ending_with 70 0 →
    AnswersForm form same same end
unstarted-form forms.Replay same end is = answers.no_memory (none-taken (longest_schedule + 1) same.source)
    (undone 70 0 same same end is refl refl refl refl)
unstarted-form (forms.Trial number) same end is =
    answers.no_memory (refl, refl) (undone 70 0 same same end is refl refl refl refl)

-- it is this form
pub carried-as : (form other : Form) (old new : Seen) (end : Ending) → form ≡ other →
    AnswersForm other old new end → AnswersForm form old new end
carried-as form other old new end is a = subst (λ (f : Form). AnswersForm f old new end) (sym is) a

-- what holds of a list and what was left of it holds of the same under other names
pub over-lists : {X : Type 0} (F : List X → List X → Type 0) (held old left new : List X) → held ≡ old →
    left ≡ new → F held new → F old left
over-lists F held old left new held_is left_is h =
    subst (λ o. F o left) held_is (subst (λ n. F held n) (sym left_is) h)
