-- A step that makes no action is an event of the machine, and leaves the state as it was.
use Rattle.vault.proofs.Words.{◌≡◌, ℕ, Bool, true, false, Option, None, Some, refl, sym, subst, Outcome, Step, Ended, Job, job_of, Happens, State, Alone, ActsOrWaits, StepsOn, StepsJob, StepsOne, StepsOpen, Steps, ComesNext, Devices, DeskStands, DeskMakesStep, Desk}
use Rattle.machine_defs.specs.Actions.{Action}
use Rattle.machine_defs.specs.Answers as answers
use Rattle.machine_defs.specs.Events as events
use Rattle.machine_defs.specs.Refusals as refusal
use Rattle.vault.specs.declared.turn.Turn.TheVariants as turn
use Rattle.vault.proofs.Ways.{same_beyond}

module _ (v : Desk) (w : State) (d : Devices) (moment number : ℕ) (stands : DeskStands v d w) where
  -- where a vault is open, a step is one of a job or is barred
  opened : (outcome : Outcome) → StepsOpen w number w.is_barred outcome w →
      Happens 8 moment w (Step number) outcome w
  opened outcome steps = subst (λ (b : Bool). Steps w number b outcome w) (sym stands.core.is_open) steps

  -- where no disk call failed, it is one of a job
  unbarred : (outcome : Outcome) → w.is_barred ≡ false → StepsJob w (job_of w.jobs number) outcome w
      → Happens 8 moment w (Step number) outcome w
  unbarred outcome free steps =
      opened outcome (subst (λ (b : Bool). StepsOpen w number b outcome w) (sym free)
      (subst (λ (o : Option Alone). StepsOne w number o outcome w) (sym stands.core.none_alone) steps))

  -- a job waits for the append of another
  pub step-waits : (holder : ℕ) → (action : Action) × ComesNext w number action (Some holder)
      → DeskMakesStep w moment number (turn.Waiting holder) v d d
  step-waits holder (action, next) = record {
    state = w;
    happens = unbarred (events.Waiting holder) next.unbarred (subst (λ o. StepsJob w o (events.Waiting holder)
        w) (sym next.runs) (subst (λ o. StepsOn w next.job o (events.Waiting holder) w) (sym next.comes)
        (subst (λ h. ActsOrWaits w next.job action h (events.Waiting holder) w) (sym next.holder)
        (refl, refl))));
    stands = stands;
    heard = tt;
    beyond = λ ended. same_beyond w d.holds d.faults d.providers d.providers;
    torn = λ e. (let f : events.Waiting holder ≡ Ended answers.DiskFault = e in cc);
  }

  -- no running job has the number
  pub step-unknown : (w.is_barred ≡ false) × (job_of w.jobs number ≡ None)
      → DeskMakesStep w moment number turn.NoSuchJob v d d
  step-unknown (free, none) = record {
    state = w;
    happens = unbarred (events.Refused refusal.NoSuchJob) free
        (subst (λ (o : Option Job). StepsJob w o (events.Refused refusal.NoSuchJob) w) (sym none) refl);
    stands = stands;
    heard = tt;
    beyond = λ ended. same_beyond w d.holds d.faults d.providers d.providers;
    torn = λ e. (let f : events.Refused refusal.NoSuchJob ≡ Ended answers.DiskFault = e in cc);
  }

  -- a disk call failed
  pub step-barred : w.is_barred ≡ true → DeskMakesStep w moment number turn.MustReopen v d d
  step-barred barred = record {
    state = w;
    happens = opened (events.Refused refusal.MustReopen)
        (subst (λ (b : Bool). StepsOpen w number b (events.Refused refusal.MustReopen) w) (sym barred) refl);
    stands = stands;
    heard = tt;
    beyond = λ ended. same_beyond w d.holds d.faults d.providers d.providers;
    torn = λ e. (let f : events.Refused refusal.MustReopen ≡ Ended answers.DiskFault = e in cc);
  }
