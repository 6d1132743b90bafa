-- Begins, accepted and refused, and the states that a vault stands for after them.
use Rattle.vault.proofs.Words.{◌≡◌, inl, inr, ℕ, List, [], ◌∷◌, ◌++◌, Option, Some, None, Result, Ok, Err, refl, ap, sym, ◌∙◌, subst, arith, IsErr, IsErrOf, nat_le, not, Setup, actions_left, refusal_of_begin, beginning, Kind, aim_of, Job, Cause, first_refusal, sight_of, aims_of, is_shut, is_stored, is_full, State, setup_in, length-aims, BeginFault, CoreIs, refusal_of, job_begun, Desk, Running, Task, Devices, KeepsAll, DeskStands, DeskMakesBegin, IsTask, IsRunning, AreRunning, CoreView, told_in, hand_of, HasAtHand, AreAtHand, handed_same}
use Rattle.std.specs.Prelude.{◌||◌, length}
use Rattle.machine_defs.specs.Refusals as refusal
use Rattle.vault_core.specs.declared.wish.BeginFault.TheVariants as fault
use Rattle.vault.proofs.Ways.{stands_on}
use Rattle.vault.proofs.Hands.{told_below, hands_more}

-- the causes of a get or a drop behind that of its name
abbrev pub causes_of_name : State → Kind → List ℕ → List Cause
causes_of_name w kind name =
    record { applies = not (is_stored (sight_of w) name); refusal = refusal.NoSuchName }
    ∷ record { applies = is_full (sight_of w) (aim_of kind); refusal = refusal.JournalFull } ∷ []

-- a begin counts the aims of the running jobs, which are as many as the jobs
pub aims-counted : (w : State) (more : List Cause) →
    first_refusal (record { applies = w.is_barred; refusal = refusal.MustReopen } ∷ record {
      applies = is_shut (sight_of w) || nat_le 8 (length (aims_of w.jobs));
      refusal = refusal.Busy;
    } ∷ more)
    ≡ first_refusal (record { applies = w.is_barred; refusal = refusal.MustReopen }
    ∷ record { applies = is_shut (sight_of w) || nat_le 8 (length w.jobs); refusal = refusal.Busy } ∷ more)
aims-counted w more =
    ap (λ (n : ℕ). first_refusal (record { applies = w.is_barred; refusal = refusal.MustReopen } ∷ record
    { applies = is_shut (sight_of w) || nat_le 8 n; refusal = refusal.Busy } ∷ more)) (length-aims w.jobs)

-- where memory alone is a fault, it is the one that there was
pub memory-alone : {X : Type 0} (r : Result X BeginFault) (why : BeginFault)
    → (IsErr r → IsErrOf r fault.Memory) → r ≡ Err why → why ≡ fault.Memory
memory-alone (Ok x) why alone is = absurd (let e : ⊥ = cc in e)
memory-alone (Err f) why alone is = (let e = alone refl in cc)

-- one job more
running-push : (s : Setup) (rs : List Running) (js : List Job) (r : Running) (j : Job) → AreRunning s rs js →
    IsRunning s r j → AreRunning s (rs ++ r ∷ []) (js ++ j ∷ [])
running-push s [] [] r j are is = (is, tt)
running-push s (q ∷ rs) (k ∷ js) r j are is = (are.0, running-push s rs js r j are.1 is)
running-push s _ _ r j are is = absurd are

-- a core was told of no job under the next number
pub untold-next : (c : CoreView) (w : State) → CoreIs c w → told_in c.jobs w.next_job ≡ None
untold-next c w is = by_value (told_in c.jobs w.next_job) refl
  where
    by_value : (o : Option ℕ) → told_in c.jobs w.next_job ≡ o → o ≡ None
    by_value None told = refl
    by_value (Some stripes) told = absurd (omega (arith, told_below c w w.next_job stripes is told))

module _ (old new : Desk) (d : Devices) (w : State) (moment : ℕ) (kind : Kind) (own : Option ℕ)
    (stands : DeskStands old d w) where
  -- a begin that is accepted
  pub admitted : (number : ℕ) (task : Task) → CoreIs new.core (job_begun w moment kind own) →
      refusal_of_begin 8 w kind own ≡ None → number ≡ old.core.next_job
      → IsTask (setup_in w) (beginning w moment kind own)
      (actions_left (setup_in w) (beginning w moment kind own)) task
      → ((m : ℕ) → (m ≡ w.next_job → ⊥) → told_in new.core.jobs m ≡ told_in old.core.jobs m)
      → (told : Option ℕ) → told_in new.core.jobs w.next_job ≡ told
      → HasAtHand (setup_in w) told (hand_of task) (beginning w moment kind own)
      → new.jobs.items ≡ old.jobs.items ++ record { number = number; task = task } ∷ [] → KeepsAll old new →
      new.flight ≡ old.flight → DeskMakesBegin w moment kind own (Ok number) new d
  admitted number task core accepted number_is is others told told_is hand jobs keeps flight =
      let next : number ≡ w.next_job = number_is ∙ stands.core.next_job in
      record {
        state = job_begun w moment kind own;
        begins = (stands.core.is_open, accepted, next, refl);
        stands = stands_on old new w (job_begun w moment kind own) d.holds d.faults d.providers d.providers
            stands (record {
              records = refl;
              journal = refl;
              area = refl;
              switching = refl;
              doubt = refl;
              append = refl;
              faults = refl;
              barred = refl;
            }) (handed_same d.providers w
            (job_begun w moment kind own) stands.devices.providers refl (λ j. refl)) core keeps flight
            (subst (λ (items : List Running). AreRunning (setup_in w) items
            (w.jobs ++ beginning w moment kind own ∷ [])) (sym jobs) (running-push (setup_in w) old.jobs.items
            w.jobs _ _ stands.jobs (record { number = next; task = is })))
            (subst (λ (items : List Running). AreAtHand (setup_in w) new.core.jobs items
            (w.jobs ++ beginning w moment kind own ∷ [])) (sym jobs) (hands_more (setup_in w) old.core.jobs
            new.core.jobs old.jobs.items w.jobs (record { number = number; task = task })
            (beginning w moment kind own) w.next_job stands.jobs stands.core.sound.numbered refl others
            (subst (λ (o : Option ℕ). HasAtHand (setup_in w) o (hand_of task) (beginning w moment kind own))
            (sym told_is) hand) stands.streams));
      }

  -- a begin that is refused, and leaves the vault as it was
  pub turned_down : (why : BeginFault) → refusal_of_begin 8 w kind own ≡ Some (refusal_of why) →
      DeskMakesBegin w moment kind own (Err why) old d
  turned_down why is = record { state = w; begins = (stands.core.is_open, inl is, refl); stands = stands }

  -- a begin that found no memory leaves it so too
  pub found_none : DeskMakesBegin w moment kind own (Err fault.Memory) old d
  found_none = record { state = w; begins = (stands.core.is_open, inr refl, refl); stands = stands }
