-- What a fetch gives a job is what its provider holds then, or none where a count rose.
use Rattle.second_half_laws.proofs.Words.{true, refl, sym, subst, inl, inr, eq-eqb, Job, job_of, Fetch, Answer, Event, Outcome, More, Ended, State, next_action, holder_of, Acts, ActsOrWaits, StepsOn, StepsJob, StepsOne, StepsOpen, Steps, FetchStep, Happens, Moment, now, IsRun, Makes, cond_true, found_itself}
use Rattle.std.proofs.Common.{◌≡◌, ℕ, ◌==◌, false, List, ◌∷◌, length, Option, Some, None}
use Rattle.second_half_laws.specs.Fetching.{GaveFetched}

module _ (old : State) (job : Job) (j object stripe : ℕ) where
  from_step : (new : State) → job_of old.jobs job.number ≡ Some job → FetchStep old job j object stripe new →
      GaveFetched old new job j object stripe
  from_step new runs (block, (p, call, is)) =
      subst (λ w. GaveFetched old w job j object stripe) (sym is) (record {
        block = block;
        goes_on = found_itself _ _ job runs;
        gives = elim call.gives [
          | inl g ↦ inl g
          | inr f ↦ inr (rw (← (cond_true (j == j) p (old.providers j) (eq-eqb j j refl))) at f)
        ];
      })

  acts : (r : Outcome) (new : State) → job_of old.jobs job.number ≡ Some job →
      Acts old job (Fetch j object stripe) r new → GaveFetched old new job j object stripe
  acts More new runs h = from_step new runs h
  acts (Ended how) new runs h = absurd (ended how h)
    where
      ended : (a : Answer) → Acts old job (Fetch j object stripe) (Ended a) new → ⊥
      ended a g = g
  acts r new runs h = absurd h

  waits : (holder : Option ℕ) → holder ≡ None → (r : Outcome) (new : State) →
      job_of old.jobs job.number ≡ Some job → ActsOrWaits old job (Fetch j object stripe) holder r new →
      GaveFetched old new job j object stripe
  waits None is r new runs h = acts r new runs h
  waits (Some n) is r new runs h = cc is

  on : (r : Outcome) (new : State) → job_of old.jobs job.number ≡ Some job →
      next_action old job ≡ Some (Fetch j object stripe) →
      holder_of old.append (Fetch j object stripe) ≡ None →
      StepsOn old job (next_action old job) r new → GaveFetched old new job j object stripe
  on r new runs next_is free h = waits _ free r new runs (rw next_is at h)

  step_gave : (r : Outcome) (new : State) → old.is_open ≡ true → old.is_barred ≡ false → old.alone ≡ None →
      job_of old.jobs job.number ≡ Some job → next_action old job ≡ Some (Fetch j object stripe) →
      holder_of old.append (Fetch j object stripe) ≡ None → Steps old job.number old.is_open r new →
      GaveFetched old new job j object stripe
  step_gave r new is_open unbarred none_alone runs next_is free h =
      on r new runs next_is free (subst (λ o. StepsJob old o r new) runs
      (subst (λ x. StepsOne old job.number x r new) none_alone (subst (λ b. StepsOpen old job.number b r new)
      unbarred (subst (λ b. Steps old job.number b r new) is_open h))))

-- a fetch gives a job what its provider holds then, or none and a count of that provider rises
pub gave_fetched : (limit : ℕ) (start : State) (m : Moment) (ms : List Moment) (job : Job)
    (j object stripe : ℕ) → IsRun limit start (m ∷ ms) → Makes (now start ms) m job (Fetch j object stripe) →
    GaveFetched (now start ms) m.state job j object stripe
gave_fetched limit start m ms job j object stripe run makes = step_gave (now start ms) job j object stripe
    m.outcome m.state makes.is_open makes.unbarred makes.none_alone makes.runs makes.next makes.unheld
    (subst (λ (e : Event). Happens limit (length ms) (now start ms) e m.outcome m.state) makes.event run.1)
