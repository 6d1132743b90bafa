-- Where the next action of a job stands in its list.
use Rattle.machine_defs.proofs.Words.{◌≡◌, refl, sym, ◌∙◌, inl, inr, slice_get, cases_Bool, Setup, Kind, Job, advanced, Action, End, actions_by, actions_of, State, setup_in, next_action, is_idle_drop}
use Rattle.std.proofs.Common.{Some}
use Rattle.machine_defs.proofs.JobLists.{cond_true, cond_false}

-- the next action stands in the list, unless it is the End
pub next_stands : (w : State) (job : Job) (action : Action) → next_action w job ≡ Some action →
    (action ≡ End → ⊥) → slice_get (actions_of (setup_in w) job) job.place ≡ Some action
next_stands w job action h n = elim (cases_Bool (is_idle_drop w job job.kind)) [
  | inl t ↦ absurd (n (let e : Some End ≡ Some action =
      sym (cond_true (is_idle_drop w job job.kind) (Some End)
      (slice_get (actions_of (setup_in w) job) job.place) t) ∙ h in let f : End ≡ action = cc in sym f))
  | inr f ↦ sym (cond_false (is_idle_drop w job job.kind) (Some End)
      (slice_get (actions_of (setup_in w) job) job.place) f) ∙ h
]

-- a job's list is the same after one more action
pub actions_by-advanced : (s : Setup) (x : Job) (kind : Kind) →
    actions_by s (advanced x) kind ≡ actions_by s x kind
actions_by-advanced s x _ = refl
