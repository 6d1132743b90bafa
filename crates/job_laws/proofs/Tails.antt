-- What a job does once its record is written: it takes copies away, and ends.
use Rattle.job_laws.proofs.Words.{ℕ, [], ◌∷◌, ◌++◌, List, length, Each, each_append, each_map, each_flat, upto, Setup, Job, profiled, stripes_of, Action, Store, Remove, End, on_each_provider, store_actions, remove_actions}

-- a removal or the end
abbrev pub IsTail : Action → Type 0
IsTail (Remove k o) = Unit {0}
IsTail End = Unit {0}
IsTail action = ⊥

abbrev pub NoStore : Action → Type 0
NoStore (Store k o t) = ⊥
NoStore action = Unit {0}

module _ (P : Action → Type 0) (s : Setup) (job : Job) where
  -- removals and the end alone stand behind the record
  pub each-tail : ((k o : ℕ) → P (Remove k o)) → P End → Each P (remove_actions s job ++ End ∷ [])
  each-tail removes ends = each_append P (remove_actions s job) (End ∷ [])
      (each_flat P (λ o. on_each_provider s (λ k. Remove k o)) job.older
      (λ o. each_map P (λ k. Remove k o) (upto s.n) (λ k. removes k o))) (ends, tt)

  -- the stores of a put
  pub each-stored : (bytes : List ℕ) → ((k t : ℕ) → P (Store k job.subject t)) →
      Each P (store_actions s job bytes)
  each-stored bytes stores = each_flat P (λ t. on_each_provider s (λ k. Store k job.subject t))
      (upto (stripes_of (profiled s job.profile) (length bytes)))
      (λ t. each_map P (λ k. Store k job.subject t) (upto s.n) (λ k. stores k t))
