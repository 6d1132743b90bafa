-- Which actions a job of a kind has, and of which providers.
--
-- IsAllowed n kind action == a job of this kind may have the action: a call of one of the n providers, a
-- move, work, the end
use Rattle.vault.proofs.Words.{◌≡◌, ℕ, zero, suc, ◌+◌, ◌<◌, Bool, true, false, cond, List, [], ◌∷◌, ◌++◌, map, Some, sym, subst, ◌∙◌, inl, inr, arith, slice_get, flat_map, range_with_len, cases_Bool, Each, each_get, each_append, each_flat, upto, Setup, WriteBody, SyncBody, WriteGate, SyncGate, Fetch, Work, Remove, End, append_actions, on_each_provider, on_each_stripe, store_actions, open_actions, read_actions, rewrite_actions, repair_actions, rounds_of, ask_actions, remove_actions, actions_of, actions_by, Kind, PutJob, GetJob, DropJob, AuditJob, RepairJob, UpgradeJob, Job, profiled, stripes_of, State, setup_in, next_action, is_idle_drop, cond_true, cond_false}
use Rattle.std.proofs.Common.{length}
use Rattle.machine_defs.specs.Actions.{Action, Store, Ask}
use Rattle.machine_defs.specs.Jobs.{Pinned}

-- a job of this kind may have the action
abbrev pub IsAllowed : ℕ → Kind → Action → Type 0
IsAllowed n (GetJob name) WriteBody = ⊥
IsAllowed n (GetJob name) SyncBody = ⊥
IsAllowed n (GetJob name) WriteGate = ⊥
IsAllowed n (GetJob name) SyncGate = ⊥
IsAllowed n (PutJob name bytes) (Store j o t) = j < n
IsAllowed n RepairJob (Store j o t) = j < n
IsAllowed n kind (Store j o t) = ⊥
IsAllowed n (GetJob name) (Fetch j o t) = j < n
IsAllowed n RepairJob (Fetch j o t) = j < n
IsAllowed n kind (Fetch j o t) = ⊥
IsAllowed n AuditJob (Ask j o r) = j < n
IsAllowed n kind (Ask j o r) = ⊥
IsAllowed n (GetJob name) (Work o t) = Unit {0}
IsAllowed n RepairJob (Work o t) = Unit {0}
IsAllowed n kind (Work o t) = ⊥
IsAllowed n (PutJob name bytes) (Remove j o) = j < n
IsAllowed n (DropJob name) (Remove j o) = j < n
IsAllowed n kind (Remove j o) = ⊥
IsAllowed n kind action = Unit {0}

below_range : (n a b : ℕ) → b ≡ a + n → Each (λ j. j < b) (range_with_len a n)
below_range zero a b is = tt
below_range (suc n) a b is = (omega (arith, is), below_range n (a + 1) b (omega (arith, is)))

below_upto : (n : ℕ) → Each (λ j. j < n) (upto n)
below_upto n = below_range n 0 n (omega arith)

each_map_of : {A X : Type 0} (Q : A → Type 0) (P : X → Type 0) (f : A → X) (as_ : List A) → Each Q as_ →
    ((a : A) → Q a → P (f a)) → Each P (map f as_)
each_map_of Q P f [] each h = tt
each_map_of Q P f (a ∷ as_) each h = (h a each.0, each_map_of Q P f as_ each.1 h)

each_flat_of : {A X : Type 0} (Q : A → Type 0) (P : X → Type 0) (f : A → List X) (as_ : List A) → Each Q as_ →
    ((a : A) → Q a → Each P (f a)) → Each P (flat_map f as_)
each_flat_of Q P f [] each h = tt
each_flat_of Q P f (a ∷ as_) each h =
    each_append P (f a) (flat_map f as_) (h a each.0) (each_flat_of Q P f as_ each.1 h)

-- one action for each provider
on_providers : (s : Setup) (P : Action → Type 0) (action : ℕ → Action) → ((j : ℕ) → j < s.n → P (action j)) →
    Each P (on_each_provider s action)
on_providers s P action h = each_map_of (λ j. j < s.n) P action (upto s.n) (below_upto s.n) h

flagged_one : (P : Action → Type 0) (b : Bool) (action : Action) → P action → Each P (cond b (action ∷ []) [])
flagged_one P true action h = (h, tt)
flagged_one P false action h = tt

-- the moves of an append, and what comes behind them
moves_first : (P : Action → Type 0) → Each P append_actions → (rest : List Action) → Each P rest →
    Each P (append_actions ++ rest)
moves_first P moves rest h = each_append P append_actions rest moves h

module _ (s : Setup) (job : Job) where
  by_kind : (kind : Kind) → Each (IsAllowed s.n kind) (actions_by s job kind)
  by_kind (PutJob name bytes) =
      let P = IsAllowed s.n (PutJob name bytes) in
      moves_first P (tt, (tt, (tt, (tt, tt)))) _ (each_append P (store_actions s job bytes) _
      (each_flat P (λ stripe. on_each_provider s (λ j. Store j job.subject stripe))
      (upto (stripes_of (profiled s job.profile) (length bytes)))
      (λ stripe. on_providers s P (λ j. Store j job.subject stripe) (λ j less. less)))
      (moves_first P (tt, (tt, (tt, (tt, tt)))) _
      (each_append P (remove_actions s job) (End ∷ [])
      (each_flat P (λ object. on_each_provider s (λ j. Remove j object)) job.older
      (λ object. on_providers s P (λ j. Remove j object) (λ j less. less))) (tt, tt))))
  by_kind (GetJob name) =
      let P = IsAllowed s.n (GetJob name) in
      each_append P (read_actions s job.pinned) (End ∷ [])
      (each_flat P (λ (f : Pinned). on_each_stripe (profiled s f.profile) (length f.bytes)
      (open_actions s f.id)) job.pinned
      (λ f. each_flat P (open_actions s f.id) (upto (stripes_of (profiled s f.profile) (length f.bytes)))
      (λ stripe. each_append P (on_each_provider s (λ j. Fetch j f.id stripe)) (Work f.id stripe ∷ [])
      (on_providers s P (λ j. Fetch j f.id stripe) (λ j less. less)) (tt, tt))))
      (tt, tt)
  by_kind (DropJob name) =
      let P = IsAllowed s.n (DropJob name) in
      moves_first P (tt, (tt, (tt, (tt, tt)))) _
      (each_append P (remove_actions s job) (End ∷ [])
      (each_flat P (λ object. on_each_provider s (λ j. Remove j object)) job.older
      (λ object. on_providers s P (λ j. Remove j object) (λ j less. less))) (tt, tt))
  by_kind AuditJob =
      let P = IsAllowed s.n AuditJob in
      moves_first P (tt, (tt, (tt, (tt, tt)))) _ (each_append P (ask_actions s job) _
      (each_flat P (λ (f : Pinned). flat_map (λ round. on_each_provider s (λ j. Ask j f.id round))
      (rounds_of (profiled s f.profile) (length f.bytes))) job.pinned
      (λ f. each_flat P (λ round. on_each_provider s (λ j. Ask j f.id round))
      (rounds_of (profiled s f.profile) (length f.bytes))
      (λ round. on_providers s P (λ j. Ask j f.id round) (λ j less. less))))
      (moves_first P (tt, (tt, (tt, (tt, tt)))) (End ∷ []) (tt, tt)))
  by_kind RepairJob =
      let P = IsAllowed s.n RepairJob in
      each_append P (repair_actions s job) _
      (each_flat P (λ (f : Pinned). on_each_stripe (profiled s f.profile) (length f.bytes)
      (λ stripe. open_actions s f.id stripe ++ rewrite_actions s job f.id stripe)) job.pinned
      (λ f. each_flat P (λ stripe. open_actions s f.id stripe ++ rewrite_actions s job f.id stripe)
      (upto (stripes_of (profiled s f.profile) (length f.bytes)))
      (λ stripe. each_append P (open_actions s f.id stripe) (rewrite_actions s job f.id stripe)
      (each_append P (on_each_provider s (λ j. Fetch j f.id stripe)) (Work f.id stripe ∷ [])
      (on_providers s P (λ j. Fetch j f.id stripe) (λ j less. less)) (tt, tt))
      (each_flat_of (λ j. j < s.n) P (λ j. cond (job.flagged j) (Store j f.id stripe ∷ []) []) (upto s.n)
      (below_upto s.n) (λ j less. flagged_one P (job.flagged j) (Store j f.id stripe) less)))))
      (moves_first P (tt, (tt, (tt, (tt, tt)))) (End ∷ []) (tt, tt))
  by_kind UpgradeJob = moves_first (IsAllowed s.n UpgradeJob) (tt, (tt, (tt, (tt, tt)))) (End ∷ []) (tt, tt)

  -- each action of a job is one that its kind has, of a provider that there is
  pub allowed : Each (IsAllowed s.n job.kind) (actions_of s job)
  unfolding actions_of
  allowed = by_kind job.kind

end_allowed : (n : ℕ) (kind : Kind) → IsAllowed n kind End
end_allowed n (PutJob name bytes) = tt
end_allowed n _ = tt

-- the next action of a job is one that it may have
pub next_allowed : (w : State) (job : Job) (action : Action) → next_action w job ≡ Some action →
    IsAllowed (setup_in w).n job.kind action
next_allowed w job action next = elim (cases_Bool (is_idle_drop w job job.kind)) [
  | inl t ↦ (
      let same : End ≡ action = cc (sym (cond_true (is_idle_drop w job job.kind) (Some End)
      (slice_get (actions_of (setup_in w) job) job.place) t) ∙ next) in
      subst (IsAllowed (setup_in w).n job.kind) same (end_allowed (setup_in w).n job.kind))
  | inr f ↦ each_get (IsAllowed (setup_in w).n job.kind) (actions_of (setup_in w) job) job.place action
      (allowed (setup_in w) job) (sym (cond_false (is_idle_drop w job job.kind) (Some End)
      (slice_get (actions_of (setup_in w) job) job.place) f) ∙ next)
]
