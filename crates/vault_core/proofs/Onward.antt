-- The asks of an audit, and the sums of what they gave.
use Rattle.vault_core.proofs.Words.{◌≡◌, ℕ, zero, suc, ◌+◌, ◌<◌, ◌≤◌, true, false, List, [], ◌∷◌, ◌++◌, Some, length, map, inl, inr, refl, ap, sym, subst, ◌∙◌, arith, ◌⊎◌, slice_get, flat_map, false≢true, Each, each_get, each_append, upto, Sums, Judges, Setup, profiled, object_of, AuditJob, Action, WriteBody, SyncBody, WriteGate, SyncGate, Store, Fetch, Ask, Work, Remove, End, append_actions, on_each_provider, rounds_of, ask_actions, actions_of, JudgesRounds, JudgesFiles, HasSums, each-ask, audit-list, audit_rest, asks_next, begins_append}
use Rattle.std.proofs.Common.{replicate}
use Rattle.column_defs.specs.Challenges.{challenge_of}
use Rattle.machine_defs.specs.Jobs.{Pinned, Job}
use Rattle.machine_defs.specs.Given.{answers_given}

-- ---- the sums of an audit

module _ (s : Setup) (i j : Job) (given : i.given ≡ j.given) (subject : i.subject ≡ j.subject) where
  rounds_same : (f : Pinned) (rounds : List ℕ) (old new : Sums) → JudgesRounds s i f rounds old new →
      JudgesRounds s j f rounds old new
  rounds_same f [] old new h = h
  rounds_same f (r ∷ rs) old new h = (
    h.0,
    subst (λ n. Judges (object_of (profiled s f.profile) f.id)
        (challenge_of (object_of (profiled s f.profile) f.id) (length f.bytes) s.picks n r)
        (answers_given j.given s.n f.id r) old h.0) subject (rw given at h.1),
    rounds_same f rs h.0 new h.2,
  )

  files_same : (fs : List Pinned) (old new : Sums) → JudgesFiles s i fs old new → JudgesFiles s j fs old new
  files_same [] old new h = h
  files_same (f ∷ fs) old new h = (
    h.0,
    rounds_same f (rounds_of (profiled s f.profile) (length f.bytes)) old h.0 h.1,
    files_same fs h.0 new h.2,
  )

  -- sums of a job are those of another with the same answers, subject and files
  pub sums-same : (sums : Sums) → i.pinned ≡ j.pinned → HasSums s i sums → HasSums s j sums
  sums-same sums pinned h =
      rw pinned at (files_same i.pinned (record { counts = replicate s.n 0; undecided = 0 }) sums h)

-- an audit with nothing to ask has no sums
module _ (s : Setup) (m : Job) (some : 0 < s.n) where
  asks_of : Pinned → List Action
  asks_of f = flat_map (λ round. on_each_provider s (λ j. Ask j f.id round))
      (rounds_of (profiled s f.profile) (length f.bytes))

  providers : (n : ℕ) → 0 < n → (f : ℕ → Action) (xs : List Action) → map f (upto n) ++ xs ≡ [] → ⊥
  providers zero l f xs e = omega arith
  providers (suc n) l f xs e = cc e

  no_rounds : (f : Pinned) (rounds : List ℕ) (sums : Sums) →
      flat_map (λ round. on_each_provider s (λ j. Ask j f.id round)) rounds ≡ [] →
      JudgesRounds s m f rounds sums sums
  no_rounds f [] sums e = refl
  no_rounds f (r ∷ rs) sums e = absurd (providers s.n some (λ j. Ask j f.id r) _ e)

  none_both : (xs ys : List Action) → xs ++ ys ≡ [] → (xs ≡ []) × (ys ≡ [])
  none_both [] ys e = (refl, e)
  none_both (x ∷ xs) ys e = cc e

  no_files : (fs : List Pinned) (sums : Sums) →
      flat_map (λ (f : Pinned). flat_map (λ round. on_each_provider s (λ j. Ask j f.id round))
      (rounds_of (profiled s f.profile) (length f.bytes))) fs ≡ [] → JudgesFiles s m fs sums sums
  no_files [] sums e = refl
  no_files (f ∷ fs) sums e =
      let b = none_both (flat_map (λ round. on_each_provider s (λ j. Ask j f.id round))
      (rounds_of (profiled s f.profile) (length f.bytes)))
      (flat_map (λ f. flat_map (λ round. on_each_provider s (λ j. Ask j f.id round))
      (rounds_of (profiled s f.profile) (length f.bytes))) fs) e in
      (sums, no_rounds f (rounds_of (profiled s f.profile) (length f.bytes)) sums b.0, no_files fs sums b.1)

  -- a job that asks nothing has sums of zero
  pub no-sums : ask_actions s m ≡ [] → HasSums s m (record { counts = replicate s.n 0; undecided = 0 })
  no-sums e = no_files m.pinned (record { counts = replicate s.n 0; undecided = 0 }) e

-- ---- asks

-- an action asks a provider
unfoldable pub IsAnAsk : Action → Type 0
IsAnAsk a = asks_next (Some a) ≡ true

NoAsk : Action → Type 0
NoAsk a = asks_next (Some a) ≡ false

-- the asks of files are asks
pub asks_ask : (s : Setup) (m : Job) → Each IsAnAsk (ask_actions s m)
unfolding IsAnAsk
asks_ask s m = each-ask IsAnAsk (λ j o t. refl) s m

-- behind asks comes the first move of the next append
ask_then : (xs ys : List Action) (p j o t : ℕ) → Each IsAnAsk xs → Each NoAsk ys →
    slice_get (xs ++ WriteBody ∷ ys) p ≡ Some (Ask j o t) →
    (asks_next (slice_get (xs ++ WriteBody ∷ ys) (suc p)) ≡ true) ⊎
    (begins_append (slice_get (xs ++ WriteBody ∷ ys) (suc p)) ≡ true)
unfolding IsAnAsk NoAsk
ask_then [] ys zero j o t h n e = let f = e in cc
ask_then [] ys (suc p) j o t h n e = absurd (false≢true (sym (each_get NoAsk ys p (Ask j o t) n e)))
ask_then (x ∷ []) ys zero j o t h n e = inr refl
ask_then (x ∷ (y ∷ xs)) ys zero j o t h n e = inl h.1.0
ask_then (x ∷ xs) ys (suc p) j o t h n e = ask_then xs ys p j o t h.1 n e

-- an ask of an audit stands before another ask, or before the first move of its last append
pub ask-then : (s : Setup) (m : Job) (j o t : ℕ) → m.kind ≡ AuditJob →
    slice_get (actions_of s m) m.place ≡ Some (Ask j o t) →
    (asks_next (slice_get (actions_of s m) (m.place + 1)) ≡ true) ⊎
    (begins_append (slice_get (actions_of s m) (m.place + 1)) ≡ true)
unfolding NoAsk
ask-then s m j o t kind e = subst (λ xs. (asks_next (slice_get xs (m.place + 1)) ≡ true) ⊎
    (begins_append (slice_get xs (m.place + 1)) ≡ true)) (sym (audit-list s m kind))
    (subst (λ k. (asks_next (slice_get (append_actions ++ audit_rest s m) k) ≡ true) ⊎
    (begins_append (slice_get (append_actions ++ audit_rest s m) k) ≡ true))
    (let k : suc m.place ≡ m.place + 1 = omega arith in k)
    (by m.place (ap (λ xs. slice_get xs m.place) (sym (audit-list s m kind)) ∙ e)))
  where
    by : (p : ℕ) → slice_get (append_actions ++ audit_rest s m) p ≡ Some (Ask j o t) →
        (asks_next (slice_get (append_actions ++ audit_rest s m) (suc p)) ≡ true) ⊎
        (begins_append (slice_get (append_actions ++ audit_rest s m) (suc p)) ≡ true)
    by zero f = (let g : Some WriteBody ≡ Some (Ask j o t) = f in cc)
    by (suc zero) f = (let g : Some SyncBody ≡ Some (Ask j o t) = f in cc)
    by (suc (suc zero)) f = (let g : Some WriteGate ≡ Some (Ask j o t) = f in cc)
    by (suc (suc (suc zero))) f = (let g : Some SyncGate ≡ Some (Ask j o t) = f in cc)
    by (suc (suc (suc (suc p)))) f = ask_then (ask_actions s m) (SyncBody ∷ WriteGate ∷ SyncGate ∷ End ∷ []) p
        j o t (asks_ask s m) (refl, (refl, (refl, (refl, tt)))) f

nothing : (xs ys : List Action) → Each IsAnAsk xs → asks_next (slice_get (xs ++ ys) 0) ≡ false → xs ≡ []
unfolding IsAnAsk
nothing [] ys h e = refl
nothing (x ∷ xs) ys h e = absurd (false≢true (sym e ∙ h.0))

-- where no ask stands behind its first append an audit asks nothing
pub asks-none : (s : Setup) (m : Job) → m.kind ≡ AuditJob → asks_next (slice_get (actions_of s m) 4) ≡ false →
    ask_actions s m ≡ []
asks-none s m kind e = nothing (ask_actions s m) (append_actions ++ End ∷ []) (asks_ask s m)
    (ap (λ xs. asks_next (slice_get xs 4)) (sym (audit-list s m kind)) ∙ e)

-- an audit neither fetches nor works
abbrev pub IsAudits : Action → Type 0
IsAudits (Fetch j o t) = ⊥
IsAudits (Work o t) = ⊥
IsAudits (Store j o t) = ⊥
IsAudits (Remove j o) = ⊥
IsAudits a = Unit {0}

-- each action of an audit's list is one that audits have
pub audit-action : (s : Setup) (m : Job) {a : Action} → m.kind ≡ AuditJob →
    slice_get (actions_of s m) m.place ≡ Some a → IsAudits a
audit-action s m {a} kind e = each_get IsAudits (append_actions ++ audit_rest s m) m.place a
    (each_append IsAudits append_actions (audit_rest s m) (tt, (tt, (tt, (tt, tt))))
    (each_append IsAudits (ask_actions s m) (append_actions ++ End ∷ []) (each-ask IsAudits (λ j o t. tt) s m)
    (tt, (tt, (tt, (tt, (tt, tt))))))) (ap (λ xs. slice_get xs m.place) (sym (audit-list s m kind)) ∙ e)

-- an audit's list begins with an append: what stands at a place of it is a move, or the audit is past it
pub past-first : (s : Setup) (m : Job) (a : Action) → m.kind ≡ AuditJob →
    slice_get (actions_of s m) m.place ≡ Some a → (a ≡ SyncGate → ⊥) → 4 ≤ m.place + 1 → 4 ≤ m.place
past-first s m a kind e n l = by m.place (ap (λ xs. slice_get xs m.place) (sym (audit-list s m kind)) ∙ e) l
  where
    by : (p : ℕ) → slice_get (append_actions ++ audit_rest s m) p ≡ Some a → 4 ≤ p + 1 → 4 ≤ p
    by (suc (suc (suc zero))) f h = absurd (n (let g = f in sym cc))
    by (suc (suc (suc (suc p)))) f h = omega arith
    by _ f h = absurd (omega (arith, h))

-- no ask stands in an audit's first append
pub no-ask-first : (s : Setup) (m : Job) (j o t : ℕ) → m.kind ≡ AuditJob → m.place < 4 →
    slice_get (actions_of s m) m.place ≡ Some (Ask j o t) → ⊥
no-ask-first s m j o t kind l e =
    by m.place l (ap (λ xs. slice_get xs m.place) (sym (audit-list s m kind)) ∙ e)
  where
    by : (p : ℕ) → p < 4 → slice_get (append_actions ++ audit_rest s m) p ≡ Some (Ask j o t) → ⊥
    by zero h f = cc f
    by (suc zero) h f = cc f
    by (suc (suc zero)) h f = cc f
    by (suc (suc (suc zero))) h f = cc f
    by (suc (suc (suc (suc p)))) h f = omega (arith, h)
