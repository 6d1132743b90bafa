-- What the places of a repair gave and were given.
use Rattle.job_laws.proofs.Words.{◌≡◌, ℕ, zero, suc, ◌+◌, ◌-◌, ◌<◌, ◌≤◌, ◌==◌, ◌⊎◌, Bool, true, false, cond, List, [], ◌∷◌, ◌++◌, length, take, None, Some, refl, ap, sym, subst, ◌∙◌, inl, inr, arith, slice_get, flat_map, range_with_len, cases_eq, eq-eqb, ne_eqb, append_assoc, append-nil, sum_by-append, Each, In, each_get, each_append, each_map, each_mono, in_left, in_right, upto, SeenBlock, GivesSymbols, Held, sized, Setup, RepairJob, Given, Job, Action, Store, Fetch, Work, open_actions, rewrite_actions, block_given, blocks_given, symbols_given, cond_true, cond_false, split_get, Place, missing, With, object_made, take-append-add}
use Rattle.std.proofs.Common.{sum_by}
use Rattle.job_laws.proofs.Heard.{IsNot}
use Rattle.job_laws.proofs.Truth.{lacks, range-hit}
use Rattle.job_laws.proofs.Questions.{each-at, each-parts}
use Rattle.job_laws.proofs.Rewritten.{IsToldBlock, lack_block, HasOpened}
use Rattle.job_laws.proofs.Places.{fetches_at, actions_at, IsStoreAt, stores-only}

-- ---- lists that open places, and lists that only fetch them

-- the actions fetch these places, one after the other
abbrev pub FetchesAll : Setup → List Place → List Action → Type 0
FetchesAll s [] acts = Unit {0}
FetchesAll s (p ∷ ps) acts = (more : List Action) × (rest : List Action) ×
    (acts ≡ (fetches_at s p ++ more) ++ rest) × FetchesAll s ps rest

-- the actions open them
abbrev pub OpensAll : Setup → List Place → List Action → Type 0
OpensAll s [] acts = Unit {0}
OpensAll s (p ∷ ps) acts = (stores : List Action) × (rest : List Action) ×
    (acts ≡ (open_actions s p.object p.stripe ++ stores) ++ rest) × OpensAll s ps rest

-- actions that open places fetch them
pub opens-fetches : (s : Setup) (ps : List Place) (acts : List Action) → OpensAll s ps acts →
    FetchesAll s ps acts
opens-fetches s [] acts h = tt
opens-fetches s (p ∷ ps) acts (stores, rest, is, more) = (
  Work p.object p.stripe ∷ stores,
  rest,
  cc (append_assoc (fetches_at s p) (Work p.object p.stripe ∷ []) stores),
  opens-fetches s ps rest more,
)

-- actions that open places do so with the actions of other places before them
pub opens-done : (s : Setup) (job : Job) (done ps : List Place) (acts : List Action) → OpensAll s ps acts →
    OpensAll s (done ++ ps) (flat_map (actions_at s job) done ++ acts)
opens-done s job [] ps acts h = h
opens-done s job (p ∷ done) ps acts h = (
  rewrite_actions s job p.object p.stripe,
  flat_map (actions_at s job) done ++ acts,
  append_assoc (actions_at s job p) (flat_map (actions_at s job) done) acts,
  opens-done s job done ps acts h,
)

-- actions that fetch places do so with the actions of other places before them
pub fetches-done : (s : Setup) (job : Job) (done ps : List Place) (acts : List Action) →
    FetchesAll s ps acts → FetchesAll s (done ++ ps) (flat_map (actions_at s job) done ++ acts)
fetches-done s job [] ps acts h = h
fetches-done s job (p ∷ done) ps acts h = (
  Work p.object p.stripe ∷ rewrite_actions s job p.object p.stripe,
  flat_map (actions_at s job) done ++ acts,
  cc (
    append_assoc (actions_at s job p) (flat_map (actions_at s job) done) acts,
    append_assoc (fetches_at s p) (Work p.object p.stripe ∷ []) (rewrite_actions s job p.object p.stripe),
  ),
  fetches-done s job done ps acts h,
)

-- ---- truth and symbols, by places

module _ (x : With) (repairs : x.kind ≡ RepairJob) (last : List Given) (j : ℕ) (held : Held)
    (below : j < x.setup.n) where
  -- what provider j was told of a place, and what it held
  abbrev gave : Place → SeenBlock
  gave p = block_given last p.object p.stripe j

  abbrev had : Place → SeenBlock
  had p = sized (object_made x p.object).profile.size (held p.object p.stripe)

  -- a provider that tells gave of each place that was fetched what it held, or nothing
  pub told-places : (ps : List Place) (acts : List Action) → FetchesAll x.setup ps acts →
      Each (IsToldBlock x repairs last j held) acts → Each (λ p. (gave p ≡ had p) ⊎ (gave p ≡ None)) ps
  told-places [] acts h t = tt
  told-places (p ∷ ps) acts (more, rest, is, r) t = (let a = each-parts (IsToldBlock x repairs last j held)
      (fetches_at x.setup p ++ more) rest (rw is at t) in (
        each-at (IsToldBlock x repairs last j held) (λ k. Fetch k p.object p.stripe) 0 x.setup.n j
            (each-parts (IsToldBlock x repairs last j held) (fetches_at x.setup p) more a.0).0
            (omega arith) (omega arith) refl,
        told-places ps rest r a.1,
      ))

  -- of these places it gave nothing, though it held a block, at most as often as of their fetches
  pub lacks-places : (ps : List Place) (acts : List Action) → FetchesAll x.setup ps acts →
      missing gave had ps ≤ sum_by (lack_block x repairs last j held) acts
  lacks-places [] acts h = omega arith
  lacks-places (p ∷ ps) acts (more, rest, is, r) = (let a = ap (sum_by (lack_block x repairs last j held)) is
      ∙ sum_by-append (lack_block x repairs last j held) (fetches_at x.setup p ++ more) rest in
      let c = range-hit j (lack_block x repairs last j held) (λ k. Fetch k p.object p.stripe) 0 x.setup.n
      (λ k m. cond_false (k == j) (lacks (block_given last p.object p.stripe k) (had p)) 0 (ne_eqb k j m))
      (omega arith) (omega (arith, below)) in
      let e = lacks-places ps rest r in omega (
        arith,
        a,
        sum_by-append (lack_block x repairs last j held) (fetches_at x.setup p) more,
        c,
        cond_true (j == j) (lacks (gave p) (had p)) 0 (eq-eqb j j refl),
        e,
      ))

-- the blocks given of each place that was opened open to the symbols given of it
pub gives-places : (x : With) (last : List Given) (ps : List Place) (acts : List Action) →
    OpensAll x.setup ps acts → Each (HasOpened x last) acts →
    Each (λ (p : Place). GivesSymbols (object_made x p.object) p.stripe
    (blocks_given last x.setup.n p.object p.stripe) (symbols_given last p.object p.stripe)) ps
gives-places x last [] acts h t = tt
gives-places x last (p ∷ ps) acts (stores, rest, is, r) t = (let a = each-parts (HasOpened x last)
    (open_actions x.setup p.object p.stripe ++ stores) rest (rw is at t) in
    let c = each-parts (HasOpened x last) (fetches_at x.setup p) (Work p.object p.stripe ∷ [])
    (each-parts (HasOpened x last) (open_actions x.setup p.object p.stripe) stores a.0).0 in
    (c.1.0, gives-places x last ps rest r a.1))

-- ---- where the work and the stores of a place stand

-- a fetch
abbrev IsFetch : Action → Type 0
IsFetch (Fetch j o s) = Unit {0}
IsFetch action = ⊥

-- no store
abbrev IsOpening : Action → Type 0
IsOpening (Store j o s) = ⊥
IsOpening action = Unit {0}

module _ (s : Setup) (job : Job) (p : Place) where
  fetches-only : Each IsFetch (fetches_at s p)
  fetches-only = each_map IsFetch (λ j. Fetch j p.object p.stripe) (upto s.n) (λ j. tt)

  split-place : actions_at s job p
      ≡ fetches_at s p ++ (Work p.object p.stripe ∷ rewrite_actions s job p.object p.stripe)
  split-place = append_assoc (fetches_at s p) (Work p.object p.stripe ∷ [])
      (rewrite_actions s job p.object p.stripe)

  -- before the work on a place stand its fetches alone
  pub work-cut : (q o t : ℕ) → slice_get (actions_at s job p) q ≡ Some (Work o t) →
      (take q (actions_at s job p) ≡ fetches_at s p) × (o ≡ p.object) × (t ≡ p.stripe)
  work-cut q o t h = elim (split_get (fetches_at s p)
      (Work p.object p.stripe ∷ rewrite_actions s job p.object p.stripe) q (Work o t)
      (ap (λ xs. slice_get xs q) (sym split-place) ∙ h)) [
        | inl a ↦ absurd (each_get IsFetch (fetches_at s p) q (Work o t) fetches-only a.1)
        | inr b ↦ at (q - length (fetches_at s p)) refl (omega arith) b.1
      ]
    where
      at : (r : ℕ) → r ≡ q - length (fetches_at s p) →
          q ≡ length (fetches_at s p) + (q - length (fetches_at s p)) →
          slice_get (Work p.object p.stripe ∷ rewrite_actions s job p.object p.stripe) r ≡ Some (Work o t) →
          (take q (actions_at s job p) ≡ fetches_at s p) × (o ≡ p.object) × (t ≡ p.stripe)
      at zero e is g = (
        ap (take q) split-place
            ∙ (ap (λ n. take n (fetches_at s
            p ++ (Work p.object p.stripe ∷ rewrite_actions s job p.object p.stripe)))
            (let f : q ≡ length (fetches_at s p) + 0 = omega (arith, e, is) in f)
            ∙ (take-append-add (fetches_at s p)
            (Work p.object p.stripe ∷ rewrite_actions s job p.object p.stripe) 0
            ∙ append-nil (fetches_at s p))),
        (sym (let m : p.object ≡ o = cc in m)),
        (sym (let m : p.stripe ≡ t = cc in m)),
      )
      at (suc r) e is g = absurd (each_get IsStoreAt (rewrite_actions s job p.object p.stripe) r (Work o t)
          (stores-only s job p.object p.stripe) g)

  -- before a store of a place stand its fetches, its work and the stores of providers before
  pub store-cut : (q j o t : ℕ) → slice_get (actions_at s job p) q ≡ Some (Store j o t) →
      (r : ℕ) × (take q (actions_at s job p) ≡ open_actions s p.object p.stripe ++ take r
      (rewrite_actions s job p.object p.stripe)) ×
      (slice_get (rewrite_actions s job p.object p.stripe) r ≡ Some (Store j o t))
  store-cut q j o t h =
      elim (split_get (open_actions s p.object p.stripe) (rewrite_actions s job p.object p.stripe) q
      (Store j o t) h) [
        | inl a ↦ absurd (each_get IsOpening (open_actions s p.object p.stripe) q (Store j o t)
            (each_append IsOpening (fetches_at s p) (Work p.object p.stripe ∷ [])
            (each_map IsOpening (λ j. Fetch j p.object p.stripe) (upto s.n) (λ j. tt)) (tt, tt)) a.1)
        | inr b ↦ (
          q - length (open_actions s p.object p.stripe),
          ap (λ n. take n (actions_at s job p)) (let e = b.0 in omega (arith, e))
              ∙ take-append-add (open_actions s p.object p.stripe) (rewrite_actions s job p.object p.stripe)
              (q - length (open_actions s p.object p.stripe)),
          b.1,
        )
      ]

-- ---- stores of flagged providers, at these places

abbrev pub IsStoreOf : Job → ℕ → List Place → Action → Type 0
IsStoreOf job n ps (Store j o t) =
    (j < n) × (job.flagged j ≡ true) × In (record { object = o; stripe = t }) ps
IsStoreOf job n ps action = Unit {0}

store-wider : (job : Job) (n : ℕ) (ps qs : List Place) → ((p : Place) → In p ps → In p qs) → (a : Action) →
    IsStoreOf job n ps a → IsStoreOf job n qs a
store-wider job n ps qs f (Store j o t) h = (h.0, h.1, f (record { object = o; stripe = t }) h.2)
store-wider job n ps qs f a h = tt

stores-range : (job : Job) (n : ℕ) (p : Place) (a m : ℕ) → a + m ≤ n →
    Each (IsStoreOf job n (p ∷ []))
    (flat_map (λ j. cond (job.flagged j) (Store j p.object p.stripe ∷ []) []) (range_with_len a m))
stores-range job n p a zero l = tt
stores-range job n p a (suc m) l = each_append (IsStoreOf job n (p ∷ []))
    (cond (job.flagged a) (Store a p.object p.stripe ∷ []) [])
    (flat_map (λ j. cond (job.flagged j) (Store j p.object p.stripe ∷ []) []) (range_with_len (a + 1) m))
    (one (job.flagged a) refl) (stores-range job n p (a + 1) m (omega (arith, l)))
  where
    one : (b : Bool) → job.flagged a ≡ b →
        Each (IsStoreOf job n (p ∷ [])) (cond b (Store a p.object p.stripe ∷ []) [])
    one true e = ((omega (arith, l), e, inl refl), tt)
    one false e = tt

-- the stores among the actions of a place are of flagged providers, at this place
pub stores-of : (s : Setup) (job : Job) (p : Place) → Each (IsStoreOf job s.n (p ∷ [])) (actions_at s job p)
stores-of s job p = each_append (IsStoreOf job s.n (p ∷ [])) (open_actions s p.object p.stripe)
    (rewrite_actions s job p.object p.stripe) (each_append (IsStoreOf job s.n (p ∷ [])) (fetches_at s p)
    (Work p.object p.stripe ∷ [])
    (each_map (IsStoreOf job s.n (p ∷ [])) (λ j. Fetch j p.object p.stripe) (upto s.n) (λ j. tt)) (tt, tt))
    (stores-range job s.n p 0 s.n (omega arith))

-- the stores among the actions of places are of flagged providers, at these places
pub stores-all : (s : Setup) (job : Job) (ps : List Place) →
    Each (IsStoreOf job s.n ps) (flat_map (actions_at s job) ps)
stores-all s job [] = tt
stores-all s job (p ∷ ps) =
    each_append (IsStoreOf job s.n (p ∷ ps)) (actions_at s job p) (flat_map (actions_at s job) ps)
    (each_mono (IsStoreOf job s.n (p ∷ [])) (IsStoreOf job s.n (p ∷ ps)) (actions_at s job p)
    (λ a h. store-wider job s.n (p ∷ []) (p ∷ ps) (λ q i. in_left (p ∷ []) ps q i) a h) (stores-of s job p))
    (each_mono (IsStoreOf job s.n ps) (IsStoreOf job s.n (p ∷ ps)) (flat_map (actions_at s job) ps)
    (λ a h. store-wider job s.n ps (p ∷ ps) (λ q i. inr i) a h) (stores-all s job ps))

-- stores at places are stores at any places that have these among them
pub stores-wider : (job : Job) (n : ℕ) (ps qs : List Place) (acts : List Action) →
    ((p : Place) → In p ps → In p qs) → Each (IsStoreOf job n ps) acts → Each (IsStoreOf job n qs) acts
stores-wider job n ps qs acts f h =
    each_mono (IsStoreOf job n ps) (IsStoreOf job n qs) acts (λ a u. store-wider job n ps qs f a u) h

-- each flagged provider is stored on at each of the places
pub stored-at : (s : Setup) (job : Job) (j : ℕ) (ps : List Place) (p : Place) → j < s.n →
    job.flagged j ≡ true → In p ps → In (Store j p.object p.stripe) (flat_map (actions_at s job) ps)
stored-at s job j [] p l f i = absurd i
stored-at s job j (q ∷ ps) p l f (inr i) = in_right (actions_at s job q) (flat_map (actions_at s job) ps)
    (Store j p.object p.stripe) (stored-at s job j ps p l f i)
stored-at s job j (q ∷ ps) p l f (inl e) = in_left (actions_at s job q) (flat_map (actions_at s job) ps)
    (Store j p.object p.stripe) (subst (λ (z : Place). In (Store j z.object z.stripe) (actions_at s job q))
    (sym e) (in_right (open_actions s q.object q.stripe) (rewrite_actions s job q.object q.stripe)
    (Store j q.object q.stripe) (range 0 s.n (omega arith) (omega (arith, l)))))
  where
    range : (a m : ℕ) → a ≤ j → j < a + m →
        In (Store j q.object q.stripe)
        (flat_map (λ k. cond (job.flagged k) (Store k q.object q.stripe ∷ []) []) (range_with_len a m))
    range a zero lo hi = omega arith
    range a (suc m) lo hi = elim (cases_eq a j) [
      | inl same ↦ in_left _ _ (Store j q.object q.stripe) (subst (λ xs. In (Store j q.object q.stripe) xs)
          (sym (cond_true (job.flagged a) (Store a q.object q.stripe ∷ []) [] (ap job.flagged same ∙ f)))
          (inl (cc)))
      | inr apart ↦ in_right _ _ (Store j q.object q.stripe) (range (a + 1) m (omega arith) (omega arith))
    ]

-- a provider that is not flagged, and a place that is none of these, is stored on by none
no-store : (job : Job) (n : ℕ) (ps : List Place) (j o t : ℕ) →
    ((job.flagged j ≡ true) × In (record { object = o; stripe = t }) ps → ⊥) → (a : Action) →
    IsStoreOf job n ps a → IsNot (Store j o t) a
no-store job n ps j o t none (Store k p u) h e = none (let a : j ≡ k = (cc) in let b : o ≡ p = (cc) in
    let c : t ≡ u = (cc) in (
      ap job.flagged a ∙ h.1,
      subst (λ (z : Place). In z ps) (λ i. record { object = sym b i; stripe = sym c i }) h.2,
    ))
no-store job n ps j o t none a h e = cc

-- a provider that is not flagged, or a place that is none of these, has no store among theirs
pub no-stores : (job : Job) (n : ℕ) (ps : List Place) (j o t : ℕ) (acts : List Action) →
    ((job.flagged j ≡ true) × In (record { object = o; stripe = t }) ps → ⊥) →
    Each (IsStoreOf job n ps) acts → Each (IsNot (Store j o t)) acts
no-stores job n ps j o t acts none h =
    each_mono (IsStoreOf job n ps) (IsNot (Store j o t)) acts (λ a u. no-store job n ps j o t none a u) h
