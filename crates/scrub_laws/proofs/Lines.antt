-- The line of actions of a scrub: those that it made, and those that it has to do. The opening of a place puts
-- its stores into it.
use Rattle.scrub_laws.proofs.Words.{◌≡◌, ℕ, List, [], ◌∷◌, ◌++◌, map, refl, ap, sym, subst, ◌∙◌, inl, inr, flat_map, append_assoc, Each, In, each_append, each_mono, Provider, Setup, Given, Action, Store, Fetch, Work, open_actions, Place, With, Did, Made, each-front, IsNoneOf, IsBefore, AreOrdered, fetches_at, FetchesAll, OpensAll}
use Rattle.job_laws.proofs.Heard.{IsNot}

-- one more action was made
pub made-more : (x : With) (xs : List Action) (a : Action) (old mid new : ℕ → Provider)
    (given so_far now : List Given) → Made x xs old mid given so_far → Did x a mid new so_far now →
    Made x (xs ++ a ∷ []) old new given now
made-more x [] a old mid new given so_far now m d = (
  new,
  now,
  subst (λ (f : ℕ → Provider). Did x a f new given now) m.0 (subst (λ g. Did x a mid new g now) m.1 d),
  (refl, refl),
)
made-more x (y ∷ xs) a old mid new given so_far now (next, gifts, did, rest) d =
    (next, gifts, did, made-more x xs a next mid new gifts so_far now rest d)

-- ---- stores that are put in behind the work on their place

-- a store at this place
abbrev pub IsStoreOn : ℕ → ℕ → Action → Type 0
IsStoreOn o s (Store j p t) = (p ≡ o) × (t ≡ s)
IsStoreOn o s action = ⊥

on-none : (o s p t : ℕ) (y : Action) → IsStoreOn o s y → IsNoneOf p t y
on-none o s p t (Fetch j q u) h = absurd h
on-none o s p t (Work q u) h = absurd h
on-none o s p t y h = tt

on-fetch : (o s k p t : ℕ) (y : Action) → IsStoreOn o s y → IsNot (Fetch k p t) y
on-fetch o s k p t (Store j q u) h e = cc
on-fetch o s k p t y h e = absurd h

-- what holds of a line and of what is put in holds of the line then
pub each-put : (P : Action → Type 0) (xs : List Action) (w : Action) (stores rest : List Action) →
    Each P (xs ++ w ∷ rest) → Each P stores → Each P (xs ++ w ∷ (stores ++ rest))
each-put P [] w stores rest h s = (h.0, each_append P stores rest s h.1)
each-put P (x ∷ xs) w stores rest h s = (h.0, each-put P xs w stores rest h.1 s)

-- what is in a line is so still
pub in-put : (a : Action) (xs : List Action) (w : Action) (stores rest : List Action) →
    In a (xs ++ w ∷ rest) → In a (xs ++ w ∷ (stores ++ rest))
in-put a [] w stores rest (inr i) = inr (behind stores)
  where
    behind : (ys : List Action) → In a (ys ++ rest)
    behind [] = i
    behind (y ∷ ys) = inr (behind ys)
in-put a (x ∷ xs) w stores rest (inr i) = inr (in-put a xs w stores rest i)
in-put a [] w stores rest (inl e) = inl e
in-put a (x ∷ xs) w stores rest (inl e) = inl e

-- what is put in is in it
pub in-new : (a : Action) (xs : List Action) (w : Action) (stores rest : List Action) → In a stores →
    In a (xs ++ w ∷ (stores ++ rest))
in-new a [] w stores rest i = inr (front stores i)
  where
    front : (ys : List Action) → In a ys → In a (ys ++ rest)
    front [] j = absurd j
    front (y ∷ ys) (inl e) = inl e
    front (y ∷ ys) (inr j) = inr (front ys j)
in-new a (x ∷ xs) w stores rest i = inr (in-new a xs w stores rest i)

module _ (o s : ℕ) (stores rest : List Action) (on : Each (IsStoreOn o s) stores) where
  before-put : (x : Action) (xs : List Action) → IsBefore x (xs ++ Work o s ∷ rest) →
      IsBefore x (xs ++ Work o s ∷ (stores ++ rest))
  before-put (Fetch k p t) xs h = each-put (IsNot (Fetch k p t)) xs (Work o s) stores rest h
      (each_mono (IsStoreOn o s) (IsNot (Fetch k p t)) stores (λ y u. on-fetch o s k p t y u) on)
  before-put (Work p t) xs h = each-put (IsNoneOf p t) xs (Work o s) stores rest h
      (each_mono (IsStoreOn o s) (IsNoneOf p t) stores (λ y u. on-none o s p t y u) on)
  before-put (Store k p t) xs h = each-put (IsNoneOf p t) xs (Work o s) stores rest h
      (each_mono (IsStoreOn o s) (IsNoneOf p t) stores (λ y u. on-none o s p t y u) on)
  before-put x xs h = tt

  stores-first : (ys : List Action) → Each (IsStoreOn o s) ys → Each (IsNoneOf o s) rest → AreOrdered rest →
      AreOrdered (ys ++ rest)
  stores-first [] h none r = r
  stores-first (Store k p t ∷ ys) h none r = (
    subst (λ n. Each (IsNoneOf n t) (ys ++ rest)) (sym h.0.0) (subst (λ n. Each (IsNoneOf o n) (ys ++ rest))
        (sym h.0.1) (each_append (IsNoneOf o s) ys rest
        (each_mono (IsStoreOn o s) (IsNoneOf o s) ys (λ y u. on-none o s o s y u) h.1) none)),
    stores-first ys h.1 none r,
  )
  stores-first ys h none r = absurd h.0

  -- a line in order is so still
  pub ordered-put : (xs : List Action) → AreOrdered (xs ++ Work o s ∷ rest) →
      AreOrdered (xs ++ Work o s ∷ (stores ++ rest))
  ordered-put [] h = (
    each_append (IsNoneOf o s) stores rest
        (each_mono (IsStoreOn o s) (IsNoneOf o s) stores (λ y u. on-none o s o s y u) on) h.0,
    stores-first stores on h.0 h.1,
  )
  ordered-put (x ∷ xs) h = (before-put x xs h.0, ordered-put xs h.1)

-- the first part of a line in order is in order
pub ordered-front : (xs ys : List Action) → AreOrdered (xs ++ ys) → AreOrdered xs
ordered-front [] ys h = tt
ordered-front (x ∷ xs) ys h = (front x xs h.0, ordered-front xs ys h.1)
  where
    front : (x : Action) (zs : List Action) → IsBefore x (zs ++ ys) → IsBefore x zs
    front (Fetch k p t) zs e = each-front (IsNot (Fetch k p t)) zs ys e
    front (Work p t) zs e = each-front (IsNoneOf p t) zs ys e
    front (Store k p t) zs e = each-front (IsNoneOf p t) zs ys e
    front x zs e = tt

-- ---- places that are done

-- a place that was opened, and the stores that followed
pub record Part : Type 0 where
  pub place : Place
  pub stores : List Action

abbrev pub part_place : Part → Place
part_place p = p.place

-- its fetches, its work and its stores
abbrev pub part_actions : Setup → Part → List Action
part_actions s p = open_actions s p.place.object p.place.stripe ++ p.stores

-- the actions of parts open their places
pub parts-open : (s : Setup) (parts : List Part) (ps : List Place) (acts : List Action) → OpensAll s ps acts →
    OpensAll s (map part_place parts ++ ps) (flat_map (part_actions s) parts ++ acts)
parts-open s [] ps acts h = h
parts-open s (p ∷ parts) ps acts h = (
  p.stores,
  flat_map (part_actions s) parts ++ acts,
  append_assoc (part_actions s p) (flat_map (part_actions s) parts) acts,
  parts-open s parts ps acts h,
)

-- and fetch them
pub parts-fetch : (s : Setup) (parts : List Part) (ps : List Place) (acts : List Action) →
    FetchesAll s ps acts → FetchesAll s (map part_place parts ++ ps) (flat_map (part_actions s) parts ++ acts)
parts-fetch s [] ps acts h = h
parts-fetch s (p ∷ parts) ps acts h = (
  Work p.place.object p.place.stripe ∷ p.stores,
  flat_map (part_actions s) parts ++ acts,
  append_assoc (part_actions s p) (flat_map (part_actions s) parts) acts
      ∙ ap (λ l. l ++ (flat_map (part_actions s) parts ++ acts))
      (append_assoc (fetches_at s p.place) (Work p.place.object p.place.stripe ∷ []) p.stores),
  parts-fetch s parts ps acts h,
)
