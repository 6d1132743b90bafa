-- In which order the actions on stripes come, read along the list of actions that a job has not yet made.
--
--   Phase                     == where a job is on its stripes: Between, none is in work; Fetching, so many of
--                                its blocks are fetched; Opened, it is opened, and blocks of it may be stored
--   GoesOn n phase rest       == from this phase on, each stripe has a fetch from each of the n providers in
--                                order, its work, and then stores of it
--   OpensFrom id total k rest == the stripes of an object that are still worked on are those from k on, in
--                                order, up to the total
--   fetches_left rest, works_left rest, asks_left rest
--                             == how many such actions are left
use Rattle.std.specs.Prelude.{◌≡◌, ℕ, ◌+◌, ◌<◌, Bool, true, false, List, [], ◌∷◌, count_by}
use Rattle.machine_defs.specs.Actions.{Action, Store, Fetch, Ask, Work, End}

-- where a job is on its stripes
pub data Phase : Type 0 where
  Between : Phase
  Fetching : (object stripe count : ℕ) → Phase
  Opened : (object stripe : ℕ) → Phase

-- each stripe has a fetch from each provider in order, its work, and then stores of it
abbrev pub GoesOn : ℕ → Phase → List Action → Type 0
GoesOn n (Fetching o s c) [] = ⊥
GoesOn n (Fetching o s c) (Fetch j p t ∷ rest) =
    (c < n) × (j ≡ c) × (p ≡ o) × (t ≡ s) × GoesOn n (Fetching o s (c + 1)) rest
GoesOn n (Fetching o s c) (Work p t ∷ rest) = (c ≡ n) × (p ≡ o) × (t ≡ s) × GoesOn n (Opened o s) rest
GoesOn n (Fetching o s c) (a ∷ rest) = ⊥
GoesOn n phase [] = Unit {0}
GoesOn n phase (Fetch j p t ∷ rest) = (j ≡ 0) × GoesOn n (Fetching p t 1) rest
GoesOn n phase (Work p t ∷ rest) = ⊥
GoesOn n (Opened o s) (Store j p t ∷ rest) = (j < n) × (p ≡ o) × (t ≡ s) × GoesOn n (Opened o s) rest
GoesOn n Between (Store j p t ∷ rest) = ⊥
GoesOn n phase (a ∷ rest) = GoesOn n phase rest

-- the stripes of an object that are still worked on, in order
abbrev pub OpensFrom : ℕ → ℕ → ℕ → List Action → Type 0
OpensFrom id total k [] = Unit {0}
OpensFrom id total k (Work p t ∷ rest) = (p ≡ id) × (t ≡ k) × OpensFrom id total (k + 1) rest
OpensFrom id total k (End ∷ rest) = (k ≡ total) × OpensFrom id total k rest
OpensFrom id total k (a ∷ rest) = OpensFrom id total k rest

-- an action is a fetch
abbrev pub is_fetch : Action → Bool
is_fetch (Fetch j o s) = true
is_fetch a = false

-- an action is the work on a stripe
abbrev pub is_work : Action → Bool
is_work (Work o s) = true
is_work a = false

-- an action is an ask
abbrev pub is_ask : Action → Bool
is_ask (Ask j o r) = true
is_ask a = false

-- how many fetches are left
abbrev pub fetches_left : List Action → ℕ
fetches_left rest = count_by is_fetch rest

-- how many stripes are left to be worked on
abbrev pub works_left : List Action → ℕ
works_left rest = count_by is_work rest

-- how many asks are left
abbrev pub asks_left : List Action → ℕ
asks_left rest = count_by is_ask rest
