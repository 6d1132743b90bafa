-- Which provider a step calls.
use Rattle.hail_scrub.proofs.Words.{◌≡◌, ℕ, List, ◌∷◌, Some, ap, slice_get, Action, Store, Fetch, ScrubView, next_to_do, called_by}

-- a fetch calls its provider
pub called_fetch : (v : ScrubView) (j o t : ℕ) (rest : List Action) → v.todo ≡ Fetch j o t ∷ rest →
    called_by (next_to_do v) ≡ Some j
called_fetch v j o t rest is = ap (λ (l : List Action). called_by (slice_get l 0)) is

-- so does a store
pub called_store : (v : ScrubView) (j o t : ℕ) (rest : List Action) → v.todo ≡ Store j o t ∷ rest →
    called_by (next_to_do v) ≡ Some j
called_store v j o t rest is = ap (λ (l : List Action). called_by (slice_get l 0)) is
