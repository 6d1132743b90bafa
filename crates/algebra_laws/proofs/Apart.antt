-- Elements that are apart.
use Rattle.algebra_laws.proofs.Words.{◌≢◌, ◌++◌, [], ◌∷◌, ℕ, List, take, drop, take-append-drop, Each, Apart}

-- points that are apart stay so without the last ones
pub Apart-front : (xs ys : List ℕ) → Apart (xs ++ ys) → Apart xs
Apart-front [] ys h = tt
Apart-front (x ∷ xs) ys h = (each xs h.0, Apart-front xs ys h.1)
  where
    each : (us : List ℕ) → Each (λ y. x ≢ y) (us ++ ys) → Each (λ y. x ≢ y) us
    each [] h = tt
    each (u ∷ us) h = (h.0, each us h.1)

-- the first points are apart
pub Apart-take : (k : ℕ) (xs : List ℕ) → Apart xs → Apart (take k xs)
Apart-take k xs h = Apart-front (take k xs) (drop k xs) (rw take-append-drop h)
