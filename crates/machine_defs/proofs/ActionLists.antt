-- Which action stands where in the list of a job.
use Rattle.std.proofs.Common.{◌≡◌, ℕ, zero, suc, ◌-◌, ◌<◌, ◌≤◌, ◌⊎◌, List, [], ◌∷◌, ◌++◌, length, Some, subst, inl, inr, arith}
use Rattle.std.specs.Prelude.{slice_get}

-- an element of two lists stands in the first or in the second
pub split_get : {X : Type 0} (xs ys : List X) (k : ℕ) (x : X) → slice_get (xs ++ ys) k ≡ Some x →
    ((k < length xs) × (slice_get xs k ≡ Some x)) ⊎
    ((length xs ≤ k) × (slice_get ys (k - length xs) ≡ Some x))
split_get [] ys k x h = inr (omega arith, (rw (let e : k ≡ k - 0 = omega arith in e) at h))
split_get (z ∷ xs) ys zero x h = inl (omega arith, h)
split_get (z ∷ xs) ys (suc k) x h = elim (split_get xs ys k x h) [
  | inl p ↦ inl (omega (arith, p.0), p.1)
  | inr q ↦ inr (omega (arith, q.0), subst (λ n. slice_get ys n ≡ Some x) (omega arith) q.1)
]
