-- A polynomial place by place.
use Rattle.algebra_laws.proofs.Words.{◌≡◌, ◌<◌, ℕ, zero, suc, sym, ◌∙◌, ap, refl, arith, List, [], ◌∷◌, length, take, get_or, FieldOf, IsField, value, trim, Takes}
use Rattle.algebra_laws.proofs.Ring.{zero_add}
use Rattle.algebra_laws.proofs.Solve.{v, o, ◌⊞◌, ◌⊡◌, solve}
use Rattle.algebra_laws.proofs.Trim.{value-trim}
use Rattle.algebra_laws.proofs.Shifts.{shifted}

module _ {A : Type 0} (F : FieldOf A) (laws : IsField F) where
  open F use {zero as 𝟘, one as 𝟙, add as ◌⊕◌, mul as ◌⊗◌}

  infixl 60 ◌⊕◌
  infixl 70 ◌⊗◌
  -- one coefficient more adds its power of x
  pub value-next : (p : List A) (k : ℕ) (x : A) → k < length p →
      value F (take (suc k) p) x ≡ value F (take k p) x ⊕ value F (shifted F k (get_or p k 𝟘)) x
  unfolding value shifted
  value-next [] k x h = absurd (omega arith)
  value-next (a ∷ p) zero x h = sym (zero_add laws.ring (a ⊕ (x ⊗ 𝟘)))
  value-next (a ∷ p) (suc k) x h = ap (λ t. a ⊕ (x ⊗ t)) (value-next p k x (omega arith)) ∙
      solve laws.ring (a ∷ x ∷ value F (take k p) x ∷ value F (shifted F k (get_or p k 𝟘)) x ∷ [])
      (v 0 ⊞ (v 1 ⊡ (v 2 ⊞ v 3))) ((v 0 ⊞ (v 1 ⊡ v 2)) ⊞ (o ⊞ (v 1 ⊡ v 3))) refl

  -- what takes the values takes them without zeros at the end
  pub Takes-trim : (p xs ys : List A) → Takes F p xs ys → Takes F (trim F p) xs ys
  Takes-trim p [] ys t = tt
  Takes-trim p (x ∷ xs) [] t = t
  Takes-trim p (x ∷ xs) (y ∷ ys) t = (value-trim F laws p x ∙ t.0, Takes-trim p xs ys t.1)
