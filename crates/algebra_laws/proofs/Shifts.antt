-- A multiple of a polynomial added at higher places.
use Rattle.algebra_laws.proofs.Words.{◌≡◌, ◌≤◌, ◌+◌, ℕ, zero, suc, sym, ◌∙◌, ap, refl, arith, List, [], ◌∷◌, ◌++◌, length, drop, take, get_or, FieldOf, IsField, value, plus, scale}
use Rattle.algebra_laws.proofs.Solve.{v, o, ◌⊞◌, ◌⊡◌, solve}
use Rattle.algebra_laws.proofs.Values.{value-plus, value-scale}
use Rattle.algebra_laws.proofs.Division.{get_or-plus}
use Rattle.std.proofs.Math.Nat.{zero-add, suc-add}

-- c times the power s of x
unfoldable pub shifted : {A : Type 0} → FieldOf A → ℕ → A → List A
shifted F zero c = c ∷ []
shifted F (suc s) c = F.zero ∷ shifted F s c

module _ {A : Type 0} (F : FieldOf A) (laws : IsField F) where
  open F use {zero as 𝟘, one as 𝟙, add as ◌⊕◌, mul as ◌⊗◌}

  infixl 60 ◌⊕◌
  infixl 70 ◌⊗◌
  -- its coefficients
  pub length-shifted : (s : ℕ) (c : A) → length (shifted F s c) ≡ suc s
  unfolding shifted
  length-shifted zero c = refl
  length-shifted (suc s) c = let h = length-shifted s c in omega arith

  -- the value after c times d is added at place s
  pub value-added : (r d : List A) (s : ℕ) (c x : A) → s ≤ length r →
      value F (take s r ++ plus F (drop s r) (scale F c d)) x
      ≡ value F r x ⊕ (value F (shifted F s c) x ⊗ value F d x)
  unfolding shifted value
  value-added r d zero c x h =
      value-plus F laws r (scale F c d) x ∙ ap (λ t. value F r x ⊕ t) (value-scale F laws c d x) ∙
      solve laws.ring (value F r x ∷ c ∷ value F d x ∷ x ∷ []) (v 0 ⊞ (v 1 ⊡ v 2))
      (v 0 ⊞ ((v 1 ⊞ (v 3 ⊡ o)) ⊡ v 2)) refl
  value-added [] d (suc s) c x h = absurd (omega arith)
  value-added (a ∷ r) d (suc s) c x h = ap (λ t. a ⊕ (x ⊗ t)) (value-added r d s c x (omega arith)) ∙
      solve laws.ring (a ∷ x ∷ value F r x ∷ value F (shifted F s c) x ∷ value F d x ∷ [])
      (v 0 ⊞ (v 1 ⊡ (v 2 ⊞ (v 3 ⊡ v 4)))) ((v 0 ⊞ (v 1 ⊡ v 2)) ⊞ ((o ⊞ (v 1 ⊡ v 3)) ⊡ v 4)) refl

  -- the front of such a sum
  pub take-added : (r e : List A) (s n : ℕ) → s + length e ≡ n → n ≤ length r →
      take n (take s r ++ plus F (drop s r) e) ≡ take s (take n r) ++ plus F (drop s (take n r)) e
  unfolding plus
  take-added [] e zero zero h k = take_nothing e (omega arith)
    where
      take_nothing : (e : List A) → length e ≡ 0 → [] ≡ plus F [] e
      take_nothing [] z = refl
      take_nothing (a ∷ e) z = absurd (omega arith)
  take-added [] e s (suc n) h k = absurd (omega arith)
  take-added [] e (suc s) zero h k = absurd (omega arith)
  take-added (a ∷ r) [] zero zero h k = refl
  take-added (a ∷ r) (b ∷ e) zero zero h k = absurd (omega arith)
  take-added (a ∷ r) [] zero (suc n) h k = absurd (omega arith)
  take-added (a ∷ r) (b ∷ e) zero (suc n) h k =
      ap (λ t. F.add a b ∷ t) (take-added r e zero n (omega arith) (omega arith))
  take-added (a ∷ r) e (suc s) zero h k = absurd (omega arith)
  take-added (a ∷ r) e (suc s) (suc n) h k = ap (λ t. a ∷ t) (take-added r e s n (omega arith) (omega arith))

  -- a coefficient of such a sum
  pub get_or-added : (r e : List A) (s k : ℕ) → s ≤ length r →
      get_or (take s r ++ plus F (drop s r) e) (s + k) 𝟘 ≡ get_or r (s + k) 𝟘 ⊕ get_or e k 𝟘
  get_or-added r e zero k h = rw zero-add (get_or-plus F laws r e k)
  get_or-added [] e (suc s) k h = absurd (omega arith)
  get_or-added (a ∷ r) e (suc s) k h = rw suc-add (get_or-added r e s k (omega arith))

  -- one multiple more taken from a row
  pub reduce_rest : (Q V D R N W : A) → R ≡ (Q ⊗ D) ⊕ N → W ≡ N ⊕ (V ⊗ D) → R ≡ ((Q ⊕ V) ⊗ D) ⊕ W
  reduce_rest Q V D R N W h k = h ∙ solve laws.ring (Q ∷ V ∷ D ∷ N ∷ []) ((v 0 ⊡ v 2) ⊞ v 3)
      (((v 0 ⊞ v 1) ⊡ v 2) ⊞ (v 3 ⊞ (v 1 ⊡ v 2))) refl ∙
      ap (λ t. ((Q ⊕ V) ⊗ D) ⊕ t) (sym k)
