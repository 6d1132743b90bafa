-- Values of polynomials at points, and tests of them.
use Rattle.code_defs.proofs.Words.{refl, sym, ap, ◌∙◌, nat_eq, eqb-true, None, Each, value_over, is_seen_over, values_at, value, TakesSymbols, nim_add, nim_laws, nim_ring}
use Rattle.std.proofs.Common.{◌≡◌, ℕ, List, [], ◌∷◌}
use Rattle.std.specs.Prelude.{Bool, true, false}
use Rattle.code_defs.specs.Polynomials.{is_seen}
use Rattle.code_defs.proofs.Points.{nat_eq-differ}

-- a polynomial of one coefficient is that number everywhere
pub value-constant : (a x : ℕ) → value (a ∷ []) x ≡ a
unfolding value_over
value-constant a x = ap (nim_add a) (nim_laws.ring.mul_zero x) ∙ nim_laws.ring.add_zero a

-- polynomials of one value everywhere have the same values
pub values_at-same : (points p q : List ℕ) → ((x : ℕ) → value p x ≡ value q x) →
    values_at points p ≡ values_at points q
values_at-same [] p q same = refl
values_at-same (x ∷ points) p q same = cc (same x, values_at-same points p q same)

-- a polynomial that takes another's values has them
pub takes_same : (p q points : List ℕ) → TakesSymbols q points (values_at points p) →
    Each (λ x. value p x ≡ value q x) points
takes_same p q [] t = tt
takes_same p q (x ∷ points) t = (sym t.0, takes_same p q points t.1)

-- no value is seen where nothing is
pub is_seen-none : (y : ℕ) → is_seen y None ≡ false
unfolding is_seen_over
is_seen-none y = refl

-- a test of two numbers, after the same was added to both
pub equal-added : (y w c : ℕ) → nat_eq (nim_add y c) (nim_add w c) ≡ nat_eq y w
equal-added y w c = go (nat_eq y w) refl
  where
    back : nim_add w c ≡ nim_add y c → w ≡ y
    back e = cc (
      e,
      nim_ring.add_assoc w c c,
      nim_ring.add_assoc y c c,
      nim_ring.add_self c,
      nim_ring.add_zero w,
      nim_ring.add_zero y,
    )

    go : (b : Bool) → nat_eq y w ≡ b → nat_eq (nim_add y c) (nim_add w c) ≡ b
    go true is = ap (λ t. nat_eq (nim_add y c) (nim_add t c)) (sym (eqb-true y w is))
        ∙ nim_laws.eq_refl (nim_add y c)
    go false is = nat_eq-differ (nim_add y c) (nim_add w c)
        (λ e. let same : true ≡ false = sym (nim_laws.eq_refl y) ∙ ap (nat_eq y) (sym (back e)) ∙ is in cc)
