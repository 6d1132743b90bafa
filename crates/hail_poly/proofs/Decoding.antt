-- What a decoder concludes of the row that `euclid` found after `load`, and of what `divide` answered.
use Rattle.hail_poly.proofs.Words.{◌≡◌, ◌≢◌, ◌≤◌, ◌<◌, ◌+◌, ◌*◌, [], ◌∷◌, ℕ, List, length, refl, sym, ◌∙◌, subst, arith, Each, Apart, nim, nim_laws, nim_endless, FirstRow, Decodes, length-vanish, length-interpolate, length-trim, same_from_values, key_row, factor_not_zero, vanish, interpolate, trim, Registers, IsLoaded, IsQuotient, HasNoQuotient}
use Rattle.algebra_laws.proofs.Decode.{first_rows, decode_exact}

-- 1 is not 0
one_not_zero : ◌≡◌ {A = ℕ} 1 0 → ⊥
one_not_zero = omega arith

module _ (points values : List ℕ) (even : length points ≡ length values) (apart : Apart points) where
  -- the row that euclid found after load
  abbrev pub IsFound : ℕ → List ℕ → List ℕ → Type 0
  IsFound below r f = FirstRow nim below (vanish points) [] (trim (interpolate points values)) (1 ∷ []) r f

  -- after load, euclid may be called
  pub loaded : (work : Registers) (size : ℕ) → work ≡ record {
    size = size;
    whole = vanish points;
    rest = trim (interpolate points values);
    factor = 1 ∷ [];
  } → IsLoaded work
  loaded work size e = rw e (record {
    shorter = omega (
      arith,
      length-vanish nim nim_laws points,
      length-trim nim nim_laws (interpolate points values),
      length-interpolate nim nim_laws points values even,
    );
    one = refl;
  })

  -- its cofactor is not zero, so divide may be called
  pub factor_some : (below : ℕ) (r f : List ℕ) → below ≤ length points → IsFound below r f → f ≢ []
  factor_some below r f le row e = factor_not_zero nim nim_laws nim_endless points values below r f
      one_not_zero apart le (key_row nim nim_laws points values (vanish points) row
      (first_rows nim nim_laws nim_endless points values one_not_zero even apart)
      (omega (arith, length-vanish nim nim_laws points))) (subst (λ (p : List ℕ). Each (λ (a : ℕ). a ≡ 0) p)
      (sym e) tt)

  module _ (below keep fix : ℕ) (r f : List ℕ) (row : IsFound below r f)
      (wide : length points + keep ≤ 2 * below) (narrow : below + fix ≤ length points) (some : 0 < keep) where
    -- where a polynomial decodes the values, the quotient is that polynomial
    pub decoded : (p q : List ℕ) → Decodes nim points values keep fix p → IsQuotient r f q → q ≡ trim p
    decoded p q is quotient = quotient.trimmed ∙ same_from_values nim nim_laws nim_endless q p
        ((decode_exact nim nim_laws nim_endless points values keep fix below one_not_zero even apart row
        (omega arith) narrow some p is).1 q quotient.product)

    -- where there is no quotient, no polynomial decodes the values
    pub none_decodes : (p : List ℕ) → HasNoQuotient r f → Decodes nim points values keep fix p → ⊥
    none_decodes p none is = none.none p ((decode_exact nim nim_laws nim_endless points values keep fix below
        one_not_zero even apart row (omega arith) narrow some p is).0)
