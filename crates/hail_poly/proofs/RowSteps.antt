-- The steps of the methods of a row.
use Rattle.hail_poly.proofs.Words.{◌≡◌, ◌<◌, [], ◌∷◌, ℕ, zero, suc, List, length, take, set, replicate, refl, sym, ◌∙◌, ap, arith, length-replicate, Each, nim, nim_laws, nim_endless, trim_over, front, trim-zero, trim-last, value-trim, same_from_values, vanish-monic, trim, vanish, IsDivisionRow}

-- zeros are zeros
pub Each-zeros : (n : ℕ) → Each (λ (a : ℕ). a ≡ 0) (replicate n 0)
Each-zeros zero = tt
Each-zeros (suc n) = (refl, Each-zeros n)

-- zeros are the polynomial 0
pub trim-zeros : (n : ℕ) → trim (replicate n 0) ≡ []
trim-zeros n = trim-zero nim nim_laws (replicate n 0) (Each-zeros n)

-- two buffers of zeros are a row
pub new_row : (rest factor : List ℕ) (room : ℕ) → rest ≡ replicate room 0 → factor ≡ replicate room 0 →
    IsDivisionRow rest 0 factor 0
unfolding trim_over
new_row rest factor room r f =
    record {
      same = ap length (f ∙ sym r);
      rest_fits = omega arith;
      factor_fits = omega arith;
      rest_trimmed = refl;
      factor_trimmed = rw f (sym (trim-zeros room));
    }

-- the cofactor becomes 0
pub cleared : (rest factor zeros : List ℕ) (n m : ℕ) → IsDivisionRow rest n factor m →
    zeros ≡ replicate (length factor) 0 → IsDivisionRow rest n zeros 0
cleared rest factor zeros n m row z =
    record {
      same = ap length z ∙ length-replicate {A = ℕ} (length factor) 0 ∙ row.same;
      rest_fits = row.rest_fits;
      factor_fits = omega arith;
      rest_trimmed = row.rest_trimmed;
      factor_trimmed = rw z (sym (trim-zeros (length factor)));
    }

-- a 1 before zeros is the polynomial 1
trim-one : (n : ℕ) → trim (1 ∷ replicate n 0) ≡ 1 ∷ []
unfolding trim_over front
trim-one n = rw (trim-zeros n) refl

-- the cofactor becomes 1
pub started : (rest factor zeros : List ℕ) (n m : ℕ) → IsDivisionRow rest n factor m →
    zeros ≡ replicate (length factor) 0 → 0 < length rest → IsDivisionRow rest n (set zeros 0 1) 1
started rest [] zeros n m row z some = absurd (let h = row.same in omega arith)
started rest (a ∷ factor) zeros n m row z some = rw z (record {
  same = let h = row.same in omega (arith, length-replicate {A = ℕ} (length factor) 0);
  rest_fits = row.rest_fits;
  factor_fits = omega arith;
  rest_trimmed = row.rest_trimmed;
  factor_trimmed = sym (trim-one (length factor));
})

-- what has no zeros at the end stays as it is
pub trim_trim : (p : List ℕ) → trim (trim p) ≡ trim p
trim_trim p = same_from_values nim nim_laws nim_endless (trim p) p (value-trim nim nim_laws p)

-- the first coefficients without zeros at the end are so
pub trims : (p : List ℕ) (n : ℕ) → take n p ≡ trim p → take n p ≡ trim (take n p)
trims p n e = e ∙ sym (trim_trim p) ∙ sym (ap trim e)

-- the product of all x + point ends with 1
pub vanish-trimmed : (points : List ℕ) → vanish points ≡ trim (vanish points)
vanish-trimmed points =
    let m = vanish-monic nim nim_laws points in
    m.1 ∙ sym (trim-last nim nim_laws m.0 1 (omega arith)) ∙ sym (ap trim m.1)
