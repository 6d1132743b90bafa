-- Interpolation gives a polynomial back from its values.
use Rattle.hail_poly.proofs.Words.{◌≡◌, ◌≤◌, [], ◌∷◌, ℕ, List, length, take, refl, sym, ◌∙◌, arith, length-map, length-take-le, Apart, nim, nim_laws, value-trim, interpolate_takes, length-interpolate, value, interpolate, trim, TakesSymbols}
use Rattle.algebra_laws.proofs.Apart.{Apart-take}
use Rattle.algebra_laws.proofs.Headlines.{one_takes}
use Rattle.code_defs.specs.Points.{values_at}

-- a polynomial takes its values
pub takes_values : (p xs : List ℕ) → TakesSymbols p xs (values_at xs p)
takes_values p [] = tt
takes_values p (x ∷ xs) = (refl, takes_values p xs)

-- interpolation gives it back at as many points as it has coefficients
pub back : (points p : List ℕ) → Apart points → length p ≤ length points →
    trim (interpolate points (values_at points p)) ≡ trim p
back points p apart fits =
    let even : length points ≡ length (values_at points p) = sym (length-map points (value p)) in
    one_takes nim nim_laws points (values_at points p) (interpolate points (values_at points p)) p apart
    (omega (arith, length-interpolate nim nim_laws points (values_at points p) even))
    (interpolate_takes nim nim_laws points (values_at points p) nim_laws.one_not_zero even apart) fits
    (takes_values p points)

module _ (points p : List ℕ) (l : ℕ) (apart : Apart points) (fits : length p ≤ l)
    (enough : l ≤ length points) where
  -- and at the first ones of more points
  pub back_front : trim (interpolate (take l points) (values_at (take l points) p)) ≡ trim p
  back_front = back (take l points) p (Apart-take l points apart)
      (omega (arith, length-take-le l points enough))

  -- so both have one value everywhere
  pub values_back : (x : ℕ) → value (interpolate (take l points) (values_at (take l points) p)) x ≡ value p x
  values_back x =
      sym (value-trim nim nim_laws (interpolate (take l points) (values_at (take l points) p)) x) ∙
      cc (back_front, value-trim nim nim_laws p x)
