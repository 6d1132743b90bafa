-- The steps of `encode_row`.
use Rattle.dispersal_code.proofs.Words.{◌≡◌, ◌≤◌, ◌<◌, ◌+◌, ◌++◌, [], ◌∷◌, ℕ, List, length, take, get_or, refl, ap, sym, ◌∙◌, arith, take_more, take_all, get_or_read, map-append, nim, nim_laws, value-trim, value, interpolate, trim, values_at, row_of}

-- the values of a polynomial without zeros at its end
values-trim : (p points : List ℕ) → values_at points (trim p) ≡ values_at points p
values-trim p [] = refl
values-trim p (x ∷ points) = cc (value-trim nim nim_laws p x, values-trim p points)

-- the values at all points are the row
pub row_is : (points primary out rest : List ℕ) (k : ℕ) → length points ≤ k → length out ≡ length points →
    rest ≡ trim (interpolate (take (length primary) points) primary) →
    take k out ≡ values_at (take k points) rest → out ≡ row_of points primary
row_is points primary out rest k past even is_rest done =
    let all_points : take k points ≡ points = take_all k points past in
    let all_out : take k out ≡ out = take_all k out (omega arith) in
    sym all_out ∙ done ∙ ap (λ (ps : List ℕ). values_at ps rest) all_points ∙ ap (values_at points) is_rest ∙
    values-trim (interpolate (take (length primary) points) primary) points
