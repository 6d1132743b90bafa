-- A block opens to one thing, and a row is accepted with one polynomial.
use Rattle.column_laws.proofs.Words.{◌≡◌, ℕ, zero, suc, ◌+◌, ◌*◌, ◌≤◌, List, [], ◌∷◌, length, map, take, Option, None, Some, arith, ap, sym, refl, ◌∙◌, length-range_with_len, length-map-range_with_len, IsShape, nim_laws, agree_over, present, value, agree, upto, values_at, profile_of, Apart-range, size_is, Object, point, points, SeenBlock, bare, OpensTo, AcceptsRow, symbol_in, Apart-points}
use Rattle.algebra_laws.specs.Field.{Apart}
use Rattle.hail_field.specs.Nim.{nim}
use Rattle.algebra_laws.proofs.Agree.{unique}
use Rattle.algebra_laws.proofs.Roots.{same_values}

-- symbols past the last point do not count
agree-front : (p xs : List ℕ) (ss : List (Option ℕ)) → agree p xs (take (length xs) ss) ≡ agree p xs ss
unfolding agree_over
agree-front p [] ss = refl
agree-front p (x ∷ xs) [] = refl
agree-front p (x ∷ xs) (s ∷ ss) = cc (agree-front p xs ss)

-- of n symbols at most n are present
present-front : (n : ℕ) (ss : List (Option ℕ)) → present (take n ss) ≤ n
unfolding present
present-front zero ss = omega arith
present-front (suc n) [] = omega arith
present-front (suc n) (None ∷ ss) = omega (arith, present-front n ss)
present-front (suc n) (Some s ∷ ss) = omega (arith, present-front n ss)

-- two polynomials of few coefficients that agree with the symbols often enough have one value everywhere
pub often_same : (p q xs : List ℕ) (ss : List (Option ℕ)) (keep : ℕ) → Apart xs → length p ≤ keep →
    length q ≤ keep → length xs + keep ≤ agree p xs ss + agree q xs ss → (x : ℕ) → value p x ≡ value q x
often_same p q xs ss keep apart short_p short_q often =
    same_values nim nim_laws p q (unique nim nim_laws p q xs (take (length xs) ss) keep apart short_p short_q
    (omega (arith, often, agree-front p xs ss, agree-front q xs ss, present-front (length xs) ss)))

-- as where each agrees at all but few places
near_same : (p q xs : List ℕ) (ss : List (Option ℕ)) (keep wrong : ℕ) → Apart xs →
    keep + 2 * wrong ≤ length xs → length p ≤ keep → length xs ≤ agree p xs ss + wrong → length q ≤ keep →
    length xs ≤ agree q xs ss + wrong → (x : ℕ) → value p x ≡ value q x
near_same p q xs ss keep wrong apart room short_p near_p short_q near_q =
    often_same p q xs ss keep apart short_p short_q (omega (arith, room, near_p, near_q))

-- polynomials of one value everywhere have the same values
pub values_same : (p q xs : List ℕ) → ((x : ℕ) → value p x ≡ value q x) → values_at xs p ≡ values_at xs q
values_same p q [] h = refl
values_same p q (x ∷ xs) h = (λ i. h x i ∷ values_same p q xs h i)

-- a profile of the table has two symbols more for each that is corrected
pub profile-room : (o : Object) (number : ℕ) → o.profile ≡ profile_of number →
    o.profile.keep + 2 * o.profile.fix ≤ o.profile.size
profile-room o number is =
    omega (arith, ap (λ p. p.size) is, ap (λ p. p.keep) is, ap (λ p. p.fix) is, size_is number)

-- a seen block opens to at most one thing
pub opens-unique : (o : Object) (number j stripe : ℕ) (seen a b : SeenBlock) → o.profile ≡ profile_of number →
    OpensTo o j stripe seen a → OpensTo o j stripe seen b → a ≡ b
opens-unique o number j stripe None a b is ha hb = ha ∙ sym hb
opens-unique o number j stripe (Some block) None None is ha hb = refl
opens-unique o number j stripe (Some block) None (Some ys) is ha hb = absurd (ha hb.polynomial hb.near)
opens-unique o number j stripe (Some block) (Some xs) None is ha hb = absurd (hb ha.polynomial ha.near)
opens-unique o number j stripe (Some block) (Some xs) (Some ys) is ha hb =
    let long = length-range_with_len 0 o.profile.size in
    ap Some (ha.opened_is ∙ values_same ha.polynomial hb.polynomial (upto o.profile.size)
    (near_same ha.polynomial hb.polynomial (upto o.profile.size)
    (map Some (bare o j stripe block)) o.profile.keep o.profile.fix
    (Apart-range 0 o.profile.size) (omega (arith, long, profile-room o number is))
    ha.near.decodes.short ha.near.decodes.near hb.near.decodes.short hb.near.decodes.near)
    ∙ sym hb.opened_is)

-- two polynomials that are accepted for a row have the same value everywhere
pub accepted-unique : (o : Object) (opened : List SeenBlock) (place : ℕ) (p q : List ℕ) →
    IsShape o.shape.n o.shape.l o.shape.b →
    AcceptsRow o opened place p → AcceptsRow o opened place q → (x : ℕ) → value p x ≡ value q x
accepted-unique o opened place p q shape hp hq = near_same p q (points o) (map (symbol_in place) opened)
    o.shape.l o.shape.b (Apart-points o (omega (arith, shape.1)))
    (omega (arith, shape.4, length-map-range_with_len (point o) 0 o.shape.n)) hp.degree hp.agrees hq.degree
    hq.agrees
