-- The steps of the multipliers.
use Rattle.hail_syndrome.proofs.Words.{◌≡◌, ◌≤◌, ◌<◌, ◌+◌, ℕ, List, [], ◌∷◌, length, drop, map, get_or, slice_index, zero-add, cond, nat_eq, ap, ◌∙◌, refl, arith, at_drop_more, at_drop_all, fill_by_all, length-range_with_len, get_or-range_with_len, nim_add, nim_mul, upto, others_product, multiplier}

-- one point more
pub others_step : (x : ℕ) (points : List ℕ) (k : ℕ) → k < length points →
    others_product x (drop k points) ≡
    cond (nat_eq (get_or points k 0) x) (others_product x (drop (k + 1) points))
    (nim_mul (nim_add x (get_or points k 0)) (others_product x (drop (k + 1) points)))
unfolding others_product
others_step x points k h = at_drop_more (others_product x) points k 0 h

-- no point is left
pub others_past : (x : ℕ) (points : List ℕ) (k : ℕ) → length points ≤ k → others_product x (drop k points) ≡ 1
unfolding others_product
others_past x points k h = at_drop_all (others_product x) points k h

-- each number is itself
map-same : (ps : List ℕ) → map (λ (k : ℕ). k) ps ≡ ps
map-same [] = refl
map-same (p ∷ ps) = ap (λ t. p ∷ t) (map-same ps)

-- numbers that are each at its place
pub places_by_all : (points : List ℕ) (n : ℕ) → n ≡ length points →
    ((k : ℕ) → k < n → get_or points k 0 ≡ k) → points ≡ upto (length points)
places_by_all points n long each = fill_by_all (λ k. k) points (length points) 0 refl
    (λ k h. each k (omega arith)) ∙ map-same (upto (length points))

-- the multiplier of a place of a profile
pub known_multiplier : (points : List ℕ) (size place : ℕ) → points ≡ upto size → place < length points →
    multiplier place (upto size) ≡ multiplier (slice_index points place) points
known_multiplier points size place is lt =
    let few : length points ≡ size = ap length is ∙ length-range_with_len 0 size in
    let at : slice_index points place ≡ place = ap (λ (ps : List ℕ). get_or ps place 0) is
    ∙ get_or-range_with_len 0 size place 0 (omega arith) ∙ zero-add place in
    rw (at, is) refl
