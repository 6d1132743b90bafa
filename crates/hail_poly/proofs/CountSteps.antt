-- The steps of `agreements`.
use Rattle.hail_poly.proofs.Words.{◌≡◌, ◌≤◌, ◌<◌, ◌+◌, ℕ, List, length, drop, map, get_or, add-one, Some, cond, Bool, sym, ◌∙◌, ap, arith, get_or_read, length-map, get_or-map, nim, agree_drop, agree_past, value, agree, is_seen, matches}

-- one point more
pub agree_more : (p xs ys : List ℕ) (k x y v count : ℕ) (b : Bool) → k < length xs → length xs ≡ length ys →
    x ≡ get_or xs k x → v ≡ get_or ys k v → y ≡ value p x → b ≡ is_seen y (Some v) →
    count + agree p (drop k xs) (drop k (map Some ys)) ≡ matches p xs ys →
    count + cond b 1 0 + agree p (drop (k + 1) xs) (drop (k + 1) (map Some ys)) ≡ matches p xs ys
agree_more p xs ys k x y v count b h even read_x read_v is_y is_b sum =
    let at_x : x ≡ get_or xs k 0 = get_or_read xs k x h read_x 0 in
    let at_v : Some v ≡ get_or (map Some ys) k (Some v) = ap Some read_v
    ∙ sym (get_or-map Some ys k v (Some v) (omega arith)) in
    let step : agree p (drop k xs) (drop k (map Some ys))
    ≡ cond (is_seen (value p (get_or xs k 0)) (Some v)) 1 0 + agree p (drop (k + 1) xs)
    (drop (k + 1) (map Some ys)) =
    rw add-one (agree_drop nim p xs (map Some ys) k (Some v) h (omega (arith, length-map ys Some)) at_v) in
    let same : is_seen (value p (get_or xs k 0)) (Some v) ≡ b = cc (at_x, is_y, is_b) in
    let step' : agree p (drop k xs) (drop k (map Some ys))
    ≡ cond b 1 0 + agree p (drop (k + 1) xs) (drop (k + 1) (map Some ys)) = rw same at step in
    omega (arith, sum, step')

-- after all points
pub agree_end : (p xs ys : List ℕ) (k count : ℕ) → length xs ≤ k →
    count + agree p (drop k xs) (drop k (map Some ys)) ≡ matches p xs ys → count ≡ matches p xs ys
agree_end p xs ys k count h sum = omega (arith, sum, agree_past nim p xs (map Some ys) k h)
