-- The steps of counting differences.
use Rattle.server_code.proofs.Words.{◌≡◌, ◌≤◌, ◌<◌, ◌+◌, ℕ, suc, List, ◌∷◌, length, drop, get_or, cond, nat_eq, Bool, true, false, refl, ◌∙◌, arith, drop_all, drop_more, differences}

-- one place counts or not
differences-cons : (x w : ℕ) (xs ws : List ℕ) → differences (x ∷ xs) (w ∷ ws)
    ≡ cond (nat_eq x w) 0 1 + differences xs ws
differences-cons x w xs ws = go (nat_eq x w)
  where
    go : (b : Bool) → cond b (differences xs ws) (suc (differences xs ws)) ≡ cond b 0 1 + differences xs ws
    go true = omega arith
    go false = omega arith

-- one place more is compared
pub differences_step : (xs ws : List ℕ) (k x w d : ℕ) → k < length xs → k < length ws → x ≡ get_or xs k 0 →
    w ≡ get_or ws k 0 → d ≡ cond (nat_eq x w) 0 1 →
    differences (drop k xs) (drop k ws) ≡ d + differences (drop (k + 1) xs) (drop (k + 1) ws)
differences_step xs ws k x w d h e read_x read_w is_d =
    let step : differences (drop k xs) (drop k ws) ≡ cond
    (nat_eq (get_or xs k 0) (get_or ws k 0)) 0 1 + differences (drop (k + 1) xs) (drop (k + 1) ws) =
    (λ i. differences (drop_more xs k 0 h i) (drop_more ws k 0 e i))
    ∙ differences-cons (get_or xs k 0) (get_or ws k 0) (drop (k + 1) xs) (drop (k + 1) ws) in
    let same : cond (nat_eq (get_or xs k 0) (get_or ws k 0)) 0 1 ≡ d = cc (read_x, read_w, is_d) in
    omega (arith, step, same)

-- all places are counted
pub all_counted : (xs ws : List ℕ) (k count total : ℕ) → length xs ≤ k → length ws ≤ k →
    count + differences (drop k xs) (drop k ws) ≡ total → count ≡ total
all_counted xs ws k count total h e before =
    let none : differences (drop k xs) (drop k ws) ≡ 0 = rw (drop_all k xs h) refl in
    omega (arith, none, before)

-- at most one more
pub difference_bound : (a b d : ℕ) → d ≡ cond (nat_eq a b) 0 1 → d ≤ 1
difference_bound a b d is = omega (arith, is, small (nat_eq a b))
  where
    small : (t : Bool) → cond t 0 1 ≤ 1
    small true = omega arith
    small false = omega arith
