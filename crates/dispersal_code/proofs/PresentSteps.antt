-- The steps of `present_of`.
use Rattle.dispersal_code.proofs.Words.{◌≡◌, ◌≤◌, ◌<◌, ◌+◌, ◌++◌, [], ◌∷◌, ℕ, zero, suc, List, length, drop, get_or, add-one, Option, Some, None, refl, sym, ◌∙◌, ap, subst, arith, append_assoc, drop_all, get_or_default, Chosen, present_points, present_symbols}
use Rattle.hail_syndrome.proofs.GatherSteps.{append-none}

-- the point of an absent symbol is passed over
points-none : (xs : List ℕ) (ss : List (Option ℕ)) (k : ℕ) → k < length xs → k < length ss →
    get_or ss k None ≡ None →
    present_points (drop k xs) (drop k ss) ≡ present_points (drop (suc k) xs) (drop (suc k) ss)
unfolding present_points
points-none [] ss k h e is = absurd (omega arith)
points-none (x ∷ xs) [] k h e is = absurd (omega arith)
points-none (x ∷ xs) (None ∷ ss) zero h e is = refl
points-none (x ∷ xs) (Some s ∷ ss) zero h e is = cc
points-none (x ∷ xs) (s ∷ ss) (suc k) h e is = points-none xs ss k (omega arith) (omega arith) is

-- an absent symbol is passed over
symbols-none : (ss : List (Option ℕ)) (k : ℕ) → k < length ss → get_or ss k None ≡ None →
    present_symbols (drop k ss) ≡ present_symbols (drop (suc k) ss)
unfolding present_symbols
symbols-none [] k e is = absurd (omega arith)
symbols-none (None ∷ ss) zero e is = refl
symbols-none (Some s ∷ ss) zero e is = cc
symbols-none (s ∷ ss) (suc k) e is = symbols-none ss k (omega arith) is

-- the point of a present symbol is taken
points-some : (xs : List ℕ) (ss : List (Option ℕ)) (k y : ℕ) → k < length xs → k < length ss →
    get_or ss k None ≡ Some y →
    present_points (drop k xs) (drop k ss) ≡ get_or xs k 0 ∷ present_points (drop (suc k) xs)
    (drop (suc k) ss)
unfolding present_points
points-some [] ss k y h e is = absurd (omega arith)
points-some (x ∷ xs) [] k y h e is = absurd (omega arith)
points-some (x ∷ xs) (None ∷ ss) zero y h e is = cc
points-some (x ∷ xs) (Some s ∷ ss) zero y h e is = refl
points-some (x ∷ xs) (s ∷ ss) (suc k) y h e is = points-some xs ss k y (omega arith) (omega arith) is

-- a present symbol is taken
symbols-some : (ss : List (Option ℕ)) (k y : ℕ) → k < length ss → get_or ss k None ≡ Some y →
    present_symbols (drop k ss) ≡ y ∷ present_symbols (drop (suc k) ss)
unfolding present_symbols
symbols-some [] k y e is = absurd (omega arith)
symbols-some (None ∷ ss) zero y e is = cc
symbols-some (Some s ∷ ss) zero y e is = cc (is)
symbols-some (s ∷ ss) (suc k) y e is = symbols-some ss k y (omega arith) is

-- at an absent symbol nothing is added
pub points_passed : (xs start total : List ℕ) (ss : List (Option ℕ)) (k : ℕ) (d : Option ℕ) → k < length xs →
    length xs ≡ length ss → get_or ss k d ≡ None → start ++ present_points (drop k xs) (drop k ss) ≡ total →
    start ++ present_points (drop (k + 1) xs) (drop (k + 1) ss) ≡ total
points_passed xs start total ss k d h even is sum =
    ap (λ t. start ++ t) (rw add-one
    (sym (points-none xs ss k h (omega arith) (get_or_default ss k None d (omega arith) ∙ is)))) ∙ sum

-- at an absent symbol no symbol is added either
pub symbols_passed : (start total : List ℕ) (ss : List (Option ℕ)) (k : ℕ) (d : Option ℕ) → k < length ss →
    get_or ss k d ≡ None →
    start ++ present_symbols (drop k ss) ≡ total → start ++ present_symbols (drop (k + 1) ss) ≡ total
symbols_passed start total ss k d h is sum =
    ap (λ t. start ++ t) (rw add-one (sym (symbols-none ss k h (get_or_default ss k None d h ∙ is)))) ∙ sum

-- one item more at the end
one_more : (start rest whole total : List ℕ) (a : ℕ) → rest ≡ a ∷ whole → start ++ rest ≡ total →
    (start ++ a ∷ []) ++ whole ≡ total
one_more start rest whole total a is sum =
    append_assoc start (a ∷ []) whole ∙ ap (λ t. start ++ t) (sym is) ∙ sum

-- at a present symbol its point is added
pub points_taken : (xs start total : List ℕ) (ss : List (Option ℕ)) (k x y : ℕ) (d : Option ℕ) →
    k < length xs → length xs ≡ length ss → x ≡ get_or xs k 0 →
    get_or ss k d ≡ Some y → start ++ present_points (drop k xs) (drop k ss) ≡ total →
    (start ++ x ∷ []) ++ present_points (drop (k + 1) xs) (drop (k + 1) ss) ≡ total
points_taken xs start total ss k x y d h even read is sum =
    one_more start (present_points (drop k xs) (drop k ss)) (present_points (drop (k + 1) xs)
    (drop (k + 1) ss)) total x (rw (read, add-one) (points-some xs ss k y h (omega arith)
    (get_or_default ss k None d (omega arith) ∙ is))) sum

-- and the symbol
pub symbols_taken : (start total : List ℕ) (ss : List (Option ℕ)) (k y : ℕ) (d : Option ℕ) → k < length ss →
    get_or ss k d ≡ Some y → start ++ present_symbols (drop k ss) ≡ total →
    (start ++ y ∷ []) ++ present_symbols (drop (k + 1) ss) ≡ total
symbols_taken start total ss k y d h is sum =
    one_more start (present_symbols (drop k ss)) (present_symbols (drop (k + 1) ss)) total y
    (rw add-one (symbols-some ss k y h (get_or_default ss k None d h ∙ is))) sum

points-past : (xs : List ℕ) (ss : List (Option ℕ)) → xs ≡ [] → present_points xs ss ≡ []
unfolding present_points
points-past xs ss e = rw e refl

symbols-past : (ss : List (Option ℕ)) → ss ≡ [] → present_symbols ss ≡ []
unfolding present_symbols
symbols-past ss e = rw e refl

-- after all places
pub points_end : (xs start total : List ℕ) (ss : List (Option ℕ)) (k : ℕ) → length xs ≤ k →
    start ++ present_points (drop k xs) (drop k ss) ≡ total → start ≡ total
points_end xs start total ss k h sum = sym (append-none start (present_points (drop k xs) (drop k ss))
    (points-past (drop k xs) (drop k ss) (drop_all k xs h))) ∙ sum

-- after all places no symbol is left to add
pub symbols_end : (start total : List ℕ) (ss : List (Option ℕ)) (k : ℕ) → length ss ≤ k →
    start ++ present_symbols (drop k ss) ≡ total → start ≡ total
symbols_end start total ss k h sum =
    sym (append-none start (present_symbols (drop k ss)) (symbols-past (drop k ss) (drop_all k ss h))) ∙ sum

-- chosen symbols by their two lists
pub chosen_is : (c : Chosen) (xs ys : List ℕ) → c.points ≡ xs → c.symbols ≡ ys →
    c ≡ record { points = xs; symbols = ys }
chosen_is c xs ys e f = subst (λ (p : List ℕ). c ≡ record { points = p; symbols = ys }) e
    (subst (λ (q : List ℕ). c ≡ record { points = c.points; symbols = q }) f refl)
