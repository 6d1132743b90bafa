-- The steps of decoding by the symbols behind the kept ones.
use Rattle.server_code.proofs.Words.{◌≡◌, ◌≢◌, ◌≤◌, ◌<◌, ◌+◌, ◌-◌, ◌++◌, inr, ℕ, sym, ◌∙◌, ap, refl, arith, List, [], ◌∷◌, length, take, drop, add-one, zero-add, add-zero, range_with_len, drop-append_seam, take_all, length-range_with_len, take-front, v, o, ◌⊞◌, ◌⊡◌, solve, nim, nim_add, nim_mul, nim_laws, nim_ring, value_over, root_times_over, vanish_over, value-vanish, vanish_else, value-trim, value, vanish, trim, root_times, upto, one_not_zero, Each-outside, range_with_len-append}
use Rattle.std.proofs.lemmas.List.{length-drop}

-- the value of x + r times a polynomial
pub value-root_times : (r c : ℕ) (p : List ℕ) (x : ℕ) →
    value (root_times r c p) x ≡ nim_add (nim_mul (nim_add r x) (value p x)) c
unfolding value_over root_times_over
value-root_times r c [] x = solve nim_ring (r ∷ c ∷ x ∷ []) (v 1 ⊞ (v 2 ⊡ o)) (((v 0 ⊞ v 2) ⊡ o) ⊞ v 1) refl
value-root_times r c (a ∷ p) x =
    ap (λ t. nim_add (nim_add (nim_mul r a) c) (nim_mul x t)) (value-root_times r a p x) ∙
    solve nim_ring (r ∷ c ∷ a ∷ x ∷ value p x ∷ [])
    (((v 0 ⊡ v 2) ⊞ v 1) ⊞ (v 3 ⊡ (((v 0 ⊞ v 3) ⊡ v 4) ⊞ v 2)))
    (((v 0 ⊞ v 3) ⊡ (v 2 ⊞ (v 3 ⊡ v 4))) ⊞ v 1) refl

-- the product over no points
pub points_start : (items : List ℕ) (count place x : ℕ) →
    value (take (count + (place - place)) items) x ≡ nim_mul (value (take count items) x)
    (value (vanish (range_with_len place (place - place))) x)
unfolding vanish_over value_over
points_start items count place x =
    let none : place - place ≡ 0 = omega arith in
    rw (none, add-zero count)
    (sym (ap (nim_mul (value (take count items) x))
    (ap (nim_add 1) (nim_ring.mul_zero x) ∙ nim_ring.add_zero 1)
    ∙ nim_ring.mul_one (value (take count items) x)))

-- one point more
pub points_more : (after items first : List ℕ) (count keep place next x : ℕ) → next ≡ place + 1 →
    place < keep →
    take (count + (keep - 1 - place) + 1) after ≡ root_times place 0
    (take (count + (keep - 1 - place)) items) →
    value (take (count + (keep - next)) items) x ≡ nim_mul (value (take count first) x)
    (value (vanish (range_with_len next (keep - next))) x) →
    value (take (count + (keep - place)) after) x ≡ nim_mul (value (take count first) x)
    (value (vanish (range_with_len place (keep - place))) x)
points_more after items first count keep place next x is_next h is before =
    ap (λ n. value (take n after) x) longer ∙
    ap (λ p. value p x) is ∙
    value-root_times place 0 (take (count + (keep - 1 - place)) items) x ∙
    nim_ring.add_zero (nim_mul (nim_add place x) (value (take (count + (keep - 1 - place)) items) x)) ∙
    ap (λ n. nim_mul (nim_add place x) (value (take n items) x)) same ∙
    ap (nim_mul (nim_add place x)) before ∙
    solve nim_ring (nim_add place x ∷ value (take count first) x ∷ value
    (vanish (range_with_len next (keep - next))) x ∷ [])
    (v 0 ⊡ (v 1 ⊡ v 2)) (v 1 ⊡ (v 0 ⊡ v 2)) refl ∙
    ap (nim_mul (value (take count first) x))
    (sym (ap (λ ps. value (vanish ps) x) more
    ∙ value-vanish nim nim_laws place (range_with_len next (keep - next)) x))
  where
    longer : count + (keep - place) ≡ count + (keep - 1 - place) + 1
    longer = omega arith

    same : count + (keep - 1 - place) ≡ count + (keep - next)
    same = omega arith

    more : range_with_len place (keep - place) ≡ place ∷ range_with_len next (keep - next)
    more = let e : keep - place ≡ (keep - next) + 1 = omega arith in rw (e, add-one, is_next) refl

-- the product over the first points is not zero at another
pub gaps_some : (keep x : ℕ) → keep ≤ x → value (vanish (upto keep)) x ≢ 0
gaps_some keep x h = vanish_else nim nim_laws (upto keep) x one_not_zero
    (Each-outside x 0 keep (inr (omega arith)))

-- a share times what it was divided by
pub share_is : (d w i g : ℕ) → g ≡ w → nim_mul g i ≡ 1 → nim_mul (nim_mul d i) w ≡ d
share_is d w i g is one = solve nim_ring (d ∷ i ∷ w ∷ []) ((v 0 ⊡ v 1) ⊡ v 2) (v 0 ⊡ (v 2 ⊡ v 1)) refl ∙
    cc (is, one, nim_ring.mul_one d)

-- the rest times a polynomial
pub rest_product : (rest items front made whole : List ℕ) (count keep : ℕ) → count ≡ length rest →
    front ≡ rest ++ drop (length rest) items →
    ((x : ℕ) → value (take (count + keep) made) x ≡ nim_mul (value (take count front) x) (value whole x)) →
    (x : ℕ) → value (trim (take (count + keep) made)) x ≡ nim_mul (value rest x) (value whole x)
rest_product rest items front made whole count keep is_count is_front is x =
    value-trim nim nim_laws (take (count + keep) made) x ∙ is x ∙
    ap (λ p. nim_mul (value p x) (value whole x)) (ap (take count) is_front
    ∙ take-front rest (drop (length rest) items) count (sym is_count))

-- the points behind the first
pub points_behind : (points : List ℕ) (keep size : ℕ) → points ≡ upto size → keep ≤ size →
    take (length points - keep) (drop keep points) ≡ range_with_len keep (size - keep)
points_behind points keep size is le =
    take_all (length points - keep) (drop keep points) (omega (arith, length-drop keep points)) ∙
    ap (drop keep) (is ∙ whole) ∙
    ap (λ n. drop n (upto keep ++ range_with_len keep (size - keep))) (sym (length-range_with_len 0 keep)) ∙
    drop-append_seam (upto keep) (range_with_len keep (size - keep))
  where
    whole : upto size ≡ upto keep ++ range_with_len keep (size - keep)
    whole =
        let e : size ≡ keep + (size - keep) = omega arith in
        ap upto e ∙ range_with_len-append 0 keep (size - keep)
        ∙ ap (λ a. upto keep ++ range_with_len a (size - keep)) (zero-add keep)
