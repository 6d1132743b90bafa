-- The row that Euclid's algorithm finds behind the kept places is one over all places.
use Rattle.server_code.proofs.Words.{◌≡◌, ◌≤◌, ◌<◌, ◌+◌, ◌-◌, ◌*◌, ◌++◌, ℕ, zero, suc, sym, ◌∙◌, ap, ap₂, subst, refl, arith, List, [], ◌∷◌, length, take, drop, get_or, zero-add, add-zero, range_with_len, get_or-drop, length-take, length-range_with_len, Each, nim, nim_add, nim_mul, nim_laws, nim_ring, nim_endless, FirstRow, plus_over, same_values, value-plus, value-times, length-vanish, vanish_roots, value, vanish, interpolate, trim, plus, times, upto, Profile, IsNear, OpensToNone, one_not_zero, Apart-range, range_with_len-append, IsQuotient, HasNoQuotient, TakesNear}
use Rattle.std.proofs.lemmas.List.{take-append-drop, length-drop}
use Rattle.algebra_laws.specs.Rows.{Solves}
use Rattle.algebra_laws.proofs.Everywhere.{cancel}
use Rattle.algebra_laws.proofs.Euclid.{IsKeyRow, key_row, factor_not_zero}
use Rattle.algebra_laws.proofs.Decode.{first_rows}
use Rattle.algebra_laws.proofs.Gao.{row_is_product}
use Rattle.server_code.proofs.Halves.{length-even}

-- where the row is 0, so is the cofactor times what is added twice
solves_front : (R f : List ℕ) (a n : ℕ) (ks : List ℕ) → length ks ≡ n →
    Each (λ x. value R x ≡ 0) (range_with_len a n) → Solves nim R f (range_with_len a n) (plus ks ks)
unfolding plus_over
solves_front R f a zero ks long z = tt
solves_front R f a (suc n) [] long z = absurd (omega arith)
solves_front R f a (suc n) (k ∷ ks) long z = (
  z.0 ∙ sym (ap (nim_mul (value f a)) (nim_ring.add_self k) ∙ nim_ring.mul_zero (value f a)),
  solves_front R f (a + 1) n ks (omega arith) z.1,
)

-- a row times a polynomial, at what the values are shares of
solves_behind : (R r f V : List ℕ) (a n : ℕ) (es ts ws : List ℕ) →
    ((x : ℕ) → value R x ≡ nim_mul (value r x) (value V x)) →
    length es ≡ n → length ts ≡ n → length ws ≡ n → Solves nim r f (range_with_len a n) es →
    ((k : ℕ) → k < n → nim_mul (get_or es k 0) (value V (a + k)) ≡ nim_add (get_or ts k 0) (get_or ws k 0)) →
    Solves nim R f (range_with_len a n) (plus ts ws)
unfolding plus_over
solves_behind R r f V a zero es ts ws is le lt lw s h = tt
solves_behind R r f V a (suc n) (e ∷ es) (t ∷ ts) (w ∷ ws) is le lt lw s h = (
  is a ∙ ap (λ y. nim_mul y (value V a)) s.0 ∙ nim_ring.mul_assoc (value f a) e (value V a) ∙
      ap (nim_mul (value f a)) (ap (λ b. nim_mul e (value V b)) (sym (add-zero a)) ∙ h 0 (omega arith)),
  solves_behind R r f V (a + 1) n es ts ws is (omega arith) (omega arith) (omega arith) s.1
      (λ k less. ap (λ b. nim_mul (get_or es k 0) (value V b))
      (let e : a + 1 + k ≡ a + suc k = omega arith in e) ∙ h (suc k) (omega arith)),
)
solves_behind R r f V a (suc n) es ts ws is le lt lw s h = absurd (omega arith)

-- at two lists of points
Solves-append : (R f xs ys xs' ys' : List ℕ) → length xs ≡ length ys → Solves nim R f xs ys →
    Solves nim R f xs' ys' → Solves nim R f (xs ++ xs') (ys ++ ys')
Solves-append R f [] [] xs' ys' even s t = t
Solves-append R f (x ∷ xs) (y ∷ ys) xs' ys' even s t =
    (s.0, Solves-append R f xs ys xs' ys' (omega arith) s.1 t)
Solves-append R f xs ys xs' ys' even s t = absurd (omega arith)

-- the sums of two lists in two parts
plus-append : (ks ls ts ws : List ℕ) → length ks ≡ length ls →
    plus (ks ++ ts) (ls ++ ws) ≡ plus ks ls ++ plus ts ws
unfolding plus_over
plus-append [] [] ts ws even = refl
plus-append (k ∷ ks) (l ∷ ls) ts ws even = ap (λ t. nim_add k l ∷ t) (plus-append ks ls ts ws (omega arith))
plus-append ks ls ts ws even = absurd (omega arith)

-- the row behind the first places, times the product over these, is a row over all
pub row_over_all : (R r f es block word : List ℕ) (keep n : ℕ) →
    ((x : ℕ) → value R x ≡ nim_mul (value r x) (value (vanish (upto keep)) x)) →
    length es ≡ n → length block ≡ keep + n → length word ≡ length block → take keep block ≡ take keep word →
    Solves nim r f (range_with_len keep n) es →
    ((k : ℕ) → k < n → nim_mul (get_or es k 0) (value (vanish (upto keep)) (keep + k))
    ≡ nim_add (get_or block (keep + k) 0) (get_or word (keep + k) 0)) →
    Solves nim R f (upto (keep + n)) (plus block word)
row_over_all R r f es block word keep n is long_es long even same s shares = subst
    (λ (xs : List ℕ). Solves nim R f xs (plus block word)) (sym
    (range_with_len-append 0 keep n ∙ ap (λ a. upto keep ++ range_with_len a n) (zero-add keep)))
    (subst (λ (ys : List ℕ). Solves nim R f (upto keep ++ range_with_len keep n) ys) (sym split)
    (Solves-append R f (upto keep) (plus ks ks) (range_with_len keep n) (plus ts ws)
    (length-range_with_len 0 keep ∙ sym (length-even ks ks keep long_ks long_ks))
    (solves_front R f 0 keep ks long_ks (roots (upto keep) (vanish_roots nim nim_laws (upto keep))))
    (solves_behind R r f (vanish (upto keep)) keep n es ts ws is long_es
    (omega (arith, length-drop keep block)) (omega (arith, length-drop keep word)) s (λ k less. shares k less
    ∙ ap₂ nim_add (sym (get_or-drop keep block k 0)) (sym (get_or-drop keep word k 0))))))
  where
    ks : List ℕ
    ks = take keep block

    ts : List ℕ
    ts = drop keep block

    ws : List ℕ
    ws = drop keep word

    long_ks : length ks ≡ keep
    long_ks = omega (arith, length-take keep block)

    split : plus block word ≡ plus ks ks ++ plus ts ws
    split = ap₂ (λ a b. plus a b) (sym (take-append-drop keep block))
        (sym (take-append-drop keep word) ∙ ap (λ t. t ++ ws) (sym same)) ∙ plus-append ks ks ts ws refl

    roots : (xs : List ℕ) → Each (λ x. value (vanish (upto keep)) x ≡ 0) xs → Each (λ x. value R x ≡ 0) xs
    roots [] z = tt
    roots (x ∷ xs) z = (is x ∙ ap (nim_mul (value r x)) z.0 ∙ nim_ring.mul_zero (value r x), roots xs z.1)

module _ (profile : Profile) (es block word R r f : List ℕ)
    (sizes : profile.size ≡ profile.keep + 2 * profile.fix) (some : 0 < profile.keep)
    (full : profile.keep + length es ≡ length block) (long : length block ≡ profile.size)
    (even : length word ≡ profile.size)
    (same : take profile.keep block ≡ take profile.keep word)
    (row : FirstRow nim profile.fix (vanish (range_with_len profile.keep (length es))) []
    (trim (interpolate (range_with_len profile.keep (length es)) es)) (1 ∷ []) r f)
    (is : (x : ℕ) → value R x ≡ nim_mul (value r x) (value (vanish (upto profile.keep)) x))
    (short : length R ≤ length r + profile.keep)
    (shares : (k : ℕ) → k < length es →
    nim_mul (get_or es k 0) (value (vanish (upto profile.keep)) (profile.keep + k))
    ≡ nim_add (get_or block (profile.keep + k) 0) (get_or word (profile.keep + k) 0)) where
  -- two shares for each symbol that can be corrected
  many : length es ≡ 2 * profile.fix
  many = omega (arith, full, long, sizes)

  -- the points behind the first
  abbrev points : List ℕ
  points = range_with_len profile.keep (length es)

  -- as many as shares
  long_points : length points ≡ length es
  long_points = length-range_with_len profile.keep (length es)

  -- all points
  all_points : length (upto profile.size) ≡ profile.size
  all_points = length-range_with_len 0 profile.size

  -- the row is a key row
  key : IsKeyRow nim nim_laws points es (vanish points) profile.fix r f
  key = key_row nim nim_laws points es (vanish points) row (first_rows nim nim_laws nim_endless points es
      one_not_zero long_points (Apart-range profile.keep (length es)))
      (omega (arith, length-vanish nim nim_laws points, long_points))

  -- its cofactor is not zero
  some_factor : Each (λ a. a ≡ 0) f → ⊥
  some_factor = factor_not_zero nim nim_laws nim_endless points es profile.fix r f one_not_zero
      (Apart-range profile.keep (length es)) (omega (arith, long_points, many)) key

  -- the row over all points
  over_all : Solves nim R f (upto profile.size) (plus block word)
  over_all = subst (λ (n : ℕ). Solves nim R f (upto n) (plus block word)) (full ∙ long)
      (row_over_all R r f es block word profile.keep (length es) is refl (sym full) (even ∙ sym long) same
      key.row shares)

  -- a polynomial that is near the sums, times the cofactor
  near_row : (p : List ℕ) → IsNear profile (plus block word) p → (x : ℕ) →
      value R x ≡ nim_mul (value f x) (value p x)
  near_row p near x = same_values nim nim_laws R (times f p)
      (row_is_product nim nim_laws R f p (upto profile.size) (plus block word) (profile.keep + profile.fix)
      (profile.keep - 1) profile.fix (Apart-range 0 profile.size) over_all (omega (arith, short, key.short))
      (omega (arith, key.room, long_points, all_points, many, sizes)) (omega (arith, near.decodes.short))
      (omega (arith, all_points, sizes)) (omega (arith, all_points, sizes)) near.decodes.near) x ∙
      value-times nim nim_laws f p x

  -- so it is the quotient
  pub near_is_quotient : (q : List ℕ) → IsQuotient R f q → TakesNear profile (plus block word) q
  near_is_quotient q quotient p near = same_values nim nim_laws q p
      (cancel nim nim_laws nim_endless f (plus q p) some_factor (λ x. cc (
        value-plus nim nim_laws q p x,
        nim_ring.mul_add (value f x) (value q x) (value p x),
        quotient.product x,
        near_row p near x,
        nim_ring.add_self (value R x),
      )))

  -- without a quotient there is none
  pub no_quotient_none : HasNoQuotient R f → OpensToNone profile (plus block word)
  no_quotient_none none p near = none.none p (near_row p near)
