-- The steps of `gather`.
use Rattle.hail_syndrome.proofs.Words.{◌≡◌, ◌≢◌, ◌≤◌, ◌<◌, ◌+◌, ◌++◌, ℕ, zero, suc, List, [], ◌∷◌, length, set, take, drop, get_or, add-one, Bool, true, false, nat_eq, eqb-true, sym, ◌∙◌, ap, refl, arith, take_more_set, append_assoc, drop_all, nim, sound_points, sound_values}
use Rattle.code_defs.specs.Polynomials.{value}

-- what the test says of 0
is_zero : (a : ℕ) → a ≡ 0 → nat_eq a 0 ≡ true
is_zero a e = ap (λ n. nat_eq n 0) e

-- and of what is not 0
is_not_zero : (a : ℕ) → a ≢ 0 → nat_eq a 0 ≡ false
is_not_zero a ne = go (nat_eq a 0) refl
  where
    go : (b : Bool) → nat_eq a 0 ≡ b → b ≡ false
    go true is = absurd (ne (eqb-true a 0 is))
    go false is = refl

-- nothing behind a list leaves the list
pub append-none : (start rest : List ℕ) → rest ≡ [] → start ++ rest ≡ start
append-none [] rest e = e
append-none (a ∷ start) rest e = ap (λ t. a ∷ t) (append-none start rest e)

module _ (f : List ℕ) where
  -- a suspected point is passed over
  points-zero : (xs : List ℕ) (k : ℕ) → k < length xs → value f (get_or xs k 0) ≡ 0 →
      sound_points nim f (drop k xs) ≡ sound_points nim f (drop (suc k) xs)
  unfolding sound_points
  points-zero [] k h z = absurd (omega arith)
  points-zero (x ∷ xs) zero h z = rw (is_zero (value f x) z) refl
  points-zero (x ∷ xs) (suc k) h z = points-zero xs k (omega arith) z

  -- another is kept
  points-some : (xs : List ℕ) (k : ℕ) → k < length xs → value f (get_or xs k 0) ≢ 0 →
      sound_points nim f (drop k xs) ≡ get_or xs k 0 ∷ sound_points nim f (drop (suc k) xs)
  unfolding sound_points
  points-some [] k h z = absurd (omega arith)
  points-some (x ∷ xs) zero h z = rw (is_not_zero (value f x) z) refl
  points-some (x ∷ xs) (suc k) h z = points-some xs k (omega arith) z

  -- the value of a suspected point is passed over
  values-zero : (xs ys : List ℕ) (k : ℕ) → k < length xs → k < length ys → value f (get_or xs k 0) ≡ 0 →
      sound_values nim f (drop k xs) (drop k ys) ≡ sound_values nim f (drop (suc k) xs) (drop (suc k) ys)
  unfolding sound_values
  values-zero [] ys k h e z = absurd (omega arith)
  values-zero (x ∷ xs) [] k h e z = absurd (omega arith)
  values-zero (x ∷ xs) (y ∷ ys) zero h e z = rw (is_zero (value f x) z) refl
  values-zero (x ∷ xs) (y ∷ ys) (suc k) h e z = values-zero xs ys k (omega arith) (omega arith) z

  -- that of another is kept
  values-some : (xs ys : List ℕ) (k : ℕ) → k < length xs → k < length ys → value f (get_or xs k 0) ≢ 0 →
      sound_values nim f (drop k xs) (drop k ys) ≡ get_or ys k 0 ∷ sound_values nim f (drop (suc k) xs)
      (drop (suc k) ys)
  unfolding sound_values
  values-some [] ys k h e z = absurd (omega arith)
  values-some (x ∷ xs) [] k h e z = absurd (omega arith)
  values-some (x ∷ xs) (y ∷ ys) zero h e z = rw (is_not_zero (value f x) z) refl
  values-some (x ∷ xs) (y ∷ ys) (suc k) h e z = values-some xs ys k (omega arith) (omega arith) z

  -- one item more in a buffer
  one_more : (buffer rest whole total : List ℕ) (count a : ℕ) → count < length buffer → rest ≡ a ∷ whole →
      take count buffer ++ rest ≡ total → take (count + 1) (set buffer count a) ++ whole ≡ total
  one_more buffer rest whole total count a lt is sum =
      ap (λ t. t ++ whole) (take_more_set buffer count a lt) ∙ append_assoc (take count buffer) (a ∷ []) whole
      ∙ ap (λ t. take count buffer ++ t) (sym is) ∙ sum

  -- a point that is kept
  pub point_kept : (xs buffer total : List ℕ) (k count x : ℕ) → k < length xs → count < length buffer →
      x ≡ get_or xs k 0 → value f x ≢ 0 → take count buffer ++ sound_points nim f (drop k xs) ≡ total →
      take (count + 1) (set buffer count x) ++ sound_points nim f (drop (k + 1) xs) ≡ total
  point_kept xs buffer total k count x h lt read some sum =
      one_more buffer (sound_points nim f (drop k xs)) (sound_points nim f (drop (k + 1) xs)) total count x lt
      (rw (read, add-one) (points-some xs k h (λ e. some (ap (value f) read ∙ e)))) sum

  -- its value
  pub value_kept : (xs ys buffer total : List ℕ) (k count x y : ℕ) → k < length xs → length xs ≡ length ys →
      count < length buffer → x ≡ get_or xs k 0 → y ≡ get_or ys k 0 →
      value f x ≢ 0 → take count buffer ++ sound_values nim f (drop k xs) (drop k ys) ≡ total →
      take (count + 1) (set buffer count y) ++ sound_values nim f (drop (k + 1) xs) (drop (k + 1) ys) ≡ total
  value_kept xs ys buffer total k count x y h even lt read read_y some sum =
      one_more buffer (sound_values nim f (drop k xs) (drop k ys))
      (sound_values nim f (drop (k + 1) xs) (drop (k + 1) ys)) total count y lt
      (rw (read_y, add-one) (values-some xs ys k h (omega arith) (λ e. some (ap (value f) read ∙ e)))) sum

  -- a point that is passed over
  pub point_passed : (xs start total : List ℕ) (k x : ℕ) → k < length xs → x ≡ get_or xs k 0 → value f x ≡ 0 →
      start ++ sound_points nim f (drop k xs) ≡ total → start ++ sound_points nim f (drop (k + 1) xs) ≡ total
  point_passed xs start total k x h read none sum =
      ap (λ t. start ++ t) (rw add-one (sym (points-zero xs k h (ap (value f) (sym read) ∙ none)))) ∙ sum

  -- its value
  pub value_passed : (xs ys start total : List ℕ) (k x : ℕ) → k < length xs → length xs ≡ length ys →
      x ≡ get_or xs k 0 → value f x ≡ 0 → start ++ sound_values nim f (drop k xs) (drop k ys) ≡ total →
      start ++ sound_values nim f (drop (k + 1) xs) (drop (k + 1) ys) ≡ total
  value_passed xs ys start total k x h even read none sum = ap (λ t. start ++ t)
      (rw add-one (sym (values-zero xs ys k h (omega arith) (ap (value f) (sym read) ∙ none)))) ∙ sum

  points-past : (xs : List ℕ) → xs ≡ [] → sound_points nim f xs ≡ []
  unfolding sound_points
  points-past xs e = rw e refl

  values-past : (xs ys : List ℕ) → xs ≡ [] → sound_values nim f xs ys ≡ []
  unfolding sound_values
  values-past xs ys e = rw e refl

  -- after all points
  pub points_end : (xs start total : List ℕ) (k : ℕ) → length xs ≤ k →
      start ++ sound_points nim f (drop k xs) ≡ total → start ≡ total
  points_end xs start total k h sum =
      sym (append-none start (sound_points nim f (drop k xs)) (points-past (drop k xs) (drop_all k xs h)))
      ∙ sum

  -- after all values
  pub values_end : (xs ys start total : List ℕ) (k : ℕ) → length xs ≤ k →
      start ++ sound_values nim f (drop k xs) (drop k ys) ≡ total → start ≡ total
  values_end xs ys start total k h sum = sym (append-none start (sound_values nim f (drop k xs) (drop k ys))
      (values-past (drop k xs) (drop k ys) (drop_all k xs h))) ∙ sum
