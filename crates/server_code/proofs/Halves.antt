-- Lists of two halves, which a loop makes pair by pair, and sums and multiples of lists.
use Rattle.server_code.proofs.Words.{◌≡◌, ◌≤◌, ◌<◌, ◌+◌, ◌-◌, ◌++◌, ◌⊎◌, inl, inr, ℕ, zero, suc, sym, ap, ap₂, ◌∙◌, refl, arith, List, [], ◌∷◌, length, take, drop, get_or, length-append, ext_get_or, get_or-take, get_or-drop, get_or_append_left, get_or-append_right, length-take-le, cases_lt, plus_over, scale_over, zero_add, length-plus, length-scale, nim, nim_add, nim_mul, nim_laws, nim_ring, plus, scale, joined, parted}
use Rattle.std.proofs.lemmas.List.{length-drop}

-- the sum at a place
pub get_or-plus : (p q : List ℕ) (k : ℕ) → get_or (plus p q) k 0 ≡ nim_add (get_or p k 0) (get_or q k 0)
unfolding plus_over
get_or-plus [] q k = sym (zero_add nim_ring (get_or q k 0))
get_or-plus (a ∷ p) [] zero = sym (nim_ring.add_zero a)
get_or-plus (a ∷ p) [] (suc k) = sym (nim_ring.add_zero (get_or p k 0))
get_or-plus (a ∷ p) (b ∷ q) zero = refl
get_or-plus (a ∷ p) (b ∷ q) (suc k) = get_or-plus p q k

-- the multiple at a place
pub get_or-scale : (c : ℕ) (p : List ℕ) (k : ℕ) → get_or (scale c p) k 0 ≡ nim_mul c (get_or p k 0)
unfolding scale_over
get_or-scale c [] k = sym (nim_ring.mul_zero c)
get_or-scale c (a ∷ p) zero = refl
get_or-scale c (a ∷ p) (suc k) = get_or-scale c p k

-- the sum of lists of one length
pub length-even : (p q : List ℕ) (n : ℕ) → length p ≡ n → length q ≡ n → length (plus p q) ≡ n
length-even p q n a b = omega (arith, a, b, length-plus nim nim_laws p q)

-- the first half
pub length-front : (n : ℕ) (v : List ℕ) → length v ≡ n + n → length (take n v) ≡ n
length-front n v long = length-take-le n v (omega (arith, long))

-- the second half
pub length-back : (n : ℕ) (v : List ℕ) → length v ≡ n + n → length (drop n v) ≡ n
length-back n v long = omega (arith, long, length-drop n v)

-- a list is two halves
by_halves : (n : ℕ) (v xs ys : List ℕ) → length v ≡ n + n → length xs ≡ n → length ys ≡ n →
    ((k : ℕ) → k < n → get_or v k 0 ≡ get_or xs k 0) →
    ((k : ℕ) → k < n → get_or v (n + k) 0 ≡ get_or ys k 0) → v ≡ xs ++ ys
by_halves n v xs ys long long_x long_y low high =
    ext_get_or 0 v (xs ++ ys) (omega (arith, long, long_x, long_y, length-append xs ys))
    (λ i h. at i (omega (arith, h, long)) (cases_lt i n))
  where
    at : (i : ℕ) → i < n + n → (i < n) ⊎ (n ≤ i) → get_or v i 0 ≡ get_or (xs ++ ys) i 0
    at i h (inl l) = low i l ∙ sym (get_or_append_left xs ys 0 i (omega (arith, l, long_x)))
    at i h (inr m) =
        let same : i ≡ n + (i - n) = omega (arith, m) in
        ap (λ j. get_or v j 0) same ∙ high (i - n) (omega (arith, h, m))
        ∙ sym (get_or-append_right xs ys n i 0 long_x m)

-- the first pairs of a list of two halves are done: f of a pair is at its first place, g at its second
pub record AreDone (f g : ℕ → ℕ → ℕ) (n count : ℕ) (old v : List ℕ) : Type 0 where
  pub long : length v ≡ n + n
  pub low : (j : ℕ) → j < count → get_or v j 0 ≡ f (get_or old j 0) (get_or old (n + j) 0)
  pub high : (j : ℕ) → j < count → get_or v (n + j) 0 ≡ g (get_or old j 0) (get_or old (n + j) 0)
  pub low_left : (j : ℕ) → count ≤ j → j < n → get_or v j 0 ≡ get_or old j 0
  pub high_left : (j : ℕ) → count ≤ j → j < n → get_or v (n + j) 0 ≡ get_or old (n + j) 0

-- what is made of a pair by the inverse transform
abbrev pub join_low : ℕ → ℕ → ℕ → ℕ
join_low c a b = nim_add a (nim_mul c (nim_add a b))

abbrev pub join_high : ℕ → ℕ → ℕ
join_high a b = nim_add a b

-- and by the transform
abbrev pub part_low : ℕ → ℕ → ℕ → ℕ
part_low c a b = nim_add a (nim_mul c b)

abbrev pub part_high : ℕ → ℕ → ℕ → ℕ
part_high c a b = nim_add (part_low c a b) b

module _ (n c : ℕ) (old : List ℕ) (long : length old ≡ n + n) where
  abbrev front : List ℕ
  front = take n old

  abbrev back : List ℕ
  back = drop n old

  long_front : length front ≡ n
  long_front = length-front n old long

  long_back : length back ≡ n
  long_back = length-back n old long

  front_at : (k : ℕ) → k < n → get_or front k 0 ≡ get_or old k 0
  front_at k h = get_or-take n old k 0 h

  back_at : (k : ℕ) → get_or back k 0 ≡ get_or old (n + k) 0
  back_at k = get_or-drop n old k 0

  -- all pairs are joined
  pub all_joined : (v : List ℕ) → AreDone (join_low c) join_high n n old v → v ≡ joined n c old
  unfolding joined
  all_joined v done = by_halves n v (plus front (scale c (plus front back))) (plus front back) done.long
      (length-even front (scale c (plus front back)) n long_front
      (length-scale nim nim_laws c (plus front back) ∙ even)) even
      (λ k h. done.low k h ∙ sym (get_or-plus front (scale c (plus front back)) k
      ∙ ap₂ nim_add (front_at k h) (get_or-scale c (plus front back) k
      ∙ ap (nim_mul c) (sum k h))))
      (λ k h. done.high k h ∙ sym (sum k h))
    where
      even : length (plus front back) ≡ n
      even = length-even front back n long_front long_back

      sum : (k : ℕ) → k < n → get_or (plus front back) k 0 ≡ nim_add (get_or old k 0) (get_or old (n + k) 0)
      sum k h = get_or-plus front back k ∙ ap₂ nim_add (front_at k h) (back_at k)

  -- all pairs are parted
  pub all_parted : (v : List ℕ) → AreDone (part_low c) (part_high c) n n old v → v ≡ parted n c old
  unfolding parted
  all_parted v done = by_halves n v low (plus low back) done.long even (length-even low back n even long_back)
      (λ k h. done.low k h ∙ sym (low_at k h))
      (λ k h. done.high k h ∙ sym (get_or-plus low back k ∙ ap₂ nim_add (low_at k h) (back_at k)))
    where
      low : List ℕ
      low = plus front (scale c back)

      even : length low ≡ n
      even = length-even front (scale c back) n long_front (length-scale nim nim_laws c back ∙ long_back)

      low_at : (k : ℕ) → k < n → get_or low k 0 ≡ part_low c (get_or old k 0) (get_or old (n + k) 0)
      low_at k h = get_or-plus front (scale c back) k
          ∙ ap₂ nim_add (front_at k h) (get_or-scale c back k ∙ ap (nim_mul c) (back_at k))

-- a sum by its places
pub plus_by_each : (p q sum : List ℕ) → length q ≡ length p → length sum ≡ length p →
    ((k : ℕ) → k < length p → get_or sum k 0 ≡ nim_add (get_or p k 0) (get_or q k 0)) → sum ≡ plus p q
plus_by_each p q sum even long each =
    ext_get_or 0 sum (plus p q) (long ∙ sym (length-even p q (length p) refl even))
    (λ k h. each k (omega (arith, h, long)) ∙ sym (get_or-plus p q k))
