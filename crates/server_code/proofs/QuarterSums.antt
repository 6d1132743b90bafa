-- A block is a codeword where the coefficients of its quarters add up to 0.
use Rattle.server_code.proofs.Words.{◌≡◌, ◌≤◌, ◌<◌, ◌+◌, ◌*◌, ◌-◌, ◌++◌, ℕ, zero, suc, true, sym, ap, ap₂, ◌∙◌, refl, arith, add-one, zero-add, zero-mul, suc-mul, List, [], ◌∷◌, length, take, drop, replicate, get_or, length-append, ext_get_or, take_at, drop_at, take_all, length-take-le, length-replicate, take-append-le, drop-append-le, drop-take, drop-drop, take-take, fill_by_all, plus_over, zero_add, zero_mul, add_same, get_or-zeros, value-plus, value-times, length-plus, length-scale, length-times, nim, nim_add, nim_mul, product, nim_laws, nim_ring, value, plus, scale, times, Profile, profile_of, codeword, IsCodeword, places, twiddle, joined, parted, inverse, forward, coefficient_sum, level_of, first_of}
use Rattle.std.proofs.Common.{take-append-drop}
use Rattle.std.proofs.lemmas.List.{length-drop}
use Rattle.server_code.proofs.Halves.{get_or-scale, length-even, length-front, length-back}
use Rattle.server_code.proofs.Basis.{some_places, shat, shat_poly, value-shat, length-shat, are_twiddles, byte_shat, byte_step, basis, basis_poly, basis-suc, basis-scale, length-basis, length-inverse, joined-append, drop-plus, takes_values}
use Rattle.server_code.proofs.Linear.{codeword_of_front}

-- sums of lists
plus-undo : (p q : List ℕ) → length p ≡ length q → plus (plus p q) q ≡ p
unfolding plus_over
plus-undo [] [] even = refl
plus-undo (a ∷ p) (b ∷ q) even =
    let rest = plus-undo p q (omega (arith, even)) in
    cc (nim_ring.add_assoc a b b, nim_ring.add_self b, nim_ring.add_zero a, rest)
plus-undo p q even = absurd (omega (arith, even))

plus-twice : (p q : List ℕ) → length p ≡ length q → plus p (plus p q) ≡ q
unfolding plus_over
plus-twice [] [] even = refl
plus-twice (a ∷ p) (b ∷ q) even = cc (add_same nim_ring a b, plus-twice p q (omega (arith, even)))
plus-twice p q even = absurd (omega (arith, even))

plus-same : (p : List ℕ) → plus p p ≡ replicate (length p) 0
unfolding plus_over
plus-same [] = refl
plus-same (a ∷ p) = cc (nim_ring.add_self a, plus-same p)

plus-assoc : (p q r : List ℕ) → plus (plus p q) r ≡ plus p (plus q r)
unfolding plus_over
plus-assoc [] q r = refl
plus-assoc (a ∷ p) [] r = refl
plus-assoc (a ∷ p) (b ∷ q) [] = refl
plus-assoc (a ∷ p) (b ∷ q) (c ∷ r) = cc (nim_ring.add_assoc a b c, plus-assoc p q r)

plus-zeros : (n : ℕ) (p : List ℕ) → length p ≡ n → plus (replicate n 0) p ≡ p
unfolding plus_over
plus-zeros zero p long = refl
plus-zeros (suc n) [] long = absurd (omega (arith, long))
plus-zeros (suc n) (a ∷ p) long = cc (zero_add nim_ring a, plus-zeros n p (omega (arith, long)))

-- coefficients that are 0 have the value 0
basis-zeros : (i n x : ℕ) → basis i (replicate n 0) x ≡ 0
basis-zeros i n x =
    let zeros = replicate n 0 in
    ap (λ c. basis i c x)
    (ext_get_or 0 zeros (scale 0 zeros) (sym (length-scale nim nim_laws 0 zeros))
    (λ k h. get_or-zeros n k ∙ sym (get_or-scale 0 zeros k ∙ zero_mul nim_ring (get_or zeros k 0))))
    ∙ basis-scale i 0 zeros x ∙ zero_mul nim_ring (basis i zeros x)

-- parting is undone by joining
length-parted : (n c : ℕ) (v : List ℕ) → length v ≡ n + n → length (parted n c v) ≡ n + n
unfolding parted
length-parted n c v long =
    let a = take n v in
    let b = drop n v in
    let low = length-even a (scale c b) n (length-front n v long)
    (length-scale nim nim_laws c b ∙ length-back n v long) in
    let high = length-even (plus a (scale c b)) b n low (length-back n v long) in
    omega (arith, low, high, length-append (plus a (scale c b)) (plus (plus a (scale c b)) b))

joined-parted : (n c : ℕ) (v : List ℕ) → length v ≡ n + n → joined n c (parted n c v) ≡ v
unfolding parted
joined-parted n c v long =
    let a = take n v in
    let b = drop n v in
    let s = scale c b in
    let long_a = length-front n v long in
    let long_b = length-back n v long in
    let long_s = length-scale nim nim_laws c b ∙ long_b in
    let low = length-even a s n long_a long_s in
    let top : plus (plus a s) (plus (plus a s) b) ≡ b = plus-twice (plus a s) b (low ∙ sym long_b) in
    joined-append n c (plus a s) (plus (plus a s) b) low
    ∙ ap (λ t. plus (plus a s) (scale c t) ++ t) top
    ∙ ap (λ t. t ++ b) (plus-undo a s (long_a ∙ sym long_s))
    ∙ take-append-drop n v

-- the transform is undone by its inverse
length-forward : (i h : ℕ) (c : List ℕ) → length c ≡ places i → length (forward i h c) ≡ places i
unfolding forward
length-forward zero h c long = long
length-forward (suc i) h c long =
    let p = parted (places i) (twiddle h) c in
    let long_p = length-parted (places i) (twiddle h) c long in
    let l = length-forward i (2 * h) (take (places i) p) (length-front (places i) p long_p) in
    let r = length-forward i (2 * h + 1) (drop (places i) p) (length-back (places i) p long_p) in
    omega (
      arith,
      l,
      r,
      length-append (forward i (2 * h) (take (places i) p)) (forward i (2 * h + 1) (drop (places i) p)),
    )

inverse-forward : (i h : ℕ) (c : List ℕ) → length c ≡ places i → inverse i h (forward i h c) ≡ c
unfolding inverse forward
inverse-forward zero h c long = refl
inverse-forward (suc i) h c long =
    let n = places i in
    let p = parted n (twiddle h) c in
    let long_p = length-parted n (twiddle h) c long in
    let long_f = length-front n p long_p in
    let long_b = length-back n p long_p in
    let l = forward i (2 * h) (take n p) in
    let r = forward i (2 * h + 1) (drop n p) in
    let long_l = length-forward i (2 * h) (take n p) long_f in
    ap₂ (λ s t. joined n (twiddle h) (inverse i (2 * h) s ++ inverse i (2 * h + 1) t))
    (take_at l r n long_l) (drop_at l r n long_l)
    ∙ ap₂ (λ s t. joined n (twiddle h) (s ++ t)) (inverse-forward i (2 * h) (take n p) long_f)
    (inverse-forward i (2 * h + 1) (drop n p) long_b)
    ∙ ap (joined n (twiddle h)) (take-append-drop n p)
    ∙ joined-parted n (twiddle h) c long

-- quarter q of a block
abbrev quarter : ℕ → ℕ → List ℕ → List ℕ
quarter n q block = take n (drop (q * n) block)

-- a quarter of a block that is long enough
length-quarter : (n q : ℕ) (block : List ℕ) → (q + 1) * n ≤ length block → length (quarter n q block) ≡ n
length-quarter n q block room = length-take-le n (drop (q * n) block)
    (omega (arith, room, length-drop (q * n) block, add-one q, suc-mul q n))

-- as many sums as a quarter has symbols
length-coefficient_sum : (i h q : ℕ) (block : List ℕ) → q * places i ≤ length block →
    length (coefficient_sum i h q block) ≡ places i
unfolding coefficient_sum
length-coefficient_sum i h zero block room = length-replicate (places i) 0
length-coefficient_sum i h (suc q) block room =
    length-even (coefficient_sum i h q block) (inverse i (h + q) (quarter (places i) q block)) (places i)
    (length-coefficient_sum i h q block (omega (arith, room, suc-mul q (places i))))
    (length-inverse i (h + q) (quarter (places i) q block)
    (length-quarter (places i) q block (omega (arith, room, add-one q, suc-mul q (places i)))))

-- the sums look at no further quarter
coefficient_sum-front : (i h q : ℕ) (kept rest : List ℕ) → q * places i ≤ length kept →
    coefficient_sum i h q (kept ++ rest) ≡ coefficient_sum i h q kept
unfolding coefficient_sum
coefficient_sum-front i h zero kept rest room = refl
coefficient_sum-front i h (suc q) kept rest room =
    let n = places i in
    let fits = suc-mul q n in
    ap₂ (λ t s. plus t (inverse i (h + q) s))
    (coefficient_sum-front i h q kept rest (omega (arith, room, fits)))
    (ap (take n) (drop-append-le (q * n) kept rest (omega (arith, room, fits)))
    ∙ take-append-le n (drop (q * n) kept) rest (omega (arith, room, fits, length-drop (q * n) kept)))

-- the sums of a block whose last quarter is made of the others are 0
pub made_zero : (i h q : ℕ) (kept : List ℕ) → length kept ≡ q * places i →
    coefficient_sum i h (q + 1) (kept ++ forward i (h + q) (coefficient_sum i h q kept))
    ≡ replicate (places i) 0
unfolding coefficient_sum
made_zero i h q kept long =
    let n = places i in
    let t = coefficient_sum i h q kept in
    let last = forward i (h + q) t in
    let long_t : length t ≡ n = length-coefficient_sum i h q kept (omega (arith, long)) in
    let long_last : length last ≡ n = length-forward i (h + q) t long_t in
    ap (λ m. coefficient_sum i h m (kept ++ last)) (add-one q)
    ∙ ap₂ (λ a b. plus a (inverse i (h + q) b)) (coefficient_sum-front i h q kept last (omega (arith, long)))
    (ap (take n) (drop_at kept last (q * n) long) ∙ take_all n last (omega (arith, long_last)))
    ∙ ap (plus t) (inverse-forward i (h + q) t long_t)
    ∙ plus-same t
    ∙ ap (λ m. replicate m 0) long_t

-- the second half of the coefficients
top_half : (i h : ℕ) (ys : List ℕ) → length ys ≡ places (suc i) →
    drop (places i) (inverse (suc i) h ys)
    ≡ plus (inverse i (2 * h) (take (places i) ys)) (inverse i (2 * h + 1) (drop (places i) ys))
unfolding inverse
top_half i h ys long =
    let n = places i in
    let l = inverse i (2 * h) (take n ys) in
    let r = inverse i (2 * h + 1) (drop n ys) in
    let long_l = length-inverse i (2 * h) (take n ys) (length-front n ys long) in
    let long_r = length-inverse i (2 * h + 1) (drop n ys) (length-back n ys long) in
    let top = length-even l r n long_l long_r in
    ap (drop n) (joined-append n (twiddle h) l r long_l)
    ∙ drop_at (plus l (scale (twiddle h) (plus l r))) (plus l r) n
    (length-even l (scale (twiddle h) (plus l r)) n long_l
    (length-scale nim nim_laws (twiddle h) (plus l r) ∙ top))

-- the coefficients of a quarter
abbrev quarter_coefficients : ℕ → ℕ → ℕ → List ℕ → List ℕ
quarter_coefficients i g q block = inverse i (g + q) (quarter (places i) q block)

-- four parts
coefficient_sum-four : (i g : ℕ) (block : List ℕ) → places i ≤ length block → coefficient_sum i g 4 block
    ≡ plus (plus (quarter_coefficients i g 0 block) (quarter_coefficients i g 1 block))
    (plus (quarter_coefficients i g 2 block) (quarter_coefficients i g 3 block))
unfolding coefficient_sum
coefficient_sum-four i g block room =
    let first = quarter_coefficients i g 0 block in
    let second = quarter_coefficients i g 1 block in
    let third = quarter_coefficients i g 2 block in
    let fourth = quarter_coefficients i g 3 block in
    ap (λ t. plus (plus (plus t second) third) fourth)
    (plus-zeros (places i) first
    (length-inverse i (g + 0) (quarter (places i) 0 block)
    (length-quarter (places i) 0 block (omega (arith, room)))))
    ∙ plus-assoc (plus first second) third fourth

-- the quarters of the blocks of a profile: their level, and the node over the first
pub record AreQuarters (size keep level first : ℕ) : Type 0 where
  pub size_is : size ≡ 4 * places level
  pub keep_is : keep ≡ 3 * places level
  pub codewords : (profile : Profile) (block : List ℕ) → profile.size ≡ size → profile.keep ≡ keep →
      length block ≡ size → coefficient_sum level first 4 block ≡ replicate (places level) 0 →
      IsCodeword profile block

module _ (i h : ℕ) (profile : Profile) (block : List ℕ) (test : are_twiddles (suc (suc i)) h 0 ≡ true)
    (below : places (suc (suc i)) ≤ 256) (long : length block ≡ places (suc (suc i)))
    (size : profile.size ≡ 4 * places i) (keep : profile.keep ≡ 3 * places i) where
  -- a block of four quarters is a codeword where its coefficients add up to 0
  four_quarters : coefficient_sum i (4 * h) 4 block ≡ replicate (places i) 0 → IsCodeword profile block
  four_quarters zeros = record {
    polynomial = poly;
    degree = omega (arith, keep, short);
    values = fill_by_all (value poly) block profile.size 0 (omega (arith, long, size)) (λ k less.
        sym (takes_values (suc (suc i)) h 0 block k test (omega (arith, below)) long
        (omega (arith, less, size)))
        ∙ ap (basis (suc (suc i)) c) (zero-add k) ∙ value_is k);
  }
    where
      n : ℕ
      n = places i

      m : ℕ
      m = places (suc i)

      c : List ℕ
      c = inverse (suc (suc i)) h block

      low : List ℕ
      low = basis_poly (suc i) (take m c)

      high : List ℕ
      high = basis_poly i (take n (drop m c))

      poly : List ℕ
      poly = plus low (times (shat_poly (suc i)) high)

      short : length poly ≤ 3 * n
      short =
          let some = some_places i in
          let h : length high ≤ suc (n - 1) = omega (arith, length-basis i (take n (drop m c)), some) in
          let of = length-times nim nim_laws (shat_poly (suc i)) high (n - 1) h in
          omega (
            arith,
            of,
            some,
            length-shat (suc i),
            length-basis (suc i) (take m c),
            length-plus nim nim_laws low (times (shat_poly (suc i)) high),
          )

      left : List ℕ
      left = take m block

      right : List ℕ
      right = drop m block

      long_left : length left ≡ n + n
      long_left = length-front m block long

      long_right : length right ≡ n + n
      long_right = length-back m block long

      t0 : quarter_coefficients i (4 * h) 0 block ≡ inverse i (2 * (2 * h)) (take n left)
      t0 = ap₂ (inverse i) (omega arith)
          (ap (λ k. take n (drop k block)) (zero-mul n) ∙ sym (take-take n m block (omega arith)))

      t1 : quarter_coefficients i (4 * h) 1 block ≡ inverse i (2 * (2 * h) + 1) (drop n left)
      t1 =
          let one : 1 * n ≡ n = omega arith in
          ap₂ (inverse i) (omega arith) (ap (λ k. take n (drop k block)) one ∙ sym (drop-take n n block))

      t2 : quarter_coefficients i (4 * h) 2 block ≡ inverse i (2 * (2 * h + 1)) (take n right)
      t2 =
          let two : 2 * n ≡ m = omega arith in
          ap₂ (inverse i) (omega arith) (ap (λ k. take n (drop k block)) two)

      t3 : quarter_coefficients i (4 * h) 3 block ≡ inverse i (2 * (2 * h + 1) + 1) (drop n right)
      t3 =
          let three : 3 * n ≡ m + n = omega arith in
          ap₂ (inverse i) (omega arith)
          (ap (take n) (ap (λ k. drop k block) three ∙ sym (drop-drop n m block))
          ∙ take_all n (drop n right) (omega (arith, length-back n right long_right)))

      top : drop n (drop m c) ≡ replicate n 0
      top = ap (drop n) (top_half (suc i) h block long)
          ∙ drop-plus n (inverse (suc i) (2 * h) left) (inverse (suc i) (2 * h + 1) right)
          ∙ ap₂ plus (top_half i (2 * h) left long_left) (top_half i (2 * h + 1) right long_right)
          ∙ sym (ap₂ plus (ap₂ plus t0 t1) (ap₂ plus t2 t3))
          ∙ sym (coefficient_sum-four i (4 * h) block (omega (arith, long)))
          ∙ zeros

      value_is : (k : ℕ) → basis (suc (suc i)) c k ≡ value poly k
      value_is k = basis-suc (suc i) c k
          ∙ ap (λ s. nim_add (value low k) (nim_mul (shat (suc i) k) s))
          (basis-suc i (drop m c) k
          ∙ ap (nim_add (value high k))
          (ap (nim_mul (shat i k)) (ap (λ t. basis i t k) top ∙ basis-zeros i n k)
          ∙ nim_ring.mul_zero (shat i k))
          ∙ nim_ring.add_zero (value high k))
          ∙ sym (value-plus nim nim_laws low (times (shat_poly (suc i)) high) k
          ∙ ap (nim_add (value low k)) (value-times nim nim_laws (shat_poly (suc i)) high k
          ∙ ap (λ s. nim_mul s (value high k)) (value-shat (suc i) k)))

-- the blocks under a node whose factors pass the test have them
quarters_of : (i h size keep : ℕ) → are_twiddles (suc (suc i)) h 0 ≡ true → places (suc (suc i)) ≤ 256 →
    size ≡ 4 * places i → keep ≡ 3 * places i → AreQuarters size keep i (4 * h)
quarters_of i h size keep test below is_size is_keep = record {
  size_is = is_size;
  keep_is = is_keep;
  codewords = λ profile block s k long. four_quarters i h profile block test below
      (omega (arith, long, is_size)) (s ∙ is_size) (k ∙ is_keep);
}

-- each profile from 2 on has them: the table of factors passes the test at each node over its blocks
pub are_quarters : (number size keep : ℕ) → 1 < number → size ≡ (profile_of number).size →
    keep ≡ (profile_of number).keep → AreQuarters size keep (level_of number) (first_of number)
unfolding product are_twiddles byte_shat byte_step
are_quarters (suc (suc zero)) size keep some = quarters_of 3 4 size keep refl (omega arith)
are_quarters (suc (suc (suc zero))) size keep some = quarters_of 4 2 size keep refl (omega arith)
are_quarters (suc (suc (suc (suc more)))) size keep some = quarters_of 5 1 size keep refl (omega arith)
are_quarters number size keep some = absurd (omega (arith, some))

module _ (profile : Profile) (level first : ℕ) (is : AreQuarters profile.size profile.keep level first) where
  -- kept symbols and what is made of them
  abbrev extended : List ℕ → List ℕ
  extended kept = kept ++ forward level (first + 3) (coefficient_sum level first 3 kept)

  -- they are the codeword
  pub quarters_are_codeword : (kept : List ℕ) → length kept ≡ profile.keep →
      extended kept ≡ codeword profile kept
  quarters_are_codeword kept long =
      codeword_of_front profile (extended kept) (omega (arith, sizes)) is_codeword
      ∙ ap (codeword profile) (take_at kept (forward level (first + 3) sums) profile.keep long)
    where
      sums : List ℕ
      sums = coefficient_sum level first 3 kept

      sizes : profile.size ≡ profile.keep + places level
      sizes = omega (arith, is.size_is, is.keep_is)

      whole : length (extended kept) ≡ profile.size
      whole = omega (
        arith,
        long,
        sizes,
        length-append kept (forward level (first + 3) sums),
        length-forward level (first + 3) sums
            (length-coefficient_sum level first 3 kept (omega (arith, long, is.keep_is))),
      )

      is_codeword : IsCodeword profile (extended kept)
      is_codeword = is.codewords profile (extended kept) refl refl whole
          (made_zero level first 3 kept (long ∙ is.keep_is))

  -- in a codeword the coefficients of the quarters add up to 0
  pub codeword_quarters : (block : List ℕ) → profile.keep ≤ profile.size → length block ≡ profile.size →
      IsCodeword profile block → coefficient_sum level first 4 block ≡ replicate (places level) 0
  codeword_quarters block le long is_codeword = ap (coefficient_sum level first 4)
      (codeword_of_front profile block le is_codeword ∙ sym (quarters_are_codeword kept long_kept))
      ∙ made_zero level first 3 kept (long_kept ∙ is.keep_is)
    where
      kept : List ℕ
      kept = take profile.keep block

      long_kept : length kept ≡ profile.keep
      long_kept = length-take-le profile.keep block (omega (arith, long, le))
