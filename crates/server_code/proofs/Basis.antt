-- The basis of the additive transform: its coefficients under a node give a polynomial that takes the values.
use Rattle.server_code.proofs.Words.{◌≡◌, ◌≤◌, ◌<◌, ◌+◌, ◌*◌, ◌-◌, ◌++◌, ◌⊎◌, inl, inr, ℕ, zero, suc, Bool, true, ◌&&◌, ◌==◌, sym, ap, ap₂, ◌∙◌, refl, arith, eqb-true, List, [], ◌∷◌, length, take, drop, get_or, bit_xor, length-append, take_at, drop_at, get_or-take, get_or-drop, xor_lt, cases_lt, and_parts, value_over, plus_over, scale_over, solve, v, o, one, ◌⊞◌, ◌⊡◌, value-plus, value-times, length-plus, length-scale, length-times, nim, nim_add, nim_mul, product, nim_laws, nim_ring, nim_mul_at, holds_below, at_each, value, plus, scale, times, places, twiddle, joined, inverse}
use Rattle.hail_field.proofs.Products.{product-lt}
use Rattle.server_code.proofs.Halves.{get_or-plus, get_or-scale, length-even, length-front, length-back}

-- 2^i is not 0
pub some_places : (i : ℕ) → 1 ≤ places i
some_places zero = omega arith
some_places (suc i) = omega (arith, some_places i)

-- one step from a polynomial that vanishes on the points 0 to 2^i - 1 to that of twice as many
abbrev step : ℕ → ℕ
step s = nim_mul s (nim_add s 1)

-- the value of that polynomial, which is 1 at 2^i
pub shat : ℕ → ℕ → ℕ
shat zero x = x
shat (suc i) x = step (shat i x)

-- that polynomial
pub shat_poly : ℕ → List ℕ
shat_poly zero = 0 ∷ 1 ∷ []
shat_poly (suc i) = times (shat_poly i) (plus (shat_poly i) (1 ∷ []))

-- it has the value
pub value-shat : (i x : ℕ) → value (shat_poly i) x ≡ shat i x
unfolding shat shat_poly value_over
value-shat zero x = solve nim_ring (x ∷ []) (o ⊞ (v 0 ⊡ (one ⊞ (v 0 ⊡ o)))) (v 0) refl
value-shat (suc n) x = value-times nim nim_laws (shat_poly n) (plus (shat_poly n) (1 ∷ [])) x
    ∙ ap₂ nim_mul (value-shat n x)
    (value-plus nim nim_laws (shat_poly n) (1 ∷ []) x
    ∙ ap₂ nim_add (value-shat n x) (solve nim_ring (x ∷ []) (one ⊞ (v 0 ⊡ o)) one refl))

-- its degree
pub length-shat : (i : ℕ) → length (shat_poly i) ≤ places i + 1
unfolding shat_poly
length-shat zero = omega arith
length-shat (suc n) =
    let h = length-shat n in
    let one : length (plus (shat_poly n) (1 ∷ [])) ≤ suc (places n) =
    omega (arith, h, some_places n, length-plus nim nim_laws (shat_poly n) (1 ∷ [])) in
    let both = length-times nim nim_laws (shat_poly n) (plus (shat_poly n) (1 ∷ [])) (places n) one in
    omega (arith, h, both)

-- the same value by products of bytes
unfoldable pub byte_step : ℕ → ℕ
byte_step s = product 3 s (bit_xor s 1)

unfoldable pub byte_shat : ℕ → ℕ → ℕ
byte_shat zero x = x
byte_shat (suc i) x = byte_step (byte_shat i x)

-- it is a byte
byte_shat-lt : (i x : ℕ) → x < 256 → byte_shat i x < 256
unfolding byte_shat byte_step
byte_shat-lt zero x h = h
byte_shat-lt (suc i) x h =
    let s = byte_shat-lt i x h in
    product-lt 3 (byte_shat i x) (bit_xor (byte_shat i x) 1) s (xor_lt 8 (byte_shat i x) 1 s (omega arith))

-- and the value
shat_is : (i x : ℕ) → x < 256 → shat i x ≡ byte_shat i x
unfolding shat byte_shat byte_step nim_add
shat_is zero x h = refl
shat_is (suc i) x h =
    let s = byte_shat-lt i x h in
    ap step (shat_is i x h)
    ∙ nim_mul_at 3 (byte_shat i x) (bit_xor (byte_shat i x) 1) s (xor_lt 8 (byte_shat i x) 1 s (omega arith))

-- under a node of 2^i points from b on, each factor is the value at all points of its node's first half, and
-- one more than it is the value at those of the second half
unfoldable pub are_twiddles : ℕ → ℕ → ℕ → Bool
are_twiddles zero h b = true
are_twiddles (suc i) h b = (holds_below (places i) (λ k. byte_shat i (b + k) == twiddle h) && holds_below
    (places i) (λ k. byte_shat i (b + places i + k) == bit_xor (twiddle h) 1)) &&
    (are_twiddles i (2 * h) b && are_twiddles i (2 * h + 1) (b + places i))

-- the polynomial of coefficients
pub basis_poly : ℕ → List ℕ → List ℕ
basis_poly zero c = get_or c 0 0 ∷ []
basis_poly (suc i) c =
    plus (basis_poly i (take (places i) c)) (times (shat_poly i) (basis_poly i (drop (places i) c)))

-- its value
abbrev pub basis : ℕ → List ℕ → ℕ → ℕ
basis i c x = value (basis_poly i c) x

basis-zero : (c : List ℕ) (x : ℕ) → basis zero c x ≡ get_or c 0 0
unfolding basis_poly value_over
basis-zero c x = solve nim_ring (get_or c 0 0 ∷ x ∷ []) (v 0 ⊞ (v 1 ⊡ o)) (v 0) refl

pub basis-suc : (i : ℕ) (c : List ℕ) (x : ℕ) →
    basis (suc i) c x ≡ nim_add (basis i (take (places i) c) x)
    (nim_mul (shat i x) (basis i (drop (places i) c) x))
unfolding basis_poly
basis-suc i c x =
    let low = basis_poly i (take (places i) c) in
    let high = basis_poly i (drop (places i) c) in
    value-plus nim nim_laws low (times (shat_poly i) high) x
    ∙ ap (nim_add (value low x)) (value-times nim nim_laws (shat_poly i) high x
    ∙ ap (λ s. nim_mul s (value high x)) (value-shat i x))

-- its degree
pub length-basis : (i : ℕ) (c : List ℕ) → length (basis_poly i c) ≤ places i
unfolding basis_poly
length-basis zero c = omega arith
length-basis (suc n) c =
    let low = basis_poly n (take (places n) c) in
    let high = basis_poly n (drop (places n) c) in
    let some = some_places n in
    let h : length low ≤ places n = length-basis n (take (places n) c) in
    let e : length high ≤ places n = length-basis n (drop (places n) c) in
    let within : length high ≤ suc (places n - 1) = omega (arith, e, some) in
    let of : length (times (shat_poly n) high) ≤ length (shat_poly n) + (places n - 1) =
    length-times nim nim_laws (shat_poly n) high (places n - 1) within in
    omega (arith, h, of, some, length-shat n, length-plus nim nim_laws low (times (shat_poly n) high))

-- sums and multiples of halves
take-plus : (n : ℕ) (p q : List ℕ) → take n (plus p q) ≡ plus (take n p) (take n q)
unfolding plus_over
take-plus zero p q = refl
take-plus (suc n) [] q = refl
take-plus (suc n) (a ∷ p) [] = refl
take-plus (suc n) (a ∷ p) (b ∷ q) = ap (λ t. nim_add a b ∷ t) (take-plus n p q)

plus-nil : (p : List ℕ) → plus p [] ≡ p
unfolding plus_over
plus-nil [] = refl
plus-nil (a ∷ p) = refl

pub drop-plus : (n : ℕ) (p q : List ℕ) → drop n (plus p q) ≡ plus (drop n p) (drop n q)
unfolding plus_over
drop-plus zero p q = refl
drop-plus (suc n) [] q = refl
drop-plus (suc n) (a ∷ p) [] = sym (plus-nil (drop n p))
drop-plus (suc n) (a ∷ p) (b ∷ q) = drop-plus n p q

take-scale : (n c : ℕ) (p : List ℕ) → take n (scale c p) ≡ scale c (take n p)
unfolding scale_over
take-scale zero c p = refl
take-scale (suc n) c [] = refl
take-scale (suc n) c (a ∷ p) = ap (λ t. nim_mul c a ∷ t) (take-scale n c p)

drop-scale : (n c : ℕ) (p : List ℕ) → drop n (scale c p) ≡ scale c (drop n p)
unfolding scale_over
drop-scale zero c p = refl
drop-scale (suc n) c [] = refl
drop-scale (suc n) c (a ∷ p) = drop-scale n c p

-- the value is linear
pub basis-plus : (i : ℕ) (p q : List ℕ) (x : ℕ) → basis i (plus p q) x ≡ nim_add (basis i p x) (basis i q x)
basis-plus zero p q x =
    basis-zero (plus p q) x ∙ get_or-plus p q 0 ∙ sym (ap₂ nim_add (basis-zero p x) (basis-zero q x))
basis-plus (suc n) p q x =
    let p0 = take (places n) p in
    let p1 = drop (places n) p in
    let q0 = take (places n) q in
    let q1 = drop (places n) q in
    basis-suc n (plus p q) x
    ∙ ap₂ nim_add (ap (λ c. basis n c x) (take-plus (places n) p q) ∙ basis-plus n p0 q0 x)
    (ap (nim_mul (shat n x)) (ap (λ c. basis n c x) (drop-plus (places n) p q) ∙ basis-plus n p1 q1 x))
    ∙ solve nim_ring (basis n p0 x ∷ basis n q0 x ∷ shat n x ∷ basis n p1 x ∷ basis n q1 x ∷ [])
    ((v 0 ⊞ v 1) ⊞ (v 2 ⊡ (v 3 ⊞ v 4))) ((v 0 ⊞ (v 2 ⊡ v 3)) ⊞ (v 1 ⊞ (v 2 ⊡ v 4))) refl
    ∙ sym (ap₂ nim_add (basis-suc n p x) (basis-suc n q x))

pub basis-scale : (i c : ℕ) (p : List ℕ) (x : ℕ) → basis i (scale c p) x ≡ nim_mul c (basis i p x)
basis-scale zero c p x = basis-zero (scale c p) x ∙ get_or-scale c p 0 ∙ sym (ap (nim_mul c) (basis-zero p x))
basis-scale (suc n) c p x =
    let p0 = take (places n) p in
    let p1 = drop (places n) p in
    basis-suc n (scale c p) x
    ∙ ap₂ nim_add (ap (λ t. basis n t x) (take-scale (places n) c p) ∙ basis-scale n c p0 x)
    (ap (nim_mul (shat n x)) (ap (λ t. basis n t x) (drop-scale (places n) c p) ∙ basis-scale n c p1 x))
    ∙ solve nim_ring (basis n p0 x ∷ shat n x ∷ basis n p1 x ∷ c ∷ [])
    ((v 3 ⊡ v 0) ⊞ (v 1 ⊡ (v 3 ⊡ v 2))) (v 3 ⊡ (v 0 ⊞ (v 1 ⊡ v 2))) refl
    ∙ sym (ap (nim_mul c) (basis-suc n p x))

-- as many coefficients as values
pub length-joined : (n c : ℕ) (ys : List ℕ) → length ys ≡ n + n → length (joined n c ys) ≡ n + n
unfolding joined
length-joined n c ys long =
    let a = take n ys in
    let b = drop n ys in
    let even = length-even a b n (length-front n ys long) (length-back n ys long) in
    let low = length-even a (scale c (plus a b)) n (length-front n ys long)
    (length-scale nim nim_laws c (plus a b) ∙ even) in
    omega (arith, even, low, length-append (plus a (scale c (plus a b))) (plus a b))

pub length-inverse : (i h : ℕ) (ys : List ℕ) → length ys ≡ places i → length (inverse i h ys) ≡ places i
unfolding inverse
length-inverse zero h ys long = long
length-inverse (suc i) h ys long =
    let l = inverse i (2 * h) (take (places i) ys) in
    let r = inverse i (2 * h + 1) (drop (places i) ys) in
    let long_l = length-inverse i (2 * h) (take (places i) ys) (length-front (places i) ys long) in
    let long_r = length-inverse i (2 * h + 1) (drop (places i) ys) (length-back (places i) ys long) in
    length-joined (places i) (twiddle h) (l ++ r) (omega (arith, long_l, long_r, length-append l r))

-- the halves of the coefficients of two lists, one after the other
pub joined-append : (n c : ℕ) (l r : List ℕ) → length l ≡ n →
    joined n c (l ++ r) ≡ plus l (scale c (plus l r)) ++ plus l r
unfolding joined
joined-append n c l r long =
    ap₂ (λ a b. plus a (scale c (plus a b)) ++ plus a b) (take_at l r n long) (drop_at l r n long)

-- what are_twiddles says of a node and of those below
module _ (i h b : ℕ) (test : are_twiddles (suc i) h b ≡ true) (below : b + places (suc i) ≤ 256) where
  pub left_twiddles : are_twiddles i (2 * h) b ≡ true
  unfolding are_twiddles
  left_twiddles = (and_parts _ _ (and_parts _ _ test).1).0

  pub right_twiddles : are_twiddles i (2 * h + 1) (b + places i) ≡ true
  unfolding are_twiddles
  right_twiddles = (and_parts _ _ (and_parts _ _ test).1).1

  pub left_is : (k : ℕ) → k < places i → shat i (b + k) ≡ twiddle h
  unfolding are_twiddles
  left_is k l =
      let each = (and_parts _ _ (and_parts _ _ test).0).0 in
      shat_is i (b + k) (omega (arith, l, below))
      ∙ eqb-true _ _ (at_each (places i) (λ k. byte_shat i (b + k) == twiddle h) each k l)

  pub right_is : (k : ℕ) → k < places i → shat i (b + places i + k) ≡ nim_add (twiddle h) 1
  unfolding nim_add are_twiddles
  right_is k l = shat_is i (b + places i + k) (omega (arith, l, below))
      ∙ eqb-true _ _ (at_each (places i) (λ k. byte_shat i (b + places i + k) == bit_xor (twiddle h) 1)
      (and_parts _ _ (and_parts _ _ test).0).1 k l)

-- the polynomial of the coefficients takes the values
pub takes_values : (i h b : ℕ) (ys : List ℕ) (k : ℕ) → are_twiddles i h b ≡ true → b + places i ≤ 256 →
    length ys ≡ places i → k < places i → basis i (inverse i h ys) (b + k) ≡ get_or ys k 0
unfolding inverse
takes_values zero h b ys k test below long l =
    let none : k ≡ 0 = omega (arith, l) in basis-zero ys (b + k) ∙ ap (λ j. get_or ys j 0) (sym none)
takes_values (suc n) h b ys k test below long l = at (cases_lt k (places n))
    (λ less. takes_values n (2 * h) b (take (places n) ys) k (left_twiddles n h b test below)
    (omega (arith, below)) (length-front (places n) ys long) less)
    (λ less. takes_values n (2 * h + 1) (b + places n) (drop (places n) ys) (k - places n)
    (right_twiddles n h b test below) (omega (arith, below)) (length-back (places n) ys long) less)
  where
    m : ℕ
    m = places n

    left : List ℕ
    left = inverse n (2 * h) (take m ys)

    right : List ℕ
    right = inverse n (2 * h + 1) (drop m ys)

    top : List ℕ
    top = plus left right

    low : List ℕ
    low = plus left (scale (twiddle h) top)

    all : List ℕ
    all = joined m (twiddle h) (left ++ right)

    long_left : length left ≡ m
    long_left = length-inverse n (2 * h) (take m ys) (length-front m ys long)

    long_right : length right ≡ m
    long_right = length-inverse n (2 * h + 1) (drop m ys) (length-back m ys long)

    long_top : length top ≡ m
    long_top = length-even left right m long_left long_right

    long_low : length low ≡ m
    long_low = length-even left (scale (twiddle h) top) m long_left
        (length-scale nim nim_laws (twiddle h) top ∙ long_top)

    all_is : all ≡ low ++ top
    all_is = joined-append m (twiddle h) left right long_left

    value_is : (x s : ℕ) → shat n x ≡ s → basis (suc n) all x ≡ nim_add
        (nim_add (basis n left x) (nim_mul (twiddle h) (nim_add (basis n left x) (basis n right x))))
        (nim_mul s (nim_add (basis n left x) (basis n right x)))
    value_is x s factor = basis-suc n all x
        ∙ ap₂ (λ a b. nim_add (basis n a x) (nim_mul (shat n x) (basis n b x)))
        (ap (take m) all_is ∙ take_at low top m long_low) (ap (drop m) all_is ∙ drop_at low top m long_low)
        ∙ ap₂ nim_add
        (basis-plus n left (scale (twiddle h) top) x
        ∙ ap (nim_add (basis n left x)) (basis-scale n (twiddle h) top x
        ∙ ap (nim_mul (twiddle h)) (basis-plus n left right x)))
        (ap₂ nim_mul factor (basis-plus n left right x))

    at : (k < m) ⊎ (m ≤ k) → (k < m → basis n left (b + k) ≡ get_or (take m ys) k 0) →
        (k - m < m → basis n right (b + m + (k - m)) ≡ get_or (drop m ys) (k - m) 0) →
        basis (suc n) all (b + k) ≡ get_or ys k 0
    at (inl less) low_part high_part =
        let x = b + k in
        value_is x (twiddle h) (left_is n h b test below k less)
        ∙ solve nim_ring (basis n left x ∷ twiddle h ∷ basis n right x ∷ [])
        ((v 0 ⊞ (v 1 ⊡ (v 0 ⊞ v 2))) ⊞ (v 1 ⊡ (v 0 ⊞ v 2))) (v 0) refl
        ∙ low_part less
        ∙ get_or-take m ys k 0 less
    at (inr more) low_part high_part =
        let x = b + k in
        let j = k - m in
        let place : b + k ≡ b + m + j = omega (arith, more) in
        let index : m + j ≡ k = omega (arith, more) in
        let less : j < m = omega (arith, more, l) in
        value_is x (nim_add (twiddle h) 1) (ap (shat n) place ∙ right_is n h b test below j less)
        ∙ solve nim_ring (basis n left x ∷ twiddle h ∷ basis n right x ∷ [])
        ((v 0 ⊞ (v 1 ⊡ (v 0 ⊞ v 2))) ⊞ ((v 1 ⊞ one) ⊡ (v 0 ⊞ v 2))) (v 2) refl
        ∙ ap (basis n right) place
        ∙ high_part less
        ∙ get_or-drop m ys j 0 ∙ ap (λ t. get_or ys t 0) index
