-- The subfield of 256 acts on each byte of a number by itself
use Rattle.hail_field.proofs.Words.{◌≡◌, ℕ, zero, suc, ◌+◌, ◌-◌, ◌*◌, ◌/◌, ◌%◌, ◌^◌, ◌<◌, ◌≤◌, inl, inr, refl, sym, ap, ap₂, ◌∙◌, arith, map, pow-add, pow-suc, mul_assoc, div-one, mod-eq_of_lt, zero-add, ◌∷◌, w128, byte_at, bytes_low_first, to_le_bytes, from_le_bytes, xor_zero_r, div-div-eq-div-mul, add-mul-div_right, add-mul-mod_self_right, div-eq_of_lt, shr_split, mod_below, cases_lt, product, width, nim_mul}
use Rattle.hail_field.proofs.Joined.{high-lt, low-lt}
use Rattle.hail_field.proofs.Products.{product_step, product-lt, product_zero, half-lt}
use Rattle.hail_field.proofs.AllNumbers.{nim_mul_at, nim_mul-lt}
use Rattle.hail_field.proofs.Bytes.{positive, byte_at_is, from_to}

-- a factor of half the width acts on both halves
pub product_of_half : (k a c : ℕ) → a < 2 ^ width (suc k) → c < 2 ^ width k →
    product (suc k) a c ≡ product k (a / 2 ^ width k) c * 2 ^ width k + product k (a % 2 ^ width k) c
product_of_half k a c ha hc =
    let y = 2 ^ width k in
    let c1 : c / y ≡ 0 = div-eq_of_lt hc in
    let c0 : c % y ≡ c = mod-eq_of_lt hc in
    product_step k a c
    ∙ rw (c1, c0) (simp (product_zero k, high-lt k a ha, low-lt k a, half-lt k, xor_zero_r) refl)

-- a byte of the low part of a number
byte_of_low : (m i h l : ℕ) → i < m → (h * 256 ^ m + l) / 256 ^ i % 256 ≡ l / 256 ^ i % 256
byte_of_low m i h l less =
    let below : ℕ = m - suc i in
    let split : 256 ^ m ≡ 256 ^ below * 256 * 256 ^ i =
    ap (λ n. 256 ^ n) (let e : m ≡ suc below + i = omega arith in e) ∙ pow-add 256 (suc below) i
    ∙ ap (λ n. n * 256 ^ i) (pow-suc 256 below) in
    ap (λ n. n / 256 ^ i % 256) (let e : h * 256 ^ m + l ≡ l + h * 256 ^ m = omega arith in e
    ∙ ap (λ n. l + h * n) split ∙ ap (λ n. l + n) (sym (mul_assoc h (256 ^ below * 256) (256 ^ i))))
    ∙ ap (λ n. n % 256) (add-mul-div_right l (h * (256 ^ below * 256)) (positive i)
    ∙ ap (λ n. l / 256 ^ i + n) (sym (mul_assoc h (256 ^ below) 256)))
    ∙ add-mul-mod_self_right (l / 256 ^ i) (h * 256 ^ below) 256

-- the high part of a number
high_part : (m h l : ℕ) → l < 256 ^ m → (h * 256 ^ m + l) / 256 ^ m ≡ h
high_part m h l less = ap (λ n. n / 256 ^ m) (let e : h * 256 ^ m + l ≡ l + h * 256 ^ m = omega arith in e)
    ∙ add-mul-div_right l h (positive m) ∙ ap (λ n. n + h) (div-eq_of_lt less) ∙ zero-add h

-- a byte above the lowest m is one of the number without those
byte_above : (m i n : ℕ) → m ≤ i → n / 256 ^ i % 256 ≡ n / 256 ^ m / 256 ^ (i - m) % 256
byte_above m i n more = ap (λ d. n / d % 256) (ap (λ j. 256 ^ j) (let e : i ≡ m + (i - m) = omega arith in e)
    ∙ pow-add 256 m (i - m))
    ∙ ap (λ n. n % 256) (sym (div-div-eq-div-mul n (256 ^ m) (256 ^ (i - m))))

-- the factor acts on the m bytes of each number of level k
abbrev ActsOn : ℕ → ℕ → ℕ → Type 0
ActsOn c k m = (a i : ℕ) → a < 2 ^ width k → i < m →
    product k a c / 256 ^ i % 256 ≡ product 3 (a / 256 ^ i % 256) c

-- at twice the width
acts_on_halves : (c k m : ℕ) → c < 2 ^ width k → 2 ^ width k ≡ 256 ^ m → ActsOn c k m →
    ActsOn c (suc k) (m + m)
acts_on_halves c k m hc same acts a i ha hi =
    let y = 2 ^ width k in
    let high = high-lt k a ha in
    let low = low-lt k a in
    let h = product k (a / y) c in
    let l = product k (a % y) c in
    let whole : product (suc k) a c ≡ h * 256 ^ m + l = product_of_half k a c ha hc
    ∙ ap (λ n. h * n + l) same in
    let parts : a / y * 256 ^ m + a % y ≡ a = ap (λ n. a / y * n + a % y) (sym same)
    ∙ shr_split a (width k) in
    let upper : a / y ≡ a / 256 ^ m = ap (λ n. a / n) same in
    let small : l < 256 ^ m = rw (← same) (product-lt k (a % y) c low hc) in
    elim (cases_lt i m) [
      | inl less ↦ ap (λ n. n / 256 ^ i % 256) whole ∙ byte_of_low m i h l less ∙ acts (a % y) i low less
          ∙ ap (λ n. product 3 n c) (sym (byte_of_low m i (a / y) (a % y) less)
          ∙ ap (λ n. n / 256 ^ i % 256) parts)
      | inr more ↦ ap (λ n. n / 256 ^ i % 256) whole ∙ byte_above m i (h * 256 ^ m + l) more
          ∙ ap (λ n. n / 256 ^ (i - m) % 256) (high_part m h l small)
          ∙ acts (a / y) (i - m) high (omega arith)
          ∙ ap (λ n. product 3 n c) (ap (λ n. n / 256 ^ (i - m) % 256) upper ∙ sym (byte_above m i a more))
    ]

-- at the width of a byte
acts_on_byte : (c : ℕ) → c < 256 → ActsOn c 3 1
acts_on_byte c hc a i ha hi =
    let first : i ≡ 0 = omega arith in
    let byte : (n : ℕ) → n < 256 → n / 256 ^ i % 256 ≡ n = λ n h. ap (λ j. n / 256 ^ j % 256) first
    ∙ ap (λ d. d % 256) (div-one n) ∙ mod-eq_of_lt h in
    byte (product 3 a c) (product-lt 3 a c ha hc) ∙ ap (λ n. product 3 n c) (sym (byte a ha))

-- at the width of a symbol
acts_on_symbol : (c : ℕ) → c < 256 → ActsOn c 7 16
acts_on_symbol c hc = acts_on_halves c 6 8 (omega arith) refl (acts_on_halves c 5 4 (omega arith) refl
    (acts_on_halves c 4 2 (omega arith) refl (acts_on_halves c 3 1 hc refl (acts_on_byte c hc))))

-- bytes that are each the image of a byte
map-bytes_low_first : (f : ℕ → ℕ) (i k n m : ℕ) → ((j : ℕ) → j < i + k → byte_at j m ≡ f (byte_at j n)) →
    bytes_low_first i k m ≡ map f (bytes_low_first i k n)
map-bytes_low_first f i zero n m h = refl
map-bytes_low_first f i (suc k) n m h =
    ap₂ ◌∷◌ (h i (omega arith)) (map-bytes_low_first f (suc i) k n m (λ j less. h j (omega arith)))

-- the bytes of the product by a number below 256 are the products of the bytes
pub bytes_of_product : (a c : ℕ) → a < 2 ^ 128 → c < 256 →
    to_le_bytes w128 (nim_mul a c) ≡ map (λ byte. nim_mul byte c) (to_le_bytes w128 a)
bytes_of_product a c ha hc =
    map-bytes_low_first (λ byte. nim_mul byte c) 0 16 a (nim_mul a c) (λ j less. byte_at_is j (nim_mul a c)
    ∙ ap (λ n. n / 256 ^ j % 256) (nim_mul_at 7 a c ha (omega arith))
    ∙ acts_on_symbol c hc a j ha (omega arith)
    ∙ sym (nim_mul_at 3 (a / 256 ^ j % 256) c (mod_below (a / 256 ^ j) 256 (omega arith)) hc)
    ∙ ap (λ n. nim_mul n c) (sym (byte_at_is j a)))

-- so the product is the number of those bytes
pub product_by_bytes : (a c : ℕ) → a < 2 ^ 128 → c < 256 →
    nim_mul a c ≡ from_le_bytes w128 (map (λ byte. nim_mul byte c) (to_le_bytes w128 a))
product_by_bytes a c ha hc = sym (from_to (nim_mul a c) (nim_mul-lt 7 a c ha (omega arith)))
    ∙ ap (from_le_bytes w128) (bytes_of_product a c ha hc)
