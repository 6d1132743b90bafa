-- Numbers in decimal and bytes in hexadecimal, read back.
use Rattle.line_laws.proofs.Words.{◌≡◌, ℕ, zero, suc, ◌+◌, ◌/◌, ◌%◌, ◌^◌, ◌<◌, ◌≤◌, Bool, true, false, List, [], ◌∷◌, ◌++◌, drop, get_or, refl, sym, ◌∙◌, ap, arith, inl, inr, ◌⊎◌, if◌then◌else◌, AllByRecursion, decimal, digits, digits_onto, digit_glyph, nat_tests, line, hex_digit, hex, hex_or_dash}
use Rattle.std.proofs.Common.{length}
use Rattle.std.specs.Prelude.{◌==◌}
use Rattle.std.specs.Str.Parse.{digits_value}
use Rattle.std.proofs.Math.Nat.{pow-suc}
use Rattle.std.proofs.lemmas.Bool.{cases_lt, eqb-true}
use Rattle.std.proofs.lemmas.Fmt.{decimal_is_IsNumeral_wide, length-decimal-le}

-- a digit of a number in decimal
abbrev pub IsDigit : ℕ → Type 0
IsDigit c = (48 ≤ c) × (c ≤ 57)

-- ---- numbers of any size

digit : (n : ℕ) → IsDigit (digit_glyph false (n % 10))
digit n = grind (arith, nat_tests)

digits-onto : (k n : ℕ) (acc : List ℕ) → AllByRecursion IsDigit acc →
    AllByRecursion IsDigit (digits_onto k 10 false n acc)
digits-onto zero n acc all = all
digits-onto (suc k) n acc all =
    by (n / 10 == 0) (digits-onto k (n / 10) (digit_glyph false (n % 10) ∷ acc) (digit n, all))
  where
    last : List ℕ
    last = digit_glyph false (n % 10) ∷ acc

    by : (t : Bool) → AllByRecursion IsDigit (digits_onto k 10 false (n / 10) last) →
        AllByRecursion IsDigit (if t then last else digits_onto k 10 false (n / 10) last)
    by true rest = (digit n, all)
    by false rest = rest

-- the digits of any number are digits
pub digits-decimal : (n : ℕ) → AllByRecursion IsDigit (decimal n)
unfolding digits
digits-decimal n = digits-onto 64 n [] tt

ten-pow : (k : ℕ) → 0 < 10 ^ k
ten-pow zero = omega arith
ten-pow (suc k) = omega (arith, ten-pow k, pow-suc 10 k)

-- a number that has more digits than are written has that many
full : (k n : ℕ) (acc : List ℕ) → 10 ^ k ≤ n → length (digits_onto k 10 false n acc) ≡ k + length acc
full zero n acc large = omega arith
full (suc k) n acc large = by (n / 10 == 0) refl
    (full k (n / 10) (digit_glyph false (n % 10) ∷ acc) (omega (arith, large, pow-suc 10 k)))
  where
    last : List ℕ
    last = digit_glyph false (n % 10) ∷ acc

    by : (t : Bool) → (n / 10 == 0) ≡ t →
        length (digits_onto k 10 false (n / 10) last) ≡ k + suc (length acc) →
        length (if t then last else digits_onto k 10 false (n / 10) last) ≡ suc k + length acc
    by true is rest = absurd (omega (arith, eqb-true (n / 10) 0 is, large, pow-suc 10 k, ten-pow k))
    by false is rest = omega (arith, rest)

long : (n : ℕ) → 10 ^ 64 ≤ n → length (decimal n) ≡ 64
unfolding digits
long n large = full 64 n [] large

-- a number in decimal tells the number, where it fits 64 bits
pub decimal-tells : (m n : ℕ) → n < 2 ^ 64 → decimal m ≡ decimal n → m ≡ n
decimal-tells m n small same = by (cases_lt m (10 ^ 64))
  where
    by : (m < 10 ^ 64) ⊎ (10 ^ 64 ≤ m) → m ≡ n
    by (inl few) = sym (decimal_is_IsNumeral_wide m few).1 ∙ ap (digits_value 10) same
        ∙ (decimal_is_IsNumeral_wide n (omega (arith, small))).1
    by (inr many) =
        let short = length-decimal-le 20 n (omega arith) (omega (arith, small)) small in
        absurd (omega (arith, long m many, ap length same, short))

-- no digit stands at the front
abbrev pub IsBehind : List ℕ → Type 0
IsBehind [] = Unit {0}
IsBehind (c ∷ rest) = c < 48

-- the digits in front are told
split : (ds es x y : List ℕ) → AllByRecursion IsDigit ds → AllByRecursion IsDigit es → IsBehind x →
    IsBehind y → ds ++ x ≡ es ++ y → (ds ≡ es) × (x ≡ y)
split [] [] x y all every behind after same = (refl, same)
split [] (e ∷ es) (c ∷ x) y all every behind after same =
    absurd (omega (arith, ap (λ l. get_or l 0 0) same, every.0, behind))
split (d ∷ ds) [] x (c ∷ y) all every behind after same =
    absurd (omega (arith, ap (λ l. get_or l 0 0) same, all.0, after))
split (d ∷ ds) (e ∷ es) x y all every behind after same =
    let rest = split ds es x y all.1 every.1 behind after (ap (drop 1) same) in
    let head : d ≡ e = ap (λ l. get_or l 0 0) same in
    ((λ i. head i ∷ rest.0 i), rest.1)
split ds es x y all every behind after same = grind arith

-- a number in decimal, with no digit behind it, tells the number
pub number-split : (m n : ℕ) (x y : List ℕ) → n < 2 ^ 64 → IsBehind x → IsBehind y →
    decimal m ++ x ≡ decimal n ++ y → (m ≡ n) × (x ≡ y)
number-split m n x y small behind after same =
    let parts = split (decimal m) (decimal n) x y (digits-decimal m) (digits-decimal n) behind after same in
    (decimal-tells m n small parts.0, parts.1)

-- a number that ends a line
pub number-tells : (m n : ℕ) → n < 2 ^ 64 → line (decimal m) ≡ line (decimal n) → m ≡ n
number-tells m n small same = (number-split m n (10 ∷ []) (10 ∷ []) small (omega arith) (omega arith) same).0

-- ---- bytes

hex_digit-tells : (m n : ℕ) → hex_digit m ≡ hex_digit n → m ≡ n
hex_digit-tells m n same = grind (arith, nat_tests)

byte-tells : (a b : ℕ) → hex_digit (a / 16) ≡ hex_digit (b / 16) →
    hex_digit (a % 16) ≡ hex_digit (b % 16) → a ≡ b
byte-tells a b high low =
    omega (arith, hex_digit-tells (a / 16) (b / 16) high, hex_digit-tells (a % 16) (b % 16) low)

hex-tells : (xs ys : List ℕ) → hex xs ≡ hex ys → xs ≡ ys
hex-tells [] [] same = refl
hex-tells (a ∷ xs) (b ∷ ys) same =
    let rest = hex-tells xs ys (ap (drop 2) same) in
    let head = byte-tells a b (ap (λ l. get_or l 0 0) same) (ap (λ l. get_or l 1 0) same) in
    λ i. head i ∷ rest i
hex-tells xs ys same = grind arith

-- bytes in hexadecimal, or a dash for none, tell the bytes
pub bytes-tell : (xs ys : List ℕ) → hex_or_dash xs ≡ hex_or_dash ys → xs ≡ ys
bytes-tell [] [] same = refl
bytes-tell (a ∷ xs) (b ∷ ys) same = hex-tells (a ∷ xs) (b ∷ ys) same
bytes-tell xs ys same = absurd (omega (arith, ap length same))
