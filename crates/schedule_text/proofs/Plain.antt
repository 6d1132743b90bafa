-- Words without a space and without a newline.
use Rattle.schedule_text.proofs.Words.{◌≡◌, ◌≢◌, ℕ, zero, suc, ◌+◌, ◌/◌, ◌%◌, ◌^◌, ◌<◌, Bool, true, List, [], ◌∷◌, length, get_or, refl, arith, inl, inr, not, length-append, codes, slice_index, IsTrue, AllByRecursion, list_all, decimal, AllDigits, nat_tests, decimal_is_IsNumeral_wide, decimal_by_steps_wide, get_or_append_left, digit_from_value, encode_with, encode_lower, lower_digits, decode_of-encode_lower, length-encode_with, is_master, IsNumberWord, Word, IsNumber, IsHex, IsKey, IsInWord, IsName, hex_of}
use Rattle.std.specs.Prelude.{◌==◌, ◌&&◌, nat_lt}
use Rattle.record_defs.specs.Records.{is_byte}
use Rattle.record_codec.proofs.Takes.{IsBytes-from_all}
use Rattle.schedule_text.proofs.Pieces.{Free}

-- a byte that is no space and no newline, by a test
abbrev is_plain : ℕ → Bool
is_plain b = not (b == 32) && not (b == 10)

abbrev are_plain : List ℕ → Bool
are_plain [] = true
are_plain (b ∷ bytes) = is_plain b && are_plain bytes

-- some bytes that may stand in a word
pub record IsPlain (word : Word) : Type 0 where
  pub some : 0 < length word
  pub no_space : Free 32 word
  pub no_newline : Free 10 word

free_by_test : (word : Word) → are_plain word ≡ true → Free 32 word × Free 10 word
free_by_test [] plain = (tt, tt)
free_by_test (b ∷ word) plain =
    let rest = free_by_test word (grind (arith, nat_tests)) in
    ((grind (arith, nat_tests), rest.0), (grind (arith, nat_tests), rest.1))

-- a word that is written out
pub written : (word : Word) → (nat_lt 0 (length word) && are_plain word) ≡ true → IsPlain word
written word test =
    let free = free_by_test word (grind (arith, nat_tests)) in
    record { some = grind (arith, nat_tests); no_space = free.0; no_newline = free.1 }

-- a name
free_name : (name : List ℕ) → AllByRecursion IsInWord name → Free 32 name × Free 10 name
free_name [] all = (tt, tt)
free_name (b ∷ name) all =
    let rest = free_name name all.1 in
    ((all.0.0, rest.0), (all.0.1, rest.1))

-- a name has no byte that ends a word or a line
pub plain-name : (name : List ℕ) → IsName name → IsPlain name
plain-name name is =
    let free = free_name name is.1 in
    record { some = is.0; no_space = free.0; no_newline = free.1 }

-- ---- numbers

free_digits : (ds : List ℕ) → AllDigits 10 ds → Free 32 ds × Free 10 ds
free_digits [] all = (tt, tt)
free_digits (c ∷ ds) all =
    let rest = free_digits ds all.1 in
    let digit = digit_from_value c all.0 in
    (((λ e. omega (arith, digit, e)), rest.0), ((λ e. omega (arith, digit, e)), rest.1))

-- symbols are within what can be written
abbrev IsSmall : ℕ → Type 0
IsSmall n = n < 2 ^ 128

small_wide : (n : ℕ) → IsSmall n → n < 10 ^ 64
small_wide n small = omega (arith, small)

-- nor has a decimal number
pub plain-decimal : (n : ℕ) → n < 2 ^ 128 → IsPlain (decimal n)
plain-decimal n small =
    let numeral = (decimal_is_IsNumeral_wide n (small_wide n small)).0 in
    let free = free_digits (decimal n) numeral.1 in
    record { some = numeral.0; no_space = free.0; no_newline = free.1 }

-- no leading zero but that of 0
abbrev Leads : ℕ → List ℕ → Type 0
Leads n ds = (0 < length ds) × (0 < n → 48 < get_or ds 0 0) × (n < 10 → length ds ≡ 1)

leading : (n : ℕ) → n < 10 ^ 64 → Leads n (decimal n)
leading n small = decimal_by_steps_wide Leads (λ m few. (omega arith, (λ some. omega arith), (λ few. refl)))
    (λ m ds many so_far. (
      omega (arith, length-append ds ((48 + m % 10) ∷ [])),
      (λ some. omega (
        arith,
        get_or_append_left ds ((48 + m % 10) ∷ []) 0 0 so_far.0,
        so_far.1 (omega arith),
      )),
      (λ few. absurd (omega (arith, few, many))),
    )) n small

number_word-decimal : (n : ℕ) → n < 2 ^ 128 → IsNumberWord (decimal n) n
number_word-decimal n small =
    let wide = small_wide n small in
    let numeral = decimal_is_IsNumeral_wide n wide in
    let leads = leading n wide in
    record {
      numeral = numeral.0;
      leading = λ zero_first. at n (decimal n) leads zero_first;
      value = numeral.1;
      small = small;
    }
  where
    at : (n : ℕ) (ds : List ℕ) → Leads n ds → slice_index ds 0 ≡ 48 → length ds ≡ 1
    at zero ds leads zero_first = leads.2 (omega arith)
    at (suc n) ds leads zero_first = absurd (omega (arith, leads.1 (omega arith), zero_first))

-- the decimal digits of a number spell it
pub number-decimal : (bits n : ℕ) → n < 2 ^ bits → n < 2 ^ 128 → IsNumber bits (decimal n) n
number-decimal bits n fits small = (number_word-decimal n small, fits)

-- ---- bytes

-- the digit of a place in a table of plain bytes
plain_at : (table : List ℕ) (i : ℕ) → are_plain table ≡ true →
    (slice_index table i ≢ 32) × (slice_index table i ≢ 10)
plain_at [] i plain = ((λ e. omega (arith, e)), (λ e. omega (arith, e)))
plain_at (b ∷ table) zero plain = (grind (arith, nat_tests), grind (arith, nat_tests))
plain_at (b ∷ table) (suc i) plain = plain_at table i (grind (arith, nat_tests))

free_encode : (table bytes : List ℕ) → are_plain table ≡ true →
    Free 32 (encode_with table bytes) × Free 10 (encode_with table bytes)
unfolding encode_with
free_encode table [] plain = (tt, tt)
free_encode table (b ∷ bytes) plain =
    let high = plain_at table (b / 16) plain in
    let low = plain_at table (b % 16) plain in
    let rest = free_encode table bytes plain in
    ((high.0, (low.0, rest.0)), (high.1, (low.1, rest.1)))

-- hexadecimal digits have no byte that ends a word or a line
pub plain-encode : (bytes : List ℕ) → 0 < length bytes → IsPlain (encode_lower bytes)
plain-encode bytes some =
    let free = free_encode lower_digits bytes refl in
    record {
      some = omega (arith, length-encode_with lower_digits bytes);
      no_space = free.0;
      no_newline = free.1;
    }

-- nor has the word for bytes, which is `-` for none
pub plain-hex_of : (bytes : List ℕ) → IsPlain (hex_of bytes)
plain-hex_of [] = written (codes "-") refl
plain-hex_of (b ∷ bytes) = plain-encode (b ∷ bytes) (omega arith)

-- the word for bytes spells them
pub hex-hex_of : (bytes : List ℕ) → IsTrue (list_all is_byte bytes) → IsHex (hex_of bytes) bytes
hex-hex_of [] all = inl (refl, refl)
hex-hex_of (b ∷ bytes) all = inr (decode_of-encode_lower (b ∷ bytes) (IsBytes-from_all (b ∷ bytes) all))

-- the hexadecimal digits of a key spell it
pub key-encode : (key : List ℕ) → IsTrue (is_master key) → IsKey (encode_lower key) key
key-encode key is =
    let size : length key ≡ 32 = grind (arith, nat_tests) in
    let all : list_all is_byte key ≡ true = grind (arith, nat_tests) in (
      omega (arith, size, length-encode_with lower_digits key),
      decode_of-encode_lower key (IsBytes-from_all key all),
    )

-- a key has a byte
pub size-master : (key : List ℕ) → IsTrue (is_master key) → 0 < length key
size-master key is =
    let size : length key ≡ 32 = grind (arith, nat_tests) in
    omega (arith, size)
