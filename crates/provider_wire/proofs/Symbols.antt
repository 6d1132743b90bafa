-- The bytes of symbols, one after the other, and the symbols of bytes.
use Rattle.provider_wire.proofs.Words.{◌≡◌, ℕ, zero, suc, ◌+◌, ◌*◌, ◌<◌, ◌≤◌, ◌^◌, List, [], ◌∷◌, ◌++◌, length, take, drop, get_or, set, refl, sym, ap, ◌∙◌, arith, append_assoc, add-one, length-append, length-take, length-drop, take-append-drop, mul-le-mul_right, le_of_suc-le-suc, pow-suc, Bool, true, false, nat_lt, ◌&&◌, list_all, w128, to_le_bytes, from_le_bytes, sum_through, byte_worth, take-add, take-suc, drop-cons, take_more_set, take_all, take_at, drop_at, length-take-le, list_all-append, lt-ltb, nat_tests, bytes_of_symbols, bytes_of_symbols-push, bytes_of_symbols-more, length-bytes_of_symbols, IsBytes, IsBytes-take, IsBytes-drop, IsWide, symbols_read}
use Rattle.std.proofs.lemmas.Grind.{flat_map-append}
use Rattle.hail_field.proofs.Bytes.{from_to, to_from}

-- one symbol more was pushed
pub pushed_more : (first mid now symbols piece : List ℕ) (i x : ℕ) → i < length symbols →
    x ≡ get_or symbols i x → piece ≡ to_le_bytes w128 x → mid ≡ first ++ bytes_of_symbols (take i symbols) →
    now ≡ mid ++ piece → now ≡ first ++ bytes_of_symbols (take (i + 1) symbols)
pushed_more first mid now symbols piece i x less is piece_is so_far more =
    more ∙ (λ k. so_far k ++ piece_is k)
    ∙ append_assoc first (bytes_of_symbols (take i symbols)) (to_le_bytes w128 x)
    ∙ ap (λ (l : List ℕ). first ++ l) (sym (bytes_of_symbols-more symbols i x less is))

-- how long the symbols so far are
pub length-front : (symbols : List ℕ) (i : ℕ) → i ≤ length symbols →
    length (bytes_of_symbols (take i symbols)) ≡ 16 * i
length-front symbols i within =
    length-bytes_of_symbols (take i symbols) ∙ ap (λ (n : ℕ). 16 * n) (length-take-le i symbols within)

-- one symbol more was taken
pub took_more : (bytes out : List ℕ) (k n symbol : ℕ) → k < length out → n ≡ 16 →
    symbol ≡ from_le_bytes w128 (take n (drop (16 * k) bytes)) →
    take k out ≡ symbols_read k bytes → take (k + 1) (set out k symbol) ≡ symbols_read (k + 1) bytes
unfolding symbols_read
took_more bytes out k n symbol below wide e before = take_more_set out k symbol below
    ∙ (λ i. before i ++ (e ∙ ap (λ (m : ℕ). from_le_bytes w128 (take m (drop (16 * k) bytes))) wide) i ∷ [])
    ∙ ap (λ (m : ℕ). symbols_read m bytes) (sym (add-one k))

-- bytes make a number below the next power of 256
sum-lt : (bs : List ℕ) → IsBytes bs → (k : ℕ) →
    sum_through (λ i. byte_worth i (get_or bs i 0)) k < 256 ^ suc k
sum-lt bs small zero = small 0
sum-lt bs small (suc k) =
    let p = 256 ^ suc k in
    let top : get_or bs (suc k) 0 * p ≤ 255 * p = mul-le-mul_right p (le_of_suc-le-suc (small (suc k))) in
    let below : sum_through (λ i. byte_worth i (get_or bs i 0)) k < p = sum-lt bs small k in
    let size : 256 ^ suc (suc k) ≡ p * 256 = pow-suc 256 (suc k) in
    rw size (omega (arith, top, below))

wide128 : IsWide w128 (2 ^ 128)
wide128 = record {
  len = λ n. refl;
  back = λ bytes len fits. to_from bytes len fits;
  again = λ n lt. from_to n lt;
  below = λ bytes fits. sum-lt bytes fits 15;
}

-- the symbols of bytes have these bytes
pub bytes-symbols : (n : ℕ) (bytes : List ℕ) → 16 * n ≤ length bytes → IsBytes bytes →
    bytes_of_symbols (symbols_read n bytes) ≡ take (16 * n) bytes
unfolding symbols_read
bytes-symbols zero bytes long fits = refl
bytes-symbols (suc n) bytes long fits =
    let part = take 16 (drop (16 * n) bytes) in
    bytes_of_symbols-push (symbols_read n bytes) (from_le_bytes w128 part)
    ∙ (λ i. bytes-symbols n bytes (omega arith) fits i ++ to_from part
    (omega (arith, length-take 16 (drop (16 * n) bytes), length-drop (16 * n) bytes))
    (IsBytes-take 16 (drop (16 * n) bytes) (IsBytes-drop (16 * n) bytes fits)) i)
    ∙ sym (take-add (16 * n) 16 bytes)
    ∙ ap (λ m. take m bytes) (omega arith)

-- as many symbols are read as were asked for
pub length-symbols : (n : ℕ) (bytes : List ℕ) → length (symbols_read n bytes) ≡ n
unfolding symbols_read
length-symbols zero bytes = refl
length-symbols (suc n) bytes =
    let x = from_le_bytes w128 (take 16 (drop (16 * n) bytes)) in
    let e = length-append (symbols_read n bytes) (x ∷ []) in
    let rest = length-symbols n bytes in
    let is : length (symbols_read n bytes ++ x ∷ []) ≡ suc n = omega (arith, e, rest) in is

-- symbols that are read from bytes are below 2^128
pub symbols_small : (n : ℕ) (bytes : List ℕ) → IsBytes bytes →
    list_all (λ symbol. nat_lt symbol (2 ^ 128)) (symbols_read n bytes) ≡ true
unfolding symbols_read
symbols_small zero bytes fits = refl
symbols_small (suc n) bytes fits =
    let part = take 16 (drop (16 * n) bytes) in
    let x = from_le_bytes w128 part in
    list_all-append (λ symbol. nat_lt symbol (2 ^ 128)) (symbols_read n bytes) (x ∷ [])
    ∙ (λ i. symbols_small n bytes fits i && ((lt-ltb _ _
    (wide128.below part (IsBytes-take 16 (drop (16 * n) bytes) (IsBytes-drop (16 * n) bytes fits)))) i && true))

-- the bytes of symbols from one on
bytes-split : (block : List ℕ) (k : ℕ) → k < length block →
    bytes_of_symbols block
    ≡ bytes_of_symbols (take k block) ++ (to_le_bytes w128 (get_or block k 0) ++ bytes_of_symbols
    (drop (suc k) block))
bytes-split block k below = ap bytes_of_symbols (sym (take-append-drop k block))
    ∙ flat_map-append (to_le_bytes w128) (take k block) (drop k block)
    ∙ ap (λ (l : List ℕ). bytes_of_symbols (take k block) ++ bytes_of_symbols l) (drop-cons block k 0 below)

small_at : (block : List ℕ) (k : ℕ) → k < length block →
    list_all (λ symbol. nat_lt symbol (2 ^ 128)) block ≡ true → get_or block k 0 < 2 ^ 128
small_at [] k below all = absurd (omega arith)
small_at (x ∷ block) zero below all = grind (arith, nat_tests, all)
small_at (x ∷ block) (suc k) below all = small_at block k (omega arith) (rest (nat_lt x (2 ^ 128)) _ all)
  where
    rest : (a b : Bool) → (a && b) ≡ true → b ≡ true
    rest true b e = e
    rest false b e = absurd cc

-- the symbols come back from their bytes
symbols-front : (block : List ℕ) (k : ℕ) → k ≤ length block →
    list_all (λ symbol. nat_lt symbol (2 ^ 128)) block ≡ true →
    symbols_read k (bytes_of_symbols block) ≡ take k block
unfolding symbols_read
symbols-front block zero within small = refl
symbols-front block (suc k) within small =
    let x = get_or block k 0 in
    let a = bytes_of_symbols (take k block) in
    let behind = to_le_bytes w128 x ++ bytes_of_symbols (drop (suc k) block) in
    let below : k < length block = omega arith in
    (λ i. symbols-front block k (omega arith) small i ++ (ap (from_le_bytes w128)
    (ap (λ (l : List ℕ). take 16 (drop (16 * k) l)) (bytes-split block k below)
    ∙ ap (take 16) (drop_at a behind (16 * k) (length-front block k (omega arith)))
    ∙ take_at (to_le_bytes w128 x) (bytes_of_symbols (drop (suc k) block)) 16 refl)
    ∙ from_to x (small_at block k below small)) i ∷ [])
    ∙ sym (take-suc block k 0 below)

-- symbols written as bytes are read back
pub symbols-bytes : (block : List ℕ) → list_all (λ symbol. nat_lt symbol (2 ^ 128)) block ≡ true →
    symbols_read (length block) (bytes_of_symbols block) ≡ block
symbols-bytes block small =
    symbols-front block (length block) (omega arith) small ∙ take_all (length block) block (omega arith)

-- one symbol
pub one_symbol : (bytes : List ℕ) (x : ℕ) → length bytes ≡ 16 → x ≡ from_le_bytes w128 bytes →
    x ∷ [] ≡ symbols_read 1 bytes
unfolding symbols_read
one_symbol bytes x size is =
    λ i. (is ∙ ap (from_le_bytes w128) (sym (take_all 16 bytes (omega (arith, size))))) i ∷ []
