-- When the bytes at hand begin no request.
use Rattle.provider_wire.proofs.Words.{◌≡◌, ℕ, suc, ◌*◌, ◌<◌, ◌≤◌, ◌^◌, true, false, List, [], ◌∷◌, length, take, drop, get_or, refl, ap, ◌∙◌, arith, length-drop, ◌⊎◌, inl, inr, Width, w32, w64, byte_len, from_le_bytes, drop-cons, le-ltb, cases_lt, or_parts, nat_tests, drop-drop, is_within, misses, number_misses, is_bad_request, request_bytes, SpellsNoRequest, ◌>>=◌, number_at, IsBytes, within_at, block_read_at, store_at, fetch_at, seed_at, rows_at, challenge_read_at, ask_at, remove_at, request_at}
use Rattle.std.proofs.Common.{Option, Some}
use Rattle.provider_wire.proofs.Takes.{request_takes}

-- ---- bytes that are long enough, and not bad, begin a request

number_long : (w : Width) (bytes : List ℕ) → byte_len w ≤ length bytes →
    number_at w bytes ≡ Some (from_le_bytes w (take (byte_len w) bytes), drop (byte_len w) bytes)
number_long w bytes long = rw (le-ltb (length bytes) (byte_len w) long) refl

-- a byte that does not miss its limits
hits : (place low high : ℕ) (bytes : List ℕ) → place < length bytes → misses place low high bytes ≡ false →
    is_within low high (get_or bytes place 0) ≡ true
hits place low high bytes there e = grind (arith, nat_tests, e, there)

within_long : (place low high : ℕ) (bytes : List ℕ) → place < length bytes →
    misses place low high bytes ≡ false → within_at low high (drop place bytes)
    ≡ Some (get_or bytes place 0, drop (suc place) bytes)
unfolding within_at
within_long place low high bytes there e =
    ap (within_at low high) (drop-cons bytes place 0 there) ∙ rw (hits place low high bytes there e) refl

rows_long : (bytes : List ℕ) → 48 ≤ length bytes → number_misses 40 1 (2 ^ 32) bytes ≡ false →
    rows_at (drop 40 bytes) ≡ Some (from_le_bytes w64 (take 8 (drop 40 bytes)), drop 48 bytes)
unfolding rows_at
rows_long bytes long e =
    let enough : 8 ≤ length (drop 40 bytes) = omega (arith, length-drop 40 bytes) in
    let good : is_within 1 (2 ^ 32) (from_le_bytes w64 (take 8 (drop 40 bytes))) ≡ true =
    grind (arith, nat_tests, e, long) in
    rw (number_long w64 (drop 40 bytes) enough, good)
    (ap (λ (l : List ℕ). Some (from_le_bytes w64 (take 8 (drop 40 bytes)), l)) (drop-drop 8 40 bytes))

seed_long : (bytes : List ℕ) → 40 ≤ length bytes →
    seed_at (drop 8 bytes) ≡ Some (take 32 (drop 8 bytes), drop 40 bytes)
unfolding seed_at
seed_long bytes long = rw (le-ltb (length (drop 8 bytes)) 32 (omega (arith, length-drop 8 bytes)))
    (ap (λ (l : List ℕ). Some (take 32 (drop 8 bytes), l)) (drop-drop 32 8 bytes))

-- something is found
abbrev Finds : {A : Type 0} → Option A → Type 0
Finds {A} o = (x : A) × (o ≡ Some x)

then_finds : {A B : Type 0} (o : Option A) (f : A → Option B) (x : A) → o ≡ Some x → Finds (f x) →
    Finds (o >>= f)
then_finds o f x is found = (found.0, ap (λ (p : Option _). p >>= f) is ∙ found.1)

block_long : (bytes : List ℕ) → 2061 ≤ length bytes → misses 12 1 128 bytes ≡ false →
    Finds (block_read_at (drop 12 bytes))
unfolding block_read_at
block_long bytes long e =
    let n = get_or bytes 12 0 in
    let few : n ≤ 128 = grind (arith, nat_tests, hits 12 1 128 bytes (omega arith) e) in
    then_finds (within_at 1 128 (drop 12 bytes)) _ (n, drop 13 bytes)
    (within_long 12 1 128 bytes (omega arith) e)
    (rw (le-ltb (length (drop 13 bytes)) (16 * n) (omega (arith, length-drop 13 bytes, few))) (_, refl))

store_long : (bytes : List ℕ) → 2061 ≤ length bytes → misses 12 1 128 bytes ≡ false → Finds (store_at bytes)
unfolding store_at
store_long bytes long e =
    let block = block_long bytes long e in
    then_finds (number_at w64 bytes) _ _ (number_long w64 bytes (omega arith))
    (then_finds (number_at w32 (drop 8 bytes)) _ _
    (number_long w32 (drop 8 bytes) (omega (arith, length-drop 8 bytes)))
    (then_finds (block_read_at (drop 4 (drop 8 bytes))) _ block.0
    (ap block_read_at (drop-drop 4 8 bytes) ∙ block.1) (_, refl)))

fetch_long : (bytes : List ℕ) → 2061 ≤ length bytes → misses 12 1 128 bytes ≡ false → Finds (fetch_at bytes)
unfolding fetch_at
fetch_long bytes long e = then_finds (number_at w64 bytes) _ _ (number_long w64 bytes (omega arith))
    (then_finds (number_at w32 (drop 8 bytes)) _ _ (number_long w32 (drop 8 bytes)
    (omega (arith, length-drop 8 bytes))) (then_finds (within_at 1 128 (drop 4 (drop 8 bytes))) _ _
    (ap (within_at 1 128) (drop-drop 4 8 bytes) ∙ within_long 12 1 128 bytes (omega arith) e) (_, refl)))

ask_long : (bytes : List ℕ) → 2061 ≤ length bytes → number_misses 40 1 (2 ^ 32) bytes ≡ false →
    misses 48 1 128 bytes ≡ false → misses 49 1 64 bytes ≡ false → Finds (ask_at bytes)
unfolding ask_at challenge_read_at
ask_long bytes long rows size picks =
    then_finds (number_at w64 bytes) _ _ (number_long w64 bytes (omega arith))
    (then_finds (challenge_read_at (drop 8 bytes)) _ _ (then_finds (seed_at (drop 8 bytes)) _ _
    (seed_long bytes (omega arith)) (then_finds (rows_at (drop 40 bytes)) _ _
    (rows_long bytes (omega arith) rows) (then_finds (within_at 1 128 (drop 48 bytes)) _ _
    (within_long 48 1 128 bytes (omega arith) size) (then_finds (within_at 1 64 (drop 49 bytes)) _ _
    (within_long 49 1 64 bytes (omega arith) picks) (_, refl))))).1 (_, refl))

remove_long : (bytes : List ℕ) → 2061 ≤ length bytes → Finds (remove_at bytes)
unfolding remove_at
remove_long bytes long = then_finds (number_at w64 bytes) _ _ (number_long w64 bytes (omega arith)) (_, refl)

kinds : (kind : ℕ) (rest : List ℕ) → is_bad_request (kind ∷ rest) ≡ false →
    (kind ≡ 1) ⊎ ((kind ≡ 2) ⊎ ((kind ≡ 3) ⊎ (kind ≡ 4)))
kinds kind rest e = grind (arith, nat_tests, e)

of_kind : (kind k : ℕ) (rest : List ℕ) → (is_bad_request (k ∷ rest) ≡ false → Finds (request_at (k ∷ rest))) →
    kind ≡ k → is_bad_request (kind ∷ rest) ≡ false → Finds (request_at (kind ∷ rest))
of_kind kind k rest here is e = (rw (← is) at here) e

request_long : (bytes : List ℕ) → 2062 ≤ length bytes → is_bad_request bytes ≡ false →
    Finds (request_at bytes)
unfolding request_at
request_long [] long e = absurd (omega arith)
request_long (kind ∷ rest) long e =
    let enough : 2061 ≤ length rest = omega arith in
    elim (kinds kind rest e) [
      | inl is ↦ of_kind kind 1 rest (store_long rest enough) is e
      | inr (inl is) ↦ of_kind kind 2 rest (fetch_long rest enough) is e
      | inr (inr (inl is)) ↦
          of_kind kind 3 rest (λ bad. let a = or_parts _ _ bad in let b = or_parts _ _ a.0 in
          ask_long rest enough b.0 b.1 a.1) is e
      | inr (inr (inr is)) ↦ of_kind kind 4 rest (λ bad. remove_long rest enough) is e
    ]

-- bytes that begin no request, and are not bad, are shorter than the longest request
pub short : (bytes : List ℕ) → IsBytes bytes → SpellsNoRequest bytes → is_bad_request bytes ≡ false →
    length bytes < 2062
short bytes fits none e =
    elim (cases_lt (length bytes) 2062) [
      | inl less ↦ less
      | inr more ↦ absurd (
          let x = request_long bytes more e in let took = request_takes bytes x.0 fits x.1 in
          none x.0.0 (request_bytes x.0.0) x.0.1 (record { is_request = took.1; bytes_are = refl })
          took.0.parts
          )
    ]
