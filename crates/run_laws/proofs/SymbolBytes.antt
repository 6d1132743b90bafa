-- The bytes of the symbols of a file are the file with zeros after it.
use Rattle.run_laws.proofs.Words.{◌≡◌, ℕ, zero, suc, ◌+◌, ◌-◌, ◌*◌, ◌/◌, ◌%◌, ◌<◌, ◌≤◌, List, [], ◌∷◌, ◌++◌, length, take, drop, map, get_or, refl, ap, sym, ◌∙◌, arith, ltb-true, and_parts, is_byte, upto, Object, stripes, stripe_symbols, symbol_of, symbols_in, bytes_of_symbols, AreBytes}
use Rattle.std.specs.List.{flat_map, range_with_len, list_all}
use Rattle.std.specs.Int.{w128, from_le_bytes, to_le_bytes}
use Rattle.std.proofs.lemmas.List.{drop-drop}
use Rattle.std.proofs.Math.Nat.{mul-le-mul, div-add-mod, mod-lt}
use Rattle.algebra_laws.proofs.Numbers.{from_le_bytes-same}
use Rattle.hail_field.proofs.Bytes.{to_from}

-- the first so many of a list, with zeros after it
abbrev padded : ℕ → List ℕ → List ℕ
padded zero xs = []
padded (suc n) [] = 0 ∷ padded n []
padded (suc n) (x ∷ xs) = x ∷ padded n xs

length-padded : (n : ℕ) (xs : List ℕ) → length (padded n xs) ≡ n
length-padded zero xs = refl
length-padded (suc n) [] = ap suc (length-padded n [])
length-padded (suc n) (x ∷ xs) = ap suc (length-padded n xs)

get_or-padded : (n : ℕ) (xs : List ℕ) (i : ℕ) → i < n → get_or (padded n xs) i 0 ≡ get_or xs i 0
get_or-padded zero xs i l = absurd (omega (arith, l))
get_or-padded (suc n) [] zero l = refl
get_or-padded (suc n) [] (suc i) l = get_or-padded n [] i (omega (arith, l))
get_or-padded (suc n) (x ∷ xs) zero l = refl
get_or-padded (suc n) (x ∷ xs) (suc i) l = get_or-padded n xs i (omega (arith, l))

drop-none : (a : ℕ) → ◌≡◌ {A = List ℕ} (drop a []) []
drop-none zero = refl
drop-none (suc a) = refl

padded-append : (a b c : ℕ) (xs : List ℕ) → c ≡ a + b → padded c xs ≡ padded a xs ++ padded b (drop a xs)
padded-append zero b c xs is = ap (λ n. padded n xs) (let e : c ≡ b = omega (arith, is) in e)
padded-append (suc a) b zero xs is = absurd (omega (arith, is))
padded-append (suc a) b (suc c) [] is = ap (λ (l : List ℕ). 0 ∷ l) (padded-append a b c [] (omega (arith, is))
    ∙ ap (λ (l : List ℕ). padded a [] ++ padded b l) (drop-none a))
padded-append (suc a) b (suc c) (x ∷ xs) is =
    ap (λ (l : List ℕ). x ∷ l) (padded-append a b c xs (omega (arith, is)))

take-padded : (xs : List ℕ) (n : ℕ) → length xs ≤ n → take (length xs) (padded n xs) ≡ xs
take-padded [] n l = refl
take-padded (x ∷ xs) zero l = absurd (omega (arith, l))
take-padded (x ∷ xs) (suc n) l = ap (λ (r : List ℕ). x ∷ r) (take-padded xs n (omega (arith, l)))

-- ---- bytes

abbrev Fits : List ℕ → Type 0
Fits xs = (i : ℕ) → get_or xs i 0 < 256

fits : (bytes : List ℕ) → AreBytes bytes → Fits bytes
fits [] h i = omega arith
fits (x ∷ xs) h zero = ltb-true x 256 (and_parts (is_byte x) (list_all is_byte xs) h).0
fits (x ∷ xs) h (suc i) = fits xs (and_parts (is_byte x) (list_all is_byte xs) h).1 i

fits-drop : (n : ℕ) (xs : List ℕ) → Fits xs → Fits (drop n xs)
fits-drop zero xs h = h
fits-drop (suc n) [] h = h
fits-drop (suc n) (x ∷ xs) h = fits-drop n xs (λ i. h (suc i))

fits-padded : (n : ℕ) (xs : List ℕ) → Fits xs → Fits (padded n xs)
fits-padded zero xs h i = omega arith
fits-padded (suc n) [] h zero = omega arith
fits-padded (suc n) [] h (suc i) = fits-padded n [] h i
fits-padded (suc n) (x ∷ xs) h zero = h 0
fits-padded (suc n) (x ∷ xs) h (suc i) = fits-padded n xs (λ j. h (suc j)) i

-- ---- numbers of the same first 16 bytes

sixteen : (xs : List ℕ) → Fits xs → to_le_bytes w128 (from_le_bytes w128 xs) ≡ padded 16 xs
sixteen xs h =
    ap (to_le_bytes w128) (from_le_bytes-same xs (padded 16 xs) (λ i l. sym (get_or-padded 16 xs i l)))
    ∙ to_from (padded 16 xs) (length-padded 16 xs) (fits-padded 16 xs h)

-- ---- symbols, and stripes of them

module _ (bytes : List ℕ) (h : Fits bytes) where
  one_symbol : (m : ℕ) → to_le_bytes w128 (symbol_of bytes m) ≡ padded 16 (drop (16 * m) bytes)
  unfolding symbol_of
  one_symbol m = sixteen (drop (16 * m) bytes) (fits-drop (16 * m) bytes h)

  symbols : (n m base at : ℕ) → at ≡ 16 * (base + m) →
      flat_map (λ x. to_le_bytes w128 x) (map (λ i. symbol_of bytes (base + i)) (range_with_len m n))
      ≡ padded (16 * n) (drop at bytes)
  symbols zero m base at is = refl
  symbols (suc n) m base at is =
      let here : to_le_bytes w128 (symbol_of bytes (base + m)) ≡ padded 16 (drop at bytes) =
      one_symbol (base + m) ∙ ap (λ k. padded 16 (drop k bytes)) (sym is) in
      let rest = symbols n (m + 1) base (at + 16) (omega (arith, is)) in
      ap (λ (l : List ℕ). l ++ flat_map (λ x. to_le_bytes w128 x)
      (map (λ i. symbol_of bytes (base + i)) (range_with_len (m + 1) n))) here
      ∙ (ap (λ (l : List ℕ). padded 16 (drop at bytes) ++ l)
      (rest ∙ ap (padded (16 * n)) (sym (drop-drop 16 at bytes)))
      ∙ sym (padded-append 16 (16 * n) (16 * suc n) (drop at bytes) (omega arith)))

  module _ (o : Object) where
    -- how many bytes a stripe has
    abbrev width : ℕ
    width = 16 * stripe_symbols o

    one_stripe : (stripe : ℕ) → bytes_of_symbols (symbols_in o bytes stripe)
        ≡ padded width (drop (width * stripe) bytes)
    one_stripe stripe = symbols (stripe_symbols o) 0 (stripe * stripe_symbols o) (width * stripe)
        (let e : width * stripe ≡ 16 * (stripe * stripe_symbols o + 0) = grind arith in e)

    all_stripes : (n m at : ℕ) → at ≡ width * m →
        flat_map (λ stripe. bytes_of_symbols (symbols_in o bytes stripe)) (range_with_len m n)
        ≡ padded (width * n) (drop at bytes)
    all_stripes zero m at is = ap (λ k. padded k (drop at bytes)) (let e : 0 ≡ width * 0 = grind arith in e)
    all_stripes (suc n) m at is =
        let here : bytes_of_symbols (symbols_in o bytes m) ≡ padded width (drop at bytes) = one_stripe m
        ∙ ap (λ k. padded width (drop k bytes)) (sym is) in
        let rest = all_stripes n (m + 1) (at + width)
        (let e : at + width ≡ width * (m + 1) = grind (arith, is) in e) in
        ap (λ (l : List ℕ). l ++ flat_map (λ stripe. bytes_of_symbols (symbols_in o bytes stripe))
        (range_with_len (m + 1) n)) here
        ∙ (ap (λ (l : List ℕ). padded width (drop at bytes) ++ l)
        (rest ∙ ap (padded (width * n)) (sym (drop-drop width at bytes)))
        ∙ sym (padded-append width (width * n) (width * suc n) (drop at bytes)
        (let e : width * suc n ≡ width + width * n = grind arith in e)))

-- a number rounded up to a multiple is not below it
rounded_up : (a w : ℕ) → 1 ≤ w → a ≤ w * ((a + (w - 1)) / w)
rounded_up a w some =
    let split = div-add-mod (a + (w - 1)) w in
    let small : (a + (w - 1)) % w < w = mod-lt (a + (w - 1)) some in
    omega (arith, split, small, some)

-- the bytes of a file's symbols, cut to its length, are the file
pub bytes_back : (o : Object) (bytes : List ℕ) → 1 ≤ o.shape.l → 1 ≤ o.profile.keep → AreBytes bytes →
    take (length bytes) (flat_map (λ stripe. bytes_of_symbols (symbols_in o bytes stripe))
    (upto (stripes o (length bytes)))) ≡ bytes
bytes_back o bytes primary kept all =
    let some : 1 * 1 ≤ o.shape.l * o.profile.keep = mul-le-mul primary kept in
    let wide : 1 ≤ 16 * stripe_symbols o = omega (arith, some) in
    ap (take (length bytes))
    (all_stripes bytes (fits bytes all) o (stripes o (length bytes)) 0 0
    (let e : 0 ≡ 16 * stripe_symbols o * 0 = grind arith in e))
    ∙ take-padded bytes (16 * stripe_symbols o * stripes o (length bytes))
    (rounded_up (length bytes) (16 * stripe_symbols o) wide)
