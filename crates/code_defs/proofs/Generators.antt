-- The coefficients of the kept symbols in the symbols of a codeword.
use Rattle.code_defs.proofs.Words.{◌≢◌, ◌<◌, ◌-◌, ◌++◌, inl, inr, sym, ◌∙◌, ap, refl, arith, get_or, set, replicate, zero-add, range_with_len, length-range_with_len, length-map-range_with_len, get_or-map-range_with_len, get_or-range_with_len, Each, zero_add, zero_mul, one_mul, nim, nim_add, nim_mul, nim_inv, nim_laws, nim_ring, nim_mul_inv, interpolate_takes, vanish_else, value, vanish, interpolate, TakesSymbols, upto, others_product, multiplier, Profile, codeword, IsGeneratorRow, dot}
use Rattle.std.proofs.Common.{◌≡◌, ◌≤◌, ◌+◌, ℕ, zero, suc, List, [], ◌∷◌, length, map}
use Rattle.std.proofs.lemmas.List.{length-set, length-replicate}
use Rattle.code_defs.proofs.Points.{one_not_zero, Apart-range, Each-outside, range_with_len-append, others_product-append, others_product-outside}
use Rattle.code_defs.proofs.Lagrange.{nim_inv-mul, others_product-not_zero, dot-scaled, part, value-interpolate}

-- a polynomial's value at a place, where it takes all values
Takes-at : (p xs ys : List ℕ) (k : ℕ) → k < length xs → TakesSymbols p xs ys →
    value p (get_or xs k 0) ≡ get_or ys k 0
Takes-at p [] ys k h t = absurd (omega arith)
Takes-at p (x ∷ xs) [] k h t = absurd t
Takes-at p (x ∷ xs) (y ∷ ys) zero h t = t.0
Takes-at p (x ∷ xs) (y ∷ ys) (suc k) h t = Takes-at p xs ys k (omega arith) t.1

-- the interpolating polynomial's value at one of the points 0 to n - 1
pub value-kept : (n : ℕ) (ys : List ℕ) (k : ℕ) → length ys ≡ n → k < n →
    value (interpolate (upto n) ys) k ≡ get_or ys k 0
value-kept n ys k long h =
    let even : length (upto n) ≡ length ys = length-range_with_len 0 n ∙ sym long in
    ap (value (interpolate (upto n) ys)) (sym (get_or-range_with_len 0 n k 0 h ∙ zero-add k)) ∙
    Takes-at (interpolate (upto n) ys) (upto n) ys k (omega (arith, length-range_with_len 0 n))
    (interpolate_takes nim nim_laws (upto n) ys one_not_zero even (Apart-range 0 n))

-- the symbol at a place of a codeword
pub get_or-codeword : (profile : Profile) (kept : List ℕ) (k : ℕ) → k < profile.size →
    get_or (codeword profile kept) k 0 ≡ value (interpolate (upto profile.keep) kept) k
get_or-codeword profile kept k h = get_or-map-range_with_len
    (value (interpolate (upto profile.keep) kept)) 0 profile.size k k 0 h (zero-add k)

-- the sum by zeros
dot-zeros : (n : ℕ) (ys : List ℕ) → dot (replicate n 0) ys ≡ 0
unfolding dot
dot-zeros zero ys = refl
dot-zeros (suc n) [] = refl
dot-zeros (suc n) (y ∷ ys) = cc (zero_mul nim_ring y, dot-zeros n ys, nim_ring.add_zero 0)

-- the sum by zeros but for a 1 at a place
dot-unit : (n k : ℕ) (ys : List ℕ) → k < n → length ys ≡ n → dot (set (replicate n 0) k 1) ys ≡ get_or ys k 0
unfolding dot
dot-unit zero k ys h long = absurd (omega arith)
dot-unit (suc n) k [] h long = absurd (omega arith)
dot-unit (suc n) zero (y ∷ ys) h long = cc (one_mul nim_ring y, dot-zeros n ys, nim_ring.add_zero y)
dot-unit (suc n) (suc k) (y ∷ ys) h long =
    cc (zero_mul nim_ring y, dot-unit n k ys (omega arith) (omega arith), zero_add nim_ring (get_or ys k 0))

-- the row of a kept place
pub kept_row : (profile : Profile) (place n : ℕ) → n ≡ profile.keep → place < profile.keep →
    place < profile.size → IsGeneratorRow profile place (set (replicate n 0) place 1)
kept_row profile place n is h within = record {
  full = length-set (replicate n 0) place 1 ∙ length-replicate n 0 ∙ is;
  gives = λ kept long. get_or-codeword profile kept place within ∙ value-kept profile.keep kept place long h ∙
      sym (dot-unit n place kept (omega arith) (omega arith));
}

-- the multiplier of a kept point among the kept ones
pub kept_multiplier : (keep size place : ℕ) → keep ≤ size → place < keep →
    nim_mul (multiplier place (upto size)) (value (vanish (range_with_len keep (size - keep))) place)
    ≡ multiplier place (upto keep)
kept_multiplier keep size place le h = ap (λ t. nim_mul (nim_inv t) V) split ∙
    ap (λ t. nim_mul t V) (nim_inv-mul A V (others_product-not_zero place (upto keep)) some) ∙
    cc (
      nim_ring.mul_assoc (nim_inv A) (nim_inv V) V,
      nim_ring.mul_comm (nim_inv V) V,
      nim_mul_inv V some,
      nim_ring.mul_one (nim_inv A),
    )
  where
    A : ℕ
    A = others_product place (upto keep)

    rest : List ℕ
    rest = range_with_len keep (size - keep)

    V : ℕ
    V = value (vanish rest) place

    outside : Each (λ p. place ≢ p) rest
    outside = Each-outside place keep (size - keep) (inl h)

    some : V ≢ 0
    some = vanish_else nim nim_laws rest place one_not_zero outside

    whole : upto size ≡ upto keep ++ rest
    whole =
        let e : size ≡ keep + (size - keep) = omega arith in
        ap upto e ∙ range_with_len-append 0 keep (size - keep)
        ∙ ap (λ a. upto keep ++ range_with_len a (size - keep)) (zero-add keep)

    split : others_product place (upto size) ≡ nim_mul A V
    split = ap (others_product place) whole ∙ others_product-append place (upto keep) rest
        ∙ ap (nim_mul A) (others_product-outside place rest outside)

-- a coefficient of a place behind the kept ones
abbrev pub coefficient : ℕ → ℕ → ℕ → ℕ
coefficient keep place k = nim_mul (nim_mul (value (vanish (upto keep)) place) (nim_inv (nim_add place k)))
    (multiplier k (upto keep))

-- the row of a place behind the kept ones
pub parity_row : (profile : Profile) (place : ℕ) → profile.keep ≤ place → place < profile.size →
    IsGeneratorRow profile place (map (coefficient profile.keep place) (upto profile.keep))
parity_row profile place behind within = record {
  full = length-map-range_with_len (coefficient profile.keep place) 0 profile.keep;
  gives = λ kept long. get_or-codeword profile kept place within ∙
      value-interpolate (upto profile.keep) kept place (length-range_with_len 0 profile.keep ∙ sym long)
      (Apart-range 0 profile.keep)
      (Each-outside place 0 profile.keep (inr (omega arith))) ∙
      sym (dot-scaled (part (upto profile.keep) place) (coefficient profile.keep place) V
      (upto profile.keep) kept (each (upto profile.keep)));
}
  where
    V : ℕ
    V = value (vanish (upto profile.keep)) place

    each : (ps : List ℕ) →
        Each (λ k. coefficient profile.keep place k ≡ nim_mul V (part (upto profile.keep) place k)) ps
    each [] = tt
    each (k ∷ ps) = (
      nim_ring.mul_assoc V (nim_inv (nim_add place k)) (multiplier k (upto profile.keep)),
      each ps,
    )
