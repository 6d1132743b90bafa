-- Codewords are those of their first symbols, an opened block is one, and sums and multiples of codewords are
-- codewords.
use Rattle.server_code.proofs.Words.{◌≡◌, ◌≤◌, ◌+◌, ◌*◌, ℕ, zero, suc, sym, ◌∙◌, ap, refl, arith, List, [], ◌∷◌, length, map, take, replicate, Some, range_with_len, length-range_with_len, length-map-range_with_len, take-map-range_with_len, nim, nim_laws, plus_over, scale_over, value_over, present_over, value-plus, value-scale, plus_zero, same_values, length-plus, length-scale, interpolate_takes, value, plus, scale, interpolate, TakesSymbols, upto, values_at, Profile, codeword, IsCodeword, Opens, one_not_zero, Apart-range, codeword-short, values_at-same, takes_same}
use Rattle.algebra_laws.proofs.Agree.{unique}

-- the codeword of kept symbols is a codeword
pub codeword_is : (profile : Profile) (kept : List ℕ) → length kept ≡ profile.keep →
    IsCodeword profile (codeword profile kept)
codeword_is profile kept long = record {
  polynomial = interpolate (upto profile.keep) kept;
  degree = codeword-short profile kept long;
  values = refl;
}

-- a codeword is that of its first keep symbols
pub codeword_of_front : (profile : Profile) (block : List ℕ) → profile.keep ≤ profile.size →
    IsCodeword profile block → block ≡ codeword profile (take profile.keep block)
codeword_of_front profile block le is =
    is.values ∙ values_at-same (upto profile.size) p q same ∙ ap (λ kept. codeword profile kept) (sym front)
  where
    p : List ℕ
    p = is.polynomial

    kept : List ℕ
    kept = values_at (upto profile.keep) p

    q : List ℕ
    q = interpolate (upto profile.keep) kept

    front : take profile.keep block ≡ kept
    front = ap (take profile.keep) is.values
        ∙ take-map-range_with_len (value p) 0 profile.size profile.keep le

    long : length kept ≡ profile.keep
    long = length-map-range_with_len (value p) 0 profile.keep

    taken : TakesSymbols q (upto profile.keep) kept
    taken = interpolate_takes nim nim_laws (upto profile.keep) kept one_not_zero
        (length-range_with_len 0 profile.keep ∙ sym long) (Apart-range 0 profile.keep)

    same : (x : ℕ) → value p x ≡ value q x
    same = same_values nim nim_laws p q (plus_zero nim nim_laws (upto profile.keep) p q
        (Apart-range 0 profile.keep) (takes_same p q (upto profile.keep) taken)
        (omega (arith, is.degree, length-range_with_len 0 profile.keep))
        (omega (arith, codeword-short profile kept long, length-range_with_len 0 profile.keep)))

-- all symbols are present
present-all : (block : List ℕ) → present_over (map Some block) ≡ length block
unfolding present_over
present-all [] = refl
present-all (s ∷ block) = let h = present-all block in omega (arith, h)

-- a block opens to one block
pub opened_is_one : (profile : Profile) (block a b : List ℕ) → profile.size ≡ profile.keep + 2 * profile.fix →
    Opens profile block a → Opens profile block b → a ≡ b
opened_is_one profile block a b sizes is_a is_b = is_a.opened_is ∙
    values_at-same (upto profile.size) is_a.polynomial is_b.polynomial
    (same_values nim nim_laws is_a.polynomial is_b.polynomial
    (unique nim nim_laws is_a.polynomial is_b.polynomial (upto profile.size) (map Some block) profile.keep
    (Apart-range 0 profile.size)
    is_a.near.decodes.short is_b.near.decodes.short
    (omega (
      arith,
      sizes,
      present-all block,
      is_a.near.whole,
      is_a.near.decodes.near,
      is_b.near.decodes.near,
      length-range_with_len 0 profile.size,
    )))) ∙
    sym is_b.opened_is

-- the values of a sum
values-plus : (points p q : List ℕ) → plus (values_at points p) (values_at points q)
    ≡ values_at points (plus p q)
unfolding plus_over
values-plus [] p q = refl
values-plus (x ∷ points) p q = cc (value-plus nim nim_laws p q x, values-plus points p q)

-- the values of a multiple
values-scale : (c : ℕ) (points p : List ℕ) → scale c (values_at points p) ≡ values_at points (scale c p)
unfolding scale_over
values-scale c [] p = refl
values-scale c (x ∷ points) p = cc (value-scale nim nim_laws c p x, values-scale c points p)

-- a sum of codewords is one
pub sum_of_codewords : (profile : Profile) (a b : List ℕ) → IsCodeword profile a → IsCodeword profile b →
    IsCodeword profile (plus a b)
sum_of_codewords profile a b is_a is_b = record {
  polynomial = plus is_a.polynomial is_b.polynomial;
  degree = omega (arith, is_a.degree, is_b.degree, length-plus nim nim_laws is_a.polynomial is_b.polynomial);
  values = ap (λ t. plus t b) is_a.values
      ∙ ap (plus (values_at (upto profile.size) is_a.polynomial)) is_b.values ∙
      values-plus (upto profile.size) is_a.polynomial is_b.polynomial;
}

-- a multiple of a codeword is one
pub multiple_of_codeword : (profile : Profile) (c : ℕ) (a : List ℕ) → IsCodeword profile a →
    IsCodeword profile (scale c a)
multiple_of_codeword profile c a is = record {
  polynomial = scale c is.polynomial;
  degree = omega (arith, is.degree, length-scale nim nim_laws c is.polynomial);
  values = ap (scale c) is.values ∙ values-scale c (upto profile.size) is.polynomial;
}

-- the values of the polynomial 0
values-zero : (a n : ℕ) → replicate n 0 ≡ values_at (range_with_len a n) []
unfolding value_over
values-zero a zero = refl
values-zero a (suc n) = ap (λ t. 0 ∷ t) (values-zero (a + 1) n)

-- zeros are a codeword
pub zeros_are_codeword : (profile : Profile) → IsCodeword profile (replicate profile.size 0)
zeros_are_codeword profile =
    record { polynomial = []; degree = omega arith; values = values-zero 0 profile.size }
