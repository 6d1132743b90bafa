-- Codewords, and the blocks that open to themselves.
use Rattle.code_defs.proofs.Words.{nat_eq, sym, ◌∙◌, refl, arith, length-range_with_len, length-map-range_with_len, nim, nim_laws, agree_over, is_seen_over, length-interpolate, value, agree, interpolate, upto, values_at, Profile, codeword, differences, IsNear, Opens}
use Rattle.std.proofs.Common.{◌≡◌, ◌≤◌, ◌+◌, ℕ, suc, Bool, true, false, cond, List, [], ◌∷◌, length, map, Some}

-- a polynomial agrees with its own values everywhere
pub agree-values : (p points : List ℕ) → agree p points (map Some (values_at points p)) ≡ length points
unfolding agree_over is_seen_over
agree-values p [] = refl
agree-values p (x ∷ points) = let h = agree-values p points in rw (nim_laws.eq_refl (value p x)) (omega arith)

-- a polynomial agrees with a block where the block does not differ from its values
pub agree-differences : (p xs ys : List ℕ) → length xs ≡ length ys →
    agree p xs (map Some ys) + differences ys (values_at xs p) ≡ length xs
unfolding agree_over is_seen_over
agree-differences p [] [] even = refl
agree-differences p [] (y ∷ ys) even = absurd (omega arith)
agree-differences p (x ∷ xs) [] even = absurd (omega arith)
agree-differences p (x ∷ xs) (y ∷ ys) even =
    go (nat_eq y (value p x)) (agree-differences p xs ys (omega arith))
  where
    go : (b : Bool) → agree p xs (map Some ys) + differences ys (values_at xs p) ≡ length xs →
        cond b 1 0 + agree p xs (map Some ys) + cond b (differences ys (values_at xs p))
        (suc (differences ys (values_at xs p))) ≡ suc (length xs)
    go true h = omega (arith, h)
    go false h = omega (arith, h)

-- a block differs from itself nowhere
pub differences-same : (xs : List ℕ) → differences xs xs ≡ 0
differences-same [] = refl
differences-same (x ∷ xs) = rw (nim_laws.eq_refl x) (differences-same xs)

-- the values of a polynomial of few coefficients are near it
pub near_itself : (profile : Profile) (p : List ℕ) → length p ≤ profile.keep →
    IsNear profile (values_at (upto profile.size) p) p
near_itself profile p short = record {
  whole = length-map-range_with_len (value p) 0 profile.size;
  decodes = record { short = short; near = omega (arith, agree-values p (upto profile.size)) };
}

-- the interpolating polynomial of the kept symbols has few coefficients
pub codeword-short : (profile : Profile) (kept : List ℕ) → length kept ≡ profile.keep →
    length (interpolate (upto profile.keep) kept) ≤ profile.keep
codeword-short profile kept long = omega (
  arith,
  length-interpolate nim nim_laws (upto profile.keep) kept (length-range_with_len 0 profile.keep ∙ sym long),
  length-range_with_len 0 profile.keep,
)

-- a codeword opens to itself
pub opens_itself : (profile : Profile) (kept block : List ℕ) → length kept ≡ profile.keep →
    block ≡ codeword profile kept → Opens profile block block
opens_itself profile kept block long is = record {
  polynomial = interpolate (upto profile.keep) kept;
  near = rw is (near_itself profile (interpolate (upto profile.keep) kept)
      (codeword-short profile kept long));
  opened_is = is;
}
