-- A row with absent symbols: it is its present symbols that are decoded.
use Rattle.dispersal_code.proofs.Words.{◌≡◌, ◌≢◌, ◌≤◌, ◌<◌, ◌+◌, ◌*◌, ℕ, List, [], ◌∷◌, length, Option, Some, None, refl, ap, arith, Each, Apart, nim, IsShape, nim_laws, Decodes, present, agree_over, agree_le, length-trim, value, agree, trim, interpolate, Accepts, AcceptsNone, IsOnlyAccepted, present_points, present_symbols, room_for}
use Rattle.algebra_laws.proofs.Steps.{is_seen-none}
use Rattle.algebra_laws.proofs.Interpolate.{length-interpolate}
use Rattle.hail_poly.specs.Decoding.{matches, IsDecoded, NoneDecodes}

-- as many points as symbols
pub length-present : (xs : List ℕ) (ss : List (Option ℕ)) → length xs ≡ length ss →
    length (present_points xs ss) ≡ length (present_symbols ss)
unfolding present_points present_symbols
length-present [] [] e = refl
length-present [] (s ∷ ss) e = absurd (omega arith)
length-present (x ∷ xs) [] e = absurd (omega arith)
length-present (x ∷ xs) (None ∷ ss) e = length-present xs ss (omega arith)
length-present (x ∷ xs) (Some s ∷ ss) e = let h = length-present xs ss (omega arith) in omega arith

-- no more than places
pub present-le : (xs : List ℕ) (ss : List (Option ℕ)) → length (present_points xs ss) ≤ length xs
unfolding present_points
present-le [] ss = omega arith
present-le (x ∷ xs) [] = omega arith
present-le (x ∷ xs) (None ∷ ss) = let h = present-le xs ss in omega arith
present-le (x ∷ xs) (Some s ∷ ss) = let h = present-le xs ss in omega arith

-- what holds of each point holds of these
Each-present : (P : ℕ → Type 0) (xs : List ℕ) (ss : List (Option ℕ)) → Each P xs →
    Each P (present_points xs ss)
unfolding present_points
Each-present P [] ss h = tt
Each-present P (x ∷ xs) [] h = tt
Each-present P (x ∷ xs) (None ∷ ss) h = Each-present P xs ss h.1
Each-present P (x ∷ xs) (Some s ∷ ss) h = (h.0, Each-present P xs ss h.1)

-- they are apart
pub Apart-present : (xs : List ℕ) (ss : List (Option ℕ)) → Apart xs → Apart (present_points xs ss)
unfolding present_points
Apart-present [] ss h = tt
Apart-present (x ∷ xs) [] h = tt
Apart-present (x ∷ xs) (None ∷ ss) h = Apart-present xs ss h.1
Apart-present (x ∷ xs) (Some s ∷ ss) h = (Each-present (λ y. x ≢ y) xs ss h.0, Apart-present xs ss h.1)

-- a polynomial agrees with a row where it takes the present symbols
agree-present : (p xs : List ℕ) (ss : List (Option ℕ)) → length xs ≡ length ss →
    agree p xs ss ≡ matches p (present_points xs ss) (present_symbols ss)
unfolding agree_over present_points present_symbols
agree-present p [] [] e = refl
agree-present p [] (s ∷ ss) e = absurd (omega arith)
agree-present p (x ∷ xs) [] e = absurd (omega arith)
agree-present p (x ∷ xs) (None ∷ ss) e =
    let h = agree-present p xs ss (omega arith) in rw (is_seen-none nim (value p x)) (omega arith)
agree-present p (x ∷ xs) (Some s ∷ ss) e = let h = agree-present p xs ss (omega arith) in omega arith

-- as many symbols as are present
count-present : (ss : List (Option ℕ)) → length (present_symbols ss) ≡ present ss
unfolding present present_symbols
count-present [] = refl
count-present (None ∷ ss) = count-present ss
count-present (Some s ∷ ss) = let h = count-present ss in omega arith

-- where too few are present, no polynomial is accepted
pub few_present : (n b l : ℕ) (points : List ℕ) (seen : List (Option ℕ)) → length points ≡ n →
    length (present_symbols seen) + b < n → AcceptsNone points seen l b
few_present n b l points seen whole few p accepts =
    omega (arith, accepts.agrees, agree_le nim nim_laws p points seen, count-present seen, few, whole)

-- of those that are present, enough for one polynomial are beyond doubt
pub enough_present : (n l b m : ℕ) → IsShape n l b → m ≤ n → n ≤ m + b → l + 1 + 2 * room_for n b m ≤ m
enough_present n l b m shape le many = omega (arith, shape)

module _ (n l b : ℕ) (points : List ℕ) (seen : List (Option ℕ)) (shape : IsShape n l b)
    (even : length points ≡ length seen) (whole : length seen ≡ n)
    (many : n ≤ length (present_symbols seen) + b) where
  abbrev fix : ℕ
  fix = room_for n b (length (present_symbols seen))

  -- what is accepted decodes the present symbols
  pub decodes_present : (p : List ℕ) → Accepts points seen l b p →
      Decodes nim (present_points points seen) (present_symbols seen) l fix p
  decodes_present p is = record {
    short = is.degree;
    near = omega (arith, is.agrees, agree-present p points seen even, length-present points seen even, shape);
  }

  -- what decodes them is accepted
  pub present_accepts : (p : List ℕ) →
      Decodes nim (present_points points seen) (present_symbols seen) l fix p → Accepts points seen l b p
  present_accepts p is = record {
    degree = is.short;
    agrees = omega (arith, is.near, agree-present p points seen even, length-present points seen even, shape);
  }

  -- where a decoder finds one, it is accepted
  decoded_accepts : (p : List ℕ) → IsDecoded (present_points points seen) (present_symbols seen) l fix p →
      Accepts points seen l b p
  decoded_accepts p is = present_accepts p is.decodes

  -- and no other is
  decoded_only : (p : List ℕ) → IsDecoded (present_points points seen) (present_symbols seen) l fix p →
      IsOnlyAccepted points seen l b p
  decoded_only p is q accepts = is.only q (decodes_present q accepts)

  -- where it finds none, none is accepted
  none_accepts : NoneDecodes (present_points points seen) (present_symbols seen) l fix →
      AcceptsNone points seen l b
  none_accepts is q accepts = is.none q (decodes_present q accepts)

-- the polynomial through the first present symbols is accepted where it agrees often enough
pub first_accepts : (l b need : ℕ) (points xs ys rest : List ℕ) (seen : List (Option ℕ)) →
    length points ≡ length seen → length xs ≡ length ys → length xs ≤ l →
    rest ≡ trim (interpolate xs ys) → need + b ≡ length points →
    need ≤ matches rest (present_points points seen) (present_symbols seen) → Accepts points seen l b rest
first_accepts l b need points xs ys rest seen even same few made total enough = record {
  degree = omega (
    arith,
    few,
    ap length made,
    length-trim nim nim_laws (interpolate xs ys),
    length-interpolate nim nim_laws xs ys same,
  );
  agrees = omega (arith, enough, total, agree-present rest points seen even);
}

-- the same of lists that are those of the present symbols
pub none_opens : (n l b : ℕ) (points : List ℕ) (seen : List (Option ℕ)) (xs ys : List ℕ) (keep fix : ℕ) →
    IsShape n l b → length points ≡ length seen → length seen ≡ n → n ≤ length ys + b →
    xs ≡ present_points points seen → ys ≡ present_symbols seen → keep ≡ l → fix ≡ room_for n b (length ys) →
    NoneDecodes xs ys keep fix → AcceptsNone points seen l b
none_opens n l b points seen xs ys keep fix shape even whole many is_x is_y is_keep is_fix none = none_accepts
    n l b points seen shape even whole (rw is_y at many) (rw (is_fix, is_keep, is_x, is_y) at none)

-- what the decoder finds in the present symbols is accepted, and nothing else is
pub some_opens : (n l b : ℕ) (points : List ℕ) (seen : List (Option ℕ)) (xs ys p : List ℕ) (keep fix : ℕ) →
    IsShape n l b → length points ≡ length seen → length seen ≡ n → n ≤ length ys + b →
    xs ≡ present_points points seen → ys ≡ present_symbols seen → keep ≡ l → fix ≡ room_for n b (length ys) →
    IsDecoded xs ys keep fix p → Accepts points seen l b p × IsOnlyAccepted points seen l b p
some_opens n l b points seen xs ys p keep fix shape even whole many is_x is_y is_keep is_fix some =
    let found = rw (is_fix, is_keep, is_x, is_y) at some in
    let more = rw is_y at many in (
      decoded_accepts n l b points seen shape even whole more p found,
      decoded_only n l b points seen shape even whole more p found,
    )
