-- The primary symbols of a row, and the points that they stand at.
use Rattle.column_codec.proofs.Words.{zero, slice_index, arith, ap, sym, refl, ◌∙◌, get_or, ext_get_or, get_or-take, get_or-drop, length-take-le, length-map-range_with_len, get_or-map-range_with_len, nim_add, value, interpolate, upto, values_at, Profile, profile_of, codeword, mask, mask_of, masks_from, file_key, Object, stripe_symbols, kept_by, is_primary, point, primary_row, row_polynomial, secondary_symbol, column_of_symbols, masked, dot, point-low, value-interpolate_upto, length-column_of_symbols, ArePoints, AreWeights, symbols_at, row_value}
use Rattle.std.specs.Prelude.{◌≡◌, ℕ, suc, ◌+◌, ◌*◌, ◌<◌, ◌≤◌, ◌≢◌, ◌%◌, true, false, All, List, [], ◌∷◌, ◌++◌, length, map, take, drop, if◌then◌else◌}
use Rattle.algebra_laws.proofs.Lists.{take-front, map-range_same}
use Rattle.code_defs.proofs.Profiles.{size_is}
use Rattle.column_defs.proofs.SecondaryLaws.{column_polynomial, value-column_polynomial, length-column_polynomial, length-kept_by, codeword-values, point-outside, secondary-column, masked-on}
use Rattle.column_defs.proofs.MaskLengths.{length-masked}

-- no point of a secondary provider is that of a primary one
pub secondary-outside : (o : Object) (ps : List ℕ) → ArePoints o.shape.n o.shape.l o.master o.id ps →
    o.shape.n ≤ 256 → (j p : ℕ) → o.shape.l ≤ j → j < o.shape.n → p < o.shape.l → get_or ps j 0 ≢ p
secondary-outside o ps are few j p above below less e = absurd (omega (
  arith,
  above,
  below,
  less,
  few,
  sym (point-low o j (omega (arith, below, few)))
      ∙ ap (λ n. n % 256) (sym (are j below) ∙ e),
))

-- a list by its places
listed : (xs : List ℕ) (n : ℕ) → length xs ≡ n → xs ≡ map (λ i. get_or xs i 0) (upto n)
listed xs n long = ext_get_or 0 xs (map (λ i. get_or xs i 0) (upto n)) (long ∙
    sym (length-map-range_with_len (λ i. get_or xs i 0) 0 n)) (λ i below. sym
    (get_or-map-range_with_len (λ i. get_or xs i 0) 0 n i i 0 (omega (arith, below, long)) (omega arith)))

-- a codeword begins with the kept symbols
codeword-front : (profile : Profile) (kept : List ℕ) (place : ℕ) → length kept ≡ profile.keep →
    place < profile.keep → profile.keep ≤ profile.size →
    slice_index (codeword profile kept) place ≡ get_or kept place 0
codeword-front profile kept place long within fits =
    get_or-map-range_with_len (value (interpolate (upto profile.keep) kept)) 0 profile.size place place 0
    (omega (arith, within, fits)) (omega arith)
    ∙ ap (λ ys. value (interpolate (upto profile.keep) ys) place) (listed kept profile.keep long)
    ∙ value-interpolate_upto (λ i. get_or kept i 0) profile.keep place within

-- the symbols at a kept place of a stripe are the row's primary symbols
pub symbols_at-row : (o : Object) (symbols : List ℕ) (place : ℕ) → length symbols ≡ stripe_symbols o →
    place < o.profile.keep → o.profile.keep ≤ o.profile.size →
    symbols_at o.shape.l o.profile.keep place symbols ≡ primary_row o symbols place
symbols_at-row o symbols place long within fits = map-range_same (λ j. slice_index symbols
    (j * o.profile.keep + place)) (λ j. slice_index (codeword o.profile (kept_by o symbols j)) place) 0
    o.shape.l (λ j below. sym (codeword-front o.profile (kept_by o symbols j) place
    (length-kept_by o symbols j long (omega (arith, below))) within fits
    ∙ get_or-take o.profile.keep (drop (j * o.profile.keep) symbols) place 0 within
    ∙ get_or-drop (j * o.profile.keep) symbols place 0))

-- the value of the row's polynomial is their sum by the weights of the point
pub weighted-row : (o : Object) (symbols weights : List ℕ) (place x : ℕ) → length symbols ≡ stripe_symbols o →
    place < o.profile.keep → o.profile.keep ≤ o.profile.size → AreWeights o.shape.l x weights →
    dot weights (symbols_at o.shape.l o.profile.keep place symbols) ≡ value (row_polynomial o symbols place) x
weighted-row o symbols weights place x long within fits are =
    ap (dot weights) (symbols_at-row o symbols place long within fits)
    ∙ sym (are.gives (primary_row o symbols place)
    (length-map-range_with_len (λ j. slice_index (codeword o.profile (kept_by o symbols j)) place) 0
    o.shape.l))

-- a secondary column is the codeword of its kept rows with the masks
pub secondary-encoded : (o : Object) (symbols : List ℕ) (j stripe : ℕ) → length symbols ≡ stripe_symbols o →
    o.profile.keep ≤ o.profile.size → o.shape.l ≤ j → j < 256 →
    masked o j (stripe * o.profile.size)
    (codeword o.profile (map (row_value o symbols j) (upto o.profile.keep)))
    ≡ column_of_symbols o symbols j stripe
secondary-encoded o symbols j stripe long fits second below =
    let q = column_polynomial o symbols (point o j) in
    let kept : map (row_value o symbols j) (upto o.profile.keep) ≡ values_at (upto o.profile.keep) q =
    map-range_same (row_value o symbols j) (value q) 0 o.profile.keep
    (λ place within. value-column_polynomial o symbols place (point o j) (omega (arith, within, fits))
    (point-outside o j second below)) in
    let zero_row : stripe * o.profile.size ≡ stripe * o.profile.size + 0 = omega arith in
    let is : is_primary o j ≡ false = grind (arith, second) in
    (λ i. masked o j (zero_row i) (codeword o.profile (kept i)))
    ∙ ap (masked o j (stripe * o.profile.size + 0))
    (codeword-values o.profile q (length-column_polynomial o symbols (point o j) long))
    ∙ masked-on o j (stripe * o.profile.size) (value q) 0 o.profile.size
    ∙ sym (secondary-column o symbols j stripe is below)

get_or-masked : (o : Object) (j row i : ℕ) (block : List ℕ) → i < length block →
    get_or (masked o j row block) i 0 ≡ nim_add (get_or block i 0) (mask o.master o.id j (row + i))
get_or-masked o j row i [] below = absurd (omega (arith, below))
get_or-masked o j row zero (x ∷ xs) below =
    let e : row ≡ row + 0 = omega arith in ap (λ r. nim_add x (mask o.master o.id j r)) e
get_or-masked o j row (suc i) (x ∷ xs) below =
    let e : row + 1 + i ≡ row + suc i = omega arith in
    get_or-masked o j (row + 1) i xs (omega (arith, below))
    ∙ ap (λ r. nim_add (get_or xs i 0) (mask o.master o.id j r)) e

-- symbols with each its mask added are the masked ones
pub masked-each : (o : Object) (j row : ℕ) (old new masks : List ℕ) → length new ≡ length old →
    masks ≡ masks_from (file_key o.master 77 o.id j) row (length old) →
    ((i : ℕ) → i < length old → get_or new i 0 ≡ nim_add (get_or old i 0) (get_or masks i 0)) →
    new ≡ masked o j row old
masked-each o j row old new masks long are each =
    ext_get_or 0 new (masked o j row old) (long ∙ sym (length-masked o j row old))
    (λ i below. let within : i < length old = omega (arith, below, long) in
    each i within
    ∙ ap (λ m. nim_add (get_or old i 0) m) (ap (λ ms. get_or ms i 0) are
    ∙ get_or-map-range_with_len (mask_of (file_key o.master 77 o.id j)) row (length old) i
    (row + i) 0 within refl)
    ∙ sym (get_or-masked o j row i old within))

-- a primary column is the codeword of what the provider keeps
pub primary-final : (o : Object) (symbols block kept : List ℕ) (j stripe : ℕ) (p : Profile) → j < o.shape.l →
    p ≡ o.profile → block ≡ codeword p kept → kept ≡ kept_by o symbols j →
    block ≡ column_of_symbols o symbols j stripe
unfolding column_of_symbols
primary-final o symbols block kept j stripe p below e is kept_is =
    let primary : is_primary o j ≡ true = grind (arith, below) in
    is ∙ (λ i. codeword (e i) (kept_is i))
    ∙ sym (ap (λ b. if b then codeword o.profile (kept_by o symbols j)
    else map (secondary_symbol o symbols j stripe) (upto o.profile.size)) primary)

-- no block is longer than 128 symbols, and at most 96 are kept
pub profile_small : (number size keep : ℕ) → size ≡ (profile_of number).size →
    keep ≡ (profile_of number).keep → (size ≤ 128) × (keep ≤ 96)
profile_small zero size keep e f = (omega (arith, e), omega (arith, f))
profile_small (suc zero) size keep e f = (omega (arith, e), omega (arith, f))
profile_small (suc (suc zero)) size keep e f = (omega (arith, e), omega (arith, f))
profile_small (suc (suc (suc zero))) size keep e f = (omega (arith, e), omega (arith, f))
profile_small (suc (suc (suc (suc more)))) size keep e f = (omega (arith, e), omega (arith, f))

-- the masks that were read into the front of a longer list
pub masks_front : (out zeros rest key : List ℕ) (m stripe : ℕ) → m ≤ length zeros →
    out ≡ masks_from key (stripe * length (take m zeros)) (length (take m zeros)) →
    take m (out ++ rest) ≡ masks_from key (stripe * m) m
masks_front out zeros rest key m stripe fits is =
    let whole : out ≡ masks_from key (stripe * m) m = is
    ∙ ap (λ n. masks_from key (stripe * n) n) (length-take-le m zeros fits) in
    take-front out rest m (ap length whole ∙ length-map-range_with_len (mask_of key) (stripe * m) m) ∙ whole

-- what is encoded from kept rows, with the masks
pub secondary-final : (o : Object) (symbols block kept : List ℕ) (j stripe : ℕ) (p : Profile) →
    length symbols ≡ stripe_symbols o → o.profile.keep ≤ o.profile.size → o.shape.l ≤ j → j < 256 →
    p ≡ o.profile → block ≡ codeword p kept → kept ≡ map (row_value o symbols j) (upto o.profile.keep) →
    masked o j (stripe * length block) block ≡ column_of_symbols o symbols j stripe
secondary-final o symbols block kept j stripe p long fits second below e is kept_is =
    let rows = map (row_value o symbols j) (upto o.profile.keep) in
    let whole : block ≡ codeword o.profile rows = is ∙ (λ i. codeword (e i) (kept_is i)) in
    let size : length block ≡ o.profile.size = ap length whole
    ∙ length-map-range_with_len (value (interpolate (upto o.profile.keep) rows)) 0 o.profile.size in
    (λ i. masked o j (stripe * size i) (whole i))
    ∙ secondary-encoded o symbols j stripe long fits second below

-- all columns are of the size
pub columns-sizes : (o : Object) (symbols : List ℕ) (stripe n : ℕ) (out : List (List ℕ)) →
    out ≡ map (λ j. column_of_symbols o symbols j stripe) (upto n) →
    All (λ block. length block ≡ o.profile.size) out
columns-sizes o symbols stripe n out is k d below =
    let f = λ (j : ℕ). column_of_symbols o symbols j stripe in
    ap length (ap (λ (blocks : List (List ℕ)). get_or blocks k d) is
    ∙ get_or-map-range_with_len f 0 n k k d
    (omega (arith, below, ap length is, length-map-range_with_len f 0 n)) (omega arith))
    ∙ length-column_of_symbols o symbols k stripe

-- a block has room for the kept symbols and as many more as are corrected
pub profile_room : (number size keep fix : ℕ) → size ≡ (profile_of number).size →
    keep ≡ (profile_of number).keep → fix ≡ (profile_of number).fix → keep + fix ≤ size
profile_room number size keep fix e f g = omega (arith, e, f, g, size_is number)
