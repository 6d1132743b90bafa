-- A block that is not wrong opens to its provider's column without masks.
use Rattle.column_laws.proofs.Words.{◌≡◌, ℕ, suc, ◌+◌, ◌*◌, ◌<◌, ◌≤◌, ◌||◌, ◌==◌, Bool, true, false, not, List, [], ◌∷◌, length, nat_lt, slice_get, None, Some, if◌then◌else◌, arith, ap, sym, refl, ◌∙◌, length-range_with_len, length-map-range_with_len, value, upto, profile_of, differences, IsCodeword, agree-differences, Object, stripe_symbols, symbol_of, symbols_in, row_number, is_primary, point, row_polynomial, column_of_symbols, columns, is_wrong_block, SeenBlock, masked, bare, OpensTo, symbol_in, slice_get-upto, primary-symbol, column_polynomial, value-column_polynomial, point-outside, bare-secondary, IsCodeword-bare_column}
use Rattle.code_defs.proofs.Values.{equal-added}
use Rattle.column_defs.specs.Keys.{mask, secret_point}
use Rattle.column_defs.proofs.MaskLengths.{length-bare}
use Rattle.column_laws.proofs.UniqueLaws.{opens-unique}

-- masks change no place at which two blocks differ
differences-masked : (o : Object) (j row : ℕ) (xs ys : List ℕ) →
    differences (masked o j row xs) (masked o j row ys) ≡ differences xs ys
differences-masked o j row [] ys = refl
differences-masked o j row (x ∷ xs) [] = refl
differences-masked o j row (x ∷ xs) (y ∷ ys) = (λ i. if equal-added x y (mask o.master o.id j row) i then
    differences-masked o j (row + 1) xs ys i else suc (differences-masked o j (row + 1) xs ys i))

differences-bare : (o : Object) (j stripe : ℕ) (xs ys : List ℕ) →
    differences (bare o j stripe xs) (bare o j stripe ys) ≡ differences xs ys
differences-bare o j stripe xs ys =
    elim (is_primary o j) as
    (λ b. differences (if b then xs else masked o j (row_number o stripe 0) xs)
    (if b then ys else masked o j (row_number o stripe 0) ys) ≡ differences xs ys) [
      | true ↦ refl
      | false ↦ differences-masked o j (row_number o stripe 0) xs ys
    ]

-- a stripe has its number of symbols
pub length-symbols_in : (o : Object) (bytes : List ℕ) (stripe : ℕ) →
    length (symbols_in o bytes stripe) ≡ stripe_symbols o
length-symbols_in o bytes stripe =
    length-map-range_with_len (λ i. symbol_of bytes (stripe * stripe_symbols o + i)) 0 (stripe_symbols o)

-- a block that is not wrong is of the size, and differs at few places
long-enough : (n size fix d : ℕ) → not (n == size) || nat_lt fix d ≡ false → n ≡ size
long-enough n size fix d e = grind (arith, e)

few-differences : (n size fix d : ℕ) → not (n == size) || nat_lt fix d ≡ false → d ≤ fix
few-differences n size fix d e = grind (arith, e)

-- a block that is not wrong opens to its provider's own block without masks
pub opens-right : (o : Object) (bytes : List ℕ) (j stripe : ℕ) (seen : SeenBlock) → j < 256 →
    is_wrong_block o bytes j stripe seen ≡ false →
    OpensTo o j stripe seen (Some (bare o j stripe (columns o bytes j stripe)))
opens-right o bytes j stripe None below right = absurd (cc right)
opens-right o bytes j stripe (Some block) below right =
    let own = columns o bytes j stripe in
    let word : IsCodeword o.profile (bare o j stripe own) =
    IsCodeword-bare_column o (symbols_in o bytes stripe) j stripe (length-symbols_in o bytes stripe) below in
    let seen = bare o j stripe block in
    let size : length block ≡ o.profile.size = long-enough (length block) o.profile.size o.profile.fix
    (differences block own) right in
    let whole : length seen ≡ o.profile.size = length-bare o j stripe block ∙ size in
    let range : length (upto o.profile.size) ≡ o.profile.size = length-range_with_len 0 o.profile.size in
    record {
      polynomial = word.polynomial;
      near = record {
        whole = whole;
        decodes = record {
          short = word.degree;
          near = omega (
            arith,
            few-differences (length block) o.profile.size o.profile.fix (differences block own) right,
            differences-bare o j stripe block own,
            ap (differences seen) word.values,
            agree-differences word.polynomial (upto o.profile.size) seen (range ∙ sym whole),
          );
        };
      };
      opened_is = word.values;
    }

-- the symbol at a place of a column without masks is the value of the row's polynomial at the provider's
-- point
bare-symbol : (o : Object) (symbols : List ℕ) (j stripe place : ℕ) → j < 256 → place < o.profile.size →
    slice_get (bare o j stripe (column_of_symbols o symbols j stripe)) place
    ≡ Some (value (row_polynomial o symbols place) (point o j))
bare-symbol o symbols j stripe place below within = go (is_primary o j) refl
  where
    go : (b : Bool) → is_primary o j ≡ b →
        slice_get (bare o j stripe (column_of_symbols o symbols j stripe)) place
        ≡ Some (value (row_polynomial o symbols place) (point o j))
    go true is = ap (λ b. slice_get (if b then column_of_symbols o symbols j stripe else masked o j
        (row_number o stripe 0) (column_of_symbols o symbols j stripe)) place) is
        ∙ primary-symbol o symbols j stripe place is within
        ∙ ap (λ b. Some (value (row_polynomial o symbols place)
        (if b then j else secret_point o.master o.id j))) (sym is)
    go false is = ap (λ word. slice_get word place) (bare-secondary o symbols j stripe is below)
        ∙ slice_get-upto (value (column_polynomial o symbols (point o j))) o.profile.size place within
        ∙ ap Some (sym (value-column_polynomial o symbols place (point o j) within
        (point-outside o j (grind (arith, is)) below)))

-- each symbol of a block that is not wrong opens to its row's polynomial at the provider's point
pub symbol-right : (o : Object) (bytes : List ℕ) (number j stripe place : ℕ) (seen opened : SeenBlock) →
    o.profile ≡ profile_of number → j < 256 → is_wrong_block o bytes j stripe seen ≡ false →
    OpensTo o j stripe seen opened → place < o.profile.size →
    symbol_in place opened ≡ Some (value (row_polynomial o (symbols_in o bytes stripe) place) (point o j))
symbol-right o bytes number j stripe place seen opened is below right opens within = ap (symbol_in place)
    (opens-unique o number j stripe seen opened (Some (bare o j stripe (columns o bytes j stripe))) is opens
    (opens-right o bytes j stripe seen below right))
    ∙ bare-symbol o (symbols_in o bytes stripe) j stripe place below within
