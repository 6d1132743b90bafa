-- The symbols of columns: what stands at a place, and the row's polynomial at the providers' points.
use Rattle.column_defs.proofs.Words.{◌≤◌, true, false, map, slice_index, slice_get, Some, if◌then◌else◌, arith, ap, sym, ◌∙◌, length-range_with_len, length-map-range_with_len, get_or-map-range_with_len, nim, nim_laws, length-interpolate, value, interpolate, upto, codeword, Object, kept_by, is_primary, row_polynomial, secondary_symbol, column_of_symbols}
use Rattle.std.specs.Prelude.{◌≡◌, ℕ, ◌<◌, List, length}
use Rattle.std.proofs.lemmas.Option.{slice_get-get_or}
use Rattle.code_defs.proofs.Generators.{value-kept}

-- the polynomial through values at the points 0 to n - 1 takes them
pub value-interpolate_upto : (f : ℕ → ℕ) (n j : ℕ) → j < n →
    value (interpolate (upto n) (map f (upto n))) j ≡ f j
value-interpolate_upto f n j below = value-kept n (map f (upto n)) j (length-map-range_with_len f 0 n) below
    ∙ get_or-map-range_with_len f 0 n j j 0 below (omega arith)

-- it has as many coefficients as points
pub length-row_polynomial : (o : Object) (symbols : List ℕ) (place : ℕ) →
    length (row_polynomial o symbols place) ≤ o.shape.l
length-row_polynomial o symbols place =
    let f = λ (j : ℕ). slice_index (codeword o.profile (kept_by o symbols j)) place in
    omega (
      arith,
      length-range_with_len 0 o.shape.l,
      length-interpolate nim nim_laws (upto o.shape.l) (map f (upto o.shape.l))
          (length-range_with_len 0 o.shape.l ∙ sym (length-map-range_with_len f 0 o.shape.l)),
    )

-- the row's polynomial at the point of a primary provider is that provider's symbol
pub value-row_polynomial : (o : Object) (symbols : List ℕ) (place j : ℕ) → j < o.shape.l →
    value (row_polynomial o symbols place) j ≡ slice_index (codeword o.profile (kept_by o symbols j)) place
value-row_polynomial o symbols place j below = value-interpolate_upto
    (λ j. slice_index (codeword o.profile (kept_by o symbols j)) place) o.shape.l j below

-- what stands at a place of a list that a function makes of 0 to n - 1
pub slice_get-upto : (f : ℕ → ℕ) (n place : ℕ) → place < n → slice_get (map f (upto n)) place ≡ Some (f place)
slice_get-upto f n place below =
    slice_get-get_or (map f (upto n)) place 0 (omega (arith, below, length-map-range_with_len f 0 n))
    ∙ ap Some (get_or-map-range_with_len f 0 n place place 0 below (omega arith))

-- a column has as many symbols as a block
pub length-column_of_symbols : (o : Object) (symbols : List ℕ) (j stripe : ℕ) →
    length (column_of_symbols o symbols j stripe) ≡ o.profile.size
unfolding column_of_symbols
length-column_of_symbols o symbols j stripe =
    elim (is_primary o j) as
    (λ b. length (if b then codeword o.profile (kept_by o symbols j)
    else map (secondary_symbol o symbols j stripe) (upto o.profile.size)) ≡ o.profile.size) [
      | true ↦ length-map-range_with_len (value (interpolate (upto o.profile.keep) (kept_by o symbols j))) 0
          o.profile.size
      | false ↦ length-map-range_with_len (secondary_symbol o symbols j stripe) 0 o.profile.size
    ]

-- the symbol at a place of a primary column is the value of the row's polynomial at the provider's point
pub primary-symbol : (o : Object) (symbols : List ℕ) (j stripe place : ℕ) → is_primary o j ≡ true →
    place < o.profile.size →
    slice_get (column_of_symbols o symbols j stripe) place ≡ Some (value (row_polynomial o symbols place) j)
unfolding column_of_symbols
primary-symbol o symbols j stripe place is below =
    let word = codeword o.profile (kept_by o symbols j) in
    let p = interpolate (upto o.profile.keep) (kept_by o symbols j) in
    let here : slice_get word place ≡ Some (value p place) =
    slice_get-upto (value p) o.profile.size place below in
    let at : slice_index word place ≡ value p place =
    get_or-map-range_with_len (value p) 0 o.profile.size place place 0 below (omega arith) in
    let same : value (row_polynomial o symbols place) j ≡ slice_index word place =
    value-row_polynomial o symbols place j (grind (arith, is)) in
    ap (λ b. slice_get (if b then word else map (secondary_symbol o symbols j stripe) (upto o.profile.size))
    place) is
    ∙ here ∙ ap Some (sym at ∙ sym same)

-- the symbol at a place of a secondary column is that value with the row's mask
pub secondary-symbol : (o : Object) (symbols : List ℕ) (j stripe place : ℕ) → is_primary o j ≡ false →
    place < o.profile.size →
    slice_get (column_of_symbols o symbols j stripe) place ≡ Some (secondary_symbol o symbols j stripe place)
unfolding column_of_symbols
secondary-symbol o symbols j stripe place is below =
    ap (λ b. slice_get (if b then codeword o.profile (kept_by o symbols j)
    else map (secondary_symbol o symbols j stripe) (upto o.profile.size)) place) is
    ∙ slice_get-upto (secondary_symbol o symbols j stripe) o.profile.size place below
