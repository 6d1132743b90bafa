-- The right answers to a challenge are the values of the same sum of the rows' polynomials.
use Rattle.std.specs.Prelude.{◌≡◌, ℕ, zero, suc, ◌+◌, ◌*◌, ◌/◌, ◌%◌, ◌≤◌, ◌&&◌, Bool, true, false, List, [], length, slice_get, is_some, unwrap_or, Option, None, Some, if◌then◌else◌}
use Rattle.std.proofs.Common.{arith, ap, sym, refl, ◌∙◌}
use Rattle.std.specs.Option.{option_map}
use Rattle.hail_field.specs.Nim.{nim, nim_add, nim_mul, nim_pow}
use Rattle.hail_field.proofs.AllNumbers.{nim_laws, nim_ring}
use Rattle.algebra_laws.proofs.Ring.{add_swap}
use Rattle.algebra_laws.proofs.Values.{value-plus, value-scale}
use Rattle.algebra_laws.proofs.Roots.{length-plus}
use Rattle.algebra_laws.proofs.Interpolate.{length-scale}
use Rattle.algebra_laws.specs.Poly.{value as value_over}
use Rattle.code_defs.specs.Polynomials.{value, plus, scale}
use Rattle.column_defs.specs.Keys.{mask, secret_point}
use Rattle.column_defs.specs.Objects.{Object, row_number, symbols_in, is_primary, point}
use Rattle.column_defs.specs.Columns.{row_polynomial, columns}
use Rattle.column_defs.specs.Challenges.{Challenge, alpha, picked_row, sum_over, combined, symbol_at, held_symbol, all_held, honest_answer, right_answer, mask_sum, bare_answer}
use Rattle.column_defs.proofs.ColumnLaws.{length-row_polynomial, length-column_of_symbols, primary-symbol, secondary-symbol}
use Rattle.aggregate.specs.RightAnswers.{IsRightRow}

-- the sum of alpha ^ (k + 1) times the polynomial of the row of pick k
sum_rows : Challenge → (ℕ → List ℕ) → ℕ → List ℕ
sum_rows c rows zero = []
sum_rows c rows (suc k) =
    plus (sum_rows c rows k) (scale (nim_pow (alpha c.seed) (suc k)) (rows (picked_row c.seed c.rows k)))

value-sum_rows : (c : Challenge) (rows : ℕ → List ℕ) (x k : ℕ) →
    value (sum_rows c rows k) x ≡ sum_over c (λ row. value (rows row) x) k
unfolding sum_rows sum_over value_over
value-sum_rows c rows x zero = refl
value-sum_rows c rows x (suc k) =
    let w = nim_pow (alpha c.seed) (suc k) in
    let p = rows (picked_row c.seed c.rows k) in
    value-plus nim nim_laws (sum_rows c rows k) (scale w p) x
    ∙ (λ i. nim_add (value-sum_rows c rows x k i) (value-scale nim nim_laws w p x i))

length-sum_rows : (c : Challenge) (rows : ℕ → List ℕ) (l k : ℕ) → ((row : ℕ) → length (rows row) ≤ l) →
    length (sum_rows c rows k) ≤ l
unfolding sum_rows
length-sum_rows c rows l zero short = omega arith
length-sum_rows c rows l (suc k) short =
    let w = nim_pow (alpha c.seed) (suc k) in
    let p = rows (picked_row c.seed c.rows k) in
    omega (
      arith,
      length-plus nim nim_laws (sum_rows c rows k) (scale w p),
      length-scale nim nim_laws w p,
      short (picked_row c.seed c.rows k),
      length-sum_rows c rows l k short,
    )

-- a sum of the same symbols is the same
sum_over-same : (c : Challenge) (f g : ℕ → ℕ) (k : ℕ) → ((row : ℕ) → f row ≡ g row) →
    sum_over c f k ≡ sum_over c g k
unfolding sum_over
sum_over-same c f g zero same = refl
sum_over-same c f g (suc k) same =
    let w = nim_pow (alpha c.seed) (suc k) in
    (λ i. nim_add (sum_over-same c f g k same i) (nim_mul w (same (picked_row c.seed c.rows k) i)))

-- a sum of sums
sum_over-add : (c : Challenge) (f g : ℕ → ℕ) (k : ℕ) →
    sum_over c (λ row. nim_add (f row) (g row)) k ≡ nim_add (sum_over c f k) (sum_over c g k)
unfolding sum_over
sum_over-add c f g zero = sym (nim_ring.add_zero 0)
sum_over-add c f g (suc k) =
    let w = nim_pow (alpha c.seed) (suc k) in
    let row = picked_row c.seed c.rows k in
    cc (
      sum_over-add c f g k,
      nim_ring.mul_add w (f row) (g row),
      add_swap nim_ring (sum_over c f k) (sum_over c g k) (nim_mul w (f row)) (nim_mul w (g row)),
    )

-- where something stands in every row, all picked rows have it
all_held-each : (c : Challenge) (held : ℕ → Option (List ℕ)) (f : ℕ → ℕ) (k : ℕ) →
    ((row : ℕ) → held_symbol c.size held row ≡ Some (f row)) → all_held c held k ≡ true
unfolding all_held
all_held-each c held f zero each = refl
all_held-each c held f (suc k) each =
    (λ i. all_held-each c held f k each i && is_some (each (picked_row c.seed c.rows k) i))

-- the honest answer of blocks with these symbols in all rows
honest_answer-each : (c : Challenge) (held : ℕ → Option (List ℕ)) (f : ℕ → ℕ) →
    ((row : ℕ) → held_symbol c.size held row ≡ Some (f row)) → honest_answer c held ≡ Some (combined c f)
honest_answer-each c held f each =
    ap (λ (b : Bool). if b then Some (combined c (λ row. unwrap_or (held_symbol c.size held row) 0))
    else None) (all_held-each c held f c.picks each)
    ∙ ap Some (sum_over-same c (λ row. unwrap_or (held_symbol c.size held row) 0) f c.picks
    (λ row. ap (λ s. unwrap_or s 0) (each row)))

-- what stands at a place of a block of the size
symbol_at-within : (size place : ℕ) (block : List ℕ) → length block ≡ size →
    symbol_at size place (Some block) ≡ slice_get block place
symbol_at-within size place block e = grind (arith, e)

module _ (o : Object) (bytes : List ℕ) where
  -- the polynomial of a row of the file, by the row's number
  row_at : ℕ → List ℕ
  row_at row = row_polynomial o (symbols_in o bytes (row / o.profile.size)) (row % o.profile.size)

  -- the symbol that a provider is to hold in a row
  right_symbol : ℕ → ℕ → ℕ
  right_symbol j row = if is_primary o j then value (row_at row) (point o j)
      else nim_add (value (row_at row) (point o j)) (mask o.master o.id j row)

right_symbol-primary : (o : Object) (bytes : List ℕ) (j row : ℕ) → is_primary o j ≡ true →
    right_symbol o bytes j row ≡ value (row_at o bytes row) (point o j)
unfolding right_symbol
right_symbol-primary o bytes j row is = ap (λ b. if b then value (row_at o bytes row) (point o j) else nim_add
    (value (row_at o bytes row) (point o j)) (mask o.master o.id j row)) is

right_symbol-secondary : (o : Object) (bytes : List ℕ) (j row : ℕ) → is_primary o j ≡ false →
    right_symbol o bytes j row ≡ nim_add (value (row_at o bytes row) (point o j)) (mask o.master o.id j row)
unfolding right_symbol
right_symbol-secondary o bytes j row is = ap (λ b. if b then value (row_at o bytes row) (point o j) else
    nim_add (value (row_at o bytes row) (point o j)) (mask o.master o.id j row)) is

-- the row at a place of a stripe, by its number
row-split : (o : Object) (row : ℕ) → 1 ≤ o.profile.size →
    row_number o (row / o.profile.size) (row % o.profile.size) ≡ row
row-split o row some =
    let n = o.profile.size in
    let e : n * (row / n) + row % n ≡ row = omega (arith, some) in
    grind (arith, e)

-- what a primary provider is to hold in a row, by its stripe and place
primary-held : (o : Object) (bytes : List ℕ) (j row : ℕ) → 1 ≤ o.profile.size → is_primary o j ≡ true →
    held_symbol o.profile.size (λ stripe. Some (columns o bytes j stripe)) row
    ≡ Some (right_symbol o bytes j row)
unfolding right_symbol row_at
primary-held o bytes j row some is =
    let stripe = row / o.profile.size in
    let place = row % o.profile.size in
    let symbols = symbols_in o bytes stripe in
    let mine : point o j ≡ j = ap (λ b. if b then j else secret_point o.master o.id j) is in
    symbol_at-within o.profile.size place (columns o bytes j stripe)
    (length-column_of_symbols o symbols j stripe)
    ∙ primary-symbol o symbols j stripe place is (omega (arith, some))
    ∙ ap (λ x. Some (value (row_at o bytes row) x)) (sym mine)
    ∙ sym (ap Some (right_symbol-primary o bytes j row is))

-- what a secondary provider is to hold in a row
secondary-held : (o : Object) (bytes : List ℕ) (j row : ℕ) → 1 ≤ o.profile.size → is_primary o j ≡ false →
    held_symbol o.profile.size (λ stripe. Some (columns o bytes j stripe)) row
    ≡ Some (right_symbol o bytes j row)
unfolding right_symbol row_at
secondary-held o bytes j row some is =
    let stripe = row / o.profile.size in
    let place = row % o.profile.size in
    let symbols = symbols_in o bytes stripe in
    symbol_at-within o.profile.size place (columns o bytes j stripe)
    (length-column_of_symbols o symbols j stripe)
    ∙ secondary-symbol o symbols j stripe place is (omega (arith, some))
    ∙ ap (λ r. Some (nim_add (value (row_at o bytes row) (point o j)) (mask o.master o.id j r)))
    (row-split o row some)
    ∙ sym (ap Some (right_symbol-secondary o bytes j row is))

right-held : (o : Object) (bytes : List ℕ) (j row : ℕ) → 1 ≤ o.profile.size →
    held_symbol o.profile.size (λ stripe. Some (columns o bytes j stripe)) row
    ≡ Some (right_symbol o bytes j row)
right-held o bytes j row some = go (is_primary o j) refl
  where
    go : (b : Bool) → is_primary o j ≡ b →
        held_symbol o.profile.size (λ stripe. Some (columns o bytes j stripe)) row
        ≡ Some (right_symbol o bytes j row)
    go true is = primary-held o bytes j row some is
    go false is = secondary-held o bytes j row some is

row_short : (o : Object) (bytes : List ℕ) (row : ℕ) → length (row_at o bytes row) ≤ o.shape.l
unfolding row_at
row_short o bytes row =
    length-row_polynomial o (symbols_in o bytes (row / o.profile.size)) (row % o.profile.size)

-- the polynomial of the right answers
pub right_row : Object → List ℕ → Challenge → List ℕ
right_row o bytes c = sum_rows c (row_at o bytes) c.picks

value-right_row : (o : Object) (bytes : List ℕ) (c : Challenge) (x : ℕ) →
    value (right_row o bytes c) x ≡ combined c (λ row. value (row_at o bytes row) x)
unfolding right_row
value-right_row o bytes c x = value-sum_rows c (row_at o bytes) x c.picks

-- the right answer is the combination of the symbols
right_answer-is : (o : Object) (bytes : List ℕ) (c : Challenge) (j : ℕ) → 1 ≤ c.size →
    c.size ≡ o.profile.size → right_answer o bytes j c ≡ Some (combined c (right_symbol o bytes j))
right_answer-is o bytes c j some e = honest_answer-each c (λ stripe. Some (columns o bytes j stripe))
    (right_symbol o bytes j) (λ row. ap (λ n. held_symbol n (λ stripe. Some (columns o bytes j stripe)) row) e
    ∙ right-held o bytes j row (omega (arith, some, e)))

-- a sum taken off again
taken_off : (a m : ℕ) → nim_add (nim_add a m) m ≡ a
taken_off a m = nim_ring.add_assoc a m m ∙ ap (λ x. nim_add a x) (nim_ring.add_self m) ∙ nim_ring.add_zero a

right-values : (o : Object) (bytes : List ℕ) (c : Challenge) (j : ℕ) → 1 ≤ c.size → c.size ≡ o.profile.size →
    bare_answer o c j (right_answer o bytes j c) ≡ Some (value (right_row o bytes c) (point o j))
right-values o bytes c j some e = go (is_primary o j) refl
  where
    go : (b : Bool) → is_primary o j ≡ b → bare_answer o c j (right_answer o bytes j c)
        ≡ Some (value (right_row o bytes c) (point o j))
    go true is = ap (λ b. if b then right_answer o bytes j c else option_map (λ x. nim_add x (mask_sum o j c))
        (right_answer o bytes j c)) is
        ∙ right_answer-is o bytes c j some e
        ∙ ap Some (sum_over-same c (right_symbol o bytes j)
        (λ row. value (row_at o bytes row) (point o j)) c.picks
        (λ row. right_symbol-primary o bytes j row is)
        ∙ sym (value-right_row o bytes c (point o j)))
    go false is = ap (λ b. if b then right_answer o bytes j c else option_map
        (λ x. nim_add x (mask_sum o j c)) (right_answer o bytes j c)) is
        ∙ ap (option_map (λ x. nim_add x (mask_sum o j c))) (right_answer-is o bytes c j some e)
        ∙ ap Some (ap (λ x. nim_add x (mask_sum o j c))
        (sum_over-same c (right_symbol o bytes j)
        (λ row. nim_add (value (row_at o bytes row) (point o j)) (mask o.master o.id j row)) c.picks
        (λ row. right_symbol-secondary o bytes j row is)
        ∙ sum_over-add c (λ row. value (row_at o bytes row) (point o j))
        (λ row. mask o.master o.id j row) c.picks)
        ∙ taken_off (combined c (λ row. value (row_at o bytes row) (point o j))) (mask_sum o j c)
        ∙ sym (value-right_row o bytes c (point o j)))

-- all right answers to a challenge, without masks, are values of this one polynomial
pub IsRightRow-right_row : (o : Object) (bytes : List ℕ) (c : Challenge) → 1 ≤ c.size →
    c.size ≡ o.profile.size → IsRightRow o bytes c (right_row o bytes c)
unfolding right_row
IsRightRow-right_row o bytes c some e = record {
  degree = length-sum_rows c (row_at o bytes) o.shape.l c.picks (row_short o bytes);
  values = λ j. right-values o bytes c j some e;
}
