-- The premises of the laws at the small object.
use Rattle.column_laws.proofs.Words.{◌≡◌, ◌≢◌, ◌<◌, ℕ, ◌||◌, ◌==◌, not, false, nat_lt, List, [], ◌∷◌, None, Some, arith, ap, sym, refl, ◌∙◌, IsShape, agree_over, is_seen_over, value, agree, upto, values_at, differences, differences-same, Object, symbol_of, symbols_in, point, primary_row, row_polynomial, columns, is_wrong_block, bare, block_at, OpensTo, AllOpen, AcceptsRow, GivesSymbols, LosesRow, count_of, IsRow, length-column_of_symbols, example, three_seen, three_opened}
use Rattle.column_laws.proofs.RightBlocks.{opens-right}
use Rattle.column_laws.proofs.RightRows.{row-right, row-symbol, given-right}
use Rattle.column_laws.proofs.OtherRows.{values-row}

-- a provider's own block is not wrong
pub column-right : (o : Object) (bytes : List ℕ) (j stripe : ℕ) →
    is_wrong_block o bytes j stripe (Some (columns o bytes j stripe)) ≡ false
column-right o bytes j stripe = ap (λ n. not (n == o.profile.size) || nat_lt o.profile.fix
    (differences (columns o bytes j stripe) (columns o bytes j stripe)))
    (length-column_of_symbols o (symbols_in o bytes stripe) j stripe)
    ∙ ap (λ d. not (o.profile.size == o.profile.size) || nat_lt o.profile.fix d)
    (differences-same (columns o bytes j stripe))
    ∙ go o.profile.size o.profile.fix
  where
    go : (size fix : ℕ) → not (size == size) || nat_lt fix 0 ≡ false
    go size fix = grind arith

-- and opens to itself without its masks
pub opens-own : (o : Object) (bytes : List ℕ) (j stripe : ℕ) → j < 256 →
    OpensTo o j stripe (Some (columns o bytes j stripe)) (Some (bare o j stripe (columns o bytes j stripe)))
opens-own o bytes j stripe below =
    opens-right o bytes j stripe (Some (columns o bytes j stripe)) below (column-right o bytes j stripe)

-- one of the four blocks is wrong
pub one-wrong : (o : Object) (bytes : List ℕ) →
    count_of (λ j. is_wrong_block o bytes j 0 (block_at (three_seen o bytes) j)) (upto 4) ≡ 1
one-wrong o bytes = simp (column-right o bytes 0 0, column-right o bytes 1 0, column-right o bytes 2 0) refl

-- they open
pub three-open : (o : Object) (bytes : List ℕ) → AllOpen o 0 0 (three_seen o bytes) (three_opened o bytes)
three-open o bytes = (
  opens-own o bytes 0 0 (omega arith),
  (opens-own o bytes 1 0 (omega arith), (opens-own o bytes 2 0 (omega arith), (refl, tt))),
)

-- the shape
pub example-shape : IsShape 4 1 1
example-shape = (omega arith, omega arith, omega arith, omega arith, omega arith)

-- each row of the blocks is accepted
pub three-accepted : (master bytes : List ℕ) →
    AcceptsRow (example master) (three_opened (example master) bytes) 0
    (row_polynomial (example master) (symbols_in (example master) bytes 0) 0)
three-accepted master bytes = row-right (example master) bytes 0 0 0 (three_seen (example master) bytes)
    (three_opened (example master) bytes) refl example-shape (omega (arith, one-wrong (example master) bytes))
    (three-open (example master) bytes) (omega arith)

-- they give the symbols
pub three-give : (master bytes : List ℕ) →
    GivesSymbols (example master) 0 (three_seen (example master) bytes) (symbols_in (example master) bytes 0)
three-give master bytes = given-right (example master) bytes 0 0 (three_seen (example master) bytes)
    (three_opened (example master) bytes) refl example-shape (omega (arith, one-wrong (example master) bytes))
    (three-open (example master) bytes)

-- no block, and no symbol that agrees
agree-absent : (p : List ℕ) (a b c d : ℕ) → agree p (a ∷ b ∷ c ∷ d ∷ []) (None ∷ None ∷ None ∷ None ∷ []) ≡ 0
unfolding agree_over is_seen_over
agree-absent p a b c d = refl

-- so row 0 is lost
pub none-lose : (master : List ℕ) → LosesRow (example master) 0 (None ∷ None ∷ None ∷ None ∷ []) 0
none-lose master = record {
  opened = None ∷ None ∷ None ∷ None ∷ [];
  opens = (refl, (refl, (refl, (refl, tt))));
  place = 0;
  kept = omega arith;
  number = refl;
  lost = λ p a. never p a;
  lowest = λ before less. absurd (omega (arith, less));
}
  where
    never : (p : List ℕ) → AcceptsRow (example master) (None ∷ None ∷ None ∷ None ∷ []) 0 p → ⊥
    never p a = omega (
      arith,
      a.agrees,
      agree-absent p 0 (point (example master) 1) (point (example master) 2) (point (example master) 3),
    )

-- the first symbols of two files
first_7 : symbol_of (7 ∷ []) 0 ≡ 7
unfolding symbol_of
first_7 = refl

-- of the other
first_8 : symbol_of (8 ∷ []) 0 ≡ 8
unfolding symbol_of
first_8 = refl

-- the row of a file takes its first symbol
row-first : (master bytes : List ℕ) →
    value (row_polynomial (example master) (symbols_in (example master) bytes 0) 0) 0 ≡ symbol_of bytes 0
row-first master bytes = row-symbol (example master) bytes 0 0 0 (omega arith) (omega arith) (omega arith)

-- another file's row does not take the primary symbols
pub rows-differ : (master : List ℕ) →
    values_at (upto 1) (row_polynomial (example master) (symbols_in (example master) (8 ∷ []) 0) 0)
    ≢ primary_row (example master) (symbols_in (example master) (7 ∷ []) 0) 0
rows-differ master e =
    let same : value (row_polynomial (example master) (symbols_in (example master) (8 ∷ []) 0) 0) 0 ∷ []
    ≡ value (row_polynomial (example master) (symbols_in (example master) (7 ∷ []) 0) 0) 0 ∷ [] =
    e ∙ sym (values-row (example master) (symbols_in (example master) (7 ∷ []) 0) 0) in
    let eight : ◌≡◌ {A = ℕ} 8 7 =
    cc (same, row-first master (7 ∷ []), row-first master (8 ∷ []), first_7, first_8) in
    omega (arith, eight)

-- row 0 is a row of a file of one byte
pub row-in : (master : List ℕ) → IsRow (example master) (7 ∷ []) 0 0
row-in master = record { stripe_in = omega arith; place_in = omega arith }
