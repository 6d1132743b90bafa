-- A secondary column without its masks is the server codeword of a combination of the primary providers'
-- polynomials.
use Rattle.column_defs.proofs.Words.{◌≢◌, zero, suc, ◌%◌, ◌≤◌, true, false, map, drop, slice_index, if◌then◌else◌, arith, ap, sym, refl, ◌∙◌, range_with_len, length-range_with_len, length-map-range_with_len, get_or-map-range_with_len, length-take-le, Each, each_range, nim, nim_add, nim_mul, nim_laws, nim_ring, length-scale, value, plus, scale, vanish, interpolate, upto, values_at, codeword, IsCodeword, mask, Object, stripe_symbols, row_number, kept_by, is_primary, point, primary_row, row_polynomial, secondary_symbol, column_of_symbols, masked, bare}
use Rattle.std.specs.Prelude.{◌≡◌, ℕ, ◌+◌, ◌*◌, ◌<◌, Bool, List, [], ◌∷◌, length}
use Rattle.std.proofs.Math.ListN.{length-drop}
use Rattle.std.proofs.Math.Nat.{mul-le-mul_right}
use Rattle.algebra_laws.proofs.Lists.{map-range_same}
use Rattle.algebra_laws.specs.Poly.{value as value_over}
use Rattle.algebra_laws.proofs.Values.{value-plus, value-scale}
use Rattle.algebra_laws.proofs.Roots.{length-plus, plus_zero, same_values}
use Rattle.code_defs.specs.Profiles.{Profile}
use Rattle.code_defs.specs.Sums.{dot}
use Rattle.code_defs.proofs.Points.{Apart-range}
use Rattle.code_defs.proofs.Lagrange.{part, dot-scaled, value-interpolate}
use Rattle.code_defs.proofs.Codewords.{codeword-short}
use Rattle.column_defs.proofs.PointLaws.{point-low}
use Rattle.column_defs.proofs.ColumnLaws.{value-interpolate_upto}

-- the sum of each coefficient times the polynomial at its place
combine : List ℕ → List (List ℕ) → List ℕ
combine [] ps = []
combine (w ∷ ws) [] = []
combine (w ∷ ws) (p ∷ ps) = plus (scale w p) (combine ws ps)

value-combine : (ws : List ℕ) (ps : List (List ℕ)) (x : ℕ) →
    value (combine ws ps) x ≡ dot ws (map (λ p. value p x) ps)
unfolding combine dot value_over
value-combine [] ps x = refl
value-combine (w ∷ ws) [] x = refl
value-combine (w ∷ ws) (p ∷ ps) x = value-plus nim nim_laws (scale w p) (combine ws ps) x
    ∙ (λ i. nim_add (value-scale nim nim_laws w p x i) (value-combine ws ps x i))

length-combine : (ws : List ℕ) (ps : List (List ℕ)) (k : ℕ) → Each (λ p. length p ≤ k) ps →
    length (combine ws ps) ≤ k
unfolding combine
length-combine [] ps k short = omega arith
length-combine (w ∷ ws) [] k short = omega arith
length-combine (w ∷ ws) (p ∷ ps) k short = omega (
  arith,
  length-plus nim nim_laws (scale w p) (combine ws ps),
  length-scale nim nim_laws w p,
  short.0,
  length-combine ws ps k short.1,
)

map-values : (f g : ℕ → ℕ) (xs : List ℕ) → ((x : ℕ) → f x ≡ g x) → map f xs ≡ map g xs
map-values f g [] h = refl
map-values f g (x ∷ xs) h = (λ i. h x i ∷ map-values f g xs h i)

-- the codeword of a short polynomial's first values is all its values
pub codeword-values : (profile : Profile) (q : List ℕ) → length q ≤ profile.keep →
    codeword profile (values_at (upto profile.keep) q) ≡ values_at (upto profile.size) q
codeword-values profile q short =
    let kept = values_at (upto profile.keep) q in
    let p = interpolate (upto profile.keep) kept in
    map-values (value p) (value q) (upto profile.size)
    (same_values nim nim_laws p q
    (plus_zero nim nim_laws (upto profile.keep) p q (Apart-range 0 profile.keep)
    (each_range (λ x. value p x ≡ value q x) 0 profile.keep
    (λ j below. value-interpolate_upto (value q) profile.keep j (omega (arith, below))))
    (omega (
      arith,
      codeword-short profile kept (length-map-range_with_len (value q) 0 profile.keep),
      length-range_with_len 0 profile.keep,
    ))
    (omega (arith, short, length-range_with_len 0 profile.keep))))

module _ (o : Object) (symbols : List ℕ) where
  -- the polynomial of the symbols that a primary provider keeps
  kept_polynomial : ℕ → List ℕ
  kept_polynomial j = interpolate (upto o.profile.keep) (kept_by o symbols j)

  -- the coefficients by which a row's value at x is a sum over its primary symbols
  weights : ℕ → List ℕ
  weights x = map (λ p. nim_mul (value (vanish (upto o.shape.l)) x) (part (upto o.shape.l) x p))
      (upto o.shape.l)

  -- the polynomial, along the places, of a column's values at x
  pub column_polynomial : ℕ → List ℕ
  column_polynomial x = combine (weights x) (map kept_polynomial (upto o.shape.l))

  row-dot : (place x : ℕ) → Each (λ p. x ≢ p) (upto o.shape.l) →
      value (row_polynomial o symbols place) x ≡ dot (weights x) (primary_row o symbols place)
  unfolding weights
  row-dot place x out =
      let xs = upto o.shape.l in
      let ys = primary_row o symbols place in
      value-interpolate xs ys x
      (length-range_with_len 0 o.shape.l
      ∙ sym (length-map-range_with_len (λ j. slice_index (codeword o.profile (kept_by o symbols j)) place)
      0 o.shape.l))
      (Apart-range 0 o.shape.l) out
      ∙ sym (dot-scaled (part xs x) (λ p. nim_mul (value (vanish xs) x) (part xs x p))
      (value (vanish xs) x) xs ys
      (each_range (λ p. nim_mul (value (vanish xs) x) (part xs x p)
      ≡ nim_mul (value (vanish xs) x) (part xs x p)) 0 o.shape.l (λ j below. refl)))

  primary_row-values : (place a n : ℕ) → place < o.profile.size →
      map (λ j. slice_index (codeword o.profile (kept_by o symbols j)) place) (range_with_len a n)
      ≡ map (λ p. value p place) (map kept_polynomial (range_with_len a n))
  unfolding kept_polynomial
  primary_row-values place a zero below = refl
  primary_row-values place a (suc n) below =
      (λ i. get_or-map-range_with_len (value (interpolate (upto o.profile.keep) (kept_by o symbols a))) 0
      o.profile.size place place 0 below (omega arith) i ∷ primary_row-values place (a + 1) n below i)

  -- the polynomial of a row at a point has the value of that point's column polynomial at the row's place
  pub value-column_polynomial : (place x : ℕ) → place < o.profile.size → Each (λ p. x ≢ p) (upto o.shape.l) →
      value (row_polynomial o symbols place) x ≡ value (column_polynomial x) place
  unfolding column_polynomial
  value-column_polynomial place x below out = row-dot place x out
      ∙ ap (dot (weights x)) (primary_row-values place 0 o.shape.l below)
      ∙ sym (value-combine (weights x) (map kept_polynomial (upto o.shape.l)) place)

  -- a primary provider keeps as many symbols as are kept
  pub length-kept_by : (j : ℕ) → length symbols ≡ stripe_symbols o → j < o.shape.l →
      length (kept_by o symbols j) ≡ o.profile.keep
  length-kept_by j long below =
      let more : suc j * o.profile.keep ≤ o.shape.l * o.profile.keep =
      mul-le-mul_right o.profile.keep below in
      let split : suc j * o.profile.keep ≡ j * o.profile.keep + o.profile.keep = grind arith in
      length-take-le o.profile.keep (drop (j * o.profile.keep) symbols)
      (omega (arith, long, more, split, length-drop (j * o.profile.keep) symbols))

  kept-short : (a n : ℕ) → length symbols ≡ stripe_symbols o → a + n ≤ o.shape.l →
      Each (λ p. length p ≤ o.profile.keep) (map kept_polynomial (range_with_len a n))
  unfolding kept_polynomial
  kept-short a zero long within = tt
  kept-short a (suc n) long within = (
    codeword-short o.profile (kept_by o symbols a) (length-kept_by a long (omega (arith, within))),
    kept-short (a + 1) n long (omega (arith, within)),
  )

  -- the column polynomial of a point has no more coefficients than a block has kept symbols
  pub length-column_polynomial : (x : ℕ) → length symbols ≡ stripe_symbols o →
      length (column_polynomial x) ≤ o.profile.keep
  unfolding column_polynomial
  length-column_polynomial x long = length-combine (weights x) (map kept_polynomial (upto o.shape.l))
      o.profile.keep (kept-short 0 o.shape.l long (omega arith))

-- the point of a secondary provider is none of the primary ones
pub point-outside : (o : Object) (j : ℕ) → o.shape.l ≤ j → j < 256 →
    Each (λ p. point o j ≢ p) (upto o.shape.l)
point-outside o j second below = each_range (λ p. point o j ≢ p) 0 o.shape.l
    (λ p less e. absurd (omega (arith, less, second, below, sym (point-low o j below) ∙ ap (λ n. n % 256) e)))

-- masks put on at the places of a range
pub masked-on : (o : Object) (j row : ℕ) (f : ℕ → ℕ) (a n : ℕ) →
    masked o j (row + a) (map f (range_with_len a n))
    ≡ map (λ place. nim_add (f place) (mask o.master o.id j (row + place))) (range_with_len a n)
masked-on o j row f a zero = refl
masked-on o j row f a (suc n) =
    let next : row + a + 1 ≡ row + (a + 1) = omega arith in
    (λ i. nim_add (f a) (mask o.master o.id j (row + a)) ∷ (ap
    (λ r. masked o j r (map f (range_with_len (a + 1) n))) next ∙ masked-on o j row f (a + 1) n) i)

-- masks put on twice are off
masked-off : (o : Object) (j row : ℕ) (f : ℕ → ℕ) (a n : ℕ) →
    masked o j (row + a) (map (λ place. nim_add (f place) (mask o.master o.id j (row + place)))
    (range_with_len a n)) ≡ map f (range_with_len a n)
masked-off o j row f a n =
    let m = λ (place : ℕ). mask o.master o.id j (row + place) in
    masked-on o j row (λ place. nim_add (f place) (m place)) a n
    ∙ map-range_same (λ place. nim_add (nim_add (f place) (m place)) (m place)) f a n
    (λ place below. off (f place) (m place))
  where
    off : (x m : ℕ) → nim_add (nim_add x m) m ≡ x
    off x m = nim_ring.add_assoc x m m ∙ ap (λ y. nim_add x y) (nim_ring.add_self m) ∙ nim_ring.add_zero x

-- a secondary column: the values of its polynomial with the masks
pub secondary-column : (o : Object) (symbols : List ℕ) (j stripe : ℕ) → is_primary o j ≡ false → j < 256 →
    column_of_symbols o symbols j stripe
    ≡ map (λ place. nim_add (value (column_polynomial o symbols (point o j)) place)
    (mask o.master o.id j (row_number o stripe place))) (upto o.profile.size)
unfolding column_of_symbols
secondary-column o symbols j stripe is below =
    let out = point-outside o j (grind (arith, is)) below in
    ap (λ b. if b then codeword o.profile (kept_by o symbols j)
    else map (secondary_symbol o symbols j stripe) (upto o.profile.size)) is
    ∙ map-range_same (secondary_symbol o symbols j stripe)
    (λ place. nim_add (value (column_polynomial o symbols (point o j)) place)
    (mask o.master o.id j (row_number o stripe place))) 0 o.profile.size
    (λ place within. ap (λ x. nim_add x (mask o.master o.id j (row_number o stripe place)))
    (value-column_polynomial o symbols place (point o j) (omega (arith, within)) out))

-- without its masks
pub bare-secondary : (o : Object) (symbols : List ℕ) (j stripe : ℕ) → is_primary o j ≡ false → j < 256 →
    bare o j stripe (column_of_symbols o symbols j stripe)
    ≡ values_at (upto o.profile.size) (column_polynomial o symbols (point o j))
bare-secondary o symbols j stripe is below = ap (λ b. if b then column_of_symbols o symbols j stripe else
    masked o j (row_number o stripe 0) (column_of_symbols o symbols j stripe)) is
    ∙ ap (masked o j (row_number o stripe 0)) (secondary-column o symbols j stripe is below)
    ∙ masked-off o j (stripe * o.profile.size) (value (column_polynomial o symbols (point o j))) 0
    o.profile.size

bare-primary : (o : Object) (symbols : List ℕ) (j stripe : ℕ) → is_primary o j ≡ true →
    bare o j stripe (column_of_symbols o symbols j stripe) ≡ codeword o.profile (kept_by o symbols j)
unfolding column_of_symbols
bare-primary o symbols j stripe is = ap (λ b. if b then column_of_symbols o symbols j stripe else masked o j
    (row_number o stripe 0) (column_of_symbols o symbols j stripe)) is
    ∙ ap (λ b. if b then codeword o.profile (kept_by o symbols j)
    else map (secondary_symbol o symbols j stripe) (upto o.profile.size)) is

-- each provider's block, without its masks, is a codeword of the server code
pub IsCodeword-bare_column : (o : Object) (symbols : List ℕ) (j stripe : ℕ) →
    length symbols ≡ stripe_symbols o → j < 256 →
    IsCodeword o.profile (bare o j stripe (column_of_symbols o symbols j stripe))
IsCodeword-bare_column o symbols j stripe long below = go (is_primary o j) refl
  where
    go : (b : Bool) → is_primary o j ≡ b →
        IsCodeword o.profile (bare o j stripe (column_of_symbols o symbols j stripe))
    go true is = record {
      polynomial = interpolate (upto o.profile.keep) (kept_by o symbols j);
      degree = codeword-short o.profile (kept_by o symbols j)
          (length-kept_by o symbols j long (grind (arith, is)));
      values = bare-primary o symbols j stripe is;
    }
    go false is = record {
      polynomial = column_polynomial o symbols (point o j);
      degree = length-column_polynomial o symbols (point o j) long;
      values = bare-secondary o symbols j stripe is below;
    }
