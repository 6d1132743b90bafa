-- Polynomials over the nim field worked out.
use Rattle.code_defs.proofs.Words.{subst, refl, sym, ap, ◌∙◌, arith, Apart, product, nim, nim_mul, nim_add, nim_inv, inverse_below, nim_laws, value_over, plus_over, scale_over, times_over, vanish_over, interpolate_over, front, trim_over, agree_over, Decodes, FirstRow, here, next, value-plus, value-times, All, IfSome, is_symbol, upto, values_at, profile_of, IsNear, Accepts, value, vanish, interpolate, trim, agree, plus, times, TakesSymbols}
use Rattle.std.proofs.Common.{◌≡◌, ℕ, List, [], ◌∷◌, Some}
use Rattle.algebra_laws.specs.Poly.{is_seen}
use Rattle.code_defs.proofs.Codewords.{near_itself}
use Rattle.code_defs.proofs.Symbols.{all_from_each, all_from_seen}
use Rattle.code_defs.proofs.Values.{value-constant}

-- the points
abbrev pub four : List ℕ
four = 0 ∷ 1 ∷ 2 ∷ 3 ∷ []

-- the values seen there
abbrev pub word : List ℕ
word = 1 ∷ 1 ∷ 1 ∷ 2 ∷ []

-- the first row
whole : vanish four ≡ 0 ∷ 1 ∷ 0 ∷ 0 ∷ 1 ∷ []
unfolding vanish_over times_over plus_over scale_over nim_mul nim_add product
whole = refl

-- the second
through : trim (interpolate four word) ≡ 1 ∷ 1 ∷ 2 ∷ 3 ∷ []
unfolding interpolate_over vanish_over times_over plus_over scale_over value_over trim_over front nim_mul nim_add nim_inv inverse_below product
through = refl

-- the step of Euclid's algorithm
divided_whole : plus (times (1 ∷ 2 ∷ []) (1 ∷ 1 ∷ 2 ∷ 3 ∷ [])) (1 ∷ 2 ∷ []) ≡ 0 ∷ 1 ∷ 0 ∷ 0 ∷ 1 ∷ []
unfolding times_over plus_over scale_over nim_mul nim_add product
divided_whole = refl

-- as values
step : (x : ℕ) → value (0 ∷ 1 ∷ 0 ∷ 0 ∷ 1 ∷ []) x
    ≡ nim_add (nim_mul (value (1 ∷ 2 ∷ []) x) (value (1 ∷ 1 ∷ 2 ∷ 3 ∷ []) x)) (value (1 ∷ 2 ∷ []) x)
step x = ap (λ p. value p x) (sym divided_whole) ∙
    value-plus nim nim_laws (times (1 ∷ 2 ∷ []) (1 ∷ 1 ∷ 2 ∷ 3 ∷ [])) (1 ∷ 2 ∷ []) x ∙
    ap (λ y. nim_add y (value (1 ∷ 2 ∷ []) x)) (value-times nim nim_laws (1 ∷ 2 ∷ []) (1 ∷ 1 ∷ 2 ∷ 3 ∷ []) x)

-- its cofactor
cofactor : 1 ∷ 2 ∷ [] ≡ trim (plus [] (times (1 ∷ 2 ∷ []) (1 ∷ [])))
unfolding times_over plus_over scale_over trim_over front nim_mul nim_add product
cofactor = refl

-- the row
pub worked_row : FirstRow nim 2 (vanish four) [] (trim (interpolate four word)) (1 ∷ []) (1 ∷ 2 ∷ [])
    (1 ∷ 2 ∷ [])
worked_row = rw (whole, through) (next {r1 = 1 ∷ 1 ∷ 2 ∷ 3 ∷ []} (1 ∷ 2 ∷ []) (1 ∷ 2 ∷ []) (1 ∷ 2 ∷ [])
    (omega arith) step (omega arith) (omega arith) cofactor (here {r1 = 1 ∷ 2 ∷ []} (omega arith)))

-- the word agrees with 1 at three places
pub worked_agree : agree (1 ∷ []) four (Some 1 ∷ Some 1 ∷ Some 1 ∷ Some 2 ∷ []) ≡ 3
unfolding agree_over is_seen value_over nim_mul nim_add product
worked_agree = refl

-- so 1 decodes the word
pub worked_decodes : Decodes nim four word 1 1 (1 ∷ [])
worked_decodes = record { short = omega arith; near = omega (arith, worked_agree) }

-- the points are apart
pub four_apart : Apart four
four_apart =
    let third : Apart {A = ℕ} (2 ∷ 3 ∷ []) = ((omega arith, tt), (tt, tt)) in
    let second : Apart {A = ℕ} (1 ∷ 2 ∷ 3 ∷ []) = ((omega arith, (omega arith, tt)), third) in
    ((omega arith, (omega arith, (omega arith, tt))), second)

-- a line takes two values
pub line_takes : TakesSymbols (1 ∷ 2 ∷ []) (0 ∷ 1 ∷ []) (1 ∷ 3 ∷ [])
unfolding value_over nim_mul nim_add product
line_takes = (refl, (refl, tt))

-- it is the interpolating one
pub line_interpolates : interpolate (0 ∷ 1 ∷ []) (1 ∷ 3 ∷ []) ≡ 1 ∷ 2 ∷ []
unfolding interpolate_over vanish_over times_over plus_over scale_over value_over nim_mul nim_add nim_inv inverse_below product
line_interpolates = refl

-- a zero at the end goes
pub line_trimmed : trim (1 ∷ 2 ∷ 0 ∷ []) ≡ trim (1 ∷ 2 ∷ [])
unfolding trim_over front
line_trimmed = refl

-- the line divided by 1 + x
divided_line : plus (times (2 ∷ []) (1 ∷ 1 ∷ [])) (3 ∷ []) ≡ 1 ∷ 2 ∷ []
unfolding times_over plus_over scale_over nim_mul nim_add product
divided_line = refl

-- as values
pub line_divided : (x : ℕ) → value (1 ∷ 2 ∷ []) x ≡ nim_add (nim_mul 2 (value (1 ∷ 1 ∷ []) x)) 3
line_divided x = ap (λ p. value p x) (sym divided_line) ∙
    value-plus nim nim_laws (times (2 ∷ []) (1 ∷ 1 ∷ [])) (3 ∷ []) x ∙
    cc (value-times nim nim_laws (2 ∷ []) (1 ∷ 1 ∷ []) x, value-constant 2 x, value-constant 3 x)

-- a zero at the end changes no value
pub line_everywhere : (x : ℕ) → value (1 ∷ 2 ∷ 0 ∷ []) x ≡ value (1 ∷ 2 ∷ []) x
unfolding value_over
line_everywhere x = ap (λ z. nim_add 1 (nim_mul x (nim_add 2 (nim_mul x z))))
    (ap (nim_add 0) (nim_laws.ring.mul_zero x) ∙ nim_laws.ring.add_zero 0)

-- lists of small numbers are symbols
pub ones_symbols : All is_symbol (1 ∷ 1 ∷ 1 ∷ 1 ∷ 1 ∷ 1 ∷ [])
ones_symbols = all_from_each (1 ∷ 1 ∷ 1 ∷ 1 ∷ 1 ∷ 1 ∷ [])
    (omega arith, (omega arith, (omega arith, (omega arith, (omega arith, (omega arith, tt))))))

-- the points
pub four_symbols : All is_symbol four
four_symbols = all_from_each four (omega arith, (omega arith, (omega arith, (omega arith, tt))))

-- the symbols seen
pub word_symbols : All (λ s. IfSome s is_symbol) (Some 1 ∷ Some 1 ∷ Some 1 ∷ Some 2 ∷ [])
word_symbols = all_from_seen (Some 1 ∷ Some 1 ∷ Some 1 ∷ Some 2 ∷ [])
    (omega arith, (omega arith, (omega arith, (omega arith, tt))))

-- 1 is near a block of ones
pub ones_near : IsNear (profile_of 0) (1 ∷ 1 ∷ 1 ∷ 1 ∷ 1 ∷ 1 ∷ []) (1 ∷ [])
ones_near =
    let same : values_at (upto 6) (1 ∷ []) ≡ 1 ∷ 1 ∷ 1 ∷ 1 ∷ 1 ∷ 1 ∷ [] = simp (value-constant 1) refl in
    subst (λ block. IsNear (profile_of 0) block (1 ∷ [])) same
    (near_itself (profile_of 0) (1 ∷ []) (omega arith))

-- 1 is accepted
pub ones_accepted : Accepts four (Some 1 ∷ Some 1 ∷ Some 1 ∷ Some 2 ∷ []) 1 1 (1 ∷ [])
ones_accepted = record { degree = omega arith; agrees = omega (arith, worked_agree) }
