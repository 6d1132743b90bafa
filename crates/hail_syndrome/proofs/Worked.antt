-- Syndromes worked out.
use Rattle.hail_syndrome.proofs.Words.{◌≡◌, refl, arith, ℕ, List, [], ◌∷◌, Each, Apart, product, nim_mul, nim_add, value_over, values_at, syndromes_of, AreValues}
use Rattle.hail_syndrome.proofs.ZeroLaw.{zero_from_values}

-- six points
abbrev pub six : List ℕ
six = 0 ∷ 1 ∷ 2 ∷ 3 ∷ 4 ∷ 5 ∷ []

-- the values of 5 x there
abbrev pub line : List ℕ
line = 0 ∷ 5 ∷ 10 ∷ 15 ∷ 2 ∷ 7 ∷ []

-- the points are apart
pub six_apart : Apart six
six_apart =
    let fifth : Apart {A = ℕ} (4 ∷ 5 ∷ []) = ((omega arith, tt), (tt, tt)) in
    let fourth : Apart {A = ℕ} (3 ∷ 4 ∷ 5 ∷ []) = ((omega arith, (omega arith, tt)), fifth) in
    let third : Apart {A = ℕ} (2 ∷ 3 ∷ 4 ∷ 5 ∷ []) =
    ((omega arith, (omega arith, (omega arith, tt))), fourth) in
    let second : Apart {A = ℕ} (1 ∷ 2 ∷ 3 ∷ 4 ∷ 5 ∷ []) =
    ((omega arith, (omega arith, (omega arith, (omega arith, tt)))), third) in
    ((omega arith, (omega arith, (omega arith, (omega arith, (omega arith, tt))))), second)

-- the values of 5 x
line_is : line ≡ values_at six (0 ∷ 5 ∷ [])
unfolding value_over nim_mul nim_add product
line_is = refl

-- so they are those of a polynomial of degree below 2
pub line_values : AreValues six line 2
line_values = record { polynomial = 0 ∷ 5 ∷ []; degree = omega arith; values_are = line_is }

-- so their syndromes are 0
pub line_zero : Each (λ (s : ℕ). s ≡ 0) (syndromes_of six line 4)
line_zero = zero_from_values six line refl six_apart 2 4 refl line_values
