-- The values of kept rows, block by block, and the tables of weights.
use Rattle.std.specs.Prelude.{◌≡◌, ℕ, ◌+◌, ◌-◌, ◌*◌, ◌<◌, ◌≤◌, List, [], Option, None, Some, IfSome, length, take, drop}
use Rattle.column_codec.proofs.Words.{arith, ap, refl, ◌∙◌, get_or, div-mul-add, mod-mul-add, get_or-take, get_or-drop, get_or-map-range_with_len, length-map-range_with_len, nim_add, nim_mul, value, dot, Object, stripe_symbols, point, row_polynomial, AreWeights, AreTabled, weight_at, row_value}
use Rattle.std.specs.Option.{ForSome}
use Rattle.column_codec.proofs.Places.{index_within}
use Rattle.column_codec.proofs.RowLemmas.{weighted-row}
use Rattle.column_codec.proofs.WeightLemmas.{differences_at, sum_more, sum_whole, weights-whole}

-- as many tables as weights that have them
pub length-tabled : (n l : ℕ) (weights : List (List ℕ)) (tabled : List ℕ) → AreTabled n l weights tabled →
    length tabled ≡ (n - l) * (l - 1)
length-tabled n l weights tabled are =
    ap length are ∙ length-map-range_with_len (weight_at l weights) 0 ((n - l) * (l - 1))

-- the same where there are tables
pub tabled-long : (n l : ℕ) (weights : List (List ℕ)) (tables : Option (List ℕ)) →
    ForSome tables (λ all. AreTabled n l weights all) → IfSome tables (λ all. length all ≡ (n - l) * (l - 1))
tabled-long n l weights None are = tt
tabled-long n l weights (Some all) are = length-tabled n l weights all (are all refl)

-- the weight of a table
pub tabled-at : (n l j k : ℕ) (weights : List (List ℕ)) (tabled : List ℕ) → AreTabled n l weights tabled →
    l ≤ j → j < n → 1 ≤ k → k < l →
    get_or tabled ((j - l) * (l - 1) + (k - 1)) 0 ≡ get_or (get_or weights j []) k 0
tabled-at n l j k weights tabled are above below some less =
    let place = (j - l) * (l - 1) + (k - 1) in
    let small : k - 1 < l - 1 = omega (arith, some, less) in
    let row : l + (j - l) ≡ j = omega (arith, above) in
    let column : 1 + (k - 1) ≡ k = omega (arith, some) in
    ap (λ (xs : List ℕ). get_or xs place 0) are
    ∙ get_or-map-range_with_len (weight_at l weights) 0 ((n - l) * (l - 1)) place place 0
    (index_within (n - l) (l - 1) (j - l) (k - 1) ((n - l) * (l - 1)) refl
    (omega (arith, above, below)) small) (omega arith)
    ∙ (λ i. get_or (get_or weights (l + div-mul-add (j - l) (l - 1) (k - 1) small i) [])
    (1 + mod-mul-add (j - l) (l - 1) (k - 1) small i) 0)
    ∙ (λ i. get_or (get_or weights (row i) []) (column i) 0)

-- one block more is summed at a place
pub kept_more : (symbols ws kept from first new : List ℕ) (keep j place : ℕ) →
    from ≡ take keep (drop (j * keep) symbols) → first ≡ take keep symbols →
    place < keep → j < length ws →
    get_or new place 0 ≡ nim_add (get_or kept place 0)
    (nim_mul (get_or ws j 0) (nim_add (get_or from place 0) (get_or first place 0))) →
    get_or kept place 0 ≡ nim_add (get_or symbols place 0)
    (dot ws (differences_at j keep place symbols (get_or symbols place 0))) →
    get_or new place 0 ≡ nim_add (get_or symbols place 0)
    (dot ws (differences_at (j + 1) keep place symbols (get_or symbols place 0)))
kept_more symbols ws kept from first new keep j place is_from is_first below less made before =
    let s0 = get_or symbols place 0 in
    let y : get_or from place 0 ≡ get_or symbols (j * keep + place) 0 =
    ap (λ (xs : List ℕ). get_or xs place 0) is_from ∙ get_or-take keep (drop (j * keep) symbols) place 0 below
    ∙ get_or-drop (j * keep) symbols place 0 in
    let f : get_or first place 0 ≡ s0 = ap (λ (xs : List ℕ). get_or xs place 0) is_first
    ∙ get_or-take keep symbols place 0 below in
    made
    ∙ (λ i. nim_add (get_or kept place 0) (nim_mul (get_or ws j 0) (nim_add (get_or from place 0) (f i))))
    ∙ sum_more ws symbols keep place s0 j (get_or ws j 0) (get_or from place 0)
    (get_or kept place 0) less refl y before

-- where all blocks are summed, it is the value of the row
pub kept_whole : (o : Object) (symbols ws : List ℕ) (place x j : ℕ) → length symbols ≡ stripe_symbols o →
    place < o.profile.keep → o.profile.keep ≤ o.profile.size → 1 ≤ o.shape.l →
    AreWeights o.shape.l x ws → x ≡ point o j →
    nim_add (get_or symbols place 0)
    (dot ws (differences_at o.shape.l o.profile.keep place symbols (get_or symbols place 0)))
    ≡ row_value o symbols j place
kept_whole o symbols ws place x j long within fits some are is_point = sum_whole ws symbols o.shape.l
    o.profile.keep place (get_or symbols place 0) (weights-whole o.shape.l x ws some are)
    ∙ weighted-row o symbols ws place x long within fits are
    ∙ ap (value (row_polynomial o symbols place)) is_point
