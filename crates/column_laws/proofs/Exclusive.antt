-- A stripe gives its symbols or loses a row, and not both.
use Rattle.column_laws.proofs.Words.{◌≡◌, ℕ, ◌+◌, ◌<◌, ◌≤◌, List, [], ◌∷◌, refl, subst, arith, IsShape, upto, profile_of, Object, symbols_in, row_polynomial, is_wrong_block, SeenBlock, block_at, AllOpen, AcceptsRow, GivesSymbols, LosesRow, count_of}
use Rattle.column_laws.proofs.UniqueLaws.{opens-unique, profile-room}
use Rattle.column_laws.proofs.RightRows.{row-right}

-- blocks open to one list
all-unique : (o : Object) (number stripe j : ℕ) (seen a b : List SeenBlock) → o.profile ≡ profile_of number →
    AllOpen o stripe j seen a → AllOpen o stripe j seen b → a ≡ b
all-unique o number stripe j [] [] [] is x y = refl
all-unique o number stripe j [] [] (b ∷ bs) is x y = absurd y
all-unique o number stripe j [] (a ∷ more) b is x y = absurd x
all-unique o number stripe j (s ∷ ss) [] b is x y = absurd x
all-unique o number stripe j (s ∷ ss) (a ∷ more) [] is x y = absurd y
all-unique o number stripe j (s ∷ ss) (a ∷ more) (b ∷ bs) is x y = (λ i. opens-unique o number j stripe s a b
    is x.0 y.0 i ∷ all-unique o number stripe (j + 1) ss more bs is x.1 y.1 i)

-- what gives symbols loses no row
pub exclusive : (o : Object) (number stripe row : ℕ) (seen : List SeenBlock) (symbols : List ℕ) →
    o.profile ≡ profile_of number → GivesSymbols o stripe seen symbols → LosesRow o stripe seen row → ⊥
exclusive o number stripe row seen symbols is g l =
    let same : g.opened ≡ l.opened = all-unique o number stripe 0 seen g.opened l.opened is g.opens l.opens in
    let a : AcceptsRow o g.opened l.place (g.accepted l.place l.kept).row =
    (g.accepted l.place l.kept).accepted in
    l.lost (g.accepted l.place l.kept).row
    (subst (λ (opened : List SeenBlock). AcceptsRow o opened l.place (g.accepted l.place l.kept).row) same a)

-- few wrong blocks lose no row
pub none-lost : (o : Object) (bytes : List ℕ) (number stripe row : ℕ) (seen : List SeenBlock) →
    o.profile ≡ profile_of number → IsShape o.shape.n o.shape.l o.shape.b →
    count_of (λ j. is_wrong_block o bytes j stripe (block_at seen j)) (upto o.shape.n) ≤ o.shape.b →
    LosesRow o stripe seen row → ⊥
none-lost o bytes number stripe row seen is shape few l =
    let within : l.place < o.profile.size = omega (arith, l.kept, profile-room o number is) in
    l.lost (row_polynomial o (symbols_in o bytes stripe) l.place)
    (row-right o bytes number stripe l.place seen l.opened is shape few l.opens within)
