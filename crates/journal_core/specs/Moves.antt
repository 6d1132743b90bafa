-- What cells are in the course of an append: a front, a gate behind it, and a body behind the gate.
--
--   IsClosed front cells            == a closed gate stands behind these bytes, and nothing up to it is loose
--   IsInDoubt front body cells      == the gate behind these bytes is loose, and the body behind it is firm
--   IsAfterMoves n front body cells == after n moves: write the body, sync, write the open gate, sync
--   IsGivenUp n front body cells    == after a fault of the move that came after n
--   SameFrom at old new             == what is read from an offset on is as before, also where it lies past
--                                      an end
--   IsWrite moves                   == the move that comes after so many is a write
--   cells_after n gate body cells   == the cells after the move that comes after n, at this gate, with this
--                                      body
--   MayTear n gate body old new     == how the cells may go where that move failed: torn by a write, as
--                                      before at a sync
use Rattle.std.specs.Prelude.{◌≡◌, ◌≢◌, ◌⊎◌, ℕ, zero, suc, ◌+◌, true, false, List, ◌∷◌, ◌++◌, length, drop}
use Rattle.device_defs.specs.Cells.{Cells, reads, firm, loose}
use Rattle.journal_core.specs.FourMoves.{moved_on, MayBeTorn}

-- a closed gate stands behind these bytes, and nothing up to it is loose
abbrev pub IsClosed : List ℕ → Cells → Type 0
IsClosed front cells =
    (gate : ℕ) × (rest : Cells) × (gate ≢ 1) × (cells ≡ firm front ++ ((gate, false) ∷ rest))

-- the gate behind these bytes is loose, and the body behind it isn't
abbrev pub IsInDoubt : List ℕ → List ℕ → Cells → Type 0
IsInDoubt front body cells =
    (gate : ℕ) × (rest : Cells) × (cells ≡ firm front ++ ((gate, true) ∷ (firm body ++ rest)))

-- one of the two
abbrev pub IsInDoubtOrClosed : List ℕ → List ℕ → Cells → Type 0
IsInDoubtOrClosed front body cells = IsClosed front cells ⊎ IsInDoubt front body cells

-- after so many moves of an append
abbrev pub IsAfterMoves : ℕ → List ℕ → List ℕ → Cells → Type 0
IsAfterMoves zero front body cells = IsClosed front cells
IsAfterMoves (suc zero) front body cells =
    (gate : ℕ) × (rest : Cells) × (gate ≢ 1)
    × (cells ≡ firm front ++ ((gate, false) ∷ (loose body ++ rest)))
IsAfterMoves (suc (suc zero)) front body cells =
    (gate : ℕ) × (rest : Cells) × (gate ≢ 1) × (cells ≡ firm front ++ ((gate, false) ∷ (firm body ++ rest)))
IsAfterMoves (suc (suc (suc zero))) front body cells =
    (rest : Cells) × (cells ≡ firm front ++ ((1, true) ∷ (firm body ++ rest)))
IsAfterMoves (suc (suc (suc (suc n)))) front body cells =
    (rest : Cells) × (cells ≡ firm front ++ ((1, false) ∷ (firm body ++ rest)))

-- after a fault of the move that came after so many
abbrev pub IsGivenUp : ℕ → List ℕ → List ℕ → Cells → Type 0
IsGivenUp zero front body cells = IsClosed front cells
IsGivenUp (suc zero) front body cells = IsClosed front cells
IsGivenUp (suc (suc n)) front body cells = IsInDoubtOrClosed front body cells

-- what is read from an offset on is as before
abbrev pub SameFrom : ℕ → Cells → Cells → Type 0
SameFrom at old new = drop at (reads new) ≡ drop at (reads old)

-- the move that comes after so many is a write
abbrev pub IsWrite : ℕ → Type 0
IsWrite moves = (moves ≡ 0) ⊎ (moves ≡ 2)

-- the cells after the move that comes after so many: the body written behind the gate, a sync, the open
-- gate written, a sync
abbrev pub cells_after : ℕ → ℕ → List ℕ → Cells → Cells
cells_after n gate body cells = moved_on n (gate + 1) body gate 1 cells

-- what a fault of that move may leave: a torn write of the body or of the gate, and where a sync failed the
-- cells as they were
abbrev pub MayTear : ℕ → ℕ → List ℕ → Cells → Cells → Type 0
MayTear n gate body old new = MayBeTorn n (gate + 1) (length body) gate old new
