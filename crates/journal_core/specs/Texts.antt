-- What the cells of a disk have of a journal in two areas. Lists of records have the newest first.
--
--   HasText cells area rs            == from where an area begins, the cells are the text of records with a
--                                       closed gate, and none of these is loose
--   HasLooseText cells area rs       == the same, all of these loose
--   IsNamed cells area               == the first eight cells name this area, and none of them is loose
--   IsSwitching cells switch         == the first seven are HAILJRN, the eighth is this byte, and it alone is
--                                       loose
--   StandsFirm area rs cells         == an area is named and has the text of records, and nothing of both is
--                                       loose
--   IsAfterMovesIn n area rs body cells == an area is named, and from where it begins the cells are as after n
--                                       moves of an append behind these records
--   IsGivenUpIn n area rs body cells == the same after a fault of the move that came after n
--   IsApart area rs                  == the text of records does not reach into the other area: only that of
--                                       area A can
--   AllStandIn area rs told          == each image of the disk stands for these records in this area
--   MayStandWith area rs r told      == each image stands in this area for these records, or for these with
--                                       one more
--   MayStandIn area rs qs told       == each image stands for these records in this area, or for others in
--                                       the other
use Rattle.std.specs.Prelude.{◌≡◌, ◌≢◌, ◌⊎◌, ◌≤◌, ℕ, IsTrue, true, false, List, [], ◌∷◌, ◌++◌, drop, Option}
use Rattle.std.specs.List.{list_all}
use Rattle.device_defs.specs.Cells.{Cells, firm, loose}
use Rattle.device_defs.specs.Images.{EachImage}
use Rattle.record_defs.specs.Records.{Record, is_in_grammar}
use Rattle.journal_core.specs.Moves.{IsAfterMoves, IsGivenUp}
use Rattle.record_defs.specs.Areas.{Area, A, B, other_area, base_of, magic_front, area_of, entries, end_in, StandsActive}

-- an area has the text of records, and no byte of it is loose
pub record HasText (cells : Cells) (area : Area) (rs : List Record) : Type 0 where
  pub in_grammar : IsTrue (list_all is_in_grammar rs)
  pub gate : ℕ
  pub rest : Cells
  pub closed : gate ≢ 1
  pub cells_are : drop (base_of area) cells ≡ firm (entries rs) ++ (gate, false) ∷ rest

-- an area has the text of records, and all of its bytes are loose
pub record HasLooseText (cells : Cells) (area : Area) (rs : List Record) : Type 0 where
  pub in_grammar : IsTrue (list_all is_in_grammar rs)
  pub rest : Cells
  pub cells_are : drop (base_of area) cells ≡ loose (entries rs ++ 0 ∷ []) ++ rest

-- the first eight bytes name an area, and none of them is loose
pub record IsNamed (cells : Cells) (area : Area) : Type 0 where
  pub switch : ℕ
  pub rest : Cells
  pub names : area_of switch ≡ area
  pub cells_are : cells ≡ firm (magic_front ++ switch ∷ []) ++ rest

-- of the first eight bytes the switch byte alone is loose
pub record IsSwitching (cells : Cells) (switch : ℕ) : Type 0 where
  pub rest : Cells
  pub cells_are : cells ≡ firm magic_front ++ (switch, true) ∷ rest

-- an area is named and has the text of records, and nothing of both is loose
pub record StandsFirm (area : Area) (rs : List Record) (cells : Cells) : Type 0 where
  pub named : IsNamed cells area
  pub text : HasText cells area rs

-- an area is named, and as after so many moves of an append
pub record IsAfterMovesIn (n : ℕ) (area : Area) (rs : List Record) (body : List ℕ) (cells : Cells) :
    Type 0 where
  pub named : IsNamed cells area
  pub text : IsAfterMoves n (entries rs) body (drop (base_of area) cells)

-- an area is named, and as after a fault of the move that came after so many
pub record IsGivenUpIn (n : ℕ) (area : Area) (rs : List Record) (body : List ℕ) (cells : Cells) :
    Type 0 where
  pub named : IsNamed cells area
  pub text : IsGivenUp n (entries rs) body (drop (base_of area) cells)

-- the text of records ends before the other area begins, or lies behind it
abbrev pub IsApart : Area → List Record → Type 0
IsApart A rs = end_in A rs ≤ base_of B
IsApart B rs = Unit {0}

-- each image stands for these records in this area
abbrev pub AllStandIn : Area → List Record → Option Cells → Type 0
AllStandIn area rs told = EachImage told (λ image. StandsActive image area rs)

-- each image stands in this area for these records, or for these and one more
abbrev pub MayStandWith : Area → List Record → Record → Option Cells → Type 0
MayStandWith area rs r told =
    EachImage told (λ image. StandsActive image area rs ⊎ StandsActive image area (r ∷ rs))

-- each image stands for these records in this area, or for others in the other area
abbrev pub MayStandIn : Area → List Record → List Record → Option Cells → Type 0
MayStandIn area rs qs told =
    EachImage told (λ image. StandsActive image area rs ⊎ StandsActive image (other_area area) qs)
