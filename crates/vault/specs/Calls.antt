-- What a step does to the cells of the disk.
--
--   moves_before_next coming            == how many moves of its append are made before the next action
--   MovesCells n gate body turn old new == the cells after a step that makes the move after n, by what came
--                                          of it
--   packed_on pack cells                == the cells after the next move of a pack
--   EndsPackCells pack answer old new   == the cells where a pack ended
--   PacksCells pack turn old new        == the cells after a step of a pack, by what came of it
use Rattle.std.specs.Prelude.{◌≡◌, ℕ, List, length, Option}
use Rattle.std.specs.Option.{option_map}
use Rattle.device_defs.specs.Cells.{Cells}
use Rattle.device_defs.specs.Told.{Goes}
use Rattle.state_laws.specs.Orders.{moves_before}
use Rattle.journal_core.specs.FourMoves.{moved_on, MayBeTorn}
use Rattle.journal_core.specs.Moves.{cells_after, MayTear, IsWrite}
use Rattle.journal_pack.specs.Moves.{switch_to}
use Rattle.journal_pack.specs.Packs.{to_of, text_of, moves_of}
use Rattle.journal_pack.specs.declared.pack.Pack.{Pack}
use Rattle.vault_core.specs.Coming.{Coming, Acts}
use Rattle.vault.specs.declared.packing.PackAnswer.{PackAnswer}
use Rattle.vault.specs.declared.packing.PackAnswer.TheVariants as pack_answer
use Rattle.vault.specs.declared.packing.PackTurn.{PackTurn}
use Rattle.vault.specs.declared.packing.PackTurn.TheVariants as pack_turn
use Rattle.vault.specs.declared.turn.Answer.{Answer}
use Rattle.vault.specs.declared.turn.Answer.TheVariants as answer
use Rattle.vault.specs.declared.turn.Turn.{Turn}
use Rattle.vault.specs.declared.turn.Turn.TheVariants as turn

-- how many moves of its append are made before the next action
abbrev pub moves_before_next : Coming → ℕ
moves_before_next (Acts action) = moves_before action
moves_before_next coming = 0

-- the cells where the job ended: torn at a fault of the disk, and as before where memory ran out
abbrev pub EndsCells : ℕ → ℕ → List ℕ → Answer → Option Cells → Option Cells → Type 0
EndsCells n gate body answer.DiskFault old new = Goes (MayTear n gate body) old new
EndsCells n gate body a old new = new ≡ old

-- the cells after a step that makes this move of an append
abbrev pub MovesCells : ℕ → ℕ → List ℕ → Turn → Option Cells → Option Cells → Type 0
MovesCells n gate body turn.More old new = new ≡ option_map (cells_after n gate body) old
MovesCells n gate body (turn.Done ended) old new = EndsCells n gate body ended.answer old new
MovesCells n gate body t old new = new ≡ old

-- the cells where a pack ended: torn at a fault of the disk, by a write of its text or of the switch byte at
-- offset 7; as before where a write found no memory, and behind the fourth move
abbrev pub EndsPackCells : Pack → PackAnswer → Option Cells → Option Cells → Type 0
EndsPackCells p pack_answer.DiskFault old new =
    Goes (MayBeTorn (moves_of p) (to_of p) (length (text_of p)) 7) old new
EndsPackCells p pack_answer.Memory old new = IsWrite (moves_of p) × (new ≡ old)
EndsPackCells p (pack_answer.Packed before after) old new = (moves_of p ≡ 4) × (new ≡ old)

-- the cells after the next move of a pack: its text written, a sync, the switch byte at offset 7 written, a
-- sync
abbrev pub packed_on : Pack → Cells → Cells
packed_on p = moved_on (moves_of p) (to_of p) (text_of p) 7 (switch_to (to_of p))

-- the cells after a step that makes it
abbrev pub PacksCells : Pack → PackTurn → Option Cells → Option Cells → Type 0
PacksCells p (pack_turn.More job) old new = new ≡ option_map (packed_on p) old
PacksCells p (pack_turn.Done a) old new = EndsPackCells p a old new
