use Rattle.vault.proofs.Words.{take, AllZip, IsShapeFor}
use Rattle.vault.proofs.desk.Desk.shapes_for.Given as goal

abbrev pub invariant-loop-file : goal.invariant-loop-file
invariant-loop-file l = AllZip (IsShapeFor l.self) (take l.file-index l.pinned) l.files.items
