use Rattle.vault.proofs.Words.{◌<◌, ◌+◌, take, get_or, sym, subst, arith, AllZip, take_more, IsShapeFor}
use Rattle.std.proofs.Common.{length}
use Rattle.vault_core.specs.declared.pinned.Pinned.{Pinned}
use Rattle.vault_core.proofs.Kept.{zip_push}
use Rattle.vault.proofs.desk.Desk.shapes_for.Goals as goal

pub loop-file-preserved : goal.loop-file-preserved
loop-file-preserved c =
    let v = c.args.self.now in
    let pins = c.args.pinned.now in
    let i = c.loop-file.file-index in
    let none : Pinned = record { id = 0; length = 0; profile = 0 } in
    let files = c.loop-file.files.items in
    let below : i < length pins = omega arith in
    subst (λ l. AllZip (IsShapeFor v) (take (i + 1) pins) l) (sym c.in-Ok.ensures.items)
    (rw (← (take_more pins i none below)) at (zip_push (IsShapeFor v) (take i pins) files (get_or pins i none)
    c.shape_for.result c.loop-file.invariant
    c.shape_for.ensures))
