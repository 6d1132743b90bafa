use Rattle.vault_table.proofs.Words.{◌∙◌, sym, ap, File, file_of_entry}
use Rattle.std.proofs.Common.{map, List, Some}
use Rattle.vault_table.proofs.Orders.{file-here, find-here, find-between}
use Rattle.vault_table.proofs.Places.{found, inside-here}
use Rattle.vault_table.proofs.files.find.Goals as goal

pub returns-in-Ok : goal.returns-in-Ok
returns-in-Ok c =
    let fs : List File = map file_of_entry c.args.files.now in
    let e = c.index-files-place.result in
    ap (λ (f : File). Some f)
    (sym (found c.args.files.now c.in-Ok.place e
    (inside-here c.args.files.now c.args.name.now c.in-Ok.place c.in-Ok.ensures) c.index-files-place.is)
    ∙ file-here fs c.args.name.now c.in-Ok.place c.in-Ok.ensures (file_of_entry e))
    ∙ sym (find-here fs c.args.name.now c.in-Ok.place c.in-Ok.ensures)

pub returns-in-Err : goal.returns-in-Err
returns-in-Err c = sym
    (find-between (map file_of_entry c.args.files.now) c.args.name.now c.in-Err.field-0 c.in-Err.ensures)
