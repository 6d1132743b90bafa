use Rattle.std.proofs.Common.{◌∙◌, refl, sym, ap, map}
use Rattle.vault_table.specs.Values.{file_of_entry}
use Rattle.vault_table.proofs.Orders.{find-here, find-between, drop-here}
use Rattle.vault_table.proofs.Places.{here-of, between-of, map-remove}
use Rattle.vault_table.proofs.files.drop_file.Goals as goal

pub returns-in-Ok-clause-found : goal.returns-in-Ok-clause-found
returns-in-Ok-clause-found c = rw (find-here (map file_of_entry c.args.files.now.items) c.args.name.now
    c.in-Ok.place (here-of _ _ c.args.name.now c.in-Ok.place c.deref.ensures.value c.in-Ok.ensures)) refl

pub returns-in-Ok-clause-files : goal.returns-in-Ok-clause-files
returns-in-Ok-clause-files c =
    ap (map file_of_entry) c.remove.ensures.items ∙ map-remove c.args.files.now.items c.in-Ok.place
    ∙ sym (drop-here (map file_of_entry c.args.files.now.items) c.args.name.now c.in-Ok.place
    (here-of _ _ c.args.name.now c.in-Ok.place c.deref.ensures.value c.in-Ok.ensures))

pub returns-in-Err-clause-found : goal.returns-in-Err-clause-found
returns-in-Err-clause-found c =
    rw (find-between (map file_of_entry c.args.files.now.items) c.args.name.now c.in-Err.field-0
    (between-of _ _ c.args.name.now c.in-Err.field-0 c.deref.ensures.value c.in-Err.ensures)) refl
