use Rattle.vault_table.proofs.Words.{◌∙◌, refl, sym, ap, arith, le-ltb, map-set, File, file_of_entry}
use Rattle.std.proofs.Common.{◌≡◌, map, true, length, List}
use Rattle.vault_table.proofs.Orders.{put-here, put-between}
use Rattle.vault_table.proofs.Places.{here-of, between-of, fits-here, full-between, map-insert}
use Rattle.vault_table.proofs.files.put_file.Goals as goal

pub returns-in-Ok-clause-fits : goal.returns-in-Ok-clause-fits
returns-in-Ok-clause-fits c = fits-here c.args.files.now.items c.args.file.name c.in-Ok.place
    (here-of _ _ c.args.file.name c.in-Ok.place c.deref.ensures.value c.in-Ok.ensures)

pub returns-in-Ok-clause-files : goal.returns-in-Ok-clause-files
returns-in-Ok-clause-files c = map-set file_of_entry c.args.files.now.items c.in-Ok.place c.args.file
    ∙ sym (put-here (map file_of_entry c.args.files.now.items) c.args.file.name c.in-Ok.place
    (file_of_entry c.args.file) refl
    (here-of _ _ c.args.file.name c.in-Ok.place c.deref.ensures.value c.in-Ok.ensures))

pub returns-then-len-lt-MOST_FILES-clause-files : goal.returns-then-len-lt-MOST_FILES-clause-files
returns-then-len-lt-MOST_FILES-clause-files c =
    let fs : List File = map file_of_entry c.args.files.now.items in
    let between = between-of _ _ c.args.file.name c.in-Err.place c.deref.ensures.value c.in-Err.ensures in
    let done : c.is_ok.result ≡ true = c.is_ok.ensures.value
    ∙ c.insert.ensures.succeeds
    (omega (arith, c.if-len-lt-MOST_FILES.true, c.len.ensures, c.requires.room)) in
    rw (c.insert.ensures.items, ← c.is_ok.ensures.value, done)
    (map-insert c.args.files.now.items c.in-Err.place c.args.file
    ∙ sym (put-between fs c.args.file.name c.in-Err.place (file_of_entry c.args.file) refl between))

pub returns-else-len-lt-MOST_FILES-clause-fits : goal.returns-else-len-lt-MOST_FILES-clause-fits
returns-else-len-lt-MOST_FILES-clause-fits c = le-ltb _ _ c.if-len-lt-MOST_FILES.false
    ∙ full-between c.args.files.now.items c.args.file.name c.in-Err.place
    (between-of _ _ c.args.file.name c.in-Err.place c.deref.ensures.value c.in-Err.ensures)
    (omega (
      arith,
      c.if-len-lt-MOST_FILES.false,
      c.len.ensures,
      ap length c.deref.ensures.value,
      c.deref.ensures.len,
    ))
