use Rattle.journal_pack.proofs.Words.{◌∷◌, sym, ap, ◌∙◌, arith, Entry, newest_first, file_of_entry}
use Rattle.journal_pack.proofs.Tabled.{files-next, get-none}
use Rattle.journal_pack.proofs.packing.add_files.Goals as goal
use Rattle.journal_pack.proofs.packing.add_files.Goals.{in-Some+in_ok-add, in_default}

pub loop-place-preserved : goal.loop-place-preserved
loop-place-preserved c =
    let files = c.args.table.now.files in
    elim c.match-at.branch [
      | in-Some+in_ok-add w ↦ rw w.records-is (record {
        records = w.in_ok-add.ensures.records
            ∙ ap (λ (e : Entry). e ∷ newest_first c.loop-place.records.items) w.record_of.ensures.entry
            ∙ files-next files c.loop-place.place (file_of_entry w.in-Some.file)
            (newest_first c.args.records.now.items) (newest_first c.loop-place.records.items)
            (sym w.in-Some.ensures) c.loop-place.invariant.records;
        padded = λ before. w.in_ok-add.ensures.padded (c.loop-place.invariant.padded before);
      })
      | in_default w ↦ absurd (get-none files c.loop-place.place
          (omega (arith, c.loop-place-test.true, c.count-place-end.ensures)) (sym w.in_default.ensures))
    ]
