use Rattle.hail_top.proofs.Words.{◌∙◌, refl, ap, sym, other_area, FillsGap, resynced, ZerosUnlessFault, kept, written}
use Rattle.record_defs.specs.Packed.{packed}
use Rattle.hail_top.proofs.PackEnds.{pack-told, refused-pack}
use Rattle.hail_top.proofs.PackRuns.{told-zeros, told-around}
use Rattle.hail_top.proofs.pack.answer_pack.Goals as goal

pub returns-in-Ok-clause-over : goal.returns-in-Ok-clause-over
returns-in-Ok-clause-over g c records old providers left count opened fresh before was_synced sink sink_count =
    pack-told records old _ _ c.in-Ok.answer _ _ opened sink sink_count
    (c.in-Ok.ensures.ended records providers old _ opened fresh before
    (record { disk = refl; faults = refl; providers = refl })) c.packed.ensures.told c.packed.ensures.heard

pub returns-in-Err-clause-over : goal.returns-in-Err-clause-over
returns-in-Err-clause-over g c records old providers left count opened fresh before was_synced sink sink_count =
    let same = c.in-Err.ensures.untouched in
    refused-pack records old _ _ _ c.in-Err.why opened before was_synced
    (c.in-Err.ensures.refused opened.area records fresh) c.refused.ensures (ap g.D.Disk.holds same)
    (ap g.D.Disk.faults same) refl (sym sink)

pub returns-in-Ok-clause-around : goal.returns-in-Ok-clause-around
returns-in-Ok-clause-around g c records old opened fresh was_synced =
    written (told-around (other_area opened.area) (packed records) (FillsGap c.in-Ok.answer)
    (ZerosUnlessFault c.packed.result.status)
    (told-zeros c.in-Ok.answer c.packed.result.status _ _ c.packed.ensures.told) old.disk _
    (c.in-Ok.ensures.around opened.area records old.disk fresh was_synced))

pub returns-in-Err-clause-around : goal.returns-in-Err-clause-around
returns-in-Err-clause-around g c records old opened fresh was_synced =
    kept (resynced old.disk _ (ap g.D.Disk.holds c.in-Err.ensures.untouched ∙ was_synced))
