use Rattle.hail_top.proofs.Words.{refl, ap, sym, ◌∙◌, map, provider_seen}
use Rattle.record_codec.specs.declared.setup.Setup.{Setup}
use Rattle.hail_top.proofs.JobEnds.{ended-told, refused-over}
use Rattle.hail_top.proofs.alone.answer_job.Goals as goal

pub returns-in-Ok-clause-over : goal.returns-in-Ok-clause-over
returns-in-Ok-clause-over g c records old left count opened fresh before was_synced sink sink_count =
    ended-told c.new-subject.result c.setup.result.tolerance _ _ opened.area records old _ _ c.in-Ok.end _ _ sink sink_count
    c.new-subject.ensures (ap (λ (s : Setup). s.tolerance) c.setup.ensures ∙ fresh.tolerance)
    (c.in-Ok.ensures.ended records old _ opened fresh before
    (record { disk = refl; faults = refl; providers = refl })) c.ended.ensures.told c.ended.ensures.heard

pub returns-in-Err-clause-over : goal.returns-in-Err-clause-over
returns-in-Err-clause-over g c records old left count opened fresh before was_synced sink sink_count =
    let same = c.in-Err.ensures.untouched in
    refused-over _ _ opened.area records old _ _ _ c.in-Err.why before was_synced
    (c.in-Err.ensures.refused opened.area records fresh) c.refused.ensures (ap g.D.Disk.holds same.0)
    (ap g.D.Disk.faults same.0)
    (ap (map (provider_seen g.P.Provider)) same.1) (sym sink)
