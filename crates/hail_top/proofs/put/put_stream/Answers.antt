use Rattle.hail_top.proofs.Words.{Err, map, refl, ap, sym, ◌∙◌, Unbegun, provider_seen}
use Rattle.hail_top.proofs.PutEnds.{streamed-put, unknown-put, unbegun-put}
use Rattle.hail_top.proofs.put.put_stream.Goals as goal

pub returns-then-is_unknown-clause-over : goal.returns-then-is_unknown-clause-over
returns-then-is_unknown-clause-over g c records old opened fresh before was_synced source source_count sink sink_count =
    unknown-put c.args.name.now c.args.profile records old _ _ _ _ _ source_count source refl refl
    (sym c.is_unknown.ensures ∙ c.if-is_unknown.true) opened before was_synced c.of.ensures refl refl refl
    (sym sink)

pub returns-in-Ok-clause-over : goal.returns-in-Ok-clause-over
returns-in-Ok-clause-over g c records old opened fresh before was_synced source source_count sink sink_count =
    streamed-put c.args.name.now c.args.profile records old _ _ c.in-Ok.how _ _ sink sink_count opened
    (sym c.is_unknown.ensures ∙ c.if-is_unknown.false) (c.in-Ok.ensures.ended records old _ opened fresh
    before (record { disk = refl; faults = refl; providers = refl })
    (record { left_is = source; faults_are = source_count }) (record { left_is = refl; faults_are = refl }))
    c.streamed.ensures.told

pub returns-in-Err-clause-over : goal.returns-in-Err-clause-over
returns-in-Err-clause-over g c records old opened fresh before was_synced source source_count sink sink_count =
    let same = c.in-Err.ensures.untouched in
    unbegun-put c.args.name.now c.args.profile records old _ _ _ c.in-Err.why _ _ source_count source
    opened (c.in-Err.ensures.refused opened.area records fresh) (sym c.is_unknown.ensures ∙ c.if-is_unknown.false) before
    was_synced c.unbegun.ensures
    (λ is. c.in-Err.ensures.cause.rose (ap (λ (w : Unbegun). Err w) is))
    (ap g.D.Disk.holds same.0) (ap g.D.Disk.faults same.0)
    (ap (map (provider_seen g.P.Provider)) same.1) (sym sink)
