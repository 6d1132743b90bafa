use Rattle.hail_top.proofs.Words.{refl, ap, sym, ◌∙◌, map, provider_seen}
use Rattle.record_codec.specs.declared.setup.Setup.{Setup}
use Rattle.hail_top.proofs.ScrubEnds.{scrub-told, no-scrub}
use Rattle.hail_top.proofs.scrub.answer_scrub.Goals as goal

pub returns-in-Ok-clause-over : goal.returns-in-Ok-clause-over
returns-in-Ok-clause-over g c records holds faults old left count opened fresh before was_synced sink sink_count =
    scrub-told records old _ _ c.in-Ok.answer _ _ _ opened was_synced sink sink_count
    (c.from-providers_in_use.ensures ∙ ap (λ (s : Setup). s.n) c.setup.ensures ∙ fresh.providers)
    (c.in-Ok.ensures.ended records holds faults old _ opened fresh before
    (record { disk = refl; faults = refl; providers = refl })) c.scrubbed.ensures.told c.scrubbed.ensures.heard

pub returns-in-Err-clause-over : goal.returns-in-Err-clause-over
returns-in-Err-clause-over g c records holds faults old left count opened fresh before was_synced sink sink_count =
    no-scrub records old _ _ _ opened before was_synced c.of.ensures refl
    (ap (map (provider_seen g.P.Provider)) c.in-Err.ensures.untouched) (sym sink)
