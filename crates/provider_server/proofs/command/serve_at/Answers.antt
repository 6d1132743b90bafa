use Rattle.std.proofs.Common.{arith}
use Rattle.std.proofs.lemmas.Option.{slice_get-get_or}
use Rattle.provider_model.specs.Seen.{provider_seen}
use Rattle.provider_wire.specs.Ends.{end_of}
use Rattle.provider_server.proofs.OneServed.{served-answers, served-counts, cause_source, cause_sink}
use Rattle.provider_server.proofs.command.serve_at.Goals as goal

pub returns-clause-answers : goal.returns-clause-answers
returns-clause-answers g c = λ disk disk_faults. served-answers (provider_seen g.P.Provider)
    c.args.providers.now c.from-place.result _ c.serve.new.provider (slice_get-get_or c.args.providers.now
    c.from-place.result c.index-providers-place.result (omega (arith, c.if-place-providers.false))) _ _ _ _ _
    _ _ _ (end_of c.serve.result) c.serve.ensures.served (cause_source _ _ c.serve.result
    c.serve.ensures.source) (cause_sink _ _ c.serve.result c.serve.ensures.sink) c.args.number
    c.from-place.ensures c.told.result c.told.ensures.status c.told.ensures.place disk disk_faults

pub returns-clause-counts : goal.returns-clause-counts
returns-clause-counts g c = λ disk disk_faults. served-counts (provider_seen g.P.Provider)
    c.args.providers.now c.from-place.result _ c.serve.new.provider (slice_get-get_or c.args.providers.now
    c.from-place.result c.index-providers-place.result (omega (arith, c.if-place-providers.false))) _ _ _ _ _
    _ _ _ (end_of c.serve.result) c.serve.ensures.served (cause_source _ _ c.serve.result
    c.serve.ensures.source) (cause_sink _ _ c.serve.result c.serve.ensures.sink) c.counts_never_fall.ensures
    disk disk_faults
