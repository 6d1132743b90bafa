use Rattle.hail_top.proofs.Words.{length, map, refl, sym, length-map, Seen, seen, begun, provider_seen}
use Rattle.command_defs.specs.Commands.{unstarted}
use Rattle.hail_top.proofs.Unopened.{unopened-told}
use Rattle.hail_top.proofs.Opened.{opened-read, no_count_falls, still}
use Rattle.hail_top.proofs.alone.alone.Goals as goal

pub returns-in-Ok-clause-answers : goal.returns-in-Ok-clause-answers
returns-in-Ok-clause-answers g c left count =
    let see = provider_seen g.P.Provider in
    let old : Seen = seen (g.D.Disk.holds c.args.disk.now) (g.D.Disk.faults c.args.disk.now)
    (map see c.args.providers.now) left count (g.K.Sink.written c.args.sink.now)
    (g.K.Sink.faults c.args.sink.now) in
    let found = c.in-Ok.ensures.opened in
    let opened = opened-read old found.0 found.1 (length c.args.providers.now)
    (sym (length-map c.args.providers.now see)) found.2 in
    begun found.1 opened ((c.answer_job.ensures.over found.1 old left count opened found.3
    (record { reads = c.in-Ok.ensures.reads; faults = c.in-Ok.ensures.disk.called.no_fault (λ e. cc); providers = refl })
    (c.in-Ok.ensures.disk.synced tt) refl refl).answers)

pub returns-in-Ok-clause-counts : goal.returns-in-Ok-clause-counts
returns-in-Ok-clause-counts g c left count =
    let see = provider_seen g.P.Provider in
    let old : Seen = seen (g.D.Disk.holds c.args.disk.now) (g.D.Disk.faults c.args.disk.now)
    (map see c.args.providers.now) left count (g.K.Sink.written c.args.sink.now)
    (g.K.Sink.faults c.args.sink.now) in
    let found = c.in-Ok.ensures.opened in
    let opened = opened-read old found.0 found.1 (length c.args.providers.now)
    (sym (length-map c.args.providers.now see)) found.2 in
    no_count_falls old _ (c.answer_job.ensures.over found.1 old left count opened found.3
    (record { reads = c.in-Ok.ensures.reads; faults = c.in-Ok.ensures.disk.called.no_fault (λ e. cc); providers = refl })
    (c.in-Ok.ensures.disk.synced tt) refl refl).counts (still count) c.answer_job.ensures.count

pub returns-in-Err-clause-answers : goal.returns-in-Err-clause-answers
returns-in-Err-clause-answers g c left count =
    let see = provider_seen g.P.Provider in
    unstarted (unopened-told _ _ _ c.in-Err.why (length c.args.providers.now) c.unopened.ensures
    (sym (length-map c.args.providers.now see)) c.in-Err.ensures.refused c.in-Err.ensures.disk
    refl refl)
