use Rattle.hail_top.proofs.Words.{refl, sym, Seen, seen}
use Rattle.command_defs.specs.Packs.{unstarted}
use Rattle.hail_top.specs.PackRuns as around
use Rattle.hail_top.proofs.Unopened.{unopened-told}
use Rattle.hail_top.proofs.Opened.{opened-read}
use Rattle.hail_top.proofs.pack.pack.Goals as goal

pub returns-in-Ok-clause-answers : goal.returns-in-Ok-clause-answers
returns-in-Ok-clause-answers g c providers left count handed =
    let old : Seen = seen (g.D.Disk.holds c.args.disk.now) (g.D.Disk.faults c.args.disk.now) providers left count
    (g.K.Sink.written c.args.sink.now) (g.K.Sink.faults c.args.sink.now) in
    let found = c.in-Ok.ensures.opened in
    let opened = opened-read old found.0 found.1 c.args.handed (sym handed) found.2 in
    (c.answer_pack.ensures.over found.1 old providers left count opened found.3
    (record { reads = c.in-Ok.ensures.reads; faults = c.in-Ok.ensures.disk.called.no_fault (λ e. cc); providers = refl })
    (c.in-Ok.ensures.disk.synced tt) refl refl).answers

pub returns-in-Err-clause-answers : goal.returns-in-Err-clause-answers
returns-in-Err-clause-answers g c providers left count handed =
    unstarted (unopened-told _ _ _ c.in-Err.why c.args.handed c.unopened.ensures (sym handed)
    c.in-Err.ensures.refused c.in-Err.ensures.disk refl refl)

pub returns-in-Ok-clause-around : goal.returns-in-Ok-clause-around
returns-in-Ok-clause-around g c providers left count handed =
    let old : Seen = seen (g.D.Disk.holds c.args.disk.now) (g.D.Disk.faults c.args.disk.now) providers left count
    (g.K.Sink.written c.args.sink.now) (g.K.Sink.faults c.args.sink.now) in
    let found = c.in-Ok.ensures.opened in
    let opened = opened-read old found.0 found.1 c.args.handed (sym handed) found.2 in
    around.over found.1 opened (c.answer_pack.ensures.around found.1 old opened found.3 (c.in-Ok.ensures.disk.synced tt))

pub returns-in-Err-clause-around : goal.returns-in-Err-clause-around
returns-in-Err-clause-around g c providers left count handed = around.unopened c.in-Err.ensures.disk.resynced
