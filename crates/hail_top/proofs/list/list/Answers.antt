use Rattle.hail_top.proofs.Words.{refl, sym, Seen, seen}
use Rattle.command_defs.specs.Commands.{unstarted}
use Rattle.hail_top.proofs.Unopened.{unopened-told}
use Rattle.hail_top.proofs.Opened.{opened-read}
use Rattle.hail_top.proofs.ListEnds.{listed-told}
use Rattle.hail_top.proofs.list.list.Goals as goal

pub returns-in-Ok-clause-answers : goal.returns-in-Ok-clause-answers
returns-in-Ok-clause-answers g c providers left count handed =
    let old : Seen = seen (g.D.Disk.holds c.args.disk.now)
    (g.D.Disk.faults c.args.disk.now) providers left count (g.K.Sink.written c.args.sink.now)
    (g.K.Sink.faults c.args.sink.now) in
    let found = c.in-Ok.ensures.opened in
    listed-told found.1 old _ _ _ c.of.ensures
    (opened-read old found.0 found.1 c.args.handed (sym handed) found.2)
    (c.write_files-status.ensures.written found.1 found.3.table) (c.in-Ok.ensures.disk.synced tt) refl

pub returns-in-Err-clause-answers : goal.returns-in-Err-clause-answers
returns-in-Err-clause-answers g c providers left count handed =
    unstarted (unopened-told _ _ _ c.in-Err.why c.args.handed c.unopened.ensures (sym handed)
    c.in-Err.ensures.refused c.in-Err.ensures.disk refl refl)
