use Rattle.hail_replay.proofs.opened.reopen_line.Goals as goal

pub returns-in-Ok : goal.returns-in-Ok
returns-in-Ok c = rw c.in-Ok.is c.from_slice.ensures
