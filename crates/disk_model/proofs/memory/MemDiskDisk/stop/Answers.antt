use Rattle.disk_model.proofs.Words.{ap, ◌∙◌, firm, picked, DiskInMemory}
use Rattle.disk_model.proofs.memory.MemDiskDisk.stop.Goals as goal

pub returns-clause-picked : goal.returns-clause-picked
returns-clause-picked c =
    c.stop.ensures.picked ∙ ap (λ (d : DiskInMemory). firm (picked d.cells c.args.picks.now)) c.self.view_is
