use Rattle.disk_model.proofs.Words.{◌≡◌, take, drop, subst, IfOk, reads, DiskInMemory}
use Rattle.std.proofs.Common.{length}
use Rattle.disk_model.proofs.memory.MemDiskDisk.read_at.Goals as goal

pub returns-clause-bytes : goal.returns-clause-bytes
returns-clause-bytes c = subst (λ (d : DiskInMemory). IfOk c.read_at.result
    (λ n. take n c.read_at.new.out ≡ take (length c.args.out.now) (drop c.args.at (reads d.cells))))
    c.self.view_is c.read_at.ensures.bytes
