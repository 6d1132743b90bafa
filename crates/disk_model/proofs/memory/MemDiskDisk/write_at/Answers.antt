use Rattle.disk_model.proofs.Words.{◌≡◌, ◌⊎◌, subst, ap, Cells, Torn, halved, marked, Torn-either, DiskInMemory}
use Rattle.std.specs.Prelude.{length}
use Rattle.disk_model.proofs.memory.MemDiskDisk.write_at.Goals as goal

pub returns-then-next-clause-torn : goal.returns-then-next-clause-torn
returns-then-next-clause-torn c =
    let new = c.tear_at.new.self.cells in
    let n = length c.args.bytes.now in
    λ failed. subst (λ (cells : Cells). Torn c.args.at n cells new)
    (ap (λ (d : DiskInMemory). d.cells) c.self.view_is)
    (Torn-either c.args.at c.args.bytes.now c.self.inside.inner.cells new c.tear_at.ensures.torn)

pub returns-then-next-clause-failed : goal.returns-then-next-clause-failed
returns-then-next-clause-failed c =
    let new = c.tear_at.new.self.cells in
    let n = length c.args.bytes.now in
    λ failed. subst (λ (d : DiskInMemory). (new ≡ halved c.args.at c.args.bytes.now d.cells)
    ⊎ (new ≡ marked c.args.at n d.cells))
    c.self.view_is c.tear_at.ensures.torn
