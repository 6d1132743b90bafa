use Rattle.disk_model.proofs.Words.{ap, ◌∙◌, ◌≡◌, arith, zip, length-zip, SureInMemory}
use Rattle.std.proofs.Common.{length}
use Rattle.disk_model.proofs.sure.SureDiskDisk.len.Goals as goal

pub returns-clause-len : goal.returns-clause-len
returns-clause-len c =
    let d = c.self.inside in
    let long : c.len.result ≡ length (zip d.held.items d.marks.items) =
    omega (arith, length-zip d.held.items d.marks.items, d.held.ok.0, d.marks.ok.0, c.self.invariant) in
    long ∙ ap (λ (disk : SureInMemory). length disk.cells) c.self.view_is
