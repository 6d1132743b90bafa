use Rattle.disk_model.proofs.Words.{sym, ap, ◌∙◌, arith, firsts-zip, reads, SureInMemory}
use Rattle.disk_model.proofs.sure.SureDisk.bytes.Goals as goal

pub returns : goal.returns
returns c =
    let d = c.self.inside in
    c.deref.ensures.value
    ∙ sym (firsts-zip d.held.items d.marks.items (omega (arith, d.held.ok.0, d.marks.ok.0, c.self.invariant)))
    ∙ ap (λ (disk : SureInMemory). reads disk.cells) c.self.view_is
