use Rattle.disk_model.proofs.Words.{◌≡◌, ◌∙◌, Bool, false, List, replicate, ap, sym, subst, arith, take_at, Cells, synced, IsFirmOutside, IsUnmarkedOutside, SureInMemory}
use Rattle.std.proofs.Common.{length}
use Rattle.disk_model.proofs.Ranges.{unmarked_outside, none_loose}
use Rattle.disk_model.proofs.Zips.{zip_settled}
use Rattle.disk_model.proofs.sure.SureDiskDisk.sync.Goals as goal

pub unmark-requires : goal.unmark-requires
unmark-requires c =
    let d = c.self.inside in
    let same : length d.marks.items ≡ length d.held.items =
    omega (arith, d.held.ok.0, d.marks.ok.0, c.self.invariant.0) in
    subst (λ (marks : List Bool). IsUnmarkedOutside d.loose.from d.loose.to marks)
    (sym c.deref_mut.ensures.value)
    (unmarked_outside d.loose.from d.loose.to d.held.items d.marks.items same c.self.invariant.1)

pub returns-clause-ok : goal.returns-clause-ok
returns-clause-ok c =
    let d = c.self.inside in
    let same : length d.marks.items ≡ length d.held.items =
    omega (arith, d.held.ok.0, d.marks.ok.0, c.self.invariant.0) in
    zip_settled d.held.items d.marks.items _ same
    (take_at c.unmark.new.marks _ d.marks.len (omega (arith, c.unmark.auto.marks, c.deref_mut.ensures.len))
    ∙ c.unmark.ensures ∙ ap (λ (marks : List Bool). replicate (length marks) false) c.deref_mut.ensures.value)
    ∙ ap (λ (disk : SureInMemory). synced disk.cells) c.self.view_is

pub invariant_of-self : goal.invariant_of-self
invariant_of-self c =
    let e = returns-clause-ok c in (
      c.self.invariant.0,
      subst
          (λ (cells : Cells). IsFirmOutside c.none-self-inside.result.from c.none-self-inside.result.to cells)
          (sym e) (none_loose c.none-self-inside.result.from c.none-self-inside.result.to _),
    )
