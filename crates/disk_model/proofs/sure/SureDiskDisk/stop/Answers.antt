use Rattle.disk_model.proofs.Words.{◌∙◌, ap, sym, subst, arith, take_at, Cells, firm, picked, IsImage-picked, IsFirmOutside, SureInMemory}
use Rattle.disk_model.proofs.PickLemmas.{zip_stopped}
use Rattle.disk_model.proofs.Ranges.{none_loose}
use Rattle.disk_model.proofs.sure.SureDiskDisk.stop.Goals as goal

pub returns-clause-picked : goal.returns-clause-picked
returns-clause-picked c =
    let d = c.self.inside in
    zip_stopped d.held.items d.marks.items c.args.picks.now c.deref_mut.result.now c.deref_mut-2.result.now _
    _ (omega (arith, d.held.ok.0, d.marks.ok.0, c.self.invariant.0)) c.deref_mut.ensures.value
    c.deref_mut-2.ensures.value
    (take_at c.pick.new.held _ d.held.len (omega (arith, c.pick.auto.held, c.deref_mut.ensures.len))
    ∙ c.pick.ensures.held)
    (take_at c.pick.new.marks _ d.marks.len (omega (arith, c.pick.auto.marks, c.deref_mut-2.ensures.len))
    ∙ c.pick.ensures.marks)
    ∙ ap (λ (disk : SureInMemory). firm (picked disk.cells c.args.picks.now)) c.self.view_is

pub returns-clause-image : goal.returns-clause-image
returns-clause-image c = (
  picked c.args.self.now.cells c.args.picks.now,
  IsImage-picked c.args.self.now.cells c.args.picks.now,
  returns-clause-picked c,
)

pub invariant_of-self : goal.invariant_of-self
invariant_of-self c =
    let e = returns-clause-picked c in (
      c.self.invariant.0,
      subst
          (λ (cells : Cells). IsFirmOutside c.none-self-inside.result.from c.none-self-inside.result.to cells)
          (sym e) (none_loose c.none-self-inside.result.from c.none-self-inside.result.to _),
    )
