use Rattle.disk_model.proofs.Words.{refl, sym, false, ◌∙◌, subst, arith, zip, Cells, IsFirmOutside}
use Rattle.disk_model.proofs.Ranges.{none_loose}
use Rattle.disk_model.proofs.Zips.{zip_marked}
use Rattle.disk_model.proofs.sure.SureDisk.new.Goals as goal

pub returns-clause-cells : goal.returns-clause-cells
returns-clause-cells c =
    let held_is = c.in_ok-held.ensures.items_if_clones_equal (λ x y e. e) in
    let marks_are = c.in_ok-marks.ensures.items_if_clones_equal (λ y e. e) in
    (λ i. zip (held_is i) (marks_are i)) ∙ zip_marked false _ c.args.bytes.now refl

pub invariant_of-result : goal.invariant_of-result
invariant_of-result c = (
  omega (arith, c.in_ok-marks.ensures.len, c.in_ok-held.ensures.len),
  subst (λ (cells : Cells). IsFirmOutside c.none.result.from c.none.result.to cells)
      (sym (returns-clause-cells c)) (none_loose c.none.result.from c.none.result.to c.args.bytes.now),
)
