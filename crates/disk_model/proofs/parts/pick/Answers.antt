use Rattle.std.proofs.Common.{◌≡◌, ◌<◌, inl, inr, ⊎_elim, length, ◌∙◌, arith}
use Rattle.disk_model.proofs.PickLemmas.{kept_place, picked_place}
use Rattle.disk_model.proofs.parts.pick.Goals as goal
use Rattle.disk_model.proofs.parts.pick.Goals.{then-marks-i+then-next-picks, else-marks-i}

pub loop-i-preserved : goal.loop-i-preserved
loop-i-preserved c =
    let held = c.loop-i.held in
    let marks = c.args.marks.now in
    let picks = c.args.picks.now in
    let inside : c.loop-i.i < length held = omega arith in
    let same : length marks ≡ length held = omega arith in
    elim c.if-marks-i.branch [
      | then-marks-i+then-next-picks w ↦ record {
        within = omega arith;
        so_far = rw (w.held-is, w.next-is) (picked_place held marks picks c.loop-i.i c.loop-i.next inside same
            w.if-marks-i.true w.if-next-picks.true ∙ c.loop-i.invariant.so_far);
      }
      | else-marks-i w ↦ record {
        within = omega arith;
        so_far = rw (w.held-is, w.next-is) (kept_place held marks picks c.loop-i.i c.loop-i.next inside same
            (⊎_elim (λ ended. inr ended.1) (λ unmarked. inl unmarked) w.else-marks-i.either)
            ∙ c.loop-i.invariant.so_far);
      }
    ]
