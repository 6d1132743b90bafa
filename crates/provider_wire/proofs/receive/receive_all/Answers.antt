use Rattle.provider_wire.proofs.Words.{◌≡◌, ◌∙◌, ◌-◌, ◌≤◌, length, arith, length-drop, take-put_mid_behind}
use Rattle.provider_wire.proofs.Windows.{part_length}
use Rattle.provider_wire.proofs.Received.{advance}
use Rattle.provider_wire.proofs.receive.receive_all.Goals as goal
use borrow.Rule.Slice.PartMut.{put_mid}

pub loop-at-preserved : goal.loop-at-preserved
loop-at-preserved g c =
    let out = c.loop-at.out in
    let at = c.loop-at.at in
    let part = c.receive.new.out in
    let n = c.in-Ok.count in
    let k = length out - at in
    let size : length part ≡ k = omega (arith, c.receive.auto.out, length-drop at out) in
    let few : n ≤ length part = omega (arith, c.in-Ok.ensures.at_most, c.receive.auto.out) in
    let same : length (put_mid at k out part) ≡ length out = part_length out part at k size (omega arith) in
    record {
      within = omega (arith, same, few, size);
      so_far = advance _ _ _ out (put_mid at k out part) part at n c.loop-at.invariant.so_far
          c.in-Ok.ensures.given same (take-put_mid_behind out part at k n (omega arith) few);
      untold = λ e. c.receive.ensures.untold (c.loop-at.invariant.untold e);
      no_fault = c.in-Ok.ensures.no_fault ∙ c.loop-at.invariant.no_fault;
    }
