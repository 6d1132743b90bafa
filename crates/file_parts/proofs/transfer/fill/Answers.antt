use Rattle.std.proofs.Common.{arith, ◌≤◌, length}
use Rattle.file_parts.proofs.ReadLemmas.{Consumes-filled, filled_within}
use Rattle.file_parts.proofs.transfer.fill.Goals as goal

pub loop-done-preserved : goal.loop-done-preserved
loop-done-preserved g c =
    let fits : c.in_ok-n.n ≤ length c.read_some.new.out =
    omega (arith, c.read_some.auto.out, c.in_ok-n.ensures.at_most) in
    record {
      within = filled_within c.loop-done.out c.read_some.new.out c.loop-done.done _ c.in_ok-n.n
          c.loop-done.invariant.within fits;
      given = Consumes-filled _ _ _ c.loop-done.out c.read_some.new.out c.loop-done.done _ c.in_ok-n.n
          c.loop-done.invariant.within fits c.loop-done.invariant.given c.in_ok-n.ensures.bytes.0;
    }
