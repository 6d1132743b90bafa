use Rattle.disk_model.proofs.Words.{◌≡◌, ◌≤◌, ◌++◌, take, drop, zip, picked}
use Rattle.std.proofs.Common.{length}
use Rattle.disk_model.proofs.parts.pick.Given as goal

abbrev pub invariant-loop-i : goal.invariant-loop-i
invariant-loop-i l = record {
  within : l.next ≤ length l.picks;
  so_far : take l.i l.held ++ picked (zip (drop l.i l.held) (drop l.i l.marks)) (drop l.next l.picks)
      ≡ picked (zip l.initial.held l.marks) l.picks;
}
