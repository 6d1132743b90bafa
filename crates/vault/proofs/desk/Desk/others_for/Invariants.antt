use Rattle.std.proofs.Common.{◌≤◌, ◌∷◌, drop, length}
use Rattle.vault.specs.Benches.{AreOfDesk, AreServed}
use Rattle.vault.proofs.desk.Desk.others_for.Given as goal

abbrev pub invariant-loop-place : goal.invariant-loop-place
invariant-loop-place l = record {
  within : l.place ≤ length l.self.core.table.files;
  of_desk : AreOfDesk l.self l.others.items;
  served : AreServed (drop l.place l.self.core.table.files) (l.own ∷ l.others.items);
}

abbrev pub decreases-loop-place : goal.decreases-loop-place
decreases-loop-place l = l.place
