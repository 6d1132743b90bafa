use Rattle.std.proofs.Common.{sym, arith}
use Rattle.vault_table.proofs.Orders.{order-less, order-equal, order-greater}
use Rattle.vault_table.proofs.Places.{less, equal, greater}
use Rattle.vault_table.proofs.files.place_of.Goals as goal

pub loop-low-preserved-in-Less : goal.loop-low-preserved-in-Less
loop-low-preserved-in-Less c = record {
  ordered = omega arith;
  within = c.loop-low.invariant.within;
  after = less c.args.files.now _ c.index-files-middle.result
      (omega arith) c.index-files-middle.is c.args.name.now c.requires
      (order-less c.index-files-middle.result.name c.args.name.now (sym c.in-Less.ensures));
  before = c.loop-low.invariant.before;
}

pub returns-in-Equal : goal.returns-in-Equal
returns-in-Equal c = equal c.args.files.now _ c.index-files-middle.result
    (omega arith) c.index-files-middle.is c.args.name.now c.requires
    (order-equal c.index-files-middle.result.name c.args.name.now (sym c.in-Equal.ensures))

pub loop-low-preserved : goal.loop-low-preserved
loop-low-preserved c = record {
  ordered = omega arith;
  within = omega (arith, c.loop-low.invariant.within);
  after = c.loop-low.invariant.after;
  before = greater c.args.files.now _ c.index-files-middle.result
      (omega arith) c.index-files-middle.is c.args.name.now c.requires
      (order-greater c.index-files-middle.result.name c.args.name.now (sym c.in-Greater.ensures));
}
