use Rattle.vault_table.proofs.Taken.{drop-in_order}
use Rattle.vault_table.proofs.table.Table.drop_name.Goals as goal

pub invariant_of-self : goal.invariant_of-self
invariant_of-self c = record {
  ordered = drop-in_order _ _ c.args.name.now c.drop_file.result c.self.invariant.ordered
      c.drop_file.ensures.files;
  room = c.drop_file.ensures.room;
  below = c.self.invariant.below;
  padded = c.self.invariant.padded;
}

pub invariant_of-self-2 : goal.invariant_of-self-2
invariant_of-self-2 c = record {
  ordered = drop-in_order _ _ c.args.name.now c.drop_file.result c.self.invariant.ordered
      c.drop_file.ensures.files;
  room = c.drop_file.ensures.room;
  below = c.self.invariant.below;
  padded = c.self.invariant.padded;
}
