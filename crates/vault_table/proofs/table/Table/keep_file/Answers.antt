use Rattle.std.proofs.Common.{map}
use Rattle.vault_table.specs.Values.{file_of_entry}
use Rattle.vault_table.proofs.Taken.{put-in_order}
use Rattle.vault_table.proofs.table.Table.keep_file.Goals as goal

pub invariant_of-self-2 : goal.invariant_of-self-2
invariant_of-self-2 c = record {
  ordered = put-in_order (map file_of_entry c.self.inside.files.items) _
      (record { name = c.args.name.now; id = c.args.id; size = c.args.size; profile = c.args.profile })
      c.put_file.result c.self.invariant.ordered c.put_file.ensures.files;
  room = c.put_file.ensures.room;
  below = c.self.invariant.below;
  padded = c.self.invariant.padded;
}
