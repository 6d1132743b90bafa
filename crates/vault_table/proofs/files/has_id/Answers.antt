use Rattle.std.proofs.Common.{◌∙◌}
use Rattle.vault_table.proofs.Taken.{any_mapped}
use Rattle.vault_table.proofs.files.has_id.Goals as goal

pub returns : goal.returns
returns c = c.lists.ensures ∙ any_mapped c.args.files.now c.args.id
