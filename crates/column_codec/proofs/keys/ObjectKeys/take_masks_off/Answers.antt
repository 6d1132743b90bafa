use Rattle.column_codec.proofs.Words.{◌∙◌, arith, shaped_object}
use Rattle.column_codec.proofs.OpenLemmas.{bare-primary, bare-secondary}
use Rattle.column_codec.proofs.keys.ObjectKeys.take_masks_off.Goals as goal

pub returns-then-provider-from : goal.returns-then-provider-from
returns-then-provider-from c = c.add_masks.ensures
    ∙ bare-secondary (shaped_object c.args.self.now.master.0 c.args.self.now.file) c.args.provider
    c.args.stripe c.args.block.now (omega arith) c.requires.block

pub returns-else-provider-from : goal.returns-else-provider-from
returns-else-provider-from c = bare-primary (shaped_object c.args.self.now.master.0 c.args.self.now.file)
    c.args.provider c.args.stripe c.args.block.now (omega arith)
