use Rattle.std.proofs.Common.{◌∙◌}
use Rattle.file_layout.proofs.Padding.{padded-value}
use Rattle.file_layout.proofs.file.first_symbol.Goals as goal

pub returns : goal.returns
returns c = c.from_bytes.ensures
    ∙ padded-value c.copy_from_slice.new.self c.args.bytes.now c.min-count.result c.min-count.ensures
    c.copy_from_slice.ensures.after
