use Rattle.std.proofs.Common.{◌∙◌}
use Rattle.column_defs.specs.Objects.{symbol_of}
use Rattle.file_layout.proofs.Padding.{rest-value}
use Rattle.file_layout.proofs.file.FileShape.symbol_at.Goals as goal

pub returns : goal.returns
unfolding symbol_of
returns c = c.first_symbol.ensures
    ∙ rest-value c.args.bytes.now c.from.result c.args.number c.min-start.result c.from.ensures
    c.min-start.ensures
