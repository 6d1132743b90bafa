use Rattle.file_layout.specs.Files.{shaped_object}
use Rattle.column_codec.proofs.RowLemmas.{columns-sizes}
use Rattle.column_codec.proofs.coder.StripeCoder.encode.Goals as goal

pub returns-clause-sizes : goal.returns-clause-sizes
returns-clause-sizes c =
    let keys = c.args.self.now.keys.now in
    columns-sizes (shaped_object keys.master.0 keys.file) _ c.args.self.now.stripe keys.file.shape.n
    c.columns_into.new.out c.columns_into.ensures
