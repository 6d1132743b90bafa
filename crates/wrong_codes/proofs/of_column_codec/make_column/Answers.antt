use Rattle.wrong_codes.proofs.of_column_codec.make_column.Goals as goal

pub returns : goal.returns
returns c = record { column = c.make_column.ensures.column }
