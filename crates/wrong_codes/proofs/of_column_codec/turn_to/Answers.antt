use Rattle.wrong_codes.proofs.of_column_codec.turn_to.Goals as goal

pub returns : goal.returns
returns c = record { id = c.turn_to.ensures.id }
