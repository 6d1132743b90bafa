use Rattle.wrong_codes.proofs.of_column_codec.take_stripe.Goals as goal

pub returns : goal.returns
returns c = record { rows = c.take_stripe.ensures.rows }
