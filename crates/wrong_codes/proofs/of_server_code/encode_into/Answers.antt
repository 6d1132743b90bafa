use Rattle.wrong_codes.proofs.of_server_code.encode_into.Goals as goal

pub returns : goal.returns
returns g c = c.encode_into.ensures
