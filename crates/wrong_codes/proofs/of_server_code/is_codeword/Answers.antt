use Rattle.wrong_codes.proofs.of_server_code.is_codeword.Goals as goal

pub returns : goal.returns
returns g c = c.is_codeword.ensures
