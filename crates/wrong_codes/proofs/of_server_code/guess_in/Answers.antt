use Rattle.wrong_codes.proofs.of_server_code.guess_in.Goals as goal

pub returns : goal.returns
returns g c = record { opened = c.guess_in.ensures.opened }
