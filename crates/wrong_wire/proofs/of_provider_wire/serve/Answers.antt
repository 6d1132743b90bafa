use Rattle.wrong_wire.proofs.of_provider_wire.serve.Goals as goal

pub returns : goal.returns
returns g c = record { served = c.serve.ensures.served }
