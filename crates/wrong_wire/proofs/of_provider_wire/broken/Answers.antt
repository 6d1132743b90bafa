use Rattle.wrong_wire.proofs.of_provider_wire.broken.Goals as goal

pub returns : goal.returns
returns g c = record { value = c.broken.ensures.value }
