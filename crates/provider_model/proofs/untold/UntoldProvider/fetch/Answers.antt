use Rattle.provider_model.proofs.untold.UntoldProvider.fetch.Goals as goal

pub returns-clause-found : goal.returns-clause-found
returns-clause-found g c = c.fetch.ensures.found
