use Rattle.provider_model.proofs.sure.SureProviderTamper.alter.Goals as goal

pub returns-clause-there : goal.returns-clause-there
returns-clause-there c = c.put.ensures.there

pub returns-clause-held : goal.returns-clause-held
returns-clause-held c = c.put.ensures.held
