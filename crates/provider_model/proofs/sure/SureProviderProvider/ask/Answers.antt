use Rattle.provider_model.proofs.sure.SureProviderProvider.ask.Goals as goal

pub returns-clause-answer : goal.returns-clause-answer
returns-clause-answer c = c.answer_of.ensures
