use Rattle.std.proofs.Common.{ap, refl, ◌∙◌}
use Rattle.vault.specs.declared.turn.Answer.TheVariants as answer
use Rattle.vault.proofs.tasks.GetTask.into_end.Goals as goal

pub returns-clause-answer : goal.returns-clause-answer
returns-clause-answer c = ap answer.Got (c.from_vec.ensures ∙ c.truncate.ensures.items)

pub returns-clause-heard : goal.returns-clause-heard
returns-clause-heard c = refl
