use Rattle.line_laws.proofs.Read.{text-tells, text-behind}
use Rattle.line_laws.proofs.laws.texts_tell_outcomes.Goals as goal

pub returns-clause-whole : goal.returns-clause-whole
returns-clause-whole c limit start base ms commands bytes outcomes run asks C told same =
    text-tells limit start base commands ms bytes outcomes run asks C told same

pub returns-clause-behind : goal.returns-clause-behind
returns-clause-behind c limit start base ms commands bytes front other outcomes run asks C told many whole
    ahead same =
    text-behind limit start base commands ms bytes front other outcomes run asks C told many whole ahead same
