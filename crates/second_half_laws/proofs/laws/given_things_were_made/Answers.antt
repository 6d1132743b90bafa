use Rattle.second_half_laws.proofs.Words.{Fetched, Answered, contains_in}
use Rattle.second_half_laws.proofs.MadeFacts.{facts}
use Rattle.second_half_laws.proofs.laws.given_things_were_made.Goals as goal

pub returns-clause-blocks : goal.returns-clause-blocks
returns-clause-blocks c limit start ms number job j object stripe block clean run runs given =
    (facts limit start clean ms run).came number job (Fetched j object stripe block) runs
    (contains_in job.given (Fetched j object stripe block) given)

pub returns-clause-answers : goal.returns-clause-answers
returns-clause-answers c limit start ms number job j object round symbol clean run runs given =
    (facts limit start clean ms run).came number job (Answered j object round symbol) runs
    (contains_in job.given (Answered j object round symbol) given)
