use Rattle.second_half_laws.proofs.Words.{in_contains, Fetched, block_given}
use Rattle.second_half_laws.proofs.MadeFacts.{facts, given_at, fetched_at}
use Rattle.second_half_laws.proofs.laws.work_has_its_fetches.Goals as goal

pub returns-clause-given : goal.returns-clause-given
returns-clause-given c limit start ms number job place j object stripe clean run runs early at l =
    in_contains job.given (Fetched j object stripe (block_given job.given object stripe j))
    (given_at start ms (facts limit start clean ms run) number job place j object stripe runs early at l)

pub returns-clause-fetched : goal.returns-clause-fetched
returns-clause-fetched c limit start ms number job place j object stripe clean run runs early at l =
    fetched_at start ms (facts limit start clean ms run) number job place j object stripe runs early at l
