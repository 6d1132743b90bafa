use Rattle.second_half_laws.proofs.Words.{Fetched, contains_in}
use Rattle.second_half_laws.proofs.Origin.{came_of}
use Rattle.second_half_laws.proofs.laws.given_blocks_were_held.Goals as goal

pub returns : goal.returns
returns c limit start ms number job j object stripe block clean run runs given = came_of limit start clean ms
    run number job j object stripe block runs (contains_in job.given (Fetched j object stripe block) given)
