use Rattle.hail_client.proofs.Replaced.{replaces}
use Rattle.hail_client.proofs.replace.lose_of.Goals as goal

pub returns : goal.returns
returns g c = replaces _ _ c.lose.result _ _ _ _ _ c.lose.ensures.there c.lose.ensures.held
    c.lose.ensures.no_store_fault c.lose.ensures.faults c.lose.ensures.no_fault c.lose.ensures.no_fetch
