use Rattle.hail_client.proofs.Replaced.{replaces}
use Rattle.hail_client.proofs.replace.alter_of.Goals as goal

pub returns : goal.returns
returns g c = replaces _ _ c.alter.result _ _ _ _ _ c.alter.ensures.there c.alter.ensures.held
    c.alter.ensures.no_store_fault c.alter.ensures.faults c.alter.ensures.no_fault c.alter.ensures.no_fetch
