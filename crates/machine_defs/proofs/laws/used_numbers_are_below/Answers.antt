use Rattle.machine_defs.proofs.Uses.{stored_below, asked_below}
use Rattle.machine_defs.proofs.laws.used_numbers_are_below.Goals as goal

pub returns-clause-objects : goal.returns-clause-objects
returns-clause-objects c limit start ms begun object clean run h =
    stored_below limit start ms clean run begun object h

pub returns-clause-audits : goal.returns-clause-audits
returns-clause-audits c limit start ms begun number object round clean run h =
    asked_below limit start ms clean run begun number object round h
