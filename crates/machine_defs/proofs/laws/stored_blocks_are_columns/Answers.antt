use Rattle.machine_defs.proofs.Held.{all}
use Rattle.machine_defs.proofs.laws.stored_blocks_are_columns.Goals as goal

pub returns : goal.returns
returns c limit start ms number job name bytes j object stripe block clean run runs kind st made none told =
    (all limit start clean ms run).held.stored number job name bytes j object stripe block runs kind st made
    none told
