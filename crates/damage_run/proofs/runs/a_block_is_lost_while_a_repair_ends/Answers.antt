use Rattle.std.proofs.Common.{refl}
use Rattle.damage_run.specs.Words.{actions_of, setup_in, is_wrong}
use Rattle.damage_run.proofs.SecondLoss.{robbed_moments, robbed_calm}
use Rattle.damage_run.proofs.runs.a_block_is_lost_while_a_repair_ends.Goals as goal

pub returns : goal.returns
unfolding setup_in actions_of is_wrong
returns c = (robbed_moments, robbed_calm, (refl, refl), refl)
