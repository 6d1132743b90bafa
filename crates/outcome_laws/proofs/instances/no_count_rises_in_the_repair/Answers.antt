use Rattle.std.proofs.Common.{refl}
use Rattle.damage_run.specs.Words.{actions_of, Repaired, since, setup_in, set_up}
use Rattle.damage_run.proofs.SecondLoss.{to_audit, repair_begin, repairing, repair_end, moves}
use Rattle.damage_run.proofs.Told.{no_begun}
use Rattle.outcome_laws.proofs.NoFaults.{none_rose}
use Rattle.outcome_laws.proofs.instances.no_count_rises_in_the_repair.Goals as goal

pub returns : goal.returns
unfolding setup_in actions_of
returns c = (
  repair_end,
  repair_begin,
  repairing,
  to_audit,
  moves.marked,
  refl,
  refl,
  no_begun 4 repairing refl,
  refl,
  refl,
  none_rose,
  c.calm_repairs_end_well.ensures.unfailed 8 (since set_up) set_up repairing to_audit repair_end repair_begin
      4 (Repaired 1) moves.marked refl refl (no_begun 4 repairing refl) refl refl none_rose,
)
