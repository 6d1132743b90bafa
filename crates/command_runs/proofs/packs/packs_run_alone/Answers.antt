use Rattle.std.proofs.Common.{refl}
use Rattle.command_runs.proofs.Alone.{packs, fails}
use Rattle.command_runs.proofs.Stores.{upgraded_kept-sure}
use Rattle.command_runs.proofs.packs.packs_run_alone.Goals as goal

pub returns : goal.returns
returns c = record {
  done = λ filling fills. (packs filling fills).alone;
  cut = fails.alone;
  left = λ filling fills. c.told_packs_leave.ensures _ _ _ _ upgraded_kept-sure.known.opened refl
      (packs filling fills).alone;
  cut_left = c.told_packs_leave.ensures _ _ _ _ upgraded_kept-sure.known.opened refl fails.alone;
}
