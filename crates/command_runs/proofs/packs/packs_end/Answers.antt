use Rattle.std.proofs.Common.{◌-◌, ◌^◌}
use Rattle.command_runs.proofs.Alone as alone
use Rattle.command_runs.proofs.packs.packs_end.Goals as goal

pub returns : goal.returns
returns c = record {
  pack = λ filling fills. (alone.packs filling fills).answers;
  cut_pack = alone.fails.answers;
  old_version = alone.old-version;
  get = λ filling fills. (alone.gets filling fills).answers;
  there_is_one = alone.filling-of (2 ^ 23 - 80);
}
