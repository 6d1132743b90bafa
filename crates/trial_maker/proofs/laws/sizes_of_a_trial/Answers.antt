use Rattle.std.proofs.Common.{refl}
use Rattle.trial_maker.specs.Trials.{losses, cut, opening, epoch, last_epoch, trial_commands}
use Rattle.trial_maker.proofs.Drawn.{length-bytes_behind}
use Rattle.trial_maker.proofs.laws.sizes_of_a_trial.Goals as goal

pub returns-clause-events : goal.returns-clause-events
unfolding trial_commands opening epoch last_epoch losses cut
returns-clause-events c = refl

pub returns-clause-bytes : goal.returns-clause-bytes
returns-clause-bytes c = length-bytes_behind c.args.number 33 65536
