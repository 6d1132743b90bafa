use Rattle.std.proofs.Common.{◌≡◌, ◌++◌}
use Rattle.schedule_text.specs.Events.{commands_of}
use Rattle.trial_maker.specs.Trials.{losses}
use Rattle.trial_maker.proofs.epochs.push_losses.Given as goal

abbrev pub invariant-loop-stripe : goal.invariant-loop-stripe
invariant-loop-stripe l =
    commands_of l.events.items ≡ commands_of l.fn.events.items ++ losses l.provider l.stripe
