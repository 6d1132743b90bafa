use Rattle.std.proofs.Common.{◌≡◌, ◌++◌, replicate}
use Rattle.machine_defs.specs.Events.{Step}
use Rattle.machine_defs.specs.Transcripts.{Once}
use Rattle.schedule_text.specs.Events.{commands_of}
use Rattle.trial_maker.proofs.epochs.push_steps.Given as goal

abbrev pub invariant-loop : goal.invariant-loop
invariant-loop l = commands_of l.events.items ≡ commands_of l.fn.events.items ++ replicate l.counter
    (Once (Step l.job))
