use Rattle.std.proofs.Common.{◌∙◌}
use Rattle.schedule_text.specs.Events.{commands_of}
use Rattle.trial_maker.proofs.Listed.{opening_is}
use Rattle.trial_maker.proofs.trial.push_opening.Goals as goal

pub returns : goal.returns
returns c = opening_is c.args.number c.args.drawn.now.master.0 c.in_ok-name.name c.in_ok-bytes.bytes
    (commands_of c.args.events.now.items) (commands_of c.push.new.events.items)
    (commands_of c.push-2.new.events.items) (commands_of c.push_whole.new.events.items) c.requires.master
    c.in_ok-name.ensures (c.in_ok-bytes.ensures ∙ c.deref.ensures.value ∙ c.requires.bytes)
    c.in_ok-push.ensures c.in_ok-push-2.ensures c.in_ok-push_whole.ensures
