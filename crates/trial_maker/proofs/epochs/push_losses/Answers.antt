use Rattle.std.proofs.Common.{◌++◌, ◌∷◌, [], List, sym, ap, ◌∙◌, append_assoc}
use Rattle.std.proofs.lemmas.List.{append-nil}
use Rattle.machine_defs.specs.Events.{Lose}
use Rattle.machine_defs.specs.Transcripts.{Instruction, Once}
use Rattle.schedule_text.specs.Events.{commands_of}
use Rattle.trial_maker.specs.Trials.{losses}
use Rattle.trial_maker.proofs.Listed.{losses_more, no-losses}
use Rattle.trial_maker.proofs.epochs.push_losses.Goals as goal

pub loop-stripe-init : goal.loop-stripe-init
loop-stripe-init c = sym (append-nil (commands_of c.args.events.now.items))
    ∙ ap (λ (more : List Instruction). commands_of c.args.events.now.items ++ more)
    (sym (no-losses c.args.provider))

pub loop-stripe-preserved : goal.loop-stripe-preserved
loop-stripe-preserved c =
    let before = commands_of c.args.events.now.items in
    let next = Once (Lose c.args.provider 1 c.loop-stripe.stripe) ∷ [] in
    c.in_ok-push.ensures
    ∙ ap (λ (front : List Instruction). front ++ next) c.loop-stripe.invariant
    ∙ append_assoc before (losses c.args.provider c.loop-stripe.stripe) next
    ∙ ap (λ (more : List Instruction). before ++ more)
    (sym (losses_more c.args.provider c.loop-stripe.stripe))
