use Rattle.std.proofs.Common.{[], sym, ◌∙◌, ap}
use Rattle.record_defs.specs.Records.{Setup, is_setup}
use Rattle.command_words.proofs.init.read_setup.Goals as goal

pub returns-then-check-clause-found : goal.returns-then-check-clause-found
returns-then-check-clause-found c = ap (λ (s : Setup). is_setup s) (sym (c.in_ok-setup.ensures []))
    ∙ sym (c.check.ensures []) ∙ c.if-check.true

pub returns-else-check-clause-found : goal.returns-else-check-clause-found
returns-else-check-clause-found c = ap (λ (s : Setup). is_setup s) (sym (c.in_ok-setup.ensures []))
    ∙ sym (c.check.ensures []) ∙ c.if-check.false
