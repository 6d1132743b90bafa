use Rattle.vault_core.proofs.Words.{◌∙◌, ap, None, true, barred_at}
use Rattle.vault_core.proofs.Kept.{less_view, less_core}
use Rattle.vault_core.proofs.own.Core.fail.Goals as goal

pub invariant_of-self : goal.invariant_of-self
invariant_of-self c = less_core c.remove.new.self c.args.place c.remove.result None true
    (rw (← c.self.view_is) at c.requires) c.remove.ensures.items c.self.invariant

pub returns : goal.returns
returns c = less_view c.self.inside c.remove.new.self c.args.place None true c.remove.ensures.items
    ∙ ap (λ x. barred_at x c.args.place) c.self.view_is
