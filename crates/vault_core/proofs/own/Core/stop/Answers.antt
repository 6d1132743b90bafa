use Rattle.vault_core.proofs.Words.{◌∙◌, sym, ap, None, remove, ended_at, view_of}
use Rattle.vault_core.proofs.Kept.{less_view, less_core, seen_at, freed_is}
use Rattle.vault_core.proofs.own.Core.stop.Goals as goal

pub invariant_of-self : goal.invariant_of-self
invariant_of-self c = less_core c.remove-job.new.self c.args.place c.remove-job.result None
    c.self.inside.barred (rw (← c.self.view_is) at c.requires) c.remove-job.ensures.items c.self.invariant

pub returns-then-eq : goal.returns-then-eq
returns-then-eq c =
    let l = rw (← c.self.view_is) at c.requires in
    less_view c.self.inside c.remove-job.new.self c.args.place None c.self.inside.barred
    c.remove-job.ensures.items
    ∙ (ap (λ o. record (view_of c.self.inside)
    { jobs = remove (view_of c.self.inside).jobs c.args.place; append = o })
    (freed_is (view_of c.self.inside) c.args.place (seen_at c.self.inside c.args.place l
    c.remove-job.ensures.value) (sym c.eq.ensures ∙ c.if-eq.true)) ∙ ap (λ x. ended_at x c.args.place)
    c.self.view_is)

pub invariant_of-self-else-eq : goal.invariant_of-self-else-eq
invariant_of-self-else-eq c =
    less_core c.remove-job.new.self c.args.place c.remove-job.result c.self.inside.append
    c.self.inside.barred (rw (← c.self.view_is) at c.requires) c.remove-job.ensures.items c.self.invariant

pub returns : goal.returns
returns c =
    let l = rw (← c.self.view_is) at c.requires in
    less_view c.self.inside c.remove-job.new.self c.args.place c.self.inside.append c.self.inside.barred
    c.remove-job.ensures.items
    ∙ (ap (λ o. record (view_of c.self.inside)
    { jobs = remove (view_of c.self.inside).jobs c.args.place; append = o })
    (freed_is (view_of c.self.inside) c.args.place (seen_at c.self.inside c.args.place l
    c.remove-job.ensures.value) (sym c.eq.ensures ∙ c.if-eq.false)) ∙ ap (λ x. ended_at x c.args.place)
    c.self.view_is)
