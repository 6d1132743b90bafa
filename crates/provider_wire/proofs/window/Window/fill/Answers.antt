use Rattle.provider_wire.proofs.Words.{◌+◌, ◌∙◌, ap, take, with_items_is}
use Rattle.provider_wire.proofs.Windows.{end_fits, end_within, filled_fits, filled_within, filled-given, filled-end}
use Rattle.provider_wire.proofs.window.Window.fill.Goals as goal

pub overflow_add-end : goal.overflow_add-end
overflow_add-end g c = end_fits c.args.most c.self.invariant.1 c.min.ensures

pub read_behind-requires-clause-within : goal.read_behind-requires-clause-within
read_behind-requires-clause-within g c =
    end_within c.args.most (c.deref_mut.ensures.len ∙ c.self.invariant.0) c.self.invariant.1 c.min.ensures

pub overflow_add-self : goal.overflow_add-self
overflow_add-self g c = filled_fits c.args.most c.self.invariant.1 c.min.ensures c.in-Ok.ensures.few

pub invariant_of-self : goal.invariant_of-self
invariant_of-self g c =
    (c.self.invariant.0, filled_within c.args.most c.self.invariant.1 c.min.ensures c.in-Ok.ensures.few)

pub returns-in-Ok-clause-given : goal.returns-in-Ok-clause-given
returns-in-Ok-clause-given g c = filled-given c.self.inside.len c.args.most c.deref_mut.result.now
    c.read_behind.new.bytes _ (ap (take c.self.inside.len) c.deref_mut.ensures.value ∙ c.self.view_is)
    (ap (take (c.self.inside.len + c.in-Ok.count)) (with_items_is c.self.inside.bytes c.read_behind.new.bytes
    (c.read_behind.auto.bytes ∙ c.deref_mut.ensures.len))) c.min.ensures c.in-Ok.ensures.few
    c.in-Ok.ensures.given

pub returns-in-Ok-clause-end : goal.returns-in-Ok-clause-end
returns-in-Ok-clause-end g c = filled-end c.self.inside.len c.deref_mut.result.now
    (c.deref_mut.ensures.len ∙ c.self.invariant.0) c.self.invariant.1
    (ap (take c.self.inside.len) c.deref_mut.ensures.value ∙ c.self.view_is) c.min.ensures c.in-Ok.ensures.end

pub returns-in-Err-clause-same : goal.returns-in-Err-clause-same
returns-in-Err-clause-same g c =
    ap (take c.self.inside.len) (with_items_is c.self.inside.bytes c.read_behind.new.bytes
    (c.read_behind.auto.bytes ∙ c.deref_mut.ensures.len))
    ∙ c.read_behind.ensures.same ∙ ap (take c.self.inside.len) c.deref_mut.ensures.value ∙ c.self.view_is
