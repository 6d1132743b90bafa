use Rattle.std.proofs.Common.{◌≡◌, Option, Some, None, true, false, is_some, refl, ℕ}
use Rattle.provider_wire.proofs.InStep.{idle, answered, unanswered}
use Rattle.provider_wire.proofs.link_provider.LinkProvider.request.Goals as goal

no_value : (o : Option ℕ) → is_some o ≡ false → o ≡ None
no_value None e = refl
no_value (Some x) e = absurd cc

pub invariant_of-self : goal.invariant_of-self
invariant_of-self g c =
    let p = c.args.self.now in
    let r = c.requires.0 in
    record {
      in_step = unanswered (g.L.Link.behind p.link) (g.L.Link.behind c.ask_link-answer.new.link) true r
          c.ask_link-answer.result c.ask_link-answer.new.symbols (λ b e. c.ask_link-answer.ensures.told b r e
          (idle b _ p.broken e p.in_step).1 c.requires.1 c.requires.2) c.ask_link-answer.ensures.untold
          (no_value c.ask_link-answer.result c.if-is_none.ensures);
    }

pub invariant_of-self-else-is_none : goal.invariant_of-self-else-is_none
invariant_of-self-else-is_none g c =
    let p = c.args.self.now in
    let r = c.requires.0 in
    record {
      in_step = answered (g.L.Link.behind p.link) (g.L.Link.behind c.ask_link-answer.new.link) p.broken r
          c.ask_link-answer.result c.ask_link-answer.new.symbols (λ b e. c.ask_link-answer.ensures.told b r e
          (idle b _ p.broken e p.in_step).1 c.requires.1 c.requires.2) c.ask_link-answer.ensures.untold
          c.if-self.false;
    }
