use Rattle.vault_core.proofs.Words.{◌-◌, ap, sym, subst, ◌∙◌, and_parts, LeavesBehind}
use Rattle.vault_core.proofs.Gates.{steady_with, rest_with}
use Rattle.vault_core.proofs.job.Job.finish.Goals as goal

pub decide-requires-clause-kept : goal.decide-requires-clause-kept
decide-requires-clause-kept c = steady_with c.args.older (c.args.self.now.appends - 1) c.requires.ready.steady

pub advance-requires-clause-kept : goal.advance-requires-clause-kept
advance-requires-clause-kept c = steady_with c.args.older
    (c.args.self.now.appends - 1) c.requires.ready.steady

pub decide-requires-clause-taker : goal.decide-requires-clause-taker
decide-requires-clause-taker c = (and_parts _ _ (sym c.decides.ensures ∙ c.if-decides.true)).1

pub decide-requires-clause-left : goal.decide-requires-clause-left
decide-requires-clause-left c = c.requires.ready.decided (sym c.decides.ensures ∙ c.if-decides.true)

pub returns-then-decides-clause-behind : goal.returns-then-decides-clause-behind
returns-then-decides-clause-behind c =
    subst (λ b. LeavesBehind c.args.providers c.args.older b c.args.self.now c.decide.new.self)
    (sym (sym c.decides.ensures ∙ c.if-decides.true)) (c.decide.ensures.rest, c.decide.ensures.left)

pub returns-else-decides-clause-behind : goal.returns-else-decides-clause-behind
returns-else-decides-clause-behind c =
    subst (λ b. LeavesBehind c.args.providers c.args.older b c.args.self.now c.advance.new.self)
    (sym (sym c.decides.ensures ∙ c.if-decides.false)) (
      c.advance.ensures.rest ∙ rest_with c.args.providers c.args.self.now c.args.older
          (c.args.self.now.appends - 1),
      ap (λ j. j.left) c.advance.ensures.same,
    )
