use Rattle.vault_core.proofs.Words.{◌∙◌, ap, sym, action_next, core_job}
use Rattle.vault_core.proofs.Standing.{acts_next}
use Rattle.vault_core.proofs.own.Core.coming.Goals as goal

pub returns-in_default-action_over : goal.returns-in_default-action_over
returns-in_default-action_over c = record {
  value = acts_next c.args.self.now c.args.job (ap (λ x. x.barred) (sym c.self.view_is) ∙ c.if-self.false)
      (sym c.in-Some.ensures.found) (ap (λ x. action_next c.args.self.now.setup x.table (core_job
      c.in-Some.running.now)) (sym c.self.view_is) ∙ c.action_over.ensures.value c.args.self.now.setup
      c.in-Some.ensures.kept) c.in_default-action_over.not-WriteBody;
  within = λ j. c.action_over.ensures.within c.args.self.now.setup j c.in-Some.ensures.kept;
}
