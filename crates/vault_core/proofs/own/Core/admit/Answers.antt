use Rattle.vault_core.proofs.Words.{◌≡◌, ◌∙◌, ◌++◌, ◌∷◌, [], ◌+◌, ◌<◌, ◌≤◌, ap, sym, subst, length, sum_by, largest_journal, HasLoneUpgrade, core_job, IsJobKept, IsTold, reserved_of}
use Rattle.vault_core.proofs.Admitted.{admitted-core, admitted-view, fewer-than}
use Rattle.vault_core.proofs.own.Core.admit.Goals as goal
use Rattle.vault_core.proofs.Gating.{on_ok}

pub invariant_of-self-2 : goal.invariant_of-self-2
invariant_of-self-2 c =
    admitted-core c.self.inside c.args.job c.push_reserved.new.self 0 (on_ok c.reserve_start.result _ (sym
    c.is_err-2.ensures.value ∙ c.if-is_err-2.false) c.reserve_start.ensures.ok) (c.push_reserved.ensures.items
    ∙ ap (λ js. js ++ c.args.job ∷ []) c.reserve.ensures.items) c.self.invariant (subst (λ v.
    c.args.job.number ≡ v.next_job) (sym c.self.view_is) c.requires.next) (subst (λ v. IsJobKept v.setup
    c.args.job) (sym c.self.view_is) c.requires.kept) (fewer-than c.self.inside.jobs.items (subst (λ v. length
    v.jobs < 8) (sym c.self.view_is) c.requires.few)) (subst (λ v. v.end + sum_by (reserved_of v.table.version
    v.setup) v.jobs + reserved_of v.table.version v.setup (core_job c.args.job) ≤ largest_journal) (sym
    c.self.view_is) c.requires.room) (subst (λ v. HasLoneUpgrade (v.jobs ++ core_job c.args.job ∷ [])) (sym
    c.self.view_is) c.requires.lone) (subst (λ v. IsTold v.setup (core_job c.args.job)) (sym c.self.view_is)
    c.requires.told)

pub returns-clause-admitted : goal.returns-clause-admitted
returns-clause-admitted c =
    admitted-view c.self.inside c.args.job c.push_reserved.new.self 0 (on_ok c.reserve_start.result _ (sym
    c.is_err-2.ensures.value ∙ c.if-is_err-2.false) c.reserve_start.ensures.ok) (c.push_reserved.ensures.items
    ∙ ap (λ js. js ++ c.args.job ∷ []) c.reserve.ensures.items) c.args.self.now c.self.view_is
