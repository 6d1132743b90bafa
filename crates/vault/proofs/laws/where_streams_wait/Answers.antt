use Rattle.vault.proofs.Words.{◌*◌, ◌≤◌, sym, ap, subst, ◌∙◌, HasTold, stripe_size, told_by, stripe_by}
use Rattle.std.proofs.Common.{length}
use Rattle.vault.proofs.CoreJobs.{core_of, profile_same}
use Rattle.vault.proofs.GivenStripes.{waiting}
use Rattle.vault.proofs.laws.where_streams_wait.Goals as goal

pub returns-clause-place : goal.returns-clause-place
returns-clause-place c = λ v d w job stripe j S runs wants.
    (waiting v.desk d w job stripe j S.desk runs wants).place

pub returns-clause-size : goal.returns-clause-size
returns-clause-size c = λ v d w job j S runs.
    let core = S.desk.core in
    let o = core_of v.desk.core.setup v.desk.core.jobs w.jobs job j core.jobs runs in
    ap (stripe_by v.desk.core.setup) o.runs
    ∙ (λ i. stripe_size (core.setup i) (profile_same v.desk.core.setup o.job j o.is i))

pub returns-clause-told : goal.returns-clause-told
returns-clause-told c = λ v d w job stripe j name bytes S runs wants kind.
    let core = S.desk.core in
    let o = core_of v.desk.core.setup v.desk.core.jobs w.jobs job j core.jobs runs in
    let told = ap told_by (sym o.runs) ∙ (waiting v.desk d w job stripe j S.desk runs wants).told in
    subst (λ s. stripe * stripe_size s j.profile ≤ length bytes) core.setup
    (rw kind at (subst (λ (t : _). HasTold v.desk.core.setup t j) told o.is.told))
