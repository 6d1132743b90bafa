use Rattle.vault_core.proofs.Words.{rules, refl, Some, with_item, IsToldAs, given_more, setup_kept, core_job}
use Rattle.vault_core.proofs.Kept.{other_core, same_needs}
use Rattle.vault_core.proofs.Gating.{place_len}
use Rattle.vault_core.proofs.Moving.{set_view_same}
use Rattle.vault_core.proofs.Waiting.{retold-kept, job_here, of_kept}
use Rattle.vault_core.proofs.own.Core.tell.Goals as goal

pub index_mut-job-requires : goal.index_mut-job-requires
index_mut-job-requires c = let l = place_len c.self.inside c.args.place
    (rw (← c.self.view_is) at c.requires.within) in
    search rules

pub invariant_of-self : goal.invariant_of-self
invariant_of-self c =
    let old = c.index_mut-job.result.now in
    let new = record old { told = Some c.args.stripes } in
    let here = job_here c.args.place c.self.view_is c.self.invariant
    c.requires.within c.index_mut-job.ensures.value in
    let needs = same_needs (setup_kept c.self.inside) (core_job old) (core_job new) refl refl in
    other_core (with_item c.self.inside.jobs c.args.place new) c.args.place c.self.inside.append refl refl
    here.here refl refl (retold-kept (Some c.args.stripes) here.kept) (of_kept (λ t j. IsToldAs t j (Some
    c.args.stripes)) c.self.view_is here c.requires.told) needs.0 needs.1 c.self.invariant

pub returns : goal.returns
returns c =
    let old = c.index_mut-job.result.now in
    set_view_same c.self.inside
    (with_item c.self.inside.jobs c.args.place (record old { told = Some c.args.stripes })) c.args.place
    (record old { told = Some c.args.stripes }) old (given_more c.args.stripes) c.self.view_is refl
    (job_here c.args.place c.self.view_is c.self.invariant c.requires.within
    c.index_mut-job.ensures.value).here refl
