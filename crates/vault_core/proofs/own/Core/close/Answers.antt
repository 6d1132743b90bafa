use Rattle.vault_core.proofs.Words.{rules, ◌≡◌, ◌≤◌, ◌∙◌, ap, sym, subst, refl, Some, slice_get, with_item, closed, most_of, setup_kept, core_job}
use Rattle.vault_core.proofs.Admitted.{primary}
use Rattle.vault_core.proofs.Kept.{other_core}
use Rattle.vault_core.proofs.Told.{told_none}
use Rattle.vault_core.proofs.Gating.{place_len}
use Rattle.vault_core.proofs.Moving.{set_view_same}
use Rattle.vault_core.proofs.Waiting.{job_here, closed_here}
use Rattle.vault_core.proofs.own.Core.close.Goals as goal

pub index_mut-job-requires : goal.index_mut-job-requires
index_mut-job-requires c = let l = place_len c.self.inside c.args.place
    (rw (← c.self.view_is) at c.requires.within) in
    search rules

pub stripes-stripes-requires : goal.stripes-stripes-requires
stripes-stripes-requires c =
    record { primary = primary (setup_kept c.self.inside) c.self.invariant.set_up }

pub invariant_of-self : goal.invariant_of-self
invariant_of-self c =
    let old = c.index_mut-job.result.now in
    let here = job_here c.args.place c.self.view_is c.self.invariant
    c.requires.within c.index_mut-job.ensures.value in
    let ends = closed_here c.args.given c.args.size c.self.view_is c.self.invariant here c.requires.ends
    (c.stripes-stripes.ensures c.self.inside.master.0) c.close.ensures.tasks c.close.ensures.same in
    other_core (with_item c.self.inside.jobs c.args.place c.close.new.self) c.args.place c.self.inside.append
    refl refl here.here (ap (λ j. j.number) c.close.ensures.same) ends.upgrade ends.went.kept (told_none
    (setup_kept c.self.inside) (core_job c.close.new.self) (ap (λ j. j.told) c.close.ensures.same))
    ends.went.room ends.went.starts c.self.invariant

pub returns : goal.returns
returns c =
    let old = c.index_mut-job.result.now in
    let here = job_here c.args.place c.self.view_is c.self.invariant
    c.requires.within c.index_mut-job.ensures.value in
    let ends = closed_here c.args.given c.args.size c.self.view_is c.self.invariant here c.requires.ends
    (c.stripes-stripes.ensures c.self.inside.master.0) c.close.ensures.tasks c.close.ensures.same in
    record {
      moved = set_view_same c.self.inside (with_item c.self.inside.jobs c.args.place c.close.new.self)
          c.args.place c.close.new.self old (closed c.args.size) c.self.view_is refl here.here ends.seen;
      left = λ j at.
          let f : Some (core_job old) ≡ Some j = sym here.here
          ∙ (ap (λ x. slice_get x.jobs c.args.place) c.self.view_is ∙ at) in
          let is : core_job old ≡ j = cc in
          subst (λ x. most_of x.setup (closed c.args.size j) ≤ most_of x.setup j) c.self.view_is
          (subst (λ y. most_of (setup_kept c.self.inside) (closed c.args.size y)
          ≤ most_of (setup_kept c.self.inside) y) is ends.left);
    }
