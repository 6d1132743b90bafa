use Rattle.vault_core.proofs.Words.{rules, ◌∙◌, ap, slice_get_within, remove, CoreView, job_in, view_of}
use Rattle.vault_core.proofs.Gating.{place_len}
use Rattle.vault_core.proofs.Kept.{less_view, less_core}
use Rattle.vault_core.proofs.Waiting.{ended-stands, ended-gone, ended-others}
use Rattle.vault_core.proofs.own.Core.abandon.Goals as goal

pub remove-requires : goal.remove-requires
remove-requires c = let l = place_len c.self.inside c.waiting-place.result.0
    (rw (← c.self.view_is) at (slice_get_within c.args.self.now.jobs c.waiting-place.result.0
    c.waiting-place.ensures.job c.waiting-place.ensures.here)) in
    search rules

pub invariant_of-self : goal.invariant_of-self
invariant_of-self c = less_core c.remove.new.self c.waiting-place.result.0 c.remove.result
    c.self.inside.append c.self.inside.barred (rw (← c.self.view_is) at
    (slice_get_within c.args.self.now.jobs c.waiting-place.result.0 c.waiting-place.ensures.job
    c.waiting-place.ensures.here)) c.remove.ensures.items c.self.invariant

pub returns : goal.returns
returns c =
    let e = less_view c.self.inside c.remove.new.self c.waiting-place.result.0 c.self.inside.append
    c.self.inside.barred c.remove.ensures.items
    ∙ ap (λ (x : CoreView). record x { jobs = remove x.jobs c.waiting-place.result.0 }) c.self.view_is in
    record {
      stands = λ w j is runs. (rw (← e) at (ended-stands c.waiting-place.ensures w is j runs));
      ended = ap (λ (x : CoreView). job_in x.jobs c.args.job) e ∙ ended-gone c.waiting-place.ensures
          c.self.inside c.self.view_is c.self.invariant;
      others = λ other o. ap (λ (x : CoreView). job_in x.jobs other) e ∙ ended-others c.waiting-place.ensures
          other o;
      kept = ap (λ (x : CoreView). record x {
        jobs = (view_of (record c.self.inside { jobs = c.remove.new.self })).jobs;
      }) c.self.view_is;
    }
