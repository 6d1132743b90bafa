use Rattle.std.proofs.Common.{◌≡◌, Some, sym, subst}
use Rattle.damage_run.proofs.Run.{first_run}
use Rattle.damage_run.specs.Words.{IsRun, heard_in, heard_by, given_to, set_up}
use Rattle.fault_run.proofs.laws.reports_have_it.Goals as goal

pub returns : goal.returns
returns c ms f h = (let r = h.reported in
    subst (λ all. given_to r.job.number (heard_in set_up all) ≡ given_to r.job.number (heard_by (Some r.job)))
    (sym r.split)
    (c.reports_have_what_jobs_heard.ensures.given 8 set_up h.after_get r.before r.moment r.job f.clean
    (subst (IsRun 8 set_up) r.split (first_run 8 set_up 60 ms f.run)) r.ends r.none_continues))
