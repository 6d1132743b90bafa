use Rattle.machine_defs.proofs.Words.{◌≡◌, sym, Entry, given_to, HoldsForgery}
use Rattle.std.proofs.Common.{List, ℕ}
use Rattle.column_defs.specs.Objects.{Object}
use Rattle.machine_defs.proofs.Reports.{stays}
use Rattle.machine_defs.proofs.laws.reports_have_what_jobs_heard.Goals as goal

-- entries that give a job the same hold the same forgeries
same_forgery : (o : Object) (bytes : List ℕ) (k : ℕ) (xs ys : List Entry) → given_to k xs ≡ given_to k ys →
    HoldsForgery o bytes k xs → HoldsForgery o bytes k ys
same_forgery o bytes k xs ys same h = record {
  stripe = h.stripe;
  place = h.place;
  forgery = rw same at h.forgery;
}

pub returns-clause-given : goal.returns-clause-given
returns-clause-given c limit start later ms m job clean run ends none =
    (stays limit start clean job later m ms run ends none).1

pub returns-clause-forgeries : goal.returns-clause-forgeries
returns-clause-forgeries c limit start later ms m job o bytes clean run ends none =
    (let same = (stays limit start clean job later m ms run ends none).1 in
    (same_forgery o bytes job.number _ _ (sym same), same_forgery o bytes job.number _ _ same))
