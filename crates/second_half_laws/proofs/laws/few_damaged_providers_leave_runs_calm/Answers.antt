use Rattle.std.proofs.Common.{inr}
use Rattle.second_half_laws.proofs.FewDamaged.{few_calm, few_scrubs, few_marked}
use Rattle.second_half_laws.proofs.laws.few_damaged_providers_leave_runs_calm.Goals as goal

pub returns-clause-jobs : goal.returns-clause-jobs
returns-clause-jobs c limit mark start ms ps clean run only few =
    few_calm limit mark start ps clean ms run only (inr few)

pub returns-clause-scrubs : goal.returns-clause-scrubs
returns-clause-scrubs c limit mark start ms ps clean run only few =
    few_scrubs limit mark start ps clean ms run only (inr few)

pub returns-clause-marked : goal.returns-clause-marked
returns-clause-marked c = few_marked
