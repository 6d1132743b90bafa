use Rattle.second_half_laws.proofs.Words.{ap, Worked, relies, contains_in}
use Rattle.second_half_laws.proofs.NoForgery.{no_forgery}
use Rattle.second_half_laws.proofs.SecondHalf.{calm_now, marked_facts, get_sharply}
use Rattle.second_half_laws.proofs.InRuns.{in_run}
use Rattle.second_half_laws.proofs.laws.gets_give_or_are_lost.Goals as goal

pub returns-clause-no_forgery : goal.returns-clause-no_forgery
returns-clause-no_forgery c limit mark start ms number job name file h runs kind in_effect forged =
    no_forgery limit mark start ms h.clean h.run (in_run limit mark start ms h)
    (calm_now mark start h.clean ms h.calm) number job name file runs kind in_effect forged

pub returns-clause-ends : goal.returns-clause-ends
returns-clause-ends c limit mark start m ms job name how h event outcome runs kind =
    get_sharply limit mark start m ms h.clean h.run h.calm.1
    (marked_facts limit mark start h.clean h.tell ms h.run.2 h.calm.1 h.marks.1) job name how runs kind event
    outcome

pub returns-clause-rows : goal.returns-clause-rows
returns-clause-rows c limit mark start ms number job name object stripe symbols h runs kind given =
    ((in_run limit mark start ms h).rows number job object stripe symbols runs (ap relies kind)
    (contains_in job.given (Worked object stripe symbols) given)).1
