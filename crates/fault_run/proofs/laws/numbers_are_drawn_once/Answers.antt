use Rattle.damage_run.proofs.Run.{first_run}
use Rattle.damage_run.specs.Words.{first_moments, set_up}
use Rattle.damage_run.specs.Points.{counts}
use Rattle.fault_run.proofs.laws.numbers_are_drawn_once.Goals as goal

pub returns-clause-whole : goal.returns-clause-whole
returns-clause-whole c ms f h = (let e = h.end_in_flight in
    c.done_audits_are_whole.ensures.in_flight 8 set_up (first_moments 58 ms) e.append 1 0 counts e.job f.clean
    (first_run 8 set_up 58 ms f.run) e.in_flight e.entry_is e.runs)
