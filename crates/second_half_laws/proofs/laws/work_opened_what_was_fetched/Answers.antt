use Rattle.second_half_laws.proofs.Words.{Worked, Work, symbols_given, now}
use Rattle.second_half_laws.proofs.MadeFacts.{facts, given_symbols}
use Rattle.second_half_laws.proofs.Places.{worked_before_store}
use Rattle.second_half_laws.proofs.laws.work_opened_what_was_fetched.Goals as goal

pub returns-clause-passed : goal.returns-clause-passed
returns-clause-passed c limit start ms number job place object stripe clean run runs early at =
    (let F = facts limit start clean ms run in
    let g = (F.made number job place (Work object stripe) runs early at).1 in
    F.came number job (Worked object stripe (symbols_given job.given object stripe)) runs
    (given_symbols job.given object stripe g.0 g.1))

pub returns-clause-stored : goal.returns-clause-stored
returns-clause-stored c limit start ms number job j object stripe clean run runs kind next_is =
    (let F = facts limit start clean ms run in
    let made = (worked_before_store (now start ms) job j object stripe kind next_is).0 in
    let g = (F.made number job made.place (Work object stripe) runs made.made made.action).1 in
    F.came number job (Worked object stripe (symbols_given job.given object stripe)) runs
    (given_symbols job.given object stripe g.0 g.1))
