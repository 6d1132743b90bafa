use Rattle.vault.proofs.Words.{sym, ap, ◌∙◌, calls_disk}
use Rattle.vault.proofs.AppendMoves.{flight_moves, flight_begins}
use Rattle.vault.proofs.desk.Desk.take_flight.Goals as goal

pub returns-in-Some-clause-is : goal.returns-in-Some-clause-is
returns-in-Some-clause-is c = λ w told faults providers action stands comes.
    flight_moves c.args.self.now w told faults c.args.job providers stands action comes
    (sym (ap calls_disk comes.value) ∙ ap calls_disk c.requires.next.comes.value ∙ c.requires.next.moves)
    c.in-Some.flight (sym c.take.ensures.value ∙ c.in-Some.is)

pub returns-in-None-clause-is : goal.returns-in-None-clause-is
returns-in-None-clause-is c = λ w told faults providers action stands comes.
    flight_begins c.args.self.now w told faults c.args.job providers stands action comes
    (sym (ap calls_disk comes.value) ∙ ap calls_disk c.requires.next.comes.value ∙ c.requires.next.moves)
    (sym c.take.ensures.value ∙ c.in-None.is) _ c.first_flight.ensures
