use Rattle.wrong_top.proofs.of_hail_top.hail.Goals as goal

pub returns : goal.returns
returns g c = record { answered = c.hail-report.ensures.answered }
