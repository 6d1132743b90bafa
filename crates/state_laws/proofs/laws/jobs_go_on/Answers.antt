use Rattle.state_laws.proofs.Written.{runs-open}
use Rattle.state_laws.proofs.Given.{next-some, mover, holder}
use Rattle.state_laws.proofs.laws.jobs_go_on.Goals as goal

pub returns-clause-open : goal.returns-clause-open
returns-clause-open c limit number w job S runs = runs-open limit w S number job runs

pub returns-clause-next : goal.returns-clause-next
returns-clause-next c limit number w job S runs = next-some limit w S number job runs

pub returns-clause-mover : goal.returns-clause-mover
returns-clause-mover c limit number w job action S runs next l = mover limit w S number job action runs next l

pub returns-clause-holder : goal.returns-clause-holder
returns-clause-holder c limit w a S flight = holder limit w S a flight
