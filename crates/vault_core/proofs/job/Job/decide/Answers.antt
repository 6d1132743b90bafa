use Rattle.vault_core.proofs.Words.{◌+◌, ◌-◌, ap, sym, arith, rest_of, removals_of, length}
use Rattle.vault_core.proofs.Gates.{decided, ended, removals_length}
use Rattle.vault_core.proofs.job.Job.decide.Goals as goal

pub returns-in-Some-clause-kept : goal.returns-in-Some-clause-kept
returns-in-Some-clause-kept c = decided c.args.providers c.args.self.now c.in-Some.object
    (c.args.self.now.place + 1) (c.args.self.now.left - 1) c.requires.some c.requires.kept c.requires.taker

pub returns-in-Some-clause-rest : goal.returns-in-Some-clause-rest
unfolding rest_of
returns-in-Some-clause-rest c = ap (removals_of c.args.providers) (sym c.in-Some.is)

pub returns-in-Some-clause-left : goal.returns-in-Some-clause-left
returns-in-Some-clause-left c = omega (
  arith,
  c.requires.left,
  removals_length c.args.providers c.in-Some.object,
  ap (λ o. length (removals_of c.args.providers o)) c.in-Some.is,
)

pub returns-in-None-clause-kept : goal.returns-in-None-clause-kept
returns-in-None-clause-kept c = ended c.args.providers c.args.self.now (c.args.self.now.place + 1) 1
    c.requires.kept

pub returns-in-None-clause-rest : goal.returns-in-None-clause-rest
unfolding rest_of
returns-in-None-clause-rest c = ap (removals_of c.args.providers) (sym c.in-None.is)

pub returns-in-None-clause-left : goal.returns-in-None-clause-left
returns-in-None-clause-left c = ap (λ o. length (removals_of c.args.providers o)) (sym c.in-None.is)
