use Rattle.state_laws.proofs.Written.{ids-fit, audits-fit, ids-small, audits-small}
use Rattle.state_laws.proofs.Given.{numbers-left}
use Rattle.state_laws.proofs.laws.numbers_are_small.Goals as goal

pub returns-clause-objects : goal.returns-clause-objects
returns-clause-objects c = ids-fit

pub returns-clause-audits : goal.returns-clause-audits
returns-clause-audits c = audits-fit

pub returns-clause-appended_objects : goal.returns-clause-appended_objects
returns-clause-appended_objects c = ids-small

pub returns-clause-appended_audits : goal.returns-clause-appended_audits
returns-clause-appended_audits c = audits-small

pub returns-clause-unused : goal.returns-clause-unused
returns-clause-unused c limit w kind S appended = numbers-left limit w S kind appended
