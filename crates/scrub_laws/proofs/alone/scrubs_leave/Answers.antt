use Rattle.scrub_laws.proofs.Ends.{scrub-ends}
use Rattle.scrub_laws.proofs.alone.scrubs_leave.Goals as goal

pub returns-clause-left : goal.returns-clause-left
returns-clause-left c w new moment answer O r = (scrub-ends w O new moment answer r).leaves

pub returns-clause-past : goal.returns-clause-past
returns-clause-past c w new moment answer O r = (scrub-ends w O new moment answer r).is_past

pub returns-clause-answers : goal.returns-clause-answers
returns-clause-answers c w new moment answer O r = (scrub-ends w O new moment answer r).is_answer
