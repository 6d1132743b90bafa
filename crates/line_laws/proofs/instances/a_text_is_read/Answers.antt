use Rattle.std.proofs.Common.{refl}
use Rattle.line_laws.proofs.Samples.{read-outcomes, read-told, read-text, read-line, read-got, read-last, job-file, read-list}
use Rattle.line_laws.proofs.instances.a_text_is_read.Goals as goal

pub returns-clause-text : goal.returns-clause-text
returns-clause-text c = (read-outcomes, refl, read-told, read-text)

pub returns-clause-line_of_it : goal.returns-clause-line_of_it
returns-clause-line_of_it c = read-line

pub returns-clause-got : goal.returns-clause-got
returns-clause-got c = read-got

pub returns-clause-last : goal.returns-clause-last
returns-clause-last c = read-last

pub returns-clause-list : goal.returns-clause-list
returns-clause-list c = (job-file, read-list)
