use Rattle.state_laws.proofs.Written.{unpacked-now, file-first, first-journal}
use Rattle.state_laws.proofs.laws.unpacked_journals_are_whole.Goals as goal

pub returns-clause-whole : goal.returns-clause-whole
returns-clause-whole c = unpacked-now

pub returns-clause-first : goal.returns-clause-first
returns-clause-first c = first-journal

pub returns-clause-files : goal.returns-clause-files
returns-clause-files c limit w name file S first h = file-first limit w S first name file h

pub returns-clause-jobs : goal.returns-clause-jobs
returns-clause-jobs c limit number w job S first runs = (S.jobs number job runs).plain first
