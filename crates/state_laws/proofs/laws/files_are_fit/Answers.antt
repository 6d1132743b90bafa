use Rattle.record_defs.proofs.OrderLaws.{few-files_of}
use Rattle.state_laws.proofs.Records.{file-spelled, sound-accepted}
use Rattle.state_laws.proofs.laws.files_are_fit.Goals as goal

pub returns-clause-name : goal.returns-clause-name
returns-clause-name c limit w name file S h = (file-spelled w.records name file S.spelled h).0

pub returns-clause-size : goal.returns-clause-size
returns-clause-size c limit w name file S h = (file-spelled w.records name file S.spelled h).1

pub returns-clause-drawn : goal.returns-clause-drawn
returns-clause-drawn c limit w name file S h = ((sound-accepted w.records S.accepted).file name file h).0

pub returns-clause-few : goal.returns-clause-few
returns-clause-few c limit w S = few-files_of w.records S.accepted
