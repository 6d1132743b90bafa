use Rattle.vault.proofs.Streams.{none_waits}
use Rattle.vault.proofs.laws.only_streams_wait.Goals as goal

pub returns : goal.returns
returns c = λ v job none. none_waits v.desk.core.setup v.desk.core.jobs job none
