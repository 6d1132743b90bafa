use Rattle.second_half_laws.proofs.EveryRun.{always}
use Rattle.second_half_laws.proofs.laws.puts_begin_after_settled_audits.Goals as goal

pub returns-clause-running : goal.returns-clause-running
returns-clause-running c limit start ms number job name bytes clean run runs kind =
    (always limit start clean ms run).mark.puts number job name bytes runs kind

pub returns-clause-in_doubt : goal.returns-clause-in_doubt
returns-clause-in_doubt c limit start ms d version id size profile clean run at e =
    (always limit start clean ms run).mark.doubts d version id size profile at e
