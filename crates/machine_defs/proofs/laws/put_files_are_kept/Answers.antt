use Rattle.machine_defs.proofs.Untouched.{put_is_kept}
use Rattle.machine_defs.proofs.laws.put_files_are_kept.Goals as goal

pub returns : goal.returns
returns c limit start later between older m b job name bytes clean run none before ends after =
    put_is_kept limit start clean later between older m b job name bytes run none before ends after
