use Rattle.run_laws.proofs.InEffect.{held_file}
use Rattle.run_laws.proofs.laws.object_bytes_are_bytes.Goals as goal

pub returns-clause-bytes : goal.returns-clause-bytes
returns-clause-bytes c limit start ms name file clean run h =
    (held_file limit start ms name file clean run h).bytes

pub returns-clause-size : goal.returns-clause-size
returns-clause-size c limit start ms name file clean run h =
    (held_file limit start ms name file clean run h).size_is
