use Rattle.provider_wire.proofs.Instances.{removal-frames, removal-served}
use Rattle.provider_wire.proofs.laws.a_byte_behind_a_removal_is_bad.Goals as goal

pub returns-clause-frames : goal.returns-clause-frames
returns-clause-frames c = removal-frames

pub returns-clause-server : goal.returns-clause-server
returns-clause-server c = removal-served
