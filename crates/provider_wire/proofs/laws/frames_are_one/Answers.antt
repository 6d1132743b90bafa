use Rattle.provider_wire.proofs.OneEnd.{one_frames}
use Rattle.provider_wire.proofs.laws.frames_are_one.Goals as goal

pub returns : goal.returns
returns c = one_frames
