use Rattle.provider_server.proofs.EndsWell.{removal-answered}
use Rattle.provider_server.proofs.laws.a_removal_is_served.Goals as goal

pub returns-clause-frames : goal.returns-clause-frames
returns-clause-frames c = c.a_byte_behind_a_removal_is_bad.ensures.frames

pub returns-clause-answers : goal.returns-clause-answers
returns-clause-answers c = removal-answered c.a_byte_behind_a_removal_is_bad.ensures.frames
