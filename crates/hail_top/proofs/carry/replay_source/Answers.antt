use Rattle.std.proofs.Common.{sym}
use Rattle.hail_top.proofs.carry.replay_source.Goals as goal

pub returns-in-Ok-clause-answers : goal.returns-in-Ok-clause-answers
returns-in-Ok-clause-answers g c =
    c.replay_text.ensures.answers _ _ _ _ (rw (sym c.as_slice.ensures) at c.in-Ok.ensures.bytes)
