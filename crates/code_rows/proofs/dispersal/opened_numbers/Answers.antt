use Rattle.algebra_laws.proofs.Apart.{Apart-take}
use Rattle.code_rows.proofs.dispersal.opened_numbers.Goals as goal

pub opened-requires-clause-apart : goal.opened-requires-clause-apart
opened-requires-clause-apart c = Apart-take _ _ c.points.ensures.apart
