use Rattle.dispersal_code.proofs.Words.{arith, ap, length, length-take, Chosen}
use Rattle.dispersal_code.proofs.present.Present.len.Goals as goal

pub returns-clause-points : goal.returns-clause-points
returns-clause-points c = omega (
  arith,
  length-take c.self.inside.count c.self.inside.points,
  ap (λ (x : Chosen). length x.points) c.self.view_is,
  c.self.invariant,
)

pub returns-clause-symbols : goal.returns-clause-symbols
returns-clause-symbols c = omega (
  arith,
  length-take c.self.inside.count c.self.inside.symbols,
  ap (λ (x : Chosen). length x.symbols) c.self.view_is,
  c.self.invariant,
)
