use Rattle.std.proofs.Common.{◌≡◌, take}
use Rattle.trial_maker.specs.Draws.{draw, bytes_behind}
use Rattle.trial_maker.proofs.draws.Draws.fill.Given as goal

abbrev pub invariant-loop-place : goal.invariant-loop-place
invariant-loop-place l = record {
  filled : take l.place l.bytes ≡ bytes_behind l.fn.self.last 0 l.place;
  last : l.self.last ≡ draw l.fn.self.last l.place;
}
