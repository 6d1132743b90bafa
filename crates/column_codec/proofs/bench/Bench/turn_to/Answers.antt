use Rattle.std.proofs.Common.{ℕ, ap}
use Rattle.column_codec.specs.Bench.{bench_object}
use Rattle.column_codec.proofs.bench.Bench.turn_to.Goals as goal

pub returns-then-self-object-clause-object : goal.returns-then-self-object-clause-object
returns-then-self-object-clause-object c =
    ap (λ (k : ℕ). record (bench_object c.args.self.now) { id = k }) c.if-self-object.true
