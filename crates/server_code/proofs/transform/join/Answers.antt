use Rattle.std.proofs.Common.{◌≡◌, arith, subst, ℕ}
use Rattle.server_code.proofs.Halves.{AreDone, join_low, join_high, all_joined}
use Rattle.server_code.proofs.transform.join.Goals as goal

pub returns : goal.returns
returns c =
    let all : c.loop-k.k ≡ c.args.half = omega arith in
    all_joined c.args.half c.args.c c.args.v.now c.requires.even c.loop-k.v
    (subst (λ (k : ℕ). AreDone (join_low c.args.c) join_high c.args.half k c.args.v.now c.loop-k.v) all
    c.loop-k.invariant)
