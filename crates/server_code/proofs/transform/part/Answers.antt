use Rattle.std.proofs.Common.{◌≡◌, arith, subst, ℕ}
use Rattle.server_code.proofs.Halves.{AreDone, part_low, part_high, all_parted}
use Rattle.server_code.proofs.transform.part.Goals as goal

pub returns : goal.returns
returns c =
    let all : c.loop-k.k ≡ c.args.half = omega arith in
    all_parted c.args.half c.args.c c.args.v.now c.requires.even c.loop-k.v
    (subst (λ (k : ℕ). AreDone (part_low c.args.c) (part_high c.args.c) c.args.half k c.args.v.now
    c.loop-k.v) all c.loop-k.invariant)
