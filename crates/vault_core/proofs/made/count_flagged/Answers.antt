use Rattle.std.proofs.Common.{arith}
use Rattle.vault_core.proofs.Pins.{rewrites-flagged, rewrites-unflagged}
use Rattle.vault_core.proofs.made.count_flagged.Goals as goal
use Rattle.vault_core.proofs.made.count_flagged.Goals.{then-flagged-j, else-flagged-j}

pub loop-j-preserved : goal.loop-j-preserved
loop-j-preserved c = elim c.if-flagged-j.branch [
  | then-flagged-j w ↦ (record {
    count = omega (
      arith,
      rewrites-flagged c.loop-j.j c.args.providers c.args.flagged.now (omega arith) w.if-flagged-j.true,
    );
    bound = omega arith;
  })
  | else-flagged-j w ↦ (record {
    count = omega (
      arith,
      rewrites-unflagged c.loop-j.j c.args.providers c.args.flagged.now (omega arith) w.if-flagged-j.false,
    );
    bound = omega arith;
  })
]
