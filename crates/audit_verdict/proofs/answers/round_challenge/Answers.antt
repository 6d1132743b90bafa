use Rattle.std.proofs.Common.{arith}
use Rattle.code_defs.proofs.Profiles.{size_is, some_kept, size-bound}
use Rattle.audit_verdict.proofs.answers.round_challenge.Goals as goal

pub invariant_of-result : goal.invariant_of-result
invariant_of-result c =
    let file = c.args.file.now in
    let p = file.profile in
    record {
      some_rows = omega (arith, c.requires.rows, c.rows.ensures.value c.args.master.now.0);
      few_rows = c.rows.ensures.bound;
      some_size = omega (arith, p.size_is, size_is p.number, some_kept p.number);
      small_size = omega (arith, p.size_is, size-bound p.number);
      some_picks = c.requires.some_picks;
      few_picks = c.requires.few_picks;
    }

pub returns : goal.returns
returns c = λ i. record {
  seed = c.seed.ensures i;
  rows = c.rows.ensures.value c.args.master.now.0 i;
  size = c.args.file.now.profile.size;
  picks = c.args.picks;
}
