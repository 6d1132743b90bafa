use Rattle.std.proofs.Common.{length, ap, ◌∙◌, arith}
use Rattle.journal_pack.proofs.Tabled.{text-long}
use Rattle.journal_pack.proofs.pack.Pack.new.Goals as goal

pub invariant_of-result-clause-short : goal.invariant_of-result-clause-short
invariant_of-result-clause-short c =
    let long = ap length c.in_ok-text.ensures ∙ text-long c.args.records.now c.requires.spelled in
    omega (arith, long, c.requires.short)
