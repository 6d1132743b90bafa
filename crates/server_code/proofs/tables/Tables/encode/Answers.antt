use Rattle.server_code.proofs.Words.{◌-◌, ◌∙◌, length, arith, plain_profile, keep_below, level_of, first_of}
use Rattle.server_code.proofs.Blocks.{extended_is_codeword}
use Rattle.server_code.proofs.QuarterSums.{are_quarters, quarters_are_codeword}
use Rattle.server_code.proofs.tables.Tables.encode.Goals as goal

pub returns-then-number-le1 : goal.returns-then-number-le1
returns-then-number-le1 c =
    let p = c.args.self.now.profile in
    let le = keep_below p.number p.size p.keep p.size_is p.keep_is in
    let made = rw c.deref-then-number-le1.ensures.value at c.extend.ensures in
    made ∙ extended_is_codeword (plain_profile p) c.args.self.now.rows.items c.args.kept.now
    (length c.args.out.now - length c.args.kept.now)
    (c.args.self.now.rows_are c.if-number-le1.true) c.requires.kept
    (omega (arith, c.requires.kept, c.requires.out, le))

pub returns-else-number-le1 : goal.returns-else-number-le1
returns-else-number-le1 c =
    let p = c.args.self.now.profile in
    let found = c.find_quarters.ensures in
    let made = rw (found.level, found.first) at c.extend-else-number-le1.ensures in
    made ∙ quarters_are_codeword (plain_profile p) (level_of p.number) (first_of p.number)
    (are_quarters p.number p.size p.keep (omega (arith, c.if-number-le1.false)) p.size_is p.keep_is)
    c.args.kept.now c.requires.kept
