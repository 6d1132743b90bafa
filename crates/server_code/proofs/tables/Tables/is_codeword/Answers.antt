use Rattle.server_code.proofs.Words.{◌-◌, ◌<◌, length, refl, arith, plain_profile, keep_below, level_of, first_of}
use Rattle.server_code.proofs.Checks.{extended_is, codeword_extends}
use Rattle.server_code.proofs.QuarterSums.{are_quarters, codeword_quarters}
use Rattle.server_code.proofs.tables.Tables.is_codeword.Goals as goal

pub returns-then-number-le1 : goal.returns-then-number-le1
returns-then-number-le1 c =
    let self = c.args.self.now in
    let p = self.profile in
    let block = c.args.block.now in
    let le = keep_below p.number p.size p.keep p.size_is p.keep_is in
    let told = rw c.deref-then-number-le1.ensures.value at c.is_extended.ensures in (
      (λ yes. extended_is (plain_profile p) self.rows.items block p.keep
          (length block - p.keep) (self.rows_are c.if-number-le1.true) c.requires refl refl le (told.0 yes)),
      (λ is. told.1 (codeword_extends (plain_profile p) self.rows.items block p.keep
          (length block - p.keep) (self.rows_are c.if-number-le1.true) c.requires refl refl le is)),
    )

pub returns-else-number-le1 : goal.returns-else-number-le1
returns-else-number-le1 c =
    let p = c.args.self.now.profile in
    let level = level_of p.number in
    let first = first_of p.number in
    let block = c.args.block.now in
    let le = keep_below p.number p.size p.keep p.size_is p.keep_is in
    let found = c.find_quarters.ensures in
    let width = c.find_quarters.result.width_is in
    let told = rw (width, found.level, found.first) at c.is_extended-else-number-le1.ensures in
    let some : 1 < p.number = omega (arith, c.if-number-le1.false) in
    let are = are_quarters p.number p.size p.keep some p.size_is p.keep_is in (
      (λ yes. are.codewords (plain_profile p) block refl refl c.requires (told.0 yes)),
      (λ codeword. told.1 (codeword_quarters (plain_profile p) level first are block le c.requires codeword)),
    )
