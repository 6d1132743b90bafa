use Rattle.server_code.proofs.Words.{◌≡◌, ◌∙◌, ◌*◌, ◌+◌, sym, length, arith, range_with_len, OnTrue_at, OnTrue_from, OnFalse_at, OnFalse_from, length-range_with_len, Apart-range, IsQuotient, HasNoQuotient, plain_profile}
use Rattle.code_defs.proofs.Profiles.{size_is, some_kept}
use Rattle.hail_poly.proofs.Decoding.{loaded, factor_some}
use Rattle.server_code.proofs.KeyRows.{near_is_quotient, no_quotient_none}
use Rattle.server_code.proofs.behind.find_quotient.Goals as goal

pub euclid-requires : goal.euclid-requires
euclid-requires c =
    let load = c.load_behind.ensures in
    let keep = c.args.tables.now.profile.keep in
    loaded (range_with_len keep (length load.shares)) load.shares
    (length-range_with_len keep (length load.shares)) (Apart-range keep (length load.shares))
    c.load_behind.new.work c.args.work.now.size load.loaded

pub divide-requires : goal.divide-requires
divide-requires c = λ e.
    let load = c.load_behind.ensures in
    let p = c.args.tables.now.profile in
    let sizes : p.size ≡ p.keep + 2 * p.fix = omega
    (arith, size_is p.number, p.size_is, p.keep_is, p.fix_is) in
    factor_some (range_with_len p.keep (length load.shares)) load.shares
    (length-range_with_len p.keep (length load.shares)) (Apart-range p.keep (length load.shares))
    p.fix c.euclid.new.self.rest c.euclid.new.self.factor
    (omega (arith, length-range_with_len p.keep (length load.shares), load.full, c.requires.block, sizes))
    (rw load.loaded at c.euclid.ensures.row) (sym c.multiply_rest.ensures.factor ∙ e)

pub returns-clause-found : goal.returns-clause-found
returns-clause-found c =
    let load = c.load_behind.ensures in
    let p = c.args.tables.now.profile in
    let sizes : p.size ≡ p.keep + 2 * p.fix = omega
    (arith, size_is p.number, p.size_is, p.keep_is, p.fix_is) in
    OnTrue_from c.divide.result _ (λ yes.
    let quotient : IsQuotient c.multiply_rest.new.work.rest c.multiply_rest.new.work.factor
    c.divide.new.self.rest = OnTrue_at yes c.divide.ensures.quotient in
    near_is_quotient (plain_profile p) load.shares c.args.block.now c.args.word.now
    c.multiply_rest.new.work.rest c.euclid.new.self.rest c.euclid.new.self.factor
    sizes (omega (arith, some_kept p.number, p.keep_is)) load.full c.requires.block c.requires.word
    c.requires.same (rw load.loaded at c.euclid.ensures.row)
    c.multiply_rest.ensures.product c.multiply_rest.ensures.short load.each c.divide.new.self.rest
    (rw c.multiply_rest.ensures.factor at quotient))

pub returns-clause-none : goal.returns-clause-none
returns-clause-none c =
    let load = c.load_behind.ensures in
    let p = c.args.tables.now.profile in
    let sizes : p.size ≡ p.keep + 2 * p.fix = omega
    (arith, size_is p.number, p.size_is, p.keep_is, p.fix_is) in
    OnFalse_from c.divide.result _ (λ no.
    let none : HasNoQuotient c.multiply_rest.new.work.rest c.multiply_rest.new.work.factor =
    OnFalse_at no c.divide.ensures.none in
    no_quotient_none (plain_profile p) load.shares c.args.block.now c.args.word.now
    c.multiply_rest.new.work.rest c.euclid.new.self.rest c.euclid.new.self.factor
    sizes (omega (arith, some_kept p.number, p.keep_is)) load.full c.requires.block c.requires.word
    c.requires.same (rw load.loaded at c.euclid.ensures.row)
    c.multiply_rest.ensures.product c.multiply_rest.ensures.short load.each
    (rw c.multiply_rest.ensures.factor at none))
