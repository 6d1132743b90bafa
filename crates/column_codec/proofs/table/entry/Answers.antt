use Rattle.column_codec.proofs.Words.{◌∙◌, ap, sym, arith, mod-eq_of_lt, pow_pos, get_or_default, nim_add}
use Rattle.std.proofs.Common.{◌≡◌, ◌≢◌, ◌≤◌, ◌<◌, ℕ, ◌^◌, ◌*◌, ◌+◌, ◌-◌, ◌%◌}
use Rattle.column_codec.proofs.TableLemmas.{product_at-zero, product_at-sum}
use Rattle.column_codec.proofs.table.entry.Goals as goal

pub returns-then-number-eq0 : goal.returns-then-number-eq0
returns-then-number-eq0 c = sym (product_at-zero c.args.constant c.args.place c.if-number-eq0.true)

pub returns : goal.returns
returns c =
    let k = c.highest_bit-bit.result in
    let within : 2 ^ k ≤ c.args.place % 16 = c.highest_bit-bit.ensures.within in
    let bit : 1 * 2 ^ k % 18446744073709551616 ≡ 2 ^ k =
    ap (λ n. n % 18446744073709551616) (let e : 1 * 2 ^ k ≡ 2 ^ k = omega arith in e)
    ∙ mod-eq_of_lt (omega (arith, within)) in
    let differ : 2 ^ k ≢ c.args.place % 16 = λ e. c.if-bit-number.false (bit ∙ e) in
    let read = λ (p : ℕ) (before : p < c.args.place) (d : ℕ).
    get_or_default c.args.entries.now p d 0 (omega (arith, before, c.told-entries, c.requires.place))
    ∙ c.requires.before p before in
    let first = c.args.place - 1 * 2 ^ k % 18446744073709551616 in
    let second = c.args.place - c.args.place % 16 + 1 * 2 ^ k % 18446744073709551616 in
    let positive : 0 < 2 ^ k = pow_pos k in
    c.add.ensures
    ∙ (λ i. nim_add (read first (omega (arith, bit, within, positive)) c.index-entries-place.result i)
    (read second (omega (arith, bit, within, differ)) c.index-entries-place-2.result i))
    ∙ product_at-sum c.args.constant k c.args.place first second (omega (arith, bit))
    (omega (arith, bit)) within c.highest_bit-bit.ensures.highest
