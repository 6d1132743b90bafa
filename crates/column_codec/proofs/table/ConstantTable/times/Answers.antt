use Rattle.column_codec.proofs.Words.{◌∙◌, ap, arith, mod-eq_of_lt, nim_mul, mod_below, get_or_default}
use Rattle.std.proofs.Common.{◌≡◌, ◌*◌, ◌+◌, ◌^◌, ◌%◌, ◌<◌}
use Rattle.column_codec.proofs.TableLemmas.{product_more, next_rest, mul-none}
use Rattle.column_codec.proofs.table.ConstantTable.times.Goals as goal

pub loop-half-init : goal.loop-half-init
loop-half-init c = record {
  sum = mul-none c.self.inside.constant c.args.symbol;
  rest = grind (arith, c.symbol.view_is);
}

pub loop-half-preserved : goal.loop-half-preserved
loop-half-preserved c =
    let half = c.loop-half.half in
    let rest = c.loop-half.rest in
    let small : rest % 16 < 16 = mod_below rest 16 (omega arith) in
    record {
      sum = c.add-sum.ensures
          ∙ product_more c.self.inside.constant c.args.symbol half c.loop-half.sum rest _
          c.loop-half.invariant.sum c.loop-half.invariant.rest
          (get_or_default c.self.inside.entries (16 * half + rest % 16) _ 0
          (omega (arith, small, c.self.invariant.full))
          ∙ c.self.invariant.each (16 * half + rest % 16) (omega (arith, small)));
      rest = next_rest c.args.symbol rest half c.loop-half.invariant.rest;
    }

pub returns : goal.returns
returns c =
    let end : c.loop-half.half ≡ 32 = omega arith in
    let small : c.args.symbol < 2 ^ 128 = omega (arith, c.well_formed) in
    c.loop-half.invariant.sum
    ∙ (λ i. nim_mul (c.self.view_is i) (c.args.symbol % 2 ^ (4 * end i)))
    ∙ ap (nim_mul c.args.self.now) (mod-eq_of_lt small)
