use Rattle.column_codec.proofs.Words.{◌∙◌, ap, sym, arith, shl_whole, nim_mul}
use Rattle.std.proofs.Common.{◌*◌}
use Rattle.column_codec.proofs.TableLemmas.{product_at-place}
use Rattle.column_codec.proofs.table.unit_product.Goals as goal

pub returns : goal.returns
returns c = c.mul.ensures
    ∙ ap (nim_mul c.args.constant)
    (shl_whole c.args.number 4 (4 * c.args.half) 128 (omega arith) (omega arith))
    ∙ sym (product_at-place c.args.constant c.args.half c.args.number (omega arith))
