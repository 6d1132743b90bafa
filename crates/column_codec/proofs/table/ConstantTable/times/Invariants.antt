use Rattle.std.proofs.Common.{◌≡◌, ◌*◌, ◌/◌, ◌%◌, ◌^◌}
use Rattle.hail_field.specs.Nim.{nim_mul}
use Rattle.column_codec.proofs.table.ConstantTable.times.Given as goal

-- the product with the half bytes before this one, and the half bytes from it on
abbrev pub invariant-loop-half : goal.invariant-loop-half
invariant-loop-half l = record {
  sum : l.sum ≡ nim_mul l.self-inside.constant (l.fn.symbol % 2 ^ (4 * l.half));
  rest : l.rest ≡ l.fn.symbol / 2 ^ (4 * l.half);
}
