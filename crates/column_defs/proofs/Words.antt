-- The words in which this crate is proved, passed on from one place. Declares nothing.
pub use Rattle.std.proofs.Common.{ap, arith, cond, get_or, length-append, refl, sym, ◌++◌, ◌∙◌}
pub use Rattle.std.proofs.lemmas.List.{append-nil, length-take-le, take_more}
pub use Rattle.std.proofs.lemmas.List.FromFn.{get_or-map-range_with_len, length-map-range_with_len, length-range_with_len}
pub use Rattle.std.specs.Int.{from_le_bytes, to_le_bytes, w128}
pub use Rattle.std.specs.List.{list_any, range_with_len}
pub use Rattle.std.specs.Prelude.{drop, false, if◌then◌else◌, map, Option, slice_get, slice_index, slice_set, Some, suc, true, zero, ◌%◌, ◌&&◌, ◌==◌, ◌≢◌, ◌≤◌}
pub use Rattle.algebra_laws.proofs.Each.{each_at_most, each_range}
pub use Rattle.algebra_laws.proofs.Interpolate.{length-interpolate, length-scale}
pub use Rattle.algebra_laws.specs.Lists.{Each}
pub use Rattle.code_defs.specs.Points.{upto, values_at}
pub use Rattle.code_defs.specs.Polynomials.{interpolate, is_seen, plus, scale, value, vanish}
pub use Rattle.code_defs.specs.ServerCode.{codeword, IsCodeword}
pub use Rattle.hail_field.proofs.AllNumbers.{nim_laws, nim_ring}
pub use Rattle.hail_field.specs.Nim.{nim, nim_add, nim_mul}
unfoldable pub use Rattle.column_defs.specs.Challenges.{alpha, picked_row}
pub use Rattle.column_defs.specs.Columns.{is_wrong_block, primary_row, row_polynomial, secondary_symbol}
unfoldable pub use Rattle.column_defs.specs.Columns.{column_of_symbols, is_wrong}
pub use Rattle.column_defs.specs.Keys.{mask}
unfoldable pub use Rattle.column_defs.specs.Keys.{file_key, secret_point, seed, stream_symbol}
pub use Rattle.column_defs.specs.Objects.{bytes_of_symbols, is_primary, kept_by, Object, point, points, row_number, stripe_symbols, stripes}
unfoldable pub use Rattle.column_defs.specs.Objects.{symbol_of}
pub use Rattle.column_defs.specs.Opened.{bare, block_at, masked}
