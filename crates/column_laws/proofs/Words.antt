-- The words in which this crate is proved, passed on from one place. Declares nothing.
pub use Rattle.std.proofs.Common.{ap, arith, get_or-drop, get_or-take, refl, subst, sym, ◌∙◌}
pub use Rattle.std.proofs.lemmas.List.FromFn.{fill_by_all, get_or-map-range_with_len, length-map-range_with_len, length-range_with_len}
pub use Rattle.std.specs.List.{range_with_len}
pub use Rattle.std.specs.Prelude.{Bool, cond, drop, false, get_or, if◌then◌else◌, length, List, map, nat_lt, None, not, Option, option_and_then, slice_get, slice_index, Some, suc, take, true, zero, ℕ, [], ◌&&◌, ◌*◌, ◌+◌, ◌-◌, ◌<◌, ◌==◌, ◌||◌, ◌∷◌, ◌≡◌, ◌≢◌, ◌≤◌}
unfoldable pub use Rattle.algebra_laws.specs.Poly.{agree as agree_over, is_seen as is_seen_over, present}
pub use Rattle.code_defs.proofs.Codewords.{agree-differences, agree-values, differences-same}
pub use Rattle.code_defs.proofs.Points.{Apart-range}
pub use Rattle.code_defs.proofs.Profiles.{size_is}
pub use Rattle.code_defs.specs.Points.{upto, values_at}
pub use Rattle.code_defs.specs.Polynomials.{agree, interpolate, is_seen, value}
pub use Rattle.code_defs.specs.Profiles.{profile_of}
pub use Rattle.code_defs.specs.ServerCode.{codeword, differences, IsCodeword}
pub use Rattle.column_defs.proofs.ColumnLaws.{length-column_of_symbols, length-row_polynomial, primary-symbol, slice_get-upto, value-interpolate_upto, value-row_polynomial}
pub use Rattle.column_defs.proofs.PointLaws.{Apart-points}
pub use Rattle.column_defs.proofs.SecondaryLaws.{bare-secondary, column_polynomial, IsCodeword-bare_column, length-kept_by, point-outside, value-column_polynomial}
pub use Rattle.column_defs.specs.Columns.{column_of_symbols, columns, is_wrong_block, primary_row, row_polynomial}
pub use Rattle.column_defs.specs.Forgeries.{count_of, is_agreeing, IsRow, IsStripeForgery}
pub use Rattle.column_defs.specs.Objects.{is_primary, kept_by, Object, point, points, row_number, stripe_symbols, symbols_in}
unfoldable pub use Rattle.column_defs.specs.Objects.{symbol_of}
pub use Rattle.column_defs.specs.Opened.{AcceptsRow, AllOpen, bare, block_at, GivesSymbols, LosesRow, masked, OpensTo, SeenBlock, symbol_in}
pub use Rattle.hail_field.proofs.AllNumbers.{nim_laws}
pub use Rattle.hail_field.specs.Shape.{IsShape}
pub use Rattle.column_laws.specs.Example.{example, three_opened, three_seen}
