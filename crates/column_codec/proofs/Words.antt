-- The words in which this crate is proved, passed on from one place. Declares nothing.
pub use Rattle.std.proofs.Common.{add-one, ap, append_assoc, arith, eqb, get_or, inl, inr, mod-eq_of_lt, mul_comm, pow-add, pow_pos, refl, set, subst, sym, ◌∙◌}
pub use Rattle.std.proofs.Math.Nat.{div-div-eq-div-mul, mul-le-mul, mul-le-mul_right, mul-lt-mul_of_pos_right}
pub use Rattle.std.proofs.lemmas.Bool.{OnTrue_at, OnTrue_from}
pub use Rattle.std.proofs.lemmas.Grind.{common_steps, get_or-set_at}
pub use Rattle.std.proofs.lemmas.List.{drop-drop, drop_more, ext_get_or, get_or-drop, get_or-set_other, get_or-set_same, get_or-take, get_or_default, get_or_read, length-append, length-drop, length-replicate, length-set, length-take-le, take_all, take_at, take_more_set}
pub use Rattle.std.proofs.lemmas.List.FromFn.{fill_by_all, get_or-map-range_with_len, length-map-range_with_len, length-range_with_len, map-range_with_len_more}
pub use Rattle.std.proofs.lemmas.Nat.{div-mul-add, mod-mul-add, mod_below, shl_whole}
pub use Rattle.std.proofs.lemmas.Option.{slice_get-get_or}
pub use Rattle.std.specs.Bool.{OnFalse, OnTrue}
pub use Rattle.std.specs.List.{range_with_len}
pub use Rattle.std.specs.Prelude.{IfErr, IfNone, nat_eq, nat_le, OnErr, OnOk, slice_index, zero, ◌⊎◌}
pub use Rattle.algebra_laws.proofs.Interpolate.{interpolate_takes, length-interpolate}
pub use Rattle.algebra_laws.proofs.Roots.{plus_zero, same_values}
pub use Rattle.algebra_laws.proofs.Steps.{agree_drop, is_seen-none, is_seen-some}
pub use Rattle.algebra_laws.specs.Field.{Apart}
pub use Rattle.algebra_laws.specs.Lists.{Each}
unfoldable pub use Rattle.algebra_laws.specs.Poly.{agree as agree_over, is_seen as is_seen_over, value as value_over}
pub use Rattle.code_defs.proofs.Lagrange.{dot-scaled, gap_not_zero, nim_inv-mul, others_product-not_zero, part, value-interpolate}
pub use Rattle.code_defs.proofs.Points.{Apart-range, others_product-outside, range_with_len-step}
pub use Rattle.code_defs.specs.DispersalCode.{Accepts, AcceptsNone}
pub use Rattle.code_defs.specs.Points.{upto, values_at}
unfoldable pub use Rattle.code_defs.specs.Points.{others_product}
pub use Rattle.code_defs.specs.Polynomials.{agree, interpolate, is_seen, TakesSymbols, trim, value}
pub use Rattle.code_defs.specs.Profiles.{Profile, profile_of}
pub use Rattle.code_defs.specs.ServerCode.{codeword, Opens, OpensToNone}
unfoldable pub use Rattle.code_defs.specs.Sums.{dot}
pub use Rattle.code_points.proofs.Steps.{keep_below}
pub use Rattle.code_points.specs.Profile.{plain_profile}
pub use Rattle.column_defs.proofs.ColumnLaws.{length-column_of_symbols, value-interpolate_upto}
pub use Rattle.column_defs.proofs.PointLaws.{Apart-points, point-low}
pub use Rattle.column_defs.specs.Columns.{primary_row, row_polynomial, secondary_symbol}
unfoldable pub use Rattle.column_defs.specs.Columns.{column_of_symbols}
pub use Rattle.column_defs.specs.Keys.{file_key, mask, mask_of, masks_from, secret_point}
pub use Rattle.column_defs.specs.Objects.{is_primary, kept_by, Object, point, points, row_number, stripe_symbols, symbol_of}
pub use Rattle.column_defs.specs.Opened.{AcceptsNoRow, AcceptsRow, AllOpen, bare, GivesSymbols, LosesRow, masked, OpensTo, SeenBlock, symbol_in}
pub use Rattle.file_layout.specs.Files.{shaped_object}
pub use Rattle.hail_field.proofs.AllNumbers.{nim_laws, nim_ring}
pub use Rattle.hail_field.specs.Nim.{nim, nim_inv, nim_mul}
unfoldable pub use Rattle.hail_field.specs.Nim.{nim_add}
pub use Rattle.server_code.specs.Any.{code_profile}
pub use Rattle.column_codec.specs.Agreement.{agreed, agreeing_at}
pub use Rattle.column_codec.specs.Bench.{bench_object, OpensAs}
pub use Rattle.column_codec.specs.ObjectKeys.{ArePoints, AreTabled, AreWeights, weight_at}
pub use Rattle.column_codec.specs.OpenedBlocks.{AreOpened, HasRow, LosesPlace, opened_at, opened_of}
pub use Rattle.column_codec.specs.PresentBlocks.{present_blocks}
pub use Rattle.column_codec.specs.Rows.{row_value, symbols_at}
pub use Rattle.column_codec.specs.Tables.{product_at}
