-- The words in which this crate is proved, passed on from one place. Declares nothing.
pub use Rattle.std.proofs.Common.{add-one, add-zero, ap, append_assoc, ap₂, arith, bit_and, bit_xor, Bool, cond, drop, eqb-true, false, get_or, inl, inr, length, length-append, List, map, mul-le-mul_right, nat_eq, None, Option, refl, replicate, rules, set, Some, subst, suc, suc-mul, sym, take, true, w8, zero, zero-add, zero-mul, ℕ, [], ◌&&◌, ◌*◌, ◌++◌, ◌+◌, ◌-◌, ◌/◌, ◌<◌, ◌==◌, ◌∙◌, ◌∷◌, ◌≡◌, ◌≢◌, ◌≤◌, ◌⊎◌}
pub use Rattle.std.proofs.Math.Seq.{drop-append_seam}
pub use Rattle.std.proofs.lemmas.Bool.{and_parts, cases_lt, OnFalse_at, OnFalse_from, OnTrue_at, OnTrue_from}
pub use Rattle.std.proofs.lemmas.List.{at_drop_all, drop-append-le, drop-drop, drop-take, drop_all, drop_at, drop_more, ext_get_or, get_or-append_right, get_or-drop, get_or-map, get_or-set_other, get_or-set_same, get_or-take, get_or_append_left, get_or_read, length-map, length-replicate, length-set, length-take, length-take-le, take-append-le, take-take, take_all, take_at, take_more}
pub use Rattle.std.proofs.lemmas.List.FromFn.{fill_by_all, get_or-map-range_with_len, length-map-range_with_len, length-range_with_len, take-map-range_with_len}
pub use Rattle.std.proofs.lemmas.Nat.{and_le_r, xor_lt}
pub use Rattle.std.specs.List.{range_with_len}
pub use Rattle.algebra_laws.proofs.Interpolate.{interpolate_takes, length-scale, length-times, length-vanish, value-vanish, vanish_else, vanish_roots}
pub use Rattle.algebra_laws.proofs.Lists.{get_or-zeros, take-front}
pub use Rattle.algebra_laws.proofs.Ring.{add_mul, add_same, zero_add, zero_mul}
pub use Rattle.algebra_laws.proofs.Roots.{length-plus, plus_zero, same_values}
pub use Rattle.algebra_laws.proofs.Solve.{i as one, o, solve, v, ◌⊞◌, ◌⊡◌}
pub use Rattle.algebra_laws.proofs.Trim.{length-trim, value-trim}
pub use Rattle.algebra_laws.proofs.Values.{value-plus, value-scale, value-times}
pub use Rattle.algebra_laws.specs.Lists.{Each}
pub use Rattle.algebra_laws.specs.Poly.{Decodes, FirstRow}
unfoldable pub use Rattle.algebra_laws.specs.Poly.{agree as agree_over, is_seen as is_seen_over, plus as plus_over, present as present_over, root_times as root_times_over, scale as scale_over, value as value_over, vanish as vanish_over}
pub use Rattle.code_defs.proofs.Codewords.{agree-differences, codeword-short, differences-same, near_itself, opens_itself}
pub use Rattle.code_defs.proofs.Generators.{get_or-codeword, value-kept}
pub use Rattle.code_defs.proofs.Points.{Apart-range, Each-outside, one_not_zero, range_with_len-append}
pub use Rattle.code_defs.proofs.Values.{equal-added, takes_same, values_at-same}
pub use Rattle.code_defs.specs.Points.{upto, values_at}
pub use Rattle.code_defs.specs.Polynomials.{agree, interpolate, plus, root_times, scale, TakesSymbols, times, trim, value, vanish}
pub use Rattle.code_defs.specs.Profiles.{Profile, profile_of}
pub use Rattle.code_defs.specs.ServerCode.{codeword, differences, IsCodeword, IsGeneratorRow, IsNear, Opens, OpensToNone}
pub use Rattle.code_defs.specs.Sums.{dot as dot_of}
unfoldable pub use Rattle.code_defs.specs.Sums.{dot}
pub use Rattle.code_points.proofs.Steps.{keep_below}
pub use Rattle.code_points.specs.Profile.{plain_profile}
pub use Rattle.hail_field.proofs.AllNumbers.{nim_endless, nim_laws, nim_mul_at, nim_ring}
pub use Rattle.hail_field.proofs.Multiples.{AreLanes, down, high_ok, looked_up, low_ok}
pub use Rattle.hail_field.proofs.Table.{at_each, holds_below}
pub use Rattle.hail_field.specs.Nim.{nim}
unfoldable pub use Rattle.hail_field.specs.Nim.{nim_add, nim_mul, product}
pub use Rattle.hail_poly.specs.Quotient.{HasNoQuotient, IsQuotient}
pub use Rattle.server_code.specs.Behind.{TakesNear}
pub use Rattle.server_code.specs.Generator.{IsGenerator, row_at, sums}
pub use Rattle.server_code.specs.Products.{AreMultiples}
pub use Rattle.server_code.specs.Transform.{first_of, level_of, places, twiddle}
unfoldable pub use Rattle.server_code.specs.Transform.{coefficient_sum, forward, inverse, joined, parted}
pub use Rattle.server_code.specs.declared.products.Multiples.{Multiples}
