-- The words in which this crate is proved, passed on from one place. Declares nothing.
pub use Rattle.std.proofs.Common.{add-one, ap, arith, Bool, cond, drop, get_or, IfSome, length, List, map, Option, refl, replicate, reverse, rules, set, Some, subst, suc, sym, take, zero, ℕ, [], ◌*◌, ◌++◌, ◌+◌, ◌-◌, ◌<◌, ◌∙◌, ◌∷◌, ◌≡◌, ◌≢◌, ◌≤◌}
pub use Rattle.std.proofs.Math.Seq.{take-append_seam, take-length, take-take}
pub use Rattle.std.proofs.lemmas.Grind.{common_steps}
pub use Rattle.std.proofs.lemmas.List.{drop_all, drop_more, get_or-map, get_or_read, length-append, length-drop, length-map, length-replicate, length-reverse, length-set, length-take, length-take-le, take-replicate, take_more, take_more_set}
pub use Rattle.algebra_laws.proofs.Degree.{product_not_shorter}
pub use Rattle.algebra_laws.proofs.Euclid.{factor_not_zero, key_row, vanish-monic}
pub use Rattle.algebra_laws.proofs.Everywhere.{same_from_values}
pub use Rattle.algebra_laws.proofs.Interpolate.{interpolate_takes, length-interpolate, length-scale, length-times, length-vanish, vanish_else}
pub use Rattle.algebra_laws.proofs.Ring.{add_mul, one_mul, sum_zero, zero_add, zero_mul}
pub use Rattle.algebra_laws.proofs.Roots.{length-plus, value-zero}
pub use Rattle.algebra_laws.proofs.Shifts.{get_or-added, length-shifted, reduce_rest, shifted, take-added, value-added}
pub use Rattle.algebra_laws.proofs.Solve.{i, o, solve, v, ◌⊞◌, ◌⊡◌}
pub use Rattle.algebra_laws.proofs.Steps.{add_scaled_end as end_add_scaled, add_scaled_step as step_add_scaled, agree_drop, agree_past, root_times_end as end_root_times, root_times_step as step_root_times, value-drop, value-past}
pub use Rattle.algebra_laws.proofs.Trim.{length-trim, trim-last, trim-zero, trim-zero_last, value-trim}
pub use Rattle.algebra_laws.proofs.Values.{value-plus, value-scale, value-times}
pub use Rattle.algebra_laws.specs.Field.{Apart}
pub use Rattle.algebra_laws.specs.Lists.{Each}
pub use Rattle.algebra_laws.specs.Poly.{Decodes, FirstRow, here, next, times as times_over}
unfoldable pub use Rattle.algebra_laws.specs.Poly.{front, interpolate as interpolate_over, trim as trim_over, value as value_over, vanish as vanish_over}
pub use Rattle.code_defs.proofs.Values.{value-constant}
pub use Rattle.code_defs.specs.Polynomials.{agree, interpolate, is_seen, plus, root_times, scale, TakesSymbols, times, trim, value, vanish}
pub use Rattle.hail_field.proofs.AllNumbers.{nim_endless, nim_laws, nim_ring}
pub use Rattle.hail_field.specs.Nim.{nim, nim_add, nim_inv, nim_mul}
pub use Rattle.hail_poly.specs.Decoding.{matches}
pub use Rattle.hail_poly.specs.Quotient.{HasNoQuotient, IsCombination, IsDivision, IsProduct, IsQuotient}
pub use Rattle.hail_poly.specs.Registers.{IsLoaded, Registers}
pub use Rattle.hail_poly.specs.RowState.{IsDivisionRow, RowState}
pub use Rattle.hail_poly.specs.Rows.{Reduces}
