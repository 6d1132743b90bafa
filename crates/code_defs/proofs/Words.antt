-- The words in which this crate is proved, passed on from one place. Declares nothing.
pub use Rattle.std.proofs.Common.{add-one, ap, arith, eqb-true, get_or, inl, inr, nat_eq, refl, replicate, set, subst, sym, zero-add, ◌++◌, ◌-◌, ◌<◌, ◌∙◌, ◌≢◌, ◌⊎◌}
pub use Rattle.std.proofs.lemmas.List.FromFn.{get_or-map-range_with_len, get_or-range_with_len, length-map-range_with_len, length-range_with_len}
pub use Rattle.std.specs.List.{range_with_len}
pub use Rattle.std.specs.Prelude.{All, IfSome, None, Option}
pub use Rattle.algebra_laws.proofs.Interpolate.{interpolate_takes, length-interpolate, value-vanish, vanish_else}
pub use Rattle.algebra_laws.proofs.Ring.{add_mul, add_swap, mul_left_comm, one_mul, sum_zero, zero_add, zero_mul}
pub use Rattle.algebra_laws.proofs.Values.{value-plus, value-scale, value-times}
pub use Rattle.algebra_laws.specs.Field.{Apart}
pub use Rattle.algebra_laws.specs.Lists.{Each}
pub use Rattle.algebra_laws.specs.Poly.{Decodes, FirstRow, here, next}
unfoldable pub use Rattle.algebra_laws.specs.Poly.{agree as agree_over, front, interpolate as interpolate_over, is_seen as is_seen_over, plus as plus_over, scale as scale_over, times as times_over, trim as trim_over, value as value_over, vanish as vanish_over}
pub use Rattle.hail_field.proofs.AllNumbers.{nim_add-lt, nim_endless, nim_inv-lt, nim_inv_is, nim_laws, nim_mul-lt, nim_mul_inv, nim_ring}
pub use Rattle.hail_field.specs.Nim.{is_symbol, nim}
unfoldable pub use Rattle.hail_field.specs.Nim.{inverse_below, nim_add, nim_inv, nim_mul, product}
pub use Rattle.code_defs.specs.DispersalCode.{Accepts}
pub use Rattle.code_defs.specs.Points.{multiplier, upto, values_at}
unfoldable pub use Rattle.code_defs.specs.Points.{others_product}
pub use Rattle.code_defs.specs.Polynomials.{agree, interpolate, plus, scale, TakesSymbols, times, trim, value, vanish}
pub use Rattle.code_defs.specs.Profiles.{Profile, profile_of}
pub use Rattle.code_defs.specs.ServerCode.{codeword, differences, IsGeneratorRow, IsNear, Opens}
unfoldable pub use Rattle.code_defs.specs.Sums.{dot}
