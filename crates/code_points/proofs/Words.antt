-- The words in which this crate is proved, passed on from one place. Declares nothing.
pub use Rattle.std.proofs.Common.{ap, arith, bit_xor, Bool, cond, eqb-true, false, get_or, inl, inr, length, List, ltb-true, map, nat_eq, nat_lt, refl, replicate, set, subst, suc, sym, true, zero, zero-add, ℕ, [], ◌+◌, ◌-◌, ◌<◌, ◌==◌, ◌^◌, ◌∙◌, ◌∷◌, ◌≡◌, ◌≢◌, ◌≤◌, ◌⊎◌}
pub use Rattle.std.proofs.lemmas.List.FromFn.{fill_by_all, get_or-map-range_with_len}
pub use Rattle.std.specs.List.{range_with_len}
pub use Rattle.algebra_laws.proofs.Interpolate.{value-vanish}
pub use Rattle.algebra_laws.specs.Lists.{Each}
unfoldable pub use Rattle.algebra_laws.specs.Poly.{value as value_over, vanish as vanish_over}
pub use Rattle.code_defs.proofs.Generators.{coefficient, kept_row, parity_row}
pub use Rattle.code_defs.proofs.Profiles.{size-bound, size_is}
pub use Rattle.code_defs.specs.Points.{multiplier, multiplier as multiplier_of, upto}
unfoldable pub use Rattle.code_defs.specs.Points.{others_product}
pub use Rattle.code_defs.specs.Polynomials.{value, vanish}
pub use Rattle.code_defs.specs.Profiles.{profile_of}
pub use Rattle.code_defs.specs.ServerCode.{IsGeneratorRow}
pub use Rattle.hail_field.proofs.AllNumbers.{nim_add-lt, nim_inv-lt, nim_inv_is, nim_laws, nim_mul-lt, nim_mul_at, nim_ring}
pub use Rattle.hail_field.proofs.Table.{at_each, exp_at, holds_below, inverse_by_log, power-lt, product_by_logs}
pub use Rattle.hail_field.specs.Nim.{nim, nim_inv, nim_mul, width}
unfoldable pub use Rattle.hail_field.specs.Nim.{nim_add, product}
pub use Rattle.code_points.specs.Profile.{plain_profile}
