-- The words in which this crate is proved, passed on from one place. Declares nothing.
pub use Rattle.std.proofs.Common.{add-one, ap, arith, Bool, cond, drop, eqb-true, false, get_or, inl, inr, length, List, map, nat_eq, refl, replicate, reverse, set, slice_index, Some, subst, suc, suc-add, sym, take, true, zero, zero-add, ℕ, [], ◌*◌, ◌++◌, ◌+◌, ◌-◌, ◌<◌, ◌↔◌, ◌∙◌, ◌∷◌, ◌≡◌, ◌≢◌, ◌≤◌, ◌⊎◌}
pub use Rattle.std.proofs.lemmas.Grind.{common_steps}
pub use Rattle.std.proofs.lemmas.List.{append_assoc, at_drop_all, at_drop_more, drop_all, get_or-replicate, get_or-set_other, get_or-set_same, get_or_past, get_or_read, length-append, length-replicate, length-reverse, length-take, reverse-append, take-take, take_more_set}
pub use Rattle.std.proofs.lemmas.List.FromFn.{fill_by_all, get_or-range_with_len, length-map-range_with_len, length-range_with_len, map-range_with_len_more}
pub use Rattle.algebra_laws.proofs.Euclid.{AreRows, IsKeyRow, key_row, vanish-monic}
pub use Rattle.algebra_laws.proofs.Everywhere.{cancel, same_from_values}
pub use Rattle.algebra_laws.proofs.Interpolate.{interpolate_takes, length-interpolate, length-times, length-vanish, vanish_roots}
pub use Rattle.algebra_laws.proofs.Ring.{one_mul, sum_zero, zero_add, zero_mul}
pub use Rattle.algebra_laws.proofs.Roots.{length-plus, plus_zero, same_values, value-zero, zero_from_roots}
pub use Rattle.algebra_laws.proofs.Solve.{i, o, solve, v, ◌⊞◌, ◌⊡◌}
pub use Rattle.algebra_laws.proofs.Values.{value-plus, value-times}
pub use Rattle.algebra_laws.specs.Field.{Apart, FieldOf, IsEndless, IsField}
pub use Rattle.algebra_laws.specs.Lists.{Each}
pub use Rattle.algebra_laws.specs.Poly.{Decodes, FirstRow, Takes, times}
unfoldable pub use Rattle.algebra_laws.specs.Poly.{root_times, value as value_over}
pub use Rattle.code_defs.proofs.Lagrange.{gap_not_zero, others_product-not_zero, part, value-interpolate}
pub use Rattle.code_defs.specs.Points.{multiplier, others_product as others_product_of, upto, values_at}
unfoldable pub use Rattle.code_defs.specs.Points.{others_product}
pub use Rattle.code_defs.specs.Polynomials.{TakesSymbols}
unfoldable pub use Rattle.code_defs.specs.Sums.{dot}
pub use Rattle.hail_field.proofs.AllNumbers.{nim_endless, nim_laws, nim_mul_inv, nim_ring}
pub use Rattle.hail_field.specs.Nim.{nim, nim_inv}
unfoldable pub use Rattle.hail_field.specs.Nim.{nim_add, nim_mul, nim_pow, product}
pub use Rattle.hail_poly.specs.Key.{key, power}
unfoldable pub use Rattle.hail_syndrome.specs.Sound.{sound_points, sound_values}
pub use Rattle.hail_syndrome.specs.Syndromes.{AreValues, syndrome, syndromes_of}
