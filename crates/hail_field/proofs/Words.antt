-- The words in which this crate is proved, passed on from one place. Declares nothing.
pub use Rattle.std.proofs.Common.{add-zero, add_comm, ap, ap₂, arith, bit_and, bit_or, bit_xor, Bool, cond, div-one, eqb, false, Fits, get_or, inl, inr, le_of_suc-le-suc, length, List, lt_of_le_of_lt, lt_of_lt_of_le, ltb-true, map, max, mod-eq_of_lt, mul-le-mul_right, mul_assoc, mul_comm, nat_eq, nat_lt, pow-add, pow-suc, pow_mono, pow_pos, refl, replicate, rules, subst, suc, suc-add, sym, true, w8, zero, zero-add, ℕ, [], ◌%◌, ◌&&◌, ◌*◌, ◌+◌, ◌-◌, ◌/◌, ◌<◌, ◌==◌, ◌^◌, ◌||◌, ◌∙◌, ◌∷◌, ◌≡◌, ◌≢◌, ◌≤◌, ◌⊎◌}
pub use Rattle.std.proofs.Math.Nat.{add-mul-div_right, add-mul-mod_self_right, div-div-eq-div-mul, div-eq_of_lt, div_self, le-max_left, le-max_right, mod_self}
pub use Rattle.std.proofs.lemmas.Bool.{and_parts, cases_lt}
pub use Rattle.std.proofs.lemmas.List.{ext_get_or, get_or-map, get_or_read, length-map}
pub use Rattle.std.proofs.lemmas.Nat.{and_block, and_comm, and_le_l, and_le_r, and_mask, mod_below, mod_low, mul-add-lt, or_shifted, shl_whole, shr_below, shr_high, shr_le, shr_split, xor_block, xor_comm, xor_lt}
pub use Rattle.std.specs.Int.{byte_at, byte_worth, bytes_low_first, from_le_bytes, sum_through, to_le_bytes, w128}
pub use Rattle.std.specs.Int.Bits.{xor_assoc, xor_self, xor_zero_r}
pub use Rattle.algebra_laws.proofs.Numbers.{last_or_before}
pub use Rattle.algebra_laws.proofs.Ring.{add_left_comm, add_mul, mul_left_comm, one_mul, sum_zero, zero_add, zero_mul}
pub use Rattle.algebra_laws.specs.Field.{Apart, IsEndless, IsField, IsRing}
pub use Rattle.hail_field.specs.Nim.{is_symbol, nim, width}
unfoldable pub use Rattle.hail_field.specs.Nim.{inverse_below, nim_add, nim_inv, nim_mul, nim_pow, product}
pub use Rattle.hail_field.specs.declared.tables.TheConstants.{BY_16, EXP, LOG, MULTIPLES, SCALE}
