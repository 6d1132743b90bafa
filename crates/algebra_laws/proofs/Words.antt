-- The words in which this crate is proved, passed on from one place. Declares nothing.
pub use Rattle.std.proofs.Common.{ap, ap₂, arith, Bool, cond, drop, eqb, false, get_or, inl, inr, length, List, ltb, map, max, None, Option, refl, replicate, set, Some, subst, suc, sym, take, true, zero, ℕ, [], ◌*◌, ◌++◌, ◌+◌, ◌-◌, ◌<◌, ◌∙◌, ◌∷◌, ◌≡◌, ◌≢◌, ◌≤◌, ◌⊎◌}
pub use Rattle.std.proofs.lemmas.Bool.{cases_eq, eqb-true}
pub use Rattle.std.proofs.lemmas.List.{drop_all, get_or_past, length-take, length-take-le, take-append-drop}
pub use Rattle.std.specs.List.{Contains, flat_map, range_with_len}
pub use Rattle.std.specs.Prelude.{is_some, nat_lt, slice_get, slice_set}
pub use Rattle.algebra_laws.specs.Field.{Apart, FieldOf, IsEndless, IsField, IsRing}
pub use Rattle.algebra_laws.specs.Lists.{Each, In}
pub use Rattle.algebra_laws.specs.Poly.{Decodes, FirstRow, here, next, Takes}
unfoldable pub use Rattle.algebra_laws.specs.Poly.{agree, front, interpolate, is_seen, plus, present, quotient, remainder, root_times, scale, times, trim, value, vanish}
pub use Rattle.algebra_laws.specs.Rows.{IsKeyEquation, Solves}
