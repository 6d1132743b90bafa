-- The words in which this crate is proved, passed on from one place. Declares nothing.
pub use Rattle.std.proofs.Common.{add-one, ap, arith, drop, get_or, length, List, None, Option, refl, Some, subst, suc, sym, take, zero, ℕ, [], ◌*◌, ◌++◌, ◌+◌, ◌-◌, ◌<◌, ◌∙◌, ◌∷◌, ◌≡◌, ◌≢◌, ◌≤◌}
pub use Rattle.std.proofs.lemmas.List.{append_assoc, drop_all, get_or_default, get_or_read, length-append, length-take, map-append, take_all, take_more}
pub use Rattle.algebra_laws.proofs.Agree.{agree_le, unique}
pub use Rattle.algebra_laws.proofs.Apart.{Apart-take}
pub use Rattle.algebra_laws.proofs.Trim.{length-trim, trim_same, value-trim}
pub use Rattle.algebra_laws.specs.Field.{Apart}
pub use Rattle.algebra_laws.specs.Lists.{Each}
pub use Rattle.algebra_laws.specs.Poly.{Decodes}
unfoldable pub use Rattle.algebra_laws.specs.Poly.{agree as agree_over, present}
pub use Rattle.code_defs.specs.DispersalCode.{Accepts, AcceptsNone, IsOnlyAccepted, row_of}
pub use Rattle.code_defs.specs.Points.{values_at}
pub use Rattle.code_defs.specs.Polynomials.{agree, interpolate, plus, trim, value}
pub use Rattle.hail_field.proofs.AllNumbers.{nim_laws}
pub use Rattle.hail_field.specs.Nim.{nim}
pub use Rattle.hail_field.specs.Shape.{IsShape}
pub use Rattle.hail_poly.specs.Registers.{Registers}
pub use Rattle.dispersal_code.specs.Present.{Chosen, room_for}
unfoldable pub use Rattle.dispersal_code.specs.Present.{present_points, present_symbols}
