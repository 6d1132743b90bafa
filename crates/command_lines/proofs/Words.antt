-- The words in which this crate is proved, passed on from one place. Declares nothing.
pub use Rattle.std.proofs.Common.{ap, append_assoc, arith, Bool, codes, Err, false, get_or, inl, inr, length, length-take, List, map, refl, Some, suc, sym, take, true, zero, ℕ, [], ◌++◌, ◌+◌, ◌<◌, ◌∙◌, ◌∷◌, ◌≡◌, ◌≢◌, ◌≤◌}
pub use Rattle.std.proofs.lemmas.List.{append-nil, flat_map_more, length-map, length-take-le, map-append, take_more}
pub use Rattle.std.specs.Fmt.{decimal}
pub use Rattle.std.specs.List.{join_with_byte, slice_get}
pub use Rattle.std.specs.Prelude.{nat_lt, ◌==◌}
pub use Rattle.std.specs.String.{string_bytes}
pub use Rattle.command_defs.specs.Lines.{count_line, count_lines, list_lines, off_line, off_lines}
pub use Rattle.machine_defs.specs.Lines.{file_line, line, then_number}
