-- The words in which this crate is proved, passed on from one place. Declares nothing.
pub use Rattle.std.proofs.Common.{ap, append_assoc, arith, inl, inr, length-append, refl, subst, sym, take-append-drop, ◌∙◌}
pub use Rattle.std.proofs.lemmas.Bool.{cases_Bool, eqb-true}
pub use Rattle.std.proofs.lemmas.Bool.Decides.{nat_tests}
pub use Rattle.std.proofs.lemmas.List.{append-nil, drop-drop, drop-take, length-drop, length-replicate, length-take, take-take}
pub use Rattle.std.specs.List.{flat_map, list_all}
pub use Rattle.std.specs.Prelude.{Bool, drop, false, if◌then◌else◌, is_some, IsTrue, length, List, nat_le, nat_lt, None, not, Option, Some, suc, take, true, [], ◌&&◌, ◌*◌, ◌++◌, ◌+◌, ◌<◌, ◌==◌, ◌||◌, ◌∷◌, ◌≡◌, ◌≢◌, ◌≤◌, ◌⊎◌}
pub use Rattle.record_defs.specs.Acceptance.{AreAccepted, is_count_each, is_file_id, is_running, refused}
pub use Rattle.record_defs.specs.Areas.{A, Area, area_of, B, base_of, end_in, entries, entries_size, HoldsIn, magic_front, other_area, StandsActive}
pub use Rattle.record_defs.specs.Examples.{four, four_set_up, raised, two_areas}
pub use Rattle.record_defs.specs.Journal.{before_gate, magic, StandsFor, text, text_size}
pub use Rattle.record_defs.specs.Records.{AuditDone, AuditStart, Drop, InEffect, is_in_grammar, is_name, most_files, PutDone, PutDoneIn, PutStart, Record, record_size, RepairDone, RepairDue, Resume, SetUp, Setup, Version}
unfoldable pub use Rattle.record_defs.specs.Spellings.{spelling}
pub use Rattle.record_defs.specs.Table.{are_ordered, Due, due_of, exceeds, File, file_as, file_of, files_of, find_file, is_name_before, is_same_name, is_start_of, next_audit, next_id, profile_in, running_audit, setup_of, started_as, version_of, with_file, with_put, without_file}
