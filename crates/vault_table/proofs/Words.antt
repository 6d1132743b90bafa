-- The words in which this crate is proved, passed on from one place. Declares nothing.
pub use Rattle.std.proofs.Common.{ap, append_assoc, arith, get_or, inl, inr, length-take, refl, set, subst, sym, ◌∙◌}
pub use Rattle.std.proofs.lemmas.Bool.{cases_Bool, cases_lt, eqb-true, le-leb, le-ltb, leb-true, lt-leb}
pub use Rattle.std.proofs.lemmas.Bool.Decides.{nat_tests}
pub use Rattle.std.proofs.lemmas.List.{drop-append-le, drop-drop, drop-map, drop_at, get_or-map, get_or_append_left, get_or_at, length-drop, length-map, length-take-le, map-append, map-set, set_at, take-append-drop, take-append-le, take-map, take_all}
pub use Rattle.std.specs.List.{insert, list_all, list_any, remove}
pub use Rattle.std.specs.Prelude.{Bool, Err, false, IfErr, if◌then◌else◌, IsTrue, nat_le, not, Ok, OnOk, Result, vec_len, ◌*◌, ◌/◌, ◌==◌, ◌||◌, ◌≢◌}
pub use Rattle.record_defs.proofs.FilesLaws.{find-files_of, find-without, same-refl, same-sym}
pub use Rattle.record_defs.proofs.OrderLaws.{before-trans, below-trans, ordered-with, ordered-without}
pub use Rattle.record_defs.proofs.PackLaws.{before-not_same, packed_are, packed_is_idle}
pub use Rattle.record_defs.specs.Acceptance.{AreAccepted, is_file_id, put_done_refused, refused, Refused as Reason, refused_after, refused_first}
pub use Rattle.record_defs.specs.Records.{AuditDone, AuditStart, Drop, InEffect, is_name, PutDone, PutDoneIn, PutStart, Record, RepairDone, RepairDue, Resume, SetUp, Setup, Version}
pub use Rattle.record_defs.specs.Table.{are_ordered, due_of, File, files_of, find_file, is_name_before, next_audit, next_id, running_audit, setup_of, started_as, version_of, with_file, without_file}
pub use Rattle.vault_table.specs.Orders.{comes_after, comes_before, IsBetween, IsHere, order_of}
pub use Rattle.vault_table.specs.Starts.{AreNameMarks, begins_at, is_kept_name, kept_names, marks_for, name_of, Starts, with_mark}
pub use Rattle.vault_table.specs.Values.{file_of_entry, forgotten, id_after, is_full_without, IsFoldOf, Kept, put_done_refusal, refusal, refusal_after, refusal_before, started_at, started_from, with_record}
pub use Rattle.vault_table.specs.declared.entry.Entry.{Entry}
