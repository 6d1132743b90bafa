-- The words in which this crate is proved, passed on from one place. Declares nothing.
pub use Rattle.std.proofs.Common.{ap, append_assoc, arith, Bool, cond, drop, eqb, false, get_or, inl, inr, leb, length, List, ltb, None, Option, refl, replicate, rules, Some, subst, suc, sym, take, true, zero, ℕ, [], ⊎_elim, ◌*◌, ◌++◌, ◌+◌, ◌-◌, ◌<◌, ◌^◌, ◌∙◌, ◌∷◌, ◌≡◌, ◌≤◌}
pub use Rattle.std.proofs.lemmas.Bool.{cases_lt, eqb-true, le-leb, le-ltb, leb-true, lt-ltb, ltb-false}
pub use Rattle.std.proofs.lemmas.Bool.Decides.{nat_tests}
pub use Rattle.std.proofs.lemmas.List.{append-nil, drop-replicate, drop_at as drop-front, get_or-drop, get_or-take, get_or_past, length-replicate, length-take-le, take_all, take_at, take_more_set}
pub use Rattle.std.specs.Int.{byte_len, from_le_bytes, to_le_bytes, w16, w32, w64, Width}
pub use Rattle.std.specs.List.{flat_map, list_all}
pub use Rattle.record_defs.specs.Records.{AuditDone, AuditStart, Drop, InEffect, is_byte, is_in_grammar, is_master, is_name, is_setup, PutDone, PutDoneIn, PutStart, Record as Entry, record_size, RepairDone, RepairDue, Resume, SetUp, Setup, Version}
pub use Rattle.record_defs.specs.Spellings.{counts_bytes, name_bytes, setup_bytes}
unfoldable pub use Rattle.record_defs.specs.Spellings.{spelling}
pub use Rattle.record_codec.specs.Entries.{counted, entry_of, HasPadding, IsInGrammar, IsPadded, with_master}
pub use Rattle.record_codec.specs.Reading.{number_at, ◌>>=◌}
unfoldable pub use Rattle.record_codec.specs.Reading.{audit_done_at, audit_start_at, counts_at, in_effect_at, keyed_at, name_at, numbers_at, object_at, profile_at, put_done_at, put_done_in_at, put_start_at, record_at, repair_done_at, repair_due_at, resume_at, setup_at, version_at}
