-- The words in which this crate is proved, passed on from one place. Declares nothing.
pub use Rattle.std.proofs.Common.{ap, arith, Bool, Err, get_or, inl, inr, length, length-append, List, map, None, Ok, Option, refl, Result, Some, subst, suc, sym, take, true, zero, ℕ, [], ◌++◌, ◌+◌, ◌-◌, ◌<◌, ◌^◌, ◌∙◌, ◌∷◌, ◌≡◌, ◌≢◌, ◌≤◌, ◌⊎◌}
pub use Rattle.std.proofs.lemmas.List.Elements.{All-cons, All-head, All-nil, All-push, All-tail}
pub use Rattle.std.proofs.lemmas.Result.{err_from_is_err_and, on_err_weaker, on_ok_weaker}
pub use Rattle.std.specs.List.{list_all}
pub use Rattle.std.specs.Option.{option_map}
pub use Rattle.std.specs.Prelude.{IfSome, IsErrOf, IsTrue, OnErr, reverse, slice_get}
pub use Rattle.device_defs.specs.Cells.{Cells, firm}
pub use Rattle.device_defs.specs.Told.{Goes}
pub use Rattle.journal_core.proofs.AreaStands.{firm-image, read-firm}
pub use Rattle.journal_core.proofs.Texts.{loose-settled, named-below, named-settled, switch-torn, switch-written, switching-image, switching-settled, text-above, text-apart, text-image, text-settled, text-written}
pub use Rattle.journal_core.specs.FourMoves.{MayBeTorn, moved_on}
pub use Rattle.journal_core.specs.Gates.{IsReadIn, StopsIn}
pub use Rattle.journal_core.specs.Lists.{newest_first}
pub use Rattle.journal_core.specs.Moves.{IsWrite}
pub use Rattle.journal_core.specs.Texts.{AllStandIn, HasText, IsApart, IsSwitching, MayStandIn, StandsFirm}
pub use Rattle.record_codec.specs.Entries.{entry_of, HasPadding, IsInGrammar}
pub use Rattle.record_defs.proofs.Sizes.{length-entries}
pub use Rattle.record_defs.specs.Areas.{A, Area, area_of, B, base_of, end_in, entries, entries_size, IsBadAt, IsSwitched, magic_front, other_area, StandsActive, switch_of, text_length}
pub use Rattle.record_defs.specs.Packed.{AreAlike, as_record, packed, with_due, with_files, with_setup}
pub use Rattle.record_defs.specs.Records.{is_in_grammar, Record as Entry, Resume, Setup, Version}
pub use Rattle.record_defs.specs.Table.{File, setup_of, version_of}
pub use Rattle.stream_model.specs.declared.fault.WriteFault.{WriteFault}
pub use Rattle.vault_table.specs.Values.{file_of_entry, IsFoldOf, Kept}
pub use Rattle.journal_pack.specs.Moves.{IsAfterPack, IsBetween, IsPackGivenUp, switch_to}
pub use Rattle.journal_pack.specs.Packs.{KeepsJournal, moves_of, Packs, PacksDisk, text_of, to_of, TurnsPack, WritesText}
