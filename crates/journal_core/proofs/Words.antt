-- The words in which this crate is proved, passed on from one place. Declares nothing.
pub use Rattle.std.proofs.Common.{ap, append_assoc, arith, Bool, drop, Err, get_or, inl, inr, length, length-append, length-drop, length-take, lit<, map, min, None, Ok, Option, refl, replicate, Result, Some, subst, sym, take, take-append-drop, true, ◌++◌, ◌+◌, ◌-◌, ◌<◌, ◌∙◌, ◌≢◌, ◌≤◌, ◌⊎◌}
pub use Rattle.std.proofs.Math.Seq.{drop-append-add, take-append-add}
pub use Rattle.std.proofs.lemmas.List.{append-nil, drop-append-le, drop-drop, drop-map, drop-replicate, drop-take, drop_all, drop_at, drop_more, length-map, length-replicate, map-append, reverse-append, reverse-reverse, take_at, take_more, take_rest}
pub use Rattle.std.specs.List.{list_all}
pub use Rattle.std.specs.Option.{option_map}
pub use Rattle.std.specs.Prelude.{IfSome, IsErrOf, IsTrue, OnErr, OnOk, reverse}
pub use Rattle.device_defs.proofs.Lasting.{reads-firm}
pub use Rattle.device_defs.specs.Cells.{Cells, firm, is_loose_at, loose, reads}
pub use Rattle.device_defs.specs.Disks.{spliced, Torn, written}
pub use Rattle.device_defs.specs.Images.{IsImage}
pub use Rattle.device_defs.specs.Told.{Goes}
pub use Rattle.record_codec.specs.Entries.{entry_of}
pub use Rattle.record_defs.proofs.AreaLaws.{active_again, text-active}
pub use Rattle.record_defs.specs.Areas.{A, Area, area_of, B, base_of, BreaksIn, EndsIn, entries, HoldsIn, IsBadAt, IsSwitched, magic_front, other_area, StandsActive, switch_of}
pub use Rattle.record_defs.specs.Journal.{StandsFor, text}
pub use Rattle.record_defs.specs.Records.{is_in_grammar, Record as Entry}
pub use Rattle.record_defs.specs.Spellings.{spelling, Spells, SpellsNone}
pub use Rattle.stream_model.specs.declared.fault.WriteFault.{WriteFault}
pub use Rattle.journal_core.specs.Appends.{Appends, AppendsDisk, body_of, gate_of, KeepsRecords, moves_of, TurnsAppend}
pub use Rattle.journal_core.specs.Firm.{AreFirm}
pub use Rattle.journal_core.specs.Moves.{cells_after, IsAfterMoves, IsClosed, IsGivenUp, IsInDoubt, IsInDoubtOrClosed, IsWrite, MayTear, SameFrom}
pub use Rattle.journal_core.specs.Texts.{AllStandIn, HasLooseText, HasText, IsAfterMovesIn, IsApart, IsGivenUpIn, IsNamed, IsSwitching, MayStandWith, StandsFirm}
