-- The words in which this crate is proved, passed on from one place. Declares nothing.
pub use Rattle.std.proofs.Common.{ap, arith, Bool, drop, false, inl, inr, length, length-append, length-drop, length-take, List, min, None, Option, refl, Some, subst, suc, sym, take, true, ℕ, [], ◌&&◌, ◌++◌, ◌+◌, ◌-◌, ◌<◌, ◌^◌, ◌∙◌, ◌∷◌, ◌≡◌, ◌≢◌, ◌≤◌, ◌⊎◌}
pub use Rattle.std.proofs.lemmas.Bool.{cases_lt, false≢true}
pub use Rattle.std.proofs.lemmas.List.{drop_all, drop_at, length-map, take-append-le, take-take, take_at, take_min}
pub use Rattle.std.proofs.lemmas.Result.{err_from_is_err_and}
pub use Rattle.std.specs.Option.{option_map}
pub use Rattle.std.specs.Prelude.{IfErr, IfSome, is_some, IsErrAnd, IsTrue, OnOk}
pub use Rattle.device_defs.proofs.Lasting.{each_image-mono, image-firm, reads-firm}
pub use Rattle.device_defs.specs.Cells.{Cells, firm, loose, reads}
pub use Rattle.device_defs.specs.Disks.{synced, Torn, written}
pub use Rattle.device_defs.specs.Images.{EachImage, IsImage}
pub use Rattle.device_defs.specs.Told.{Goes}
pub use Rattle.journal_core.proofs.AreaStands.{firm-image, read-firm}
pub use Rattle.journal_core.proofs.Meanings.{bad_is_none, one_meaning}
pub use Rattle.journal_core.proofs.MoveLemmas.{IfSome-same, on_err}
pub use Rattle.journal_core.specs.Gates.{IsReadIn, StopsIn}
pub use Rattle.journal_core.specs.Texts.{AllStandIn, IsAfterMovesIn, MayStandIn, MayStandWith, StandsFirm}
pub use Rattle.machine_defs.specs.Openings.{Inits, InitsBy, InitsClosed, LeavesDoubt, MayHold}
pub use Rattle.machine_defs.specs.Stands.{StandsForState, StandsPlain, StandsSwitched, StandsWithDoubt}
pub use Rattle.machine_defs.specs.States.{brought, Doubt, State}
pub use Rattle.opening_defs.proofs.SetUps.{blank-free, reads-within}
pub use Rattle.opening_defs.specs.Journals.{BeginsOtherwise, BeginsWithSetup, IsBadInit, IsBadStart, IsBlankIn, IsFree, IsRead, IsResynced, IsSetUpOn, journal_read, MayBeLeft, StopsBehind}
pub use Rattle.record_codec.specs.Entries.{entry_of, with_master}
pub use Rattle.record_defs.proofs.Standing.{active-front, active-long, active-take, stands-long}
pub use Rattle.record_defs.specs.Acceptance.{AreAccepted, NoSetup, refused}
pub use Rattle.record_defs.specs.Areas.{A, Area, B, base_of, end_in, HoldsIn, IsSwitched, other_area, StandsActive}
pub use Rattle.record_defs.specs.Journal.{StandsFor, text}
pub use Rattle.record_defs.specs.Packed.{packed}
pub use Rattle.record_defs.specs.Records.{AuditDone, AuditStart, Drop, InEffect, is_appended, is_in_grammar, is_master, is_setup, largest_journal, PutDone, PutDoneIn, PutStart, Record, RepairDone, RepairDue, Resume, SetUp, Setup, Version}
pub use Rattle.record_defs.specs.Table.{setup_of, version_of}
pub use Rattle.state_laws.proofs.Packs.{journal-brought, packed-not-appended, switched-room}
pub use Rattle.state_laws.proofs.Records.{AreAppended, is_some-at, none-set_up, second-set_up, setup-spelled}
pub use Rattle.state_laws.specs.Sound.{IsSound, IsSoundJournal}
pub use Rattle.stream_model.specs.declared.fault.WriteFault.{WriteFault}
pub use Rattle.vault_table.specs.Values.{IsFoldOf, Kept}
pub use Rattle.vault_open.specs.Causes.{IsInitFault, IsNoWrite, IsStartFault}
pub use Rattle.vault_open.specs.Devices.{AreDevices, Devices, devices}
pub use Rattle.vault_open.specs.Faults.{init_answer, refusal_answer}
pub use Rattle.vault_open.specs.Folding.{IsFolded, IsFoldFault, IsReadInto}
pub use Rattle.vault_open.specs.Inits.{MakesInit, MayInit}
pub use Rattle.vault_open.specs.Preparing.{AreShort, emptied, first_answer, IsBlank, IsFirstAnswer, IsFirstFault, IsHalfReady, IsReadied, IsTextFault, with_first_record}
pub use Rattle.vault_open.specs.declared.fault.InitFault.{InitFault}
pub use Rattle.vault_open.specs.declared.fault.StartFault.{StartFault}
