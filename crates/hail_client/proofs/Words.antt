-- The words in which this crate is proved, passed on from one place. Declares nothing.
pub use Rattle.std.proofs.Common.{ap, arith, Bool, Err, false, inl, inr, length-take, List, map, None, Ok, Option, refl, replicate, Result, Some, subst, suc, sym, zero, ℕ, [], ◌++◌, ◌+◌, ◌<◌, ◌==◌, ◌^◌, ◌||◌, ◌↔◌, ◌∙◌, ◌∷◌, ◌≡◌, ◌≢◌, ◌≤◌, ◌⊎◌}
pub use Rattle.std.proofs.Math.Logic.{∥∥₁_elim, ∥∥₁_map, ∥∥₁_prop}
pub use Rattle.std.proofs.Math.Nat.{ℕ_set}
pub use Rattle.std.proofs.lemmas.Bool.{cases_Bool, eq-eqb, false≢true, le-ltb, lt-ltb}
pub use Rattle.std.proofs.lemmas.List.{length-map, length-replicate, map-set}
pub use Rattle.std.proofs.lemmas.Option.{slice_get-get_or, slice_get-map}
pub use Rattle.std.specs.List.{list_all, list_any}
pub use Rattle.std.specs.Option.{option_map}
pub use Rattle.std.specs.Prelude.{IfSome, if◌then◌else◌, is_some, IsErrAnd, IsSome, IsTrue, nat_lt, OnErr, slice_get, slice_index, slice_set, unwrap_or}
pub use Rattle.algebra_laws.proofs.Options.{is_some-none}
pub use Rattle.device_defs.specs.Cells.{Cells, firm, loose_from, reads}
pub use Rattle.device_defs.specs.Disks.{synced}
pub use Rattle.device_defs.specs.Faults.{Rose}
pub use Rattle.device_defs.specs.Images.{EachImage}
pub use Rattle.device_defs.specs.Providers.{HasPlace, Held, Provider, with_symbol, without_block}
pub use Rattle.device_defs.specs.Told.{Goes}
pub use Rattle.hail_scrub.proofs.Machine.{handed_same, setup_same}
pub use Rattle.hail_scrub.proofs.Starts.{held_beside, held_stands, hold_begins, step_beside}
pub use Rattle.hail_scrub.specs.Stands.{MakesScrubStep, scrub_outcome, ScrubIs, ScrubStands}
pub use Rattle.hail_scrub.specs.Views.{called_by, next_to_do, scrub_left, ScrubView}
pub use Rattle.journal_pack.specs.Packs.{moves_of, WritesText}
pub use Rattle.journal_pack.specs.declared.pack.Pack.{Pack}
pub use Rattle.machine_defs.proofs.JobLists.{cond_false, cond_true}
pub use Rattle.machine_defs.specs.Alone.{alone_refusal, BeginsPack, BeginsScrub, pack_causes, new_pack, new_scrub, number_alone, pack_refusal, Scrubs, StepsScrub, unalone}
pub use Rattle.machine_defs.specs.Events.{Alter, AreBytes, Begin, BeginPack, BeginScrub, Begun, Closed, Continue, Continued, Ended, Event, Init, IsSpelled, IsSpelledKind, Listed, Lose, More, Names, NothingHeld, Opened, Outcome, put_event, Ready, Refused, Reopen, Step, Stop}
pub use Rattle.machine_defs.specs.Heard.{heard_by}
pub use Rattle.machine_defs.specs.Jobs.{aim_of, AuditJob, DropJob, GetJob, job_of, Kind, PutJob, RepairJob, UpgradeJob}
pub use Rattle.machine_defs.specs.Machine.{Happens, Lists}
pub use Rattle.machine_defs.specs.Openings.{Inits, InitsBy, InitsClosed, IsNotSetUp, IsSetUp, MayHold, Reopens, reread, Rereads}
pub use Rattle.machine_defs.specs.Refusals.{Cause, TooFewProviders}
pub use Rattle.machine_defs.specs.Runs.{Moment, now}
pub use Rattle.machine_defs.specs.Stands.{IsFresh, StandsForState}
pub use Rattle.machine_defs.specs.States.{AreFirst, continued, Doubt, given_up, IsStart, Scrub, Scrubbing, Settles, State, with_provider}
unfoldable pub use Rattle.machine_defs.specs.States.{setup_in}
pub use Rattle.machine_defs.specs.Survival.{IsKept}
pub use Rattle.opening_defs.specs.Journals.{IsRead, IsResynced, journal_read, MayBeLeft}
pub use Rattle.opening_defs.specs.Opened.{AreHanded, IsJustOpened}
pub use Rattle.provider_model.specs.Seen.{provider_seen}
pub use Rattle.record_codec.specs.Entries.{with_master}
pub use Rattle.record_defs.specs.Acceptance.{AreAccepted}
pub use Rattle.record_defs.specs.Areas.{A, Area, B, end_in, other_area, StandsActive, text_length}
pub use Rattle.record_defs.specs.Packed.{packed}
pub use Rattle.record_defs.specs.Records.{is_in_grammar, is_setup, largest_journal, Record, SetUp}
pub use Rattle.record_defs.specs.Table.{File, file_of, files_of, is_same_name, setup_of, version_of}
pub use Rattle.state_laws.proofs.Events.{devices-sound, events-sound}
pub use Rattle.state_laws.proofs.Packs.{file-alike, journal-whole}
pub use Rattle.state_laws.proofs.Resting.{rest-sound, start-sound}
pub use Rattle.state_laws.specs.Follows.{AreHeld}
pub use Rattle.state_laws.specs.Sound.{IsAtRest, IsSound, IsSoundJournal}
pub use Rattle.vault.proofs.AtWork.{by_work}
pub use Rattle.vault.proofs.Called.{calls-nothing}
pub use Rattle.vault.proofs.Replaced.{held_replaced, vault_replaced}
pub use Rattle.vault.specs.Desks.{DeskStands, IsAtWork, IsFlight, IsShaped}
pub use Rattle.vault.specs.Devices.{devices_seen}
pub use Rattle.vault.specs.Packing.{IsPackOf, IsPackText, MakesPackStep, pack_answer, pack_number, PacksOver, plain, StandsPacking}
pub use Rattle.vault.specs.Seen.{coming_of, held_by, IsUnchanged, provider_count, table_of}
pub use Rattle.vault.specs.Stands.{HoldsOver, MakesBegin, Stands, StandsBeside}
pub use Rattle.vault.specs.Streams.{IsStreamless, KeepsStreamless, wants_of}
pub use Rattle.vault.specs.declared.packing.PackJob.{PackJob}
pub use Rattle.vault.specs.declared.vault.Vault.{Vault}
pub use Rattle.vault_core.specs.Carried.{CoreIs, refusal_of}
pub use Rattle.vault_core.specs.Coming.{Acts, called_provider, calls_disk, IsNoJob}
pub use Rattle.vault_core.specs.declared.wish.BeginFault.{BeginFault}
pub use Rattle.vault_open.proofs.Images.{bytes-shown, MayRead, more-some, packed-some, read-accepted, read-fits, shown-again, shown-long, shown-read, shown-short, Shows}
pub use Rattle.vault_open.proofs.Answers.{err-is, err-same}
pub use Rattle.vault_open.specs.Causes.{IsStartFault, LiesInJournal}
pub use Rattle.vault_open.specs.Devices.{AreDevices, Devices, devices}
pub use Rattle.vault_open.specs.declared.fault.StartFault.{StartFault}
pub use Rattle.hail_client.specs.AtWork.{IsAloneAtWork, IsBesideVault, IsScrub}
pub use Rattle.hail_client.specs.Client.{client_coming, client_left, client_next_job, coming_by, is_open, next_job_by, pack_coming, scrub_coming, uses_by, with_vault, without_vault}
pub use Rattle.hail_client.specs.Examples.{closed_client, fresh, hidden, notes, packing_state, raised_devices, raised_open, raised_records, scrubbed_state, stored_devices, stored_open, stored_scrub, stored_state}
pub use Rattle.hail_client.specs.Outcomes.{client_begin_outcome, HeardIs, job_goes_on, names_outcome, reopen_outcome, replace_outcome, start_refusal, step_outcome, UnlessBadJournal}
pub use Rattle.hail_client.specs.PackCells.{pack_alone, StepsPackCells}
pub use Rattle.hail_client.specs.Stands.{ClientMakesStep, ClientStands, ImageHasFile, IsMadeAnew, IsReached, IsStanding, MakesEvent, OpensOver, RunsJobOn, StandsAlone, StandsBy, StandsClosed, StandsHeld}
pub use Rattle.hail_client.specs.Start.{anyone, provider_or_empty, start_of, TellAll}
pub use Rattle.hail_client.specs.declared.alone.Alone.{Alone}
pub use Rattle.hail_client.specs.declared.alone.ScrubJob.{ScrubJob}
pub use Rattle.hail_client.specs.declared.client.Client.{Client}
pub use Rattle.hail_client.specs.declared.fault.ReopenFault.{ReopenFault}
