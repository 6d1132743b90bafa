-- The words in which this crate is proved, passed on from one place. Declares nothing.
pub use Rattle.std.proofs.Common.{ap, arith, Err, false, inl, inr, length, length-append, length-take, List, map, min, None, Ok, refl, Result, reverse, Some, subst, sym, take, true, vec_len, ℕ, [], ◌++◌, ◌+◌, ◌-◌, ◌<◌, ◌∙◌, ◌∷◌, ◌≡◌, ◌≢◌, ◌≤◌, ◌⊎◌}
pub use Rattle.std.proofs.lemmas.Bool.{false≢true}
pub use Rattle.std.proofs.lemmas.List.{length-map, reverse-reverse, take_at}
pub use Rattle.std.proofs.lemmas.List.FromFn.{length-range_with_len}
pub use Rattle.std.specs.Option.{option_map}
pub use Rattle.std.specs.Prelude.{codes, IfSome}
pub use Rattle.std.specs.Str.{bytes_eq}
pub use Rattle.std.specs.declared.alloc.Global.{Global}
pub use Rattle.code_defs.proofs.Points.{Apart-range, upto_more}
pub use Rattle.code_defs.proofs.Values.{values_at-same}
pub use Rattle.code_defs.specs.DispersalCode.{Accepts}
pub use Rattle.code_defs.specs.Points.{upto, values_at}
pub use Rattle.command_defs.specs.Commands.{Answers, AnswersList, AnswersPut, bad_profile, begun, given_up, IsUsage, listed}
pub use Rattle.command_defs.specs.Forms.{AuditAll, Command as Spelled, DropOf, GetOf, InitWith, IsBareForm, IsForm, IsInitForm, IsNamedForm, IsPutAtForm, ListAll, Numbers, PackJournal, PutAt, PutUnder, RepairAll, RowOf, ScrubAll, UpgradeJournal}
pub use Rattle.command_defs.specs.Inits.{AnswersInit, bad_key, FailsToInit, InitsDisk, keyed, setup_with}
pub use Rattle.command_defs.specs.Jobs.{AnswersJob, EndsByAnswer, LeavesBy, LeftAlone, RunsAlone}
pub use Rattle.command_defs.specs.Keys.{IsKeyForm, longest_key}
pub use Rattle.command_defs.specs.Line.{no_row_line, values_line}
pub use Rattle.command_defs.specs.Lines.{audit_lines, dropped_line, list_lines, pack_text, packed_line, ready_line, scrub_lines, scrub_text, stored_line, text_of}
pub use Rattle.command_defs.specs.Opens.{bad_journal, disk_fault, IsOpened, not_set_up, setup_in_effect, Unstarted}
pub use Rattle.command_defs.specs.Ran.{Ran, ran_alone}
pub use Rattle.code_defs.specs.Profiles.{is_unknown}
pub use Rattle.command_defs.specs.Refusals.{status_of}
pub use Rattle.command_defs.specs.Row.{AnswersRow, IsRowForm, OpensRow}
pub use Rattle.command_defs.specs.Seen.{Ending, IsRefused, IsSynced, KeepsDisk, NoCountFalls, provider_at, ReadsAtMost, ReadsUpTo, SameSource, Seen, seen, sinking}
pub use Rattle.command_defs.specs.Sinking.{Sinking, WritesLine}
pub use Rattle.command_jobs.proofs.ReadBytes.{none-taken, told-on}
pub use Rattle.command_jobs.specs.Ends.{EndsOver, IsRefusedOver, IsSeenBefore, NoFaultUndone}
pub use Rattle.command_jobs.specs.Opened.{IsReadFor, IsUnopened, LiesInStore}
pub use Rattle.command_jobs.specs.Packs.{FillsGap, IsPackRefused, KeepsAround, PackEndsOver}
pub use Rattle.command_jobs.specs.declared.open.Unopened.{Unopened}
pub use Rattle.command_jobs.specs.declared.stream.Unbegun.{Unbegun}
pub use Rattle.command_words.specs.Commands.{command_of}
pub use Rattle.command_words.specs.declared.command.Command.{Command as Read}
pub use Rattle.device_defs.specs.Disks.{synced}
pub use Rattle.device_defs.specs.Faults.{last_count, Rose}
pub use Rattle.device_defs.specs.Told.{Goes, TakesFront, then_told, told_then}
pub use Rattle.hail_field.specs.Shape.{IsShape}
pub use Rattle.hail_replay.specs.Answers.{AnswersReplay, AnswersTrial, devices_of_seen, IsUndone, longest_schedule}
pub use Rattle.hail_replay.specs.Forms.{IsFormOf, IsReplayForm, IsTrialForm}
pub use Rattle.hail_replay.specs.declared.forms.Form.{Form}
pub use Rattle.machine_defs.specs.Answers.{Answer, Audited, DiskFault, Dropped, Got, Lost, Memory, Packed, ProviderFault, Put, Repaired, Scrubbed, Upgraded}
pub use Rattle.machine_defs.specs.Heard.{Entry}
pub use Rattle.machine_defs.specs.Jobs.{AuditJob, DropJob, GetJob, Kind, PutJob, RepairJob, UpgradeJob}
pub use Rattle.machine_defs.specs.Runs.{IsRun, Moment, now}
pub use Rattle.machine_defs.specs.States.{continued, State}
pub use Rattle.opening_defs.proofs.Resyncs.{resynced, resynced-equal, resynced-same}
pub use Rattle.provider_model.specs.Seen.{provider_seen}
pub use Rattle.provider_server.specs.Answers.{AnswersServe}
pub use Rattle.provider_server.specs.Words.{IsServeForm}
pub use Rattle.record_codec.specs.Entries.{with_master}
pub use Rattle.record_defs.specs.Areas.{Area, other_area}
pub use Rattle.record_defs.specs.Records.{is_setup, Record, Setup as SetupData}
pub use Rattle.record_defs.specs.Table.{files_of}
pub use Rattle.vault.specs.Outcomes.{machine_answer}
pub use Rattle.vault.specs.Packing.{pack_answer}
pub use Rattle.vault.specs.declared.packing.PackAnswer.{PackAnswer}
pub use Rattle.vault.specs.declared.turn.Ended.{Ended}
pub use Rattle.vault_core.specs.Carried.{refusal_of}
pub use Rattle.vault_core.specs.declared.wish.BeginFault.{BeginFault}
pub use Rattle.vault_open.proofs.Answers.{err-same}
pub use Rattle.vault_open.specs.Devices.{AreDevices, Devices}
pub use Rattle.vault_open.specs.declared.fault.InitFault.{InitFault}
pub use Rattle.hail_top.specs.Answered.{AnswersWords}
pub use Rattle.hail_top.specs.Carried.{AnswersForm, FormGoesOn, KeepsTheHeadline}
pub use Rattle.hail_top.specs.Endings.{ending_of, ending_with, seen_of}
pub use Rattle.hail_top.specs.InitRuns.{InitGoesOn, InitsDevices, InitsOn, made, TellsInit, untouched}
pub use Rattle.hail_top.specs.Jobs.{AnswersOver, PacksOver, PutsOver, ScrubsOver}
pub use Rattle.hail_top.specs.PackRuns.{kept, PacksOn, unopened, written, ZerosUnlessFault}
pub use Rattle.hail_top.specs.SetUps.{init_ending, IsSetupFor}
pub use Rattle.hail_top.specs.Telling.{IsFaultEnd, IsTextOf, TellsAnswer, TellsOf, TellsPack, TellsPut, TellsScrub, TellsStreamed, unbegun_ending, unopened_ending, unread_ending}
pub use Rattle.hail_top.specs.declared.reading.ReadFault.{ReadFault}
pub use Rattle.hail_top.specs.declared.tell.Subject.{Subject}
