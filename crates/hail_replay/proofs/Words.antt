-- The words in which this crate is proved, passed on from one place. Declares nothing.
pub use Rattle.std.proofs.Common.{ap, ap₂, arith, Bool, Err, false, get_or, IfOk, inl, inr, length, List, map, None, Ok, Option, refl, Result, slice_index, Some, subst, suc, sym, take, true, zero, ℕ, [], ◌%◌, ◌&&◌, ◌++◌, ◌+◌, ◌/◌, ◌<◌, ◌==◌, ◌^◌, ◌∙◌, ◌∷◌, ◌≡◌, ◌≢◌, ◌≤◌, ◌⊎◌}
pub use Rattle.std.proofs.lemmas.Bool.{and_parts, cases_Bool, cases_lt, eqb-true, false≢true, lt-ltb}
pub use Rattle.std.proofs.lemmas.List.{append-nil, flat_map_more, length-append, length-map, length-reverse, length-take-le, nil_from_length, reverse-append, reverse-reverse, take_all, take_more}
pub use Rattle.std.specs.List.{flat_map}
pub use Rattle.std.specs.Prelude.{IfSome, is_ok, is_some, IsSome, nat_lt, OnErr, OnOk, slice_get, unwrap_or}
pub use Rattle.std.specs.Vec.Iter.{into_iter_items}
pub use Rattle.command_defs.specs.Seen.{Ending, nobody, provider_at, ReadsUpTo, Seen, sinking}
pub use Rattle.command_defs.specs.Sinking.{Sinking, WritesLine}
pub use Rattle.device_defs.proofs.Lasting.{rose-before, told_then-nothing}
pub use Rattle.device_defs.specs.Cells.{Cells}
pub use Rattle.device_defs.specs.Providers.{HasPlace, Held, Provider, with_symbol, without_block}
pub use Rattle.device_defs.specs.Told.{TakesFront, then_told, told_then}
pub use Rattle.hail_client.proofs.Standing.{devices-of, enough-of, lists-of, next-of, open-of}
pub use Rattle.hail_client.specs.Client.{client_coming, client_next_job, coming_by, is_open, IsSame, IsSameVault, names_of, next_job_by, uses, uses_by}
pub use Rattle.hail_client.specs.Outcomes.{client_begin_outcome, HeardIs, names_outcome, replace_outcome, step_outcome}
pub use Rattle.hail_client.specs.Stands.{ClientStands, IsReached, IsStanding, MakesEvent, OpensOver, RunsJobOn, StandsBy}
pub use Rattle.hail_client.specs.declared.client.Client.{Client}
pub use Rattle.hail_client.specs.declared.turn.ClientTurn.{ClientTurn}
pub use Rattle.headline.proofs.Parts.{headline}
pub use Rattle.machine_defs.specs.Alone.{BeginsAlone, unalone}
pub use Rattle.machine_defs.specs.Events.{Alter, Begin, BeginAt, BeginPack, BeginScrub, Begun, Closed, Continue, Ended, Event, Init, Lose, More, Names, NothingHeld, Outcome, put_event, Refused, Reopen, Replaced, Step, Stop}
pub use Rattle.machine_defs.specs.Heard.{Entry, heard_at, heard_by, heard_in, reported_after}
pub use Rattle.machine_defs.specs.Jobs.{AuditJob, DropJob, GetJob, Job, job_of, Kind, PutJob, RepairJob, UpgradeJob}
pub use Rattle.machine_defs.specs.Lines.{hex, hex_digit, lines_of, then_number}
pub use Rattle.machine_defs.specs.Machine.{Happens, Lists}
pub use Rattle.machine_defs.specs.Replacements.{ReplacesAt, ReplacesIf}
pub use Rattle.machine_defs.specs.Runs.{IsRun, Moment, now}
pub use Rattle.machine_defs.specs.States.{continued, State}
unfoldable pub use Rattle.machine_defs.specs.States.{setup_in}
pub use Rattle.machine_defs.specs.Steps.{Steps}
pub use Rattle.machine_defs.specs.Transcripts.{CarriesOut, GoOn, Instruction, Once, RunJob}
pub use Rattle.schedule_text.specs.Events.{commands_of, event_command}
pub use Rattle.second_half_laws.proofs.Failed.{failures_rose}
pub use Rattle.second_half_laws.proofs.Onward.{AllOnward, Onward, onward, run_onward}
pub use Rattle.trial_maker.specs.Trials.{trial_bytes}
unfoldable pub use Rattle.trial_maker.specs.Trials.{cut, epoch, last_epoch, losses, opening, trial_commands}
pub use Rattle.vault.specs.declared.vault.Vault.{Vault}
pub use Rattle.vault_core.specs.Coming.{IsNoJob}
pub use Rattle.vault_open.specs.Devices.{AreDevices, Devices, devices}
pub use Rattle.hail_replay.specs.Answers.{AnswersReplay, AnswersTrial, CarriedOut, devices_of_seen, longest_schedule, trial_providers}
pub use Rattle.hail_replay.specs.Counts.{counts_of, counts_on, flag_of, flagged_by, flagged_from, flagged_in, how_many, is_audited, is_expected, is_got, is_repaired, is_stopped, one_if, table_tolerance, trial_lines, TrialCounts}
pub use Rattle.hail_replay.specs.Heard.{entries_heard, joined}
pub use Rattle.hail_replay.specs.Performed.{AreMomentsOf, heard_in_came, heard_in_turn, IsPerformed, KeepsStanding, NoCountFell, outcome_in, Performs, StandsWhereOpen}
pub use Rattle.hail_replay.specs.Replayed.{CarriesOn, Replays, StopsAtCut}
pub use Rattle.hail_replay.specs.Seen.{FlagsBy, SeesOne}
pub use Rattle.hail_replay.specs.Starts.{AreLeft, called_behind, devices_of, IsNewClient, sinking_of}
pub use Rattle.hail_replay.specs.Trials.{CountsTo, RunsTo, RunsTrial}
pub use Rattle.hail_replay.specs.UnderWay.{HasCome, HasCounted, HasDone, HasRun}
pub use Rattle.hail_replay.specs.declared.came.Came.{Came}
