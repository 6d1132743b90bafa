-- The words in which this crate is proved, passed on from one place. Declares nothing.
pub use Rattle.std.proofs.Common.{ap, append_assoc, arith, Bool, codes, false, flat_map, Global, inl, inr, is_some, IsSome, length, length-append, List, lit≤, None, Option, refl, reverse, Some, String, subst, suc, sym, true, zero, ℕ, [], ◌++◌, ◌+◌, ◌<◌, ◌^◌, ◌∙◌, ◌∷◌, ◌≡◌, ◌≢◌, ◌≤◌, ◌⊎◌}
pub use Rattle.std.proofs.lemmas.Bool.{false≢true}
pub use Rattle.std.proofs.lemmas.List.{append_cancel_left, drop_at, reverse-reverse}
unfoldable pub use Rattle.std.specs.Fmt.{digits}
pub use Rattle.std.specs.List.{AllByRecursion}
pub use Rattle.column_defs.specs.Verdicts.{is_flagged}
pub use Rattle.command_laws.proofs.JobEnds.{put-setup}
pub use Rattle.command_runs.proofs.Alone.{filling-of, finds}
pub use Rattle.command_runs.proofs.Meets.{always, damaged-file, first, first_of, flagged-second, get-steady, later-steady, never, none-tell, repair-steady, robbed-untouched, stays, swept-steady, swept-untouched, three-tell}
pub use Rattle.command_runs.proofs.Stores.{AreFitIn, byte-fit, fits, formed, mended-sure, over-is, put-new, put_begins, stands_for, sure}
pub use Rattle.damage_run.proofs.Run.{◌and◌, few, lose}
pub use Rattle.damage_run.proofs.Values.{judged, no_answer, right, same_first, sums, without_two_give, without_zero_give}
pub use Rattle.damage_run.specs.Points.{counts}
pub use Rattle.damage_run.specs.Words.{Action, AuditDone, AuditStart, B, Brings, Came, Continued, End, Finds, Gives, Goes, Heard, Lose, Mends, Moves, Notes, Opens, Store, Tells, Works}
unfoldable pub use Rattle.damage_run.specs.Words.{actions_of}
pub use Rattle.effect_laws.proofs.Apart.{carried_apart, carried_end, ends_apart, ends_read}
pub use Rattle.effect_laws.proofs.Asked.{both_none, free_behind, none_for, one_call, puts_only, tested_calls}
pub use Rattle.effect_laws.proofs.Gets.{gave_only}
pub use Rattle.effect_laws.proofs.Jobs.{drops, gets, stores, tells}
pub use Rattle.effect_laws.proofs.Lists.{both-one, forward, lists}
pub use Rattle.effect_laws.proofs.Over.{over}
pub use Rattle.effect_laws.specs.Lists.{calls_none, IsListedAs, IsRead, ReadsAs}
pub use Rattle.effect_laws.specs.Puts.{Drops, NoPutBegan, PutsOnly, PutsUnder}
pub use Rattle.effect_laws.specs.Scrubs.{AreButBlocks, IsButBlocks, IsToldButBlocks}
pub use Rattle.effect_laws.specs.Transcripts.{AreOver, AreOverFor, AreOverOn, AsksPutsOnly, job_behind, NoneIsBegun, NonePuts, TellsJob}
pub use Rattle.epoch_laws.specs.Told.{AreFew, ByScrubs, done_by, GotBack}
pub use Rattle.hail_client.proofs.Fresh.{are-devices, is-start, start-tells}
pub use Rattle.hail_top.proofs.FormWords.{no-form}
pub use Rattle.hail_top.proofs.Spelled.{command-words, form-words}
pub use Rattle.line_laws.proofs.OfLines.{joined, outcome-lines, run-lines}
pub use Rattle.machine_defs.proofs.Untouched.{commands_begin_none, run_back, steps_begin_none}
pub use Rattle.machine_defs.specs.Answers.{Dropped, Packed, Scrubbed}
pub use Rattle.machine_defs.specs.Began.{IsPutBegin}
pub use Rattle.machine_defs.specs.Events.{BeginAt, Listed, More, Names, Stop, Stopped}
pub use Rattle.machine_defs.specs.Jobs.{DropJob, Kind}
pub use Rattle.machine_defs.specs.Machine.{Happens, Lists}
pub use Rattle.machine_defs.specs.Scrubs.{scrubbed}
pub use Rattle.machine_defs.specs.Untouched.{IsBeginOn, Relies, Touches}
pub use Rattle.made_runs.proofs.Written.{carries}
pub use Rattle.record_defs.specs.Packed.{AreAlike, packed}
pub use Rattle.run_laws.proofs.ByEvents.{put_is_got_later, stored_is_kept}
pub use Rattle.run_laws.specs.Stories.{GotRight}
pub use Rattle.schedule_runs.proofs.Read.{are-lines}
unfoldable pub use Rattle.schedule_runs.proofs.Read.{read}
pub use Rattle.second_half_laws.proofs.ByteSteps.{block_sized, byte_back, own_work, symbols}
pub use Rattle.second_half_laws.specs.Sharp.{GivesOrIsLost}
pub use Rattle.state_laws.specs.Sound.{IsLimit, IsSound}
pub use Rattle.stories.specs.Beside.{IsBeside, IsOldOrNew}
pub use Rattle.stories.specs.Files.{got_behind, IsGot, PutsFile}
pub use Rattle.stories.specs.Instances.{before_byte, before_text, behind_byte, byte_commands, byte_end, byte_front, byte_heard, byte_lines, byte_outcomes, byte_text, damaged_got, first_state, opening, other_byte, three_heard}
pub use Rattle.stories.specs.Replays.{audited_first, behind_cut, behind_listed, behind_mended, behind_packed, behind_swept, blocks_off, cut_commands, cut_end, cut_front, cut_lines, cut_outcomes, cut_steps, cut_text, damaged0, damaged2, dropped_behind, dropped_outcomes, four_given, got_cut, got_cut_outcomes, listed_commands, listed_end, listed_lines, listed_outcomes, listed_records, listed_text, lost0, lost2, mended_commands, mended_end, mended_heard, mended_lines, mended_outcomes, mended_text, packed_commands, packed_end, packed_front, packed_lines, packed_outcomes, packed_text, put_cut, put_cut_outcomes, put_lost, put_lost_outcomes, second_file, swept_commands, swept_end, swept_lines, swept_outcomes, swept_text, symbols_off, third, three_given}
pub use Rattle.stories.specs.Said.{SaysBefore, SaysBehind, SaysGot, SaysPut}
pub use Rattle.stories.specs.Told.{IsToldReplay, WasTold}
pub use Rattle.stories.specs.Upkeep.{AreSteps, IsUpkeep}
pub use Rattle.stories.specs.Went.{WentOn}
pub use Rattle.stories.specs.Words.{after_put, after_upgrade, AllTell, Answer, AnswersReplay, AnswersWords, AreLeft, AsksDamageOf, AsksForOneLine, AuditAll, byte, byte_records, call_from, called_behind, CarriesOut, Cells, continued, damaged, DamagesOnly, devices_of_seen, EachImage, empty_devices, empty_provider, Ended, Ending, ends_hearing, Entry, File, file_in, file_object, firm, four_records, GetEnds, GetOf, got_packed, heard_in, held_name, HoldsForgery, InitsDevices, InitsOn, IsFilling, IsForm, IsFree, IsFresh, IsLostByFaults, IsOfLines, IsReplayForm, IsSchedule, IsSpelled, IsStart, IsSteady, IsThen, IsToldAnswer, IsUntouched, LeavesFree, line, lines, lines_of, lines_of_all, list_before, longest_schedule, named, NoCountFalls, none_hold, NoneAsksOn, NoneCalls, NoneUnderWay, Numbers, Once, own_block, packed_kept, PackJournal, provider_at, PutUnder, reads, RepairAll, Replays, RunJob, ScrubAll, Seen, setup_in_effect, setup_of, setup_or_none, sinking, spoilt_below, StandsActive, StandsForState, start_of, Stored, TellAll, text, told_then, UpgradeJournal, Version, version_of, WritesOneLine}
unfoldable pub use Rattle.stories.specs.Words.{spelling}
