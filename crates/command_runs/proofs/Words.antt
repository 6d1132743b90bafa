-- The words in which this crate is proved, passed on from one place. Declares nothing.
pub use Rattle.std.proofs.Common.{ap, append-nil, arith, Bool, drop, eq-eqb, false, flat_map, if◌then◌else◌, inl, inr, is_some, length, length-append, List, map, ne_eqb, None, not, Option, option_map, refl, replicate, reverse, Some, subst, suc, sym, take, true, true≢false, unwrap_or, zero, ℕ, [], ◌&&◌, ◌++◌, ◌+◌, ◌<◌, ◌==◌, ◌^◌, ◌∙◌, ◌∷◌, ◌≡◌, ◌≢◌, ◌≤◌, ◌⊎◌}
pub use Rattle.std.proofs.lemmas.List.{drop_at, length-replicate, length-take-le, take-append-drop, take-append-le}
pub use Rattle.column_laws.proofs.Worked.{column-right, example-shape, none-lose}
pub use Rattle.command_laws.proofs.Chains.{first-begins}
pub use Rattle.command_laws.proofs.Samples.{never-rises, pack-refused, quiet, refused, same-disk}
pub use Rattle.damage_run.proofs.Values.{all_open, altered_is, judged, no_answer, right, same_first, shown, sums, thing, whole, without_two_give, without_zero_give}
pub use Rattle.made_runs.specs.Instructions.{with_alone, with_new}
pub use Rattle.record_defs.specs.Examples.{four as setup}
pub use Rattle.second_half_laws.proofs.ByteSteps.{block_sized, byte_back, own_work, symbols}
pub use Rattle.turn_laws.proofs.Shape.{always, bytes_at-same, file-long}
pub use Rattle.turn_laws.proofs.Turned.{alone-so, behind, ends-by, next, put-ends, put-so, PutRun, ran-over}
pub use Rattle.turn_laws.specs.Turned.{after_turns, GoesSo, seen_as, spelled}
pub use Rattle.command_runs.specs.Devices.{all_hidden, all_hold, all_lost, altered_block, answers_heard, audit_cut, blocks_off, both_records, byte_audited, byte_audited_records, byte_kept, byte_own_records, byte_records, byte_repaired_records, byte_stored, byte_upgraded, byte_upgraded_records, damaged, disk_failed, drop_cut, dropped, dropped_records, due, due_lost, ends_at, ends_hearing, failed_store, found_lost, four_records, got, got_later, hidden_fetched, holds, later_heard, mended, named, no_blocks, none_hold, own_block, own_blocks_heard, put_cut, put_failed, put_gone, put_torn, put_unmade, repair_cut, repair_failed, repair_lost, repaired, robbed_later, scrub_failed, scrubbed, seen_after_drop, started_records, stored_other, stored_own, symbols_off, to_put, to_put_other, to_put_own, two_damaged, upgrade_cut, upgraded_kept}
pub use Rattle.command_runs.specs.GivenUp.{first_stripe, holds_stripes, long, longest_part, put_given_up, put_too_long, sevens, storing, to_put_source}
pub use Rattle.command_runs.specs.Packed.{fetched_hold, get_packed, got_packed, in_second, IsFilling, named_second, pack_call, packed_kept, packed_records, packed_store, second_text}
pub use Rattle.command_runs.specs.Words.{Accepts, AcceptsNone, Answer, Answers, AnswersInit, AnswersJob, AnswersList, AnswersPut, AnswersScrub, Area, AreAppended, AreBytes, AreFitTurns, audit_records, AuditAll, AuditDone, Audited, AuditJob, AuditStart, B, before_gate, byte, called, Came, Cells, columns, Command, counts, Cut, DiskFault, Drop, DropJob, DropOf, Dropped, EachImage, empty_provider, End, Ended, Ending, ends, EndsByAnswer, entries, Entry, Fetched, File, file_of, firm, Follows, four, GetJob, Gives, GivesUpPut, Goes, Got, HasGrown, HasNoFront, HasRightFile, Heard, InitsDisk, is_flagged, is_unknown, is_wrong_at, is_wrong_block, IsChain, IsImage, IsJustOpened, IsKeyForm, IsOpened, IsRefused, IsRun, IsSpelledKind, IsSteady, IsStore, IsSure, IsSwitched, IsUntouched, journal_read, key_text, Kind, largest_file, ListAll, LosesOne, Lost, magic, Memory, Notes, now, object_of, other_name, Packed, PackJournal, PartRuns, profile_named, Provider, provider_at, ProviderFault, Put, put_of, put_records, put_stripe, PutAt, PutDone, PutJob, PutStart, PutUnder, ReadsWhole, Record, Refusal, refusal_over, RepairDone, Repaired, RepairJob, Rose, RunsAlone, RunsKind, SameSource, scrub_text, ScrubAll, Scrubbed, Scrubbing, ScrubsAlone, Seen, setup_in_effect, StandsActive, State, status_of, Stopped, StopsReading, Store, StoreFails, stripes_of, synced, text, text_of, told, TouchesSink, Turn, Unstarted, Upgraded, UpgradeJob, UpgradeJournal, upto, values_at, values_line, Version, with_sink, Works}
unfoldable pub use Rattle.command_runs.specs.Words.{actions_of, column_of_symbols, is_wrong, setup_in, spelling}
