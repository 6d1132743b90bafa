-- The words in which this crate is proved, passed on from one place. Declares nothing.
pub use Rattle.std.proofs.Common.{ap, append_assoc, arith, Bool, cond, drop, false, get_or, inl, inr, length, length-append, length-drop, length-take, List, ltb, None, not, Option, refl, Some, subst, suc, sym, take, true, zero, ℕ, [], ◌%◌, ◌++◌, ◌+◌, ◌-◌, ◌/◌, ◌<◌, ◌^◌, ◌∙◌, ◌∷◌, ◌≡◌, ◌≢◌, ◌≤◌, ◌⊎◌}
pub use Rattle.std.proofs.lemmas.Bool.{cases_Bool, eq-eqb, eqb-true, lt-ltb, ltb-true}
pub use Rattle.std.proofs.lemmas.Bool.Decides.{nat_tests}
pub use Rattle.std.proofs.lemmas.Fmt.{decimal_by_steps_wide, decimal_is_IsNumeral_wide, IsAscii-from_digits}
pub use Rattle.std.proofs.lemmas.List.{get_or_append_left, map-append, take_all}
pub use Rattle.std.proofs.lemmas.Slice.Eq.{bytes_eq-Decides}
pub use Rattle.std.proofs.lemmas.Str.Parse.{digit_from_value, IsNumeralModel, numerals_by_value, tells_all_ascii_digits}
pub use Rattle.std.specs.Fmt.{decimal}
pub use Rattle.std.specs.List.{AllByRecursion, AllPass, filter, flat_map, list_all}
pub use Rattle.std.specs.Option.{option_map}
pub use Rattle.std.specs.Prelude.{codes, Err, IfErr, IfOk, IfSome, IsSome, IsTrue, MatchOption, MatchResult, Ok, Result, slice_index, ◌↔◌}
pub use Rattle.std.specs.Result.{is_ok, IsErrAnd}
pub use Rattle.std.specs.Str.{all_ascii_digits, bytes_eq, IsUtf8}
pub use Rattle.std.specs.Str.Parse.{AllDigits, digits_value}
pub use Rattle.algebra_laws.proofs.Options.{cond-cases}
pub use Rattle.command_defs.specs.Words.{IsNumberWord}
pub use Rattle.hex.proofs.HexLemmas.{decode_of-encode_lower, IsOk-decode_sized, length-encode_with}
pub use Rattle.hex.specs.Hex.{decode_of, decode_sized, encode_lower, is_hex_digit, lower_digits}
unfoldable pub use Rattle.hex.specs.Hex.{encode_with}
pub use Rattle.machine_defs.specs.Events.{Alter, Begin, BeginAt, BeginPack, BeginScrub, Continue, Init, Lose, Names, Reopen, Step, Stop}
pub use Rattle.machine_defs.specs.Jobs.{AuditJob, DropJob, GetJob, PutJob, RepairJob, UpgradeJob}
pub use Rattle.machine_defs.specs.Transcripts.{Instruction, Once, RunJob}
pub use Rattle.memchr.specs.Find.{Nowhere, Passes}
pub use Rattle.record_codec.proofs.Fields.{bind_some, done, some_is}
pub use Rattle.record_defs.specs.Records.{is_master, Setup}
pub use Rattle.schedule_text.specs.Answers.{IsCauseOf, lines_behind, without_return}
pub use Rattle.schedule_text.specs.Events.{commands_of, event_command, put_command}
pub use Rattle.schedule_text.specs.Grammar.{begun_piece, has_bytes, IsHex, IsKey, IsNumber, IsSkipped, pieces, SpellsCommand, Word, words}
pub use Rattle.schedule_text.specs.Reading.{bytes_in, FailsToRead, found_in, Gives, is_number_word, key_in, number_in, only_command, only_if, word_at}
unfoldable pub use Rattle.schedule_text.specs.Reading.{alter_at, apart_at, begin_at, begun_at, behind_at, bytes_at, drop_words_at, get_at, init_at, key_at, line_at, lose_at, number_word_at, numeral_at, profile_at, put_at, run_at, setup_words_at, step_at, stop_at}
pub use Rattle.schedule_text.specs.Schedules.{AreLines, IsFirstBadLine, IsLine, IsSchedule, lines, without_returns}
pub use Rattle.schedule_text.specs.Spelling.{CanBeSpelled, hex_of, IsInWord, IsName, schedule_bytes, spaced, words_of}
