-- The words in which this crate is proved, passed on from one place. Declares nothing.
pub use Rattle.std.proofs.Common.{ap, append-nil, append_assoc, arith, Bool, drop, false, get_or, inl, inr, length-append, List, None, not, Option, refl, Some, subst, suc, sym, take, true, zero, ℕ, [], ◌%◌, ◌++◌, ◌+◌, ◌-◌, ◌/◌, ◌<◌, ◌^◌, ◌∙◌, ◌∷◌, ◌≡◌, ◌≢◌, ◌≤◌, ◌⊎◌}
pub use Rattle.std.proofs.lemmas.Bool.Decides.{nat_tests}
pub use Rattle.std.proofs.lemmas.List.{append_cancel_right}
pub use Rattle.std.specs.Fmt.{decimal, digit_glyph, digits_onto}
unfoldable pub use Rattle.std.specs.Fmt.{digits}
pub use Rattle.std.specs.List.{AllByRecursion, flat_map}
pub use Rattle.std.specs.Prelude.{codes, if◌then◌else◌, IsSome, nat_lt, ◌&&◌}
pub use Rattle.machine_defs.specs.Answers.{Answer, Audited, Dropped, Got, Lost, Packed, ProviderFault, Put, Repaired, Scrubbed, Upgraded}
pub use Rattle.machine_defs.specs.Events.{Alter, Begin, BeginAt, BeginPack, BeginScrub, Begun, Closed, Continue, Continued, Ended, Event, Init, Listed, Lose, More, Names, NothingHeld, Opened, Outcome, Ready, Refused, Reopen, Replaced, Step, Stop, Stopped, Waiting}
pub use Rattle.machine_defs.specs.Lines.{answer_text, file_line, hex, hex_digit, hex_or_dash, line, lines_of, refusal_text, then_number}
pub use Rattle.machine_defs.specs.Refusals.{Already, BadJournal, BadName, BadProfile, BadSetup, Busy, JournalFull, MustReopen, NewVersion, NoSuchJob, NoSuchName, NothingDue, NotSetUp, OldVersion, PackTooLong, Refusal, RepairDue, TooFewProviders, TooLong, TooManyFiles}
pub use Rattle.machine_defs.specs.Runs.{IsRun, Moment, now}
pub use Rattle.machine_defs.specs.States.{Alone, Append, Pack, Packing, Scrub, Scrubbing, State}
pub use Rattle.machine_defs.specs.Transcripts.{CarriesOut, Instruction, Once, RunJob}
pub use Rattle.record_defs.specs.Table.{File}
pub use Rattle.line_laws.specs.Read.{AskForOneLine, EndsAs, lines_of_all}
pub use Rattle.line_laws.specs.Told.{AsksForOneLine, HasNoNewline, IsOfLines, IsShortNumber, IsToldAnswer, IsToldByLine, IsToldRefusal, WritesOneLine}
