-- The words in which this crate is proved, passed on from one place. Declares nothing.
pub use Rattle.code_defs.specs.Points.{upto}
pub use Rattle.column_defs.specs.Columns.{columns}
pub use Rattle.command_defs.specs.Commands.{Answers, AnswersAlone, AnswersPut}
pub use Rattle.command_defs.specs.Forms.{PackJournal}
pub use Rattle.command_defs.specs.GivenUp.{PartRan, PartRuns}
pub use Rattle.command_defs.specs.JobRuns.{AreSteps, GoesOnTo}
pub use Rattle.command_defs.specs.Jobs.{AnswersJob, EndsByAnswer, IsNext, IsNextRecord, RanAlone, RunsAlone, SameAround, SameOutside, outside}
pub use Rattle.command_defs.specs.Lines.{pack_text, text_of}
pub use Rattle.command_defs.specs.Opens.{IsOpened, setup_in_effect}
pub use Rattle.command_defs.specs.Packs.{AnswersPack, PacksAlone, RanPack}
pub use Rattle.code_defs.specs.Profiles.{is_unknown}
pub use Rattle.command_defs.specs.Refusals.{pack_refusal_over, refusal_over}
pub use Rattle.command_defs.specs.Scrubs.{RanScrub, ScrubsAlone}
pub use Rattle.command_defs.specs.Seen.{Ending, SameSource, Seen, provider_at}
pub use Rattle.device_defs.specs.Cells.{Cells}
pub use Rattle.device_defs.specs.Images.{EachImage}
pub use Rattle.device_defs.specs.Providers.{Provider}
pub use Rattle.device_defs.specs.Told.{then_told}
pub use Rattle.lone_laws.specs.Walked.{MayName}
pub use Rattle.machine_defs.specs.Actions.{Action, End, Store, append_actions, on_each_provider}
unfoldable pub use Rattle.machine_defs.specs.Actions.{actions_of}
pub use Rattle.machine_defs.specs.Alone.{new_pack, new_scrub}
pub use Rattle.machine_defs.specs.Answers.{Answer}
pub use Rattle.machine_defs.specs.Begins.{beginning}
pub use Rattle.machine_defs.specs.Events.{Ended, IsSpelledKind, More, Step}
pub use Rattle.machine_defs.specs.Heard.{Entry}
pub use Rattle.machine_defs.specs.Jobs.{Job, Kind, PutJob, job_of}
pub use Rattle.machine_defs.specs.Machine.{Happens}
pub use Rattle.machine_defs.specs.Runs.{Moment, now}
pub use Rattle.machine_defs.specs.Setups.{object_of, stripes_of}
pub use Rattle.machine_defs.specs.Stands.{StandsForState, StandsPlain, StandsSwitched, StandsWithDoubt}
pub use Rattle.machine_defs.specs.States.{Doubt, Packing, Scrubbing, State, with_provider}
unfoldable pub use Rattle.machine_defs.specs.States.{setup_in}
pub use Rattle.made_runs.specs.Instructions.{sweep_run, with_alone, with_new}
pub use Rattle.made_runs.specs.Steps.{can_go, can_step, gone, stepped, stored}
pub use Rattle.made_runs.specs.Sweeps.{FitsSweep, Sweep, swept, swept_so}
pub use Rattle.made_runs.specs.Turns.{AreFitTurns, Cut, FitsStep, FitsTurn, Gives, Goes, LosesOne, StoreFails, Turn, after_step, can_go_by, gone_by, is_more, job_run, told, turned}
pub use Rattle.opening_defs.specs.Opened.{AreHanded, IsJustOpened, IsOpenAtRest}
pub use Rattle.record_defs.specs.Areas.{A, Area, StandsActive}
pub use Rattle.record_defs.specs.Records.{PutStart, Record, SetUp, Setup, largest_file}
pub use Rattle.record_defs.specs.Table.{File, file_of}
pub use Rattle.turn_laws.specs.Turned.{GoesSo, Left, MayBegin, a_named, after_turns, at_end, each, given_stripes, left_by, over, placed, plain_setup, seen_as, spelled, starting, with_doubt}
