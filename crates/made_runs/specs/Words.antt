-- The words of the machine in which its steps are told, passed on from one place. Declares nothing.
pub use Rattle.record_defs.specs.Records.{PutDone, Record}
pub use Rattle.record_defs.specs.Table.{setup_of}
pub use Rattle.column_defs.specs.Challenges.{honest_answer}
pub use Rattle.column_defs.specs.Opened.{GivesSymbols, LosesRow}
pub use Rattle.device_defs.specs.Faults.{one_more}
pub use Rattle.device_defs.specs.ProviderCalls.{AskGives, FetchGives}
pub use Rattle.device_defs.specs.Providers.{Held, LosesPart, Provider, sized, with_block, without_object}
pub use Rattle.machine_defs.specs.Actions.{Action, Ask, End, Fetch, Remove, Store, SyncBody, SyncGate, Work, WriteBody, WriteGate}
unfoldable pub use Rattle.machine_defs.specs.Actions.{actions_of}
pub use Rattle.machine_defs.specs.Alone.{Packs, Scrubs, StepsAlone, StepsScrub, alone_refusal, block_to_scrub, new_pack, new_scrub, opened_scrub, pack_refusal, packing, scrub_stores, scrubbed_object, scrubbing, switched, switching, unalone}
pub use Rattle.machine_defs.specs.Answers.{Answer, DiskFault, Got, Lost, Packed, ProviderFault, Put, Scrubbed}
pub use Rattle.machine_defs.specs.Appends.{IsAt, Moves, Writes, barred, begun_append, done_append, doubted, moved, record_of, writes_counts}
pub use Rattle.machine_defs.specs.Audits.{asked_challenge}
pub use Rattle.machine_defs.specs.Events.{Begin, BeginAt, BeginPack, BeginScrub, Begun, Ended, Event, IsSpelled, More, Opened, Outcome, Reopen, Step, Stop, Stopped}
pub use Rattle.machine_defs.specs.Examples.{set_up}
pub use Rattle.machine_defs.specs.Given.{blocks_given}
pub use Rattle.machine_defs.specs.Jobs.{Answered, Fetched, GetJob, Job, Kind, PutJob, Worked, advanced, advanced_with, job_of}
pub use Rattle.machine_defs.specs.Lines.{lines_of}
pub use Rattle.machine_defs.specs.Machine.{Happens}
pub use Rattle.machine_defs.specs.Openings.{reread}
pub use Rattle.machine_defs.specs.Runs.{IsRun, Moment, now}
pub use Rattle.machine_defs.specs.States.{Alone, Append, Doubt, Pack, Packing, Scrub, Scrubbing, Settles, State, brought, ended, file_in, given_up, going_on, with_provider, worked_object}
unfoldable pub use Rattle.machine_defs.specs.States.{setup_in}
pub use Rattle.machine_defs.specs.Steps.{Acts, ActsOrWaits, Ends, Steps, StepsJob, StepsMine, StepsOn, StepsOne, StepsOpen, block_to_store, holder_of, next_action}
pub use Rattle.machine_defs.specs.Transcripts.{CarriesOut, GoOn, Once, RunJob}
