-- The words in which this crate is proved, passed on from one place. Declares nothing.
pub use Rattle.std.proofs.Common.{ap, arith, Bool, codes, false, inl, inr, is_some, leb-true, length, List, None, not, Option, refl, Some, suc, sym, true, zero, ℕ, [], ◌&&◌, ◌++◌, ◌+◌, ◌<◌, ◌==◌, ◌^◌, ◌∙◌, ◌∷◌, ◌≡◌, ◌≢◌}
pub use Rattle.std.proofs.lemmas.Bool.{cases_Bool, eqb-true, false≢true}
pub use Rattle.made_runs.specs.Instructions.{AreFit, AreSweeps, AreTurns, Begins, begun_by, Comes, done, Fails, FitsBegin, FitsOne, Instruction, moment, Reopens, run_of, settled, stopped, Stops, sweep_run, Sweeps, Swept, Turned, Turns}
pub use Rattle.made_runs.specs.Steps.{acted, answer_from, block_from, called, can_act, can_go, can_run, can_step, fetched, gone, gone_on, is_at, is_ready, removed, stepped, stored, with_found, written}
pub use Rattle.made_runs.specs.Sweeps.{after_alone, after_todo, Brings, Finds, FitsAlone, FitsPack, FitsScrub, FitsSweep, FitsTodo, Mends, Opens, packed_on, scrubbed_on, Sweep, swept, swept_so, Tells}
pub use Rattle.made_runs.specs.Turns.{after, after_found, after_next, after_step, Came, can_fail, can_go_by, Cut, failed_at, faulted, fetch_failed, Fits, FitsFound, FitsNext, FitsStep, FitsTurn, Gives, gone_by, Heard, is_more, job_run, LosesOne, NoneCame, Notes, step_of, store_failed, StoreFails, told, Turn, turned, Works}
pub use Rattle.made_runs.specs.Words.{Action, Acts, ActsOrWaits, advanced, Alone, Append, Ask, asked_challenge, AskGives, barred, Begin, BeginAt, BeginPack, BeginScrub, Begun, begun_append, block_to_scrub, block_to_store, CarriesOut, DiskFault, done_append, Doubt, doubted, End, Ended, ended, Event, Fetch, FetchGives, GetJob, given_up, going_on, GoOn, Got, Happens, Held, holder_of, honest_answer, IsAt, IsRun, Job, job_of, Kind, lines_of, LosesPart, Lost, Moment, More, moved, next_action, now, opened_scrub, Outcome, Pack, Packed, Packing, Packs, Provider, ProviderFault, Put, PutJob, Record, record_of, Remove, reread, Scrub, Scrubbed, Scrubbing, scrubbing, Scrubs, set_up, Settles, State, Step, Steps, StepsAlone, StepsJob, StepsMine, StepsOn, StepsOne, StepsOpen, StepsScrub, Stop, Stopped, Store, SyncBody, SyncGate, with_provider, Work, worked_object, WriteBody, WriteGate, Writes, writes_counts}
unfoldable pub use Rattle.made_runs.specs.Words.{actions_of, setup_in}
