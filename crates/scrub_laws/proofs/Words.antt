-- The words in which this crate is proved, passed on from one place. Declares nothing.
pub use Rattle.std.proofs.Common.{All, ap, arith, Bool, cond, Contains, false, inl, inr, length, length-append, List, map, None, Option, refl, Some, subst, suc, sum_by, sym, true, zero, ℕ, [], ◌&&◌, ◌++◌, ◌+◌, ◌<◌, ◌==◌, ◌||◌, ◌∙◌, ◌∷◌, ◌≡◌, ◌≤◌, ◌⊎◌}
pub use Rattle.std.proofs.lemmas.Bool.{and_parts, cases_Bool, cases_eq, eq-eqb, eqb-true}
pub use Rattle.std.proofs.lemmas.List.{append-nil, append_assoc, map-append}
pub use Rattle.std.proofs.lemmas.List.Sums.{sum_by-cons, sum_by_push}
pub use Rattle.std.specs.List.{flat_map, range_with_len}
pub use Rattle.std.specs.Option.{option_map}
pub use Rattle.std.specs.Prelude.{IfSome, if◌then◌else◌, is_some, nat_lt}
pub use Rattle.algebra_laws.proofs.Each.{each_append, each_flat, each_map, each_middle, each_mono, in_contains, in_left, in_right}
pub use Rattle.algebra_laws.specs.Lists.{Each, In}
pub use Rattle.code_defs.specs.Points.{upto}
pub use Rattle.column_defs.specs.Columns.{column_of_symbols}
pub use Rattle.column_defs.specs.Objects.{Object}
pub use Rattle.column_defs.specs.Opened.{GivesSymbols, LosesRow}
pub use Rattle.command_defs.specs.JobRuns.{AreSteps, GoesOnTo}
pub use Rattle.command_defs.specs.Ran.{EachHeldGoes, object_numbered, Ran, ran_alone, ran_from}
pub use Rattle.command_defs.specs.Repairs.{blocks_at, Gave, GivesPlace, held_at, IfFlagged, IsTruth, LosesAtPlace, PartlyRewrittenOn, Place, places, RewritesPart, RewritesSome, RewrittenOn}
pub use Rattle.command_defs.specs.Scrubs.{everyone, RanScrub, RunsScrub, ScrubbedAlone, ScrubGives, ScrubLeaves, ScrubsAlone, SweepsAll}
pub use Rattle.device_defs.specs.ProviderCalls.{Fetches, StoreCounts, Stores}
pub use Rattle.device_defs.specs.Providers.{Held, Provider, sized}
pub use Rattle.job_laws.proofs.PlaceFacts.{FetchesAll, gives-places, IsStoreOf, lacks-places, no-stores, opens-fetches, OpensAll, stores-wider, told-places}
pub use Rattle.job_laws.proofs.Places.{actions_at, all-apart, AreApart, fetches_at, IsElse, ordered-places, repairs-places}
pub use Rattle.job_laws.proofs.Providers.{Called, called-below, calls-at, each-upto, IsBelow, made-keeps, Rises, rises-more, rises-same}
pub use Rattle.job_laws.proofs.Questions.{all-each, each-front, each-parts, held-sizes}
pub use Rattle.job_laws.proofs.Rewritten.{after, after-either, after-none, after-some, AreOrdered, column_at, IsBefore, IsNoneOf, IsRepairing, made-told, Told, works-opened}
pub use Rattle.job_laws.proofs.Truth.{made-rises}
pub use Rattle.lone_laws.specs.Made.{CallsOne, Did, Made, object_made, With}
pub use Rattle.machine_defs.proofs.Given.{differs-none, symbols_given-newest}
pub use Rattle.machine_defs.proofs.JobLists.{cond_false, cond_true}
pub use Rattle.machine_defs.specs.Actions.{Action, Ask, End, Fetch, on_each_stripe, open_actions, Remove, rewrite_actions, Store, SyncBody, SyncGate, Work, WriteBody, WriteGate}
pub use Rattle.machine_defs.specs.Alone.{alone_refusal, block_to_scrub, differs, new_scrub, off_by, opened_scrub, scrub_actions, scrub_stores, scrubbed_object, Scrubs, StepsScrub}
pub use Rattle.machine_defs.specs.Answers.{Answer}
pub use Rattle.machine_defs.specs.Events.{Ended, More, Outcome, Step}
pub use Rattle.machine_defs.specs.Given.{block_given, blocks_given, pinned_profile, symbols_given}
pub use Rattle.machine_defs.specs.Jobs.{Fetched, Given, Job, Pinned, RepairJob, Worked}
pub use Rattle.machine_defs.specs.Machine.{Happens}
pub use Rattle.machine_defs.specs.Runs.{Moment, now}
pub use Rattle.machine_defs.specs.States.{Alone, Doubt, Scrub, Scrubbing, State, with_provider}
unfoldable pub use Rattle.machine_defs.specs.States.{setup_in}
pub use Rattle.opening_defs.specs.Opened.{IsJustOpened, IsOpenAtRest}
pub use Rattle.record_defs.specs.Records.{Record, Setup}
