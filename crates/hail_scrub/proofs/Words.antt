-- The words in which this crate is proved, passed on from one place. Declares nothing.
pub use Rattle.std.proofs.Common.{ap, append_assoc, arith, Bool, Bor, cond, drop, false, get_or, Global, IfSome, inl, inr, length, length-append, length-drop, length-set, length-take-le, List, map, None, Option, refl, replicate, Some, subst, suc, sym, take, true, Vec, vec_len, zero, zero-add, ℕ, [], ◌*◌, ◌++◌, ◌+◌, ◌-◌, ◌<◌, ◌==◌, ◌^◌, ◌∙◌, ◌∷◌, ◌≡◌, ◌≤◌, ◌⊎◌}
pub use Rattle.std.proofs.lemmas.Bool.{cases_Bool, cases_eq, eq-eqb, ne_eqb}
pub use Rattle.std.proofs.lemmas.List.{append-nil, drop_all, drop_more, length-map, map-set, take_more}
pub use Rattle.std.proofs.lemmas.List.Elements.{All-head, All-push, All-tail}
pub use Rattle.std.proofs.lemmas.Option.{slice_get-map, slice_get_read, slice_get_within}
pub use Rattle.std.specs.List.{All, flat_map, range_with_len}
pub use Rattle.std.specs.Option.{option_copied, option_map}
pub use Rattle.std.specs.Prelude.{if◌then◌else◌, option_and_then, slice_get, slice_index, slice_set, sum_by}
pub use Rattle.std.specs.Vec.{with_item}
pub use Rattle.algebra_laws.proofs.Lists.{drop-get, get-map_range, get-set_other, get-set_same, get_or-zeros}
pub use Rattle.code_defs.specs.Points.{upto}
pub use Rattle.column_codec.proofs.PresentLemmas.{length-present_blocks}
pub use Rattle.column_codec.specs.Bench.{bench_object, turned}
pub use Rattle.column_codec.specs.PresentBlocks.{present_blocks}
pub use Rattle.column_codec.specs.declared.bench.Bench.{Bench}
pub use Rattle.column_defs.specs.Columns.{column_of_symbols}
pub use Rattle.column_defs.specs.Objects.{Object, stripes}
pub use Rattle.column_defs.specs.Opened.{block_at, GivesSymbols, LosesRow, SeenBlock}
pub use Rattle.device_defs.specs.ProviderCalls.{FailsToStore, Fetches, FindsNoMemory, IsBlock, Stores}
pub use Rattle.device_defs.specs.Providers.{Provider}
pub use Rattle.file_layout.specs.declared.file.FileShape.{FileShape}
pub use Rattle.machine_defs.proofs.JobLists.{cond_false, cond_true}
pub use Rattle.machine_defs.specs.Actions.{Action, End, Fetch, on_each_stripe, open_actions, Store, Work}
pub use Rattle.machine_defs.specs.Alone.{alone_refusal, block_to_scrub, differs, new_scrub, off_by, opened_scrub, scrub_stores, scrubbed_object, Scrubs, StepsScrub, unalone}
pub use Rattle.machine_defs.specs.Events.{BeginScrub, Begun, Ended, More, Outcome, Step}
pub use Rattle.machine_defs.specs.Given.{block_given, blocks_given, pinned_profile, symbols_given}
pub use Rattle.machine_defs.specs.Jobs.{Given, Pinned, Worked}
pub use Rattle.machine_defs.specs.Machine.{Happens}
pub use Rattle.machine_defs.specs.Setups.{object_of, profiled, setup_or_none}
pub use Rattle.machine_defs.specs.States.{Alone, Scrub, Scrubbing, State, with_provider}
unfoldable pub use Rattle.machine_defs.specs.States.{setup_in}
pub use Rattle.opening_defs.specs.Opened.{AreHanded}
pub use Rattle.provider_model.specs.Seen.{provider_seen}
pub use Rattle.record_defs.specs.Records.{Record, Setup}
pub use Rattle.record_defs.specs.Table.{files_of, setup_of}
pub use Rattle.stripe_bench.proofs.Gifts.{gifts_give, gifts_more, present_more, worked_is}
pub use Rattle.stripe_bench.proofs.Sights.{called-only, fails_by, fetches_by, found_no_memory, if_given, no_memory_by, seen-at, stores_by, was_failed, was_stored}
pub use Rattle.stripe_bench.specs.Bench.{bench_kind, file_kind}
pub use Rattle.stripe_bench.specs.Blocks.{blocks_in, given_of, Grows, HasRoom}
pub use Rattle.stripe_bench.specs.Calls.{CallsOnly, provider_by}
pub use Rattle.stripe_bench.specs.Gifts.{fetched_gifts}
pub use Rattle.stripe_bench.specs.declared.blocks.Blocks.{Blocks}
pub use Rattle.hail_scrub.specs.Begins.{AreApart, AreFilesOf, HaveOneCount, held, IsFileOf, IsNewScrub}
pub use Rattle.hail_scrub.specs.Begun.{AreItems, file_actions, file_providers, IsFileAmong}
pub use Rattle.hail_scrub.specs.Progress.{bench_rows, CanRun, CursorIsAt, fetched_at, IsAmid, IsAtFirst, IsCursor, IsItem, IsProgress, IsSpot, item_object, phase_at, rows_of, scrub_view, size_in, StoresOnlyAt, TakesOpening}
pub use Rattle.hail_scrub.specs.Stands.{IsOver, IsStripeInWork, MakesScrubStep, scrub_answer, ScrubIs, ScrubStands}
pub use Rattle.hail_scrub.specs.Steps.{CallsAt, ComesTo, FetchesOne, GoesPast, IsOne, LosesOne, MakesNext, off_in, OpensOne, stores_in, StoresOne}
pub use Rattle.hail_scrub.specs.Todo.{fetches_from, item_actions, items_on, numbers_between, opening_of, past_stripe, store_of, stores_from, stripes_from, todo_at}
pub use Rattle.hail_scrub.specs.Views.{called_by, is_opening, most_steps, next_to_do, scrub_left, ScrubView, Stage, works_in}
pub use Rattle.hail_scrub.specs.declared.cursor.Cursor.{Cursor}
pub use Rattle.hail_scrub.specs.declared.cursor.Item.{Item}
pub use Rattle.hail_scrub.specs.declared.cursor.Spot.{Spot}
pub use Rattle.hail_scrub.specs.declared.progress.Progress.{Progress}
pub use Rattle.hail_scrub.specs.declared.turn.ScrubTurn.{ScrubTurn}
