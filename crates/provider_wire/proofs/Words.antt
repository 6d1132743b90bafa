-- The words in which this crate is proved, passed on from one place. Declares nothing.
pub use Rattle.std.proofs.Common.{add-one, ap, append_assoc, arith, Bool, cond, drop, eq-eqb, eqb, false, Fits, get_or, inl, inr, is_some, le_of_suc-le-suc, le_trans, length, length-append, length-drop, length-take, List, mul-le-mul_right, pow-suc, refl, replicate, rules, set, subst, suc, sym, take, take-append-drop, true, zero, ℕ, [], ⊎_elim, ◌*◌, ◌++◌, ◌+◌, ◌-◌, ◌<◌, ◌^◌, ◌↔◌, ◌∙◌, ◌∷◌, ◌≡◌, ◌≢◌, ◌≤◌, ◌⊎◌}
pub use Rattle.std.proofs.Math.Seq.{drop-cons, take-add, take-append-add, take-suc, take-take}
pub use Rattle.std.proofs.lemmas.Bool.{and_from, and_parts, cases_lt, eqb-true, le-ltb, lt-ltb, ltb-false, or_parts}
pub use Rattle.std.proofs.lemmas.Bool.Decides.{nat_tests}
pub use Rattle.std.proofs.lemmas.List.{append-nil, drop-append-le, drop-drop, drop-take, drop_at, get_or-append_right, get_or_append_left, length-replicate, length-take-le, take-append-le, take_all, take_at, take_more_set, take_rest, with_items_is}
pub use Rattle.std.proofs.lemmas.List.Folds.{list_all-append}
pub use Rattle.std.specs.Int.{byte_len, byte_worth, from_le_bytes, sum_through, to_le_bytes, w128, w32, w64, Width}
pub use Rattle.std.specs.List.{list_all}
pub use Rattle.std.specs.Option.{option_eq, option_map}
pub use Rattle.std.specs.Prelude.{All, IfErr, IfNone, IfSome, if◌then◌else◌, IsErr, IsErrOf, IsSome, IsTrue, nat_lt, not, ◌&&◌, ◌==◌, ◌||◌}
pub use Rattle.algebra_laws.proofs.Lists.{take-put_mid_behind}
pub use Rattle.algebra_laws.proofs.Options.{cond-cases, is_some-option_map}
pub use Rattle.challenge.specs.Asked.{asked}
pub use Rattle.column_defs.proofs.SymbolBytes.{bytes_of_symbols-more, bytes_of_symbols-push, length-bytes_of_symbols, length-symbol}
pub use Rattle.column_defs.specs.Challenges.{Challenge, honest_answer}
pub use Rattle.column_defs.specs.Objects.{bytes_of_symbols}
pub use Rattle.device_defs.proofs.Lasting.{is_some-goes, rose-before, told_then-nothing}
pub use Rattle.device_defs.specs.Faults.{HasCause, last_count, one_more, Rose}
pub use Rattle.device_defs.specs.ProviderCalls.{AskGives, FailsToRemove, FailsToStore, FetchGives, FindsNoMemory, RemovesAll, Stores}
pub use Rattle.device_defs.specs.Providers.{HasSize, Held, LosesPart, Provider, sized, with_block, without_object}
pub use Rattle.device_defs.specs.Told.{Goes, IsByte, TakesFront, then_told, told_then}
pub use Rattle.provider_model.specs.Seen.{provider_seen}
pub use Rattle.record_codec.proofs.Fields.{bind_some, IsBytes, IsBytes-drop, IsBytes-rest, IsBytes-take, IsWide, number_again, number_takes, passed, some_is, stopped, Takes, Takes-then, wide32, wide64}
pub use Rattle.record_codec.specs.Reading.{number_at, ◌>>=◌}
pub use Rattle.stream_model.proofs.ToldLemmas.{told_then-append}
pub use Rattle.stream_model.specs.declared.fault.WriteFault.{WriteFault}
pub use Rattle.wire_defs.specs.Links.{Behind, provider_behind, Receives, Sends}
pub use Rattle.wire_defs.specs.Replies.{AnswersIn, AnswersRequest, AreClean, AsksAs, Done, Failed, failed_count, FailsToAnswer, FailsToFetch, FetchesAs, Found, found, held_after, is_failed, Missing, NoMemory, replies_text, Reply, reply_bytes, reply_to, served, Serves}
pub use Rattle.wire_defs.specs.Requests.{AreFrames, Ask, block_bytes, challenge_bytes, Fetch, is_bad_request, is_block, is_challenge, is_request, is_within, misses, number_misses, place_bytes, Remove, Request, requests_text, SpellsNoRequest, SpellsRequest, Store}
unfoldable pub use Rattle.wire_defs.specs.Requests.{request_bytes}
pub use Rattle.wire_defs.specs.Serving.{BadAt, End, EndsOf, Finished, HasServed, IsAtEnd, IsOfBytes, most_bytes, OutOfMemory, ServesAll, ServesPart, SinkFailed, SourceFailed, TooMany, within_limit, WritesPart}
pub use Rattle.provider_wire.specs.Asking.{request_of}
pub use Rattle.provider_wire.specs.Ends.{end_after, end_of}
pub use Rattle.provider_wire.specs.Linked.{answer_size, AskedFor, first_byte_of, out_of_step, seen_behind, tail_of}
unfoldable pub use Rattle.provider_wire.specs.Reading.{ask_at, block_read_at, challenge_read_at, fetch_at, remove_at, request_at, rows_at, seed_at, store_at, symbols_read, within_at}
pub use Rattle.provider_wire.specs.declared.end.ServeEnd.{ServeEnd}
