-- How a put ends whose vault was opened.
use Rattle.hail_top.proofs.Words.{◌≡◌, ℕ, true, false, List, [], length, refl, ap, sym, ◌∙◌, subst, inl, inr, IfSome, option_map, synced, Rose, Record, Area, Answer, Entry, PutJob, Seen, Ending, KeepsDisk, IsSynced, sinking, setup_in_effect, IsOpened, ran_alone, is_unknown, status_of, RunsAlone, LeftAlone, AnswersPut, begun, bad_profile, given_up, BeginFault, refusal_of, Devices, Ended, machine_answer, Unbegun, IsSeenBefore, IsRefusedOver, ending_with, unbegun_ending, TellsPut, TellsStreamed, PutsOver, resynced}
use Rattle.std.proofs.Common.{Option}
use Rattle.command_defs.specs.Puts.{MayHaveEnd}
use Rattle.command_defs.specs.Jobs as jobs
use Rattle.command_defs.specs.GivenUp.{put_stripe, StopsFor, StopsReading}
use Rattle.command_defs.specs.Commands.{source_fault, no_memory}
use Rattle.command_jobs.specs.declared.stream.Streamed.{Streamed}
use Rattle.command_jobs.specs.declared.stream.Streamed.TheVariants as streamed
use Rattle.command_jobs.specs.declared.stream.Unbegun.TheVariants as unbegun
use Rattle.command_jobs.specs.Streams.{PutEnds, PutStops, StreamsOver, IsRefusedRead, IsUnbegunOver}
use Rattle.hail_top.proofs.AnswerTexts.{answer-ends}
use Rattle.hail_top.proofs.Refused.{refused-told}
use Rattle.hail_top.proofs.JobEnds.{untouched}

-- there is no profile of the number that the put names
pub unknown-put : (name : List ℕ) (own : Option ℕ) (records : List Record) (old new : Seen) (d : Devices)
    (end : Ending) (count : ℕ) (left : Option (List ℕ)) → old.source_faults ≡ count → old.source ≡ left →
    new.source_faults ≡ count → new.source ≡ left → is_unknown own ≡ true
    → IsOpened old records → IsSeenBefore old d → d.holds ≡ option_map synced old.disk →
    end ≡ ending_with 20 0 → new.disk ≡ d.holds → new.disk_faults ≡ d.faults → new.providers ≡ d.providers →
    new.sink ≡ old.sink → PutsOver name own old new end
unknown-put name own records old new d end count left was_count was_left is_count is_left unknown opened before was_synced is disk faults providers silent =
    (let synced_here : IsSynced old new = disk ∙ was_synced in
    record {
      answers = bad_profile records opened unknown synced_here (
        is_left ∙ sym was_left,
        is_count ∙
            sym was_count,
      ) (refused-told 20 0 old new end is (resynced old.disk new.disk synced_here)
          (providers ∙ sym before.providers) silent (λ e. faults ∙ before.faults));
      counts = untouched old new d before faults providers;
    })

-- the put did not begin
pub unbegun-put : (name : List ℕ) (own : Option ℕ) (records : List Record) (old new : Seen) (d : Devices)
    (end : Ending) (why : Unbegun) (count : ℕ) (left : Option (List ℕ)) → old.source_faults ≡ count →
    old.source ≡ left → (opened : IsOpened old records) →
    IsUnbegunOver opened.area records name own why left new.source → is_unknown own ≡ false → IsSeenBefore old d → d.holds ≡ option_map synced old.disk →
    end ≡ unbegun_ending why → (why ≡ unbegun.SourceFault → Rose count new.source_faults) →
    new.disk ≡ d.holds → new.disk_faults ≡ d.faults → new.providers ≡ d.providers → new.sink ≡ old.sink →
    PutsOver name own old new end
unbegun-put name own records old new d end why count left is_count is_left opened over known before was_synced is rose disk faults providers silent =
    record {
      answers = by_cause why is rose
          (subst (λ (told : Option (List ℕ)). IsUnbegunOver opened.area records name own why told new.source) (sym is_left)
          over);
      counts = untouched old new d before faults providers;
    }
  where
    synced_here : IsSynced old new
    synced_here = disk ∙ was_synced

    kept : KeepsDisk old new
    kept = resynced old.disk new.disk synced_here

    same_providers : new.providers ≡ old.providers
    same_providers = providers ∙ sym before.providers

    by_refusal : (why : BeginFault) → end ≡ ending_with (status_of (refusal_of why)) 0 →
        IsRefusedRead opened.area records name own why old.source new.source → AnswersPut name own old new end
    by_refusal why is r = on r.refused
      where
        on : IsRefusedOver opened.area records (PutJob name r.bytes) own why → AnswersPut name own old new end
        on (inl memory) = begun records r.bytes opened known r.reads r.few
            (jobs.no_memory synced_here (refused-told 70 0 old new end
            (is ∙ ap (λ (w : BeginFault). ending_with (status_of (refusal_of w)) 0) memory) kept
            same_providers silent (λ e. faults ∙ before.faults))) (λ m. absurd m) (λ b. r.one)
        on (inr some) = begun records r.bytes opened known r.reads r.few
            (jobs.refused (refusal_of why) some synced_here
            (refused-told (status_of (refusal_of why)) 0 old new end is kept same_providers silent (λ e. faults ∙ before.faults)))
            (λ m. absurd m) (λ b. r.one)

    by_cause : (why : Unbegun) → end ≡ unbegun_ending why →
        (why ≡ unbegun.SourceFault → Rose count new.source_faults) →
        IsUnbegunOver opened.area records name own why old.source new.source → AnswersPut name own old new end
    by_cause unbegun.SourceFault is rose taken = source_fault records opened known
        (subst (λ (n : ℕ). Rose n new.source_faults) (sym is_count) (rose refl)) synced_here taken
        (refused-told 14 0 old new end is kept same_providers silent (λ e. faults ∙ before.faults))
    by_cause unbegun.Memory is rose taken =
        no_memory taken (refused-told 70 0 old new end is kept same_providers silent (λ e. faults ∙ before.faults))
    by_cause (unbegun.Refused why) is rose r = by_refusal why is r

-- how the job of a put ended, and what of its source was read
record EndedPut (name bytes : List ℕ) (own : Option ℕ) (area : Area) (records : List Record) (answer : Answer)
    (old new : Seen) (heard : List Entry) : Type 0 where
  runs : RunsAlone area records (PutJob name bytes) own answer old new heard
  left : LeftAlone area records (PutJob name bytes) own answer old new heard
  whole : MayHaveEnd records left.after left.doubt name (length bytes) own
      → IfSome new.source (λ left. left ≡ [])

-- the put ran to its end, and that was told
ended-put : (name : List ℕ) (own : Option ℕ) (records : List Record) (old new : Seen) (end : Ending)
    (ended : Ended) (read : ℕ) → (opened : IsOpened old records) → is_unknown own ≡ false →
    PutEnds opened.area records name own ended read old new → TellsPut name ended read end (sinking old new) →
    PutsOver name own old new end
ended-put name own records old new end ended read opened known P T = record {
  answers = begun records P.bytes opened known P.reads P.few
      (jobs.ended (machine_answer ended.answer) P.over.unrefused here.runs here.left
      (answer-ends (ran_alone records old new end.heard here.left.faults here.left.after here.left.doubt)
      T.subject (setup_in_effect records).tolerance (machine_answer ended.answer) (PutJob name P.bytes) own
      old new end here.left.leaves.by_kind (T.name_is, T.length_is ∙ sym P.read_is) T.told))
      here.whole (λ b. absurd b);
  counts = P.over.counts;
}
  where
    here : EndedPut name P.bytes own opened.area records (machine_answer ended.answer) old new end.heard
    here = subst (λ (entries : List Entry). EndedPut name P.bytes own opened.area records
        (machine_answer ended.answer) old new entries) (sym T.heard)
        (record { runs = P.over.runs; left = P.over.left; whole = P.whole })

-- the put was given up, and that was told
stopped-put : (name : List ℕ) (own : Option ℕ) (records : List Record) (old new : Seen) (end : Ending)
    (status : ℕ) (stops : ℕ → Type 0) → (opened : IsOpened old records) → is_unknown own ≡ false →
    ((count : ℕ) → stops count → StopsFor count old new (ending_with status 0)) →
    PutStops opened.area records name own old new stops → end ≡ ending_with status 0 → new.sink ≡ old.sink →
    PutsOver name own old new end
stopped-put name own records old new end status stops opened known shows S is silent = record {
  answers = given_up records S.bytes opened known S.unrefused
      (subst (λ (e : Ending). StopsReading (put_stripe records own) S.bytes old new e) (sym is) (record {
        read = S.read;
        are_bytes = S.reads.are_bytes;
        front = S.reads.front;
        stripes = S.stripes;
        bytes_are = S.bytes_are;
        whole = S.whole;
        rest = S.rest;
        cause = shows (length S.read) S.cause;
        place = refl;
        heard = refl;
        sink = silent;
      })) S.runs S.left;
  counts = S.counts;
}

-- how a put ended was told
pub streamed-put : (name : List ℕ) (own : Option ℕ) (records : List Record) (old new : Seen) (end : Ending)
    (how : Streamed) (written : Option (List ℕ)) (count : ℕ) → old.sink ≡ written → old.sink_faults ≡ count →
    (opened : IsOpened old records) → is_unknown own ≡ false →
    StreamsOver opened.area records name own how old new →
    TellsStreamed name how end
    (record { old = written; new = new.sink; before = count; now = new.sink_faults }) →
    PutsOver name own old new end
streamed-put name own records old new end how written count is_written is_count opened known over told =
    by_end how over (subst (λ (n : ℕ). TellsStreamed name how end
    (record { old = old.sink; new = new.sink; before = n; now = new.sink_faults })) (sym is_count)
    (subst (λ (w : Option (List ℕ)). TellsStreamed name how end
    (record { old = w; new = new.sink; before = count; now = new.sink_faults })) (sym is_written) told))
  where
    by_end : (how : Streamed) → StreamsOver opened.area records name own how old new →
        TellsStreamed name how end (sinking old new) → PutsOver name own old new end
    by_end (streamed.Ended ended read) over told =
        ended-put name own records old new end ended read opened known over told
    by_end streamed.SourceFault over told =
        stopped-put name own records old new end 14 _ opened known (λ n c. inl (refl, c.0, c.1)) over told.0 told.1
    by_end streamed.TooLong over told =
        stopped-put name own records old new end 16 _ opened known (λ n c. inr (refl, c)) over told.0 told.1
