-- A server of whole requests ends well; and one that serves a removal.
use Rattle.std.proofs.Common.{◌≡◌, ◌⊎◌, ℕ, zero, suc, ◌<◌, ◌≤◌, List, [], ◌∷◌, length, Option, Some, refl, sym, ap, subst, ◌∙◌, inl, inr, arith}
use Rattle.std.proofs.lemmas.List.{append-nil}
use Rattle.device_defs.specs.Faults.{Rose, HasCause}
use Rattle.device_defs.specs.Providers.{Held, Provider}
use Rattle.command_defs.specs.Seen.{Seen, Ending, provider_at}
use Rattle.wire_defs.specs.Requests.{Request, Remove, AreFrames, requests_text}
use Rattle.wire_defs.specs.Replies.{Done, Serves}
use Rattle.wire_defs.specs.Serving.{End, Finished, BadAt, TooMany, SourceFailed, SinkFailed, OutOfMemory, HasServed, IsOfBytes, EndsOf, most_bytes}
use Rattle.provider_server.specs.Answers.{served_status, AnswersServe}
use Rattle.provider_server.specs.Examples.{removal, before_removal, behind_removal}

module _ (of_all : (bytes : List ℕ) (end : End) (left was now : Option (List ℕ)) (old new : Provider)
    (served : HasServed end (Some bytes) left old new was now) → IsOfBytes end
    → EndsOf bytes end served.requests)
    (one_end : (bytes : List ℕ) (end other : End) (requests others : List Request) →
    EndsOf bytes end requests → EndsOf bytes other others → (end ≡ other) × (requests ≡ others))
    (number : ℕ) (bytes : List ℕ) (requests : List Request) (old new : Seen) (end : Ending)
    (handed : number < length old.providers) (source : old.source ≡ Some bytes)
    (frames : AreFrames bytes requests) (few : length bytes ≤ most_bytes)
    (reads : Rose old.source_faults new.source_faults → ⊥)
    (writes : Rose old.sink_faults new.sink_faults → ⊥) where
  finished : EndsOf bytes Finished requests
  finished = record {
    rest = [];
    are_requests = frames.are_requests;
    parts = frames.bytes_are ∙ sym (append-nil (requests_text requests));
    ends = (refl, few);
  }

  by-end : (how : End) → HasServed how (Some bytes) new.source (provider_at old.providers number)
      (provider_at new.providers number) old.sink new.sink → (how ≡ SourceFailed → ⊥) →
      (how ≡ SinkFailed → ⊥) → end.status ≡ served_status how → (end.status ≡ 0) ⊎ (end.status ≡ 70)
  by-end Finished served no_source no_sink is = inl is
  by-end (BadAt at) served no_source no_sink is = absurd (let same : BadAt at ≡ Finished =
      (one_end bytes (BadAt at) Finished served.requests requests
      (of_all bytes (BadAt at) new.source old.sink new.sink _ _ served tt) finished).0 in cc)
  by-end TooMany served no_source no_sink is = absurd (let same : TooMany ≡ Finished =
      (one_end bytes TooMany Finished served.requests requests
      (of_all bytes TooMany new.source old.sink new.sink _ _ served tt) finished).0 in cc)
  by-end SourceFailed served no_source no_sink is = absurd (no_source refl)
  by-end SinkFailed served no_source no_sink is = absurd (no_sink refl)
  by-end OutOfMemory served no_source no_sink is = inr is

  pub ends-well : AnswersServe number old new end → (end.status ≡ 0) ⊎ (end.status ≡ 70)
  ends-well (AnswersServe.no_memory is same) = inr (ap (λ (e : Ending). e.status) is)
  ends-well (AnswersServe.too_few lacks is same) = absurd (omega (arith, handed, lacks))
  ends-well (AnswersServe.served within S) = by-end S.how (subst (λ had. HasServed S.how had new.source
      (provider_at old.providers number) (provider_at new.providers number) old.sink new.sink) source
      S.served) (λ is. reads (S.source.rose is)) (λ is. writes (S.sink.rose is)) S.status_is

-- ---- a removal

never-rose : (how : End) (fault : End) → (how ≡ fault → ⊥) → HasCause 0 0 (how ≡ fault)
never-rose how fault other = record { never_falls = omega arith; rose = λ is. absurd (other is) }

serves-removal : (held : Held) → Serves (Remove 1 ∷ []) (provider_at (before_removal held).providers 0)
    (Done ∷ []) (provider_at (behind_removal held).providers 0)
serves-removal held = (
  provider_at (before_removal held).providers 0,
  refl,
  record {
    held = refl;
    counts = record { store_faults = refl; other_faults = omega arith; fetches = refl };
  },
)

-- a server that is given a removal serves it and is finished
pub removal-answered : AreFrames removal (Remove 1 ∷ []) → (held : Held) →
    AnswersServe 0 (before_removal held) (behind_removal held) (record { status = 0; at = 0; heard = [] })
removal-answered frames held = AnswersServe.served (omega arith) (record {
  how = Finished;
  status_is = refl;
  place = refl;
  heard = refl;
  served = record {
    requests = Remove 1 ∷ [];
    replies = Done ∷ [];
    read = removal;
    front = removal;
    rest = [];
    taken = refl;
    few = omega arith;
    parts = refl;
    frames = frames;
    served = serves-removal held;
    written = refl;
    ends = (refl, refl, omega arith);
  };
  source = never-rose Finished SourceFailed (λ is. cc);
  sink = never-rose Finished SinkFailed (λ is. cc);
  only = record { disk = refl; disk_faults = refl; handed = refl; others = others };
})
  where
    others : (k : ℕ) → (k ≡ 0 → ⊥) →
        provider_at (behind_removal held).providers k ≡ provider_at (before_removal held).providers k
    others zero other = absurd (other refl)
    others (suc k) other = refl
