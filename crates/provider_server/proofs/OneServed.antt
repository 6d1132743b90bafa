-- One provider of those handed in is served.
use Rattle.std.proofs.Common.{◌≡◌, ◌≢◌, inl, inr, ℕ, ◌≤◌, List, length, Option, Some, refl, sym, ap, subst, ◌∙◌, arith}
use Rattle.std.specs.Prelude.{map, slice_get, slice_set, unwrap_or}
use Rattle.std.specs.Option.{option_map}
use Rattle.std.proofs.lemmas.Bool.{cases_lt}
use Rattle.std.proofs.lemmas.Option.{slice_get-map, slice_get_within}
use Rattle.std.proofs.lemmas.List.{length-set, length-map}
use Rattle.algebra_laws.proofs.Lists.{get-set_there, get-set_other}
use Rattle.device_defs.specs.Cells.{Cells}
use Rattle.device_defs.specs.Faults.{HasCause}
use Rattle.device_defs.specs.Providers.{Provider}
use Rattle.command_defs.specs.Seen.{NoCountFalls, nobody, provider_at, seen}
use Rattle.wire_defs.specs.Serving.{End, SourceFailed, SinkFailed, HasServed}
use Rattle.wire_defs.specs.Requests.{Request}
use Rattle.wire_defs.specs.Replies.{Reply, Serves as ServesRequests}
use Rattle.provider_wire.specs.Ends.{end_of}
use Rattle.provider_wire.specs.declared.end.ServeEnd.{ServeEnd}
use Rattle.provider_wire.specs.declared.end.ServeEnd.TheVariants as serve_end
use Rattle.provider_server.specs.Answers as answers
use Rattle.provider_server.specs.Answers.{served_status, place_of, AnswersServe}
use Rattle.provider_server.specs.Statuses.{served_ending}
use Rattle.provider_server.specs.declared.status.Served.{Served}

-- the cause of a fault, by the end that plain data tell
source-only : (end : ServeEnd) → end_of end ≡ SourceFailed → end ≡ serve_end.SourceFault
source-only serve_end.Done e = absurd cc
source-only (serve_end.BadFrame at) e = absurd cc
source-only serve_end.TooLong e = absurd cc
source-only serve_end.SourceFault e = refl
source-only serve_end.SinkFault e = absurd cc
source-only serve_end.Memory e = absurd cc

sink-only : (end : ServeEnd) → end_of end ≡ SinkFailed → end ≡ serve_end.SinkFault
sink-only serve_end.Done e = absurd cc
sink-only (serve_end.BadFrame at) e = absurd cc
sink-only serve_end.TooLong e = absurd cc
sink-only serve_end.SourceFault e = absurd cc
sink-only serve_end.SinkFault e = refl
sink-only serve_end.Memory e = absurd cc

-- an end that has its cause in the source has it as an answer too
pub cause_source : (before now : ℕ) (end : ServeEnd) → HasCause before now (end ≡ serve_end.SourceFault) →
    HasCause before now (end_of end ≡ SourceFailed)
cause_source before now end cause =
    record { never_falls = cause.never_falls; rose = λ e. cause.rose (source-only end e) }

-- and so has one of the sink
pub cause_sink : (before now : ℕ) (end : ServeEnd) → HasCause before now (end ≡ serve_end.SinkFault) →
    HasCause before now (end_of end ≡ SinkFailed)
cause_sink before now end cause =
    record { never_falls = cause.never_falls; rose = λ e. cause.rose (sink-only end e) }

-- what is seen of the provider at a place
seen-at : {X : Type 0} (f : X → Provider) (xs : List X) (k : ℕ) (x : X) → slice_get xs k ≡ Some x →
    provider_at (map f xs) k ≡ f x
seen-at f xs k x there =
    ap (λ (o : Option Provider). unwrap_or o nobody) (slice_get-map f xs k ∙ ap (option_map f) there)

seen-other : {X : Type 0} (f : X → Provider) (xs : List X) (p k : ℕ) (y : X) → k ≢ p →
    provider_at (map f (slice_set xs p y)) k ≡ provider_at (map f xs) k
seen-other f xs p k y other = ap (λ (o : Option Provider). unwrap_or o nobody)
    (slice_get-map f (slice_set xs p y) k ∙ ap (option_map f) (get-set_other xs p k y other)
    ∙ sym (slice_get-map f xs k))

module _ {X : Type 0} (f : X → Provider) (ps : List X) (p : ℕ) (old new : X)
    (there : slice_get ps p ≡ Some old)
    (left left' : Option (List ℕ)) (reads reads' : ℕ) (written written' : Option (List ℕ))
    (writes writes' : ℕ) (how : End)
    (done : HasServed how left left' (f old) (f new) written written')
    (source : HasCause reads reads' (how ≡ SourceFailed))
    (sink : HasCause writes writes' (how ≡ SinkFailed)) where
  before : provider_at (map f ps) p ≡ f old
  before = seen-at f ps p old there

  after : provider_at (map f (slice_set ps p new)) p ≡ f new
  after = seen-at f (slice_set ps p new) p new (get-set_there ps p old new there)

  handed : length (map f (slice_set ps p new)) ≡ length (map f ps)
  handed = length-map (slice_set ps p new) f ∙ length-set ps p new ∙ sym (length-map ps f)

  -- how a server ended is how the command answers
  pub served-answers : (number : ℕ) → p ≡ number → (end : Served) → end.status ≡ served_status how →
      end.at ≡ place_of how → (disk : Option Cells) (disk_faults : ℕ)
      → AnswersServe number (seen disk disk_faults (map f ps) left reads written writes)
      (seen disk disk_faults (map f (slice_set ps p new)) left' reads' written' writes') (served_ending end)
  served-answers number same end status place disk disk_faults = subst
      (λ (k : ℕ). AnswersServe k (seen disk disk_faults (map f ps) left reads written writes)
      (seen disk disk_faults (map f (slice_set ps p new)) left' reads' written' writes') (served_ending end))
      same (answers.served (omega (arith, length-map ps f, slice_get_within ps p old there)) (record {
        how = how;
        status_is = status;
        place = place;
        heard = refl;
        served = subst (λ (q : Provider). HasServed how left left' (provider_at (map f ps) p) q written
            written') (sym after)
            (subst (λ (q : Provider). HasServed how left left' q (f new) written written') (sym before) done);
        source = source;
        sink = sink;
        only = record {
          disk = refl;
          disk_faults = refl;
          handed = handed;
          others = λ k other. seen-other f ps p k new other;
        };
      }))

  -- a count of the provider served does not fall, nor does that of another
  kept : (count : Provider → ℕ) → count (f old) ≤ count (f new) → (k : ℕ) →
      count (provider_at (map f ps) k) ≤ count (provider_at (map f (slice_set ps p new)) k)
  kept count rises k =
      elim (cases_lt k p) [
        | inl less ↦ (let same = ap count (seen-other f ps p k new (λ e. absurd (omega (arith, less, e)))) in
            omega (arith, same))
        | inr more ↦ elim (cases_lt p k) [
          | inl less ↦ (let same =
              ap count (seen-other f ps p k new (λ e. absurd (omega (arith, less, e)))) in
              omega (arith, same))
          | inr fewer ↦ (
              let is : k ≡ p = omega arith in
              let one : count (provider_at (map f ps) k) ≡ count (f old) =
              ap (λ (m : ℕ). count (provider_at (map f ps) m)) is ∙ ap count before in
              let two : count (provider_at (map f (slice_set ps p new)) k) ≡ count (f new) =
              ap (λ (m : ℕ). count (provider_at (map f (slice_set ps p new)) m)) is ∙ ap count after in
              omega (arith, one, two, rises)
              )
        ]
      ]

  -- over a server no count falls
  pub served-counts : ((requests : List Request) (replies : List Reply) (a b : Provider) →
      ServesRequests requests a replies b → (a.store_faults ≤ b.store_faults) ×
      (a.other_faults ≤ b.other_faults))
      → (disk : Option Cells) (disk_faults : ℕ)
      → NoCountFalls (seen disk disk_faults (map f ps) left reads written writes)
      (seen disk disk_faults (map f (slice_set ps p new)) left' reads' written' writes')
  served-counts law disk disk_faults =
      let rise = law done.requests done.replies (f old) (f new) done.served in
      record {
        disk = omega arith;
        handed = handed;
        stores = kept (λ q. q.store_faults) rise.0;
        others = kept (λ q. q.other_faults) rise.1;
        source = source.never_falls;
        sink = sink.never_falls;
      }
