-- From the end of a put on, what states keep of its object number are its bytes.
use Rattle.run_laws.proofs.Words.{◌≡◌, ℕ, zero, suc, ◌<◌, ◌≤◌, ◌⊎◌, List, [], ◌∷◌, ◌++◌, length, Some, refl, ap, sym, subst, ◌∙◌, arith, File, next_id, PutJob, Job, WriteBody, SyncBody, WriteGate, SyncGate, End, Event, Outcome, State, IsStart, file_object, file_in, next_action, Moment, now, first_moments, IsRun, heard_by, HoldsForgery, EndsGet, EndsPut, same_value, Changes, changes, objects, Draws, next_by, next_is_by, next_of_records, run_back}
use Rattle.machine_defs.specs.Answers as answer
use Rattle.machine_defs.proofs.Written.{IsWritten}
use Rattle.machine_defs.proofs.StepEnds.{event_end}
use Rattle.machine_defs.proofs.Numbers as num
use Rattle.run_laws.proofs.InEffect.{facts}
use Rattle.run_laws.proofs.FirstHalf.{first_run, got_right}

-- a put at its end is behind its first append
past_first : (w : State) (job : Job) (name bytes : List ℕ) → job.kind ≡ PutJob name bytes →
    next_action w job ≡ Some End → 4 ≤ job.place
past_first w job name bytes kind h =
    go job.place refl (sym (ap (λ kd. next_by w job kd job.place) kind) ∙ (sym (next_is_by w job) ∙ h))
  where
    go : (place : ℕ) → job.place ≡ place → next_by w job (PutJob name bytes) job.place ≡ Some End →
        4 ≤ job.place
    go zero is e = absurd (let f : Some WriteBody ≡ Some End = sym (ap (next_by w job (PutJob name bytes)) is)
        ∙ e in cc)
    go (suc zero) is e = absurd
        (let f : Some SyncBody ≡ Some End = sym (ap (next_by w job (PutJob name bytes)) is) ∙ e in cc)
    go (suc (suc zero)) is e =
        absurd (let f : Some WriteGate ≡ Some End = sym (ap (next_by w job (PutJob name bytes)) is) ∙ e in cc)
    go (suc (suc (suc zero))) is e =
        absurd (let f : Some SyncGate ≡ Some End = sym (ap (next_by w job (PutJob name bytes)) is) ∙ e in cc)
    go (suc (suc (suc (suc q)))) is e = omega (arith, is)

-- an object number in effect stands for these bytes
pub record Stands (w : State) (id : ℕ) (bytes : List ℕ) : Type 0 where
  pub below : id < next_id w.records
  pub bytes_are : w.bytes id ≡ bytes

-- after an event a drawn number stands for the same bytes
pub stands_by : (limit moment : ℕ) (old : State) (e : Event) (r : Outcome) (new : State) (id : ℕ)
    (bytes : List ℕ) → IsWritten old → Changes limit moment old e r new → Stands old id bytes →
    Stands new id bytes
stands_by limit moment old e r new id bytes W X h = record {
  below = (let l = h.below in let g = next_of_records objects old new W X.records in omega arith);
  bytes_are = X.bytes id h.below ∙ h.bytes_are;
}

module _ (limit : ℕ) (start : State) (clean : IsStart start) (id : ℕ) (bytes : List ℕ) where
  -- after one more moment of a run a drawn number stands for the same bytes
  pub stands_on : (m : Moment) (ms : List Moment) → IsRun limit start (m ∷ ms) →
      Stands (now start ms) id bytes → Stands m.state id bytes
  stands_on m ms run h = (let N = num.facts objects limit start clean ms run.2 in
      stands_by limit (length ms) (now start ms) m.event m.outcome m.state id bytes N.written
      (changes limit (length ms) (now start ms) m.event m.outcome m.state N.idle run.1) h)

  -- after more moments of a run a drawn number stands for the same bytes
  pub stands_later : (later ms : List Moment) → IsRun limit start (later ++ ms) →
      Stands (now start ms) id bytes → Stands (now start (later ++ ms)) id bytes
  stands_later [] ms run h = h
  stands_later (m ∷ later) ms run h = stands_on m (later ++ ms) run (stands_later later ms run.2 h)

-- from the end of a put on its number stands for its bytes
pub put_bytes_stay : (limit : ℕ) (start : State) (later ms : List Moment) (m : Moment) (job : Job)
    (name bytes : List ℕ) → IsStart start → IsRun limit start (later ++ m ∷ ms) →
    EndsPut start m ms job name bytes → (now start (later ++ m ∷ ms)).bytes job.subject ≡ bytes
put_bytes_stay limit start later ms m job name bytes clean run e =
    (let run_m = run_back limit start later (m ∷ ms) run in
    let end = event_end limit (length ms) (now start ms) m.event m.outcome m.state job answer.Put
    (λ x. x) e.event e.outcome e.runs run_m.1 in
    let late = past_first (now start ms) job name bytes e.kind end.0 in
    let N = num.facts objects limit start clean ms run_m.2 in
    let F = facts limit start ms clean run_m.2 in
    let here : Stands (now start ms) job.subject bytes = record {
      below = N.below job.number job e.runs (subst (Draws objects) (sym e.kind) tt, late);
      bytes_are = F.kept job.number job name bytes e.runs e.kind late;
    } in
    (stands_later limit start clean job.subject bytes later (m ∷ ms) run
    (stands_on limit start clean job.subject bytes m ms run_m here)).bytes_are)

-- a get of a file that a put stored gives the put's bytes, or its fetches hold a forgery
pub put_is_got : (limit : ℕ) (start : State) (m p : Moment) (ms later before : List Moment) (put get : Job)
    (name bytes got : List ℕ) (file : File) → IsStart start → IsRun limit start (m ∷ ms) →
    EndsGet start m ms get name got → first_moments get.begun ms ≡ later ++ p ∷ before →
    EndsPut start p before put name bytes →
    file_in (now start (first_moments get.begun ms)) name ≡ Some file → file.id ≡ put.subject →
    (got ≡ bytes) ⊎ HoldsForgery (file_object (now start (first_moments get.begun ms)) file) bytes get.number
    (heard_by (Some get))
put_is_got limit start m p ms later before put get name bytes got file clean run ends_get split ends_put in_effect id_is =
    (let b : State = now start (first_moments get.begun ms) in
    let run_b = first_run limit start get.begun ms run.2 in
    let right = got_right limit start m ms get name got clean run ends_get in
    let same : right.file ≡ file = same_value _ right.file file right.in_effect in_effect in
    let stay : b.bytes put.subject ≡ bytes =
    ap (λ l. (now start l).bytes put.subject) split
    ∙ put_bytes_stay limit start later before p put name bytes clean
    (subst (IsRun limit start) split run_b) ends_put in
    let are : b.bytes file.id ≡ bytes = ap b.bytes id_is ∙ stay in
    let of_file : (got ≡ b.bytes file.id) ⊎ HoldsForgery (file_object b file) (b.bytes file.id) get.number
    (heard_by (Some get)) =
    subst (λ (f : File). (got ≡ b.bytes f.id) ⊎ HoldsForgery (file_object b f) (b.bytes f.id) get.number
    (heard_by (Some get))) same right.right in
    subst (λ x. (got ≡ x) ⊎ HoldsForgery (file_object b file) x get.number (heard_by (Some get))) are of_file)
