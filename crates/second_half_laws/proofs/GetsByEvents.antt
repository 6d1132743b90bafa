-- What a get of a stored file gives, told by events.
use Rattle.second_half_laws.proofs.Words.{◌⊎◌, subst, inl, inr, File, GetJob, job_of, Answer, Got, Refusal, Begin, Refused, State, IsStart, file_in, Moment, now, first_moments, IsRun, Mark, IsGetRefusal, first_behind, run_back, ended_of_kind, Stored, GetEnds, IsMarkedRun, IsLostByFaults, GivesOrIsLost}
use Rattle.std.proofs.Common.{◌≡◌, ℕ, List, ◌∷◌, ◌++◌, Some}
use Rattle.run_laws.proofs.ByEvents.{stored_is_kept}
use Rattle.second_half_laws.proofs.Names.{begins_stored}
use Rattle.second_half_laws.proofs.SecondHalf.{marked_facts, get_sharply}

-- a get of a stored file gives its bytes, or is lost by faults
pub stored_got : (limit : ℕ) (mark : Mark) (start : State) (ms gaps : List Moment) (c g : Moment) (get : ℕ)
    (name bytes : List ℕ) (how : Answer) → IsMarkedRun limit mark start (g ∷ (gaps ++ c ∷ ms)) →
    Stored ms name bytes → GetEnds c gaps g get name how →
    (how ≡ Got bytes) ⊎ IsLostByFaults (now start ms) g.state how
stored_got limit mark start ms gaps c g get name bytes how h S G = (let all = gaps ++ c ∷ ms in
    let q = ended_of_kind limit start gaps ms g c (GetJob name) get how h.clean h.run (inl G.begin_event)
    G.begun G.none G.end_event G.ended in let job = q.0 in
    let runs : job_of (now start all).jobs job.number ≡ Some job = cc in
    let first : first_moments job.begun all ≡ ms = cc (first_behind gaps c ms) in
    let k = stored_is_kept limit start ms name bytes h.clean (run_back limit start (g ∷ gaps) (c ∷ ms)
    h.run).2 S in let ends : GivesOrIsLost (now start (first_moments job.begun all)) g.state name how =
    get_sharply limit mark start g all h.clean h.run h.calm.1 (marked_facts limit mark start h.clean h.tell
    all h.run.2 h.calm.1 h.marks.1) job name how runs q.3 (cc) G.ended in
    gives (subst (λ hs. GivesOrIsLost (now start hs) g.state name how) first ends) k.file k.kept.in_effect
    k.bytes_are)
  where
    gives : GivesOrIsLost (now start ms) g.state name how → (file : File) →
        file_in (now start ms) name ≡ Some file → (now start ms).bytes file.id ≡ bytes →
        (how ≡ Got bytes) ⊎ IsLostByFaults (now start ms) g.state how
    gives e file in_effect bytes_are = elim e.gives [
      | inl got ↦ inl (cc)
      | inr lost ↦ inr lost
    ]

-- a begin of a get of a stored file is refused for few causes alone
pub stored_begins : (limit : ℕ) (start : State) (ms : List Moment) (c : Moment) (name bytes : List ℕ)
    (why : Refusal) → IsStart start → IsRun limit start (c ∷ ms) → Stored ms name bytes →
    c.event ≡ Begin (GetJob name) → c.outcome ≡ Refused why → IsGetRefusal why
stored_begins limit start ms c name bytes why clean run S event outcome =
    (let k = stored_is_kept limit start ms name bytes clean run.2 S in
    begins_stored limit start c ms name k.file why clean run event outcome k.kept.in_effect)
