-- What was put is kept and got, told by events and outcomes alone.
use Rattle.run_laws.proofs.Words.{◌≡◌, ℕ, List, [], ◌∷◌, ◌++◌, length, Some, refl, ap, sym, subst, ◌∙◌, inl, inr, File, file_as, Given, Job, job_of, Put, Got, Step, State, IsStart, file_object, file_in, blocks_given, Moment, now, first_moments, IsRun, heard_by, heard_in, given_to, HoldsForgery, EndsGet, EndsPut, IsKept, IsForgery, run_back, none_under_way, put_is_kept}
use Rattle.machine_defs.proofs.Damaged.{first_behind}
use Rattle.machine_defs.proofs.Reports.{stays}
use Rattle.machine_defs.proofs.Began.{is_begun, put_of, kind_of, ended_job}
use Rattle.machine_defs.specs.Untouched.{Touches}
use Rattle.run_laws.specs.Stories.{Stored, IsKeptAs, GetEnds, GotRight}
use Rattle.run_laws.proofs.PutBytes.{put_bytes_stay, put_is_got}

same_forgery : (start : State) (file : File) (w : State) (bytes : List ℕ) (k : ℕ) (g : Moment)
    (ms : List Moment) (job : Job) → job.number ≡ k →
    given_to job.number (heard_in start (g ∷ ms)) ≡ given_to job.number (heard_by (Some job)) →
    HoldsForgery (file_object w file) bytes job.number (heard_by (Some job)) →
    HoldsForgery (file_object w file) bytes k (heard_in start (g ∷ ms))
same_forgery start file w bytes k g ms job number same h = record {
  stripe = h.stripe;
  place = h.place;
  forgery = subst (λ (x : List Given). IsForgery (file_object w file) bytes
      (blocks_given x (file_object w file).shape.n (file_object w file).id) h.stripe h.place)
      (sym (ap (λ n. given_to n (heard_in start (g ∷ ms))) (sym number) ∙ same)) h.forgery;
}

-- the put of a file that is stored, as it ended, and its file in effect
record PutOf (start : State) (ms : List Moment) (name bytes : List ℕ) (S : Stored ms name bytes) : Type 0 where
  pub put : Job
  pub ends : EndsPut start S.end (S.between ++ S.begin ∷ S.older) put name bytes
  pub kept : IsKept (now start ms) name (file_as name put.subject (length bytes) put.profile)

put_of_stored : (limit : ℕ) (start : State) (ms : List Moment) (name bytes : List ℕ) → IsStart start →
    IsRun limit start ms → (S : Stored ms name bytes) → PutOf start ms name bytes S
put_of_stored limit start ms name bytes clean run S = (let old = S.between ++ S.begin ∷ S.older in
    let at_put = subst (IsRun limit start) S.split run in
    let run_end = run_back limit start S.later (S.end ∷ old) at_put in
    let none_on = none_under_way (Touches name) limit start clean S.older S.free
    (run_back limit start S.between (S.begin ∷ S.older) run_end.2).2 in
    let p = ended_job limit (length old) (now start old) S.end.event S.end.outcome S.end.state S.number Put tt
    S.end_event S.ended run_end.1 in
    let put = p.0 in
    let begun = is_begun limit start clean S.between S.older S.begin run_end.2 S.number put S.begun S.none
    p.1 in
    let ends : EndsPut start S.end old put name bytes = record {
      event = S.end_event ∙ ap Step (sym p.2);
      outcome = S.ended;
      runs = ap (job_of (now start old).jobs) p.2 ∙ p.1;
      kind = put_of S.begin.event put name bytes begun.1 S.begin_event;
    } in
    let file = file_as name put.subject (length bytes) put.profile in
    record {
      put = put;
      ends = ends;
      kept = subst (λ hs. IsKept (now start hs) name file) (sym S.split)
          (put_is_kept limit start clean S.later S.between S.older S.end S.begin put name bytes at_put none_on
          S.none_between ends S.none_since).1;
    })

-- a file that is stored is kept, with its bytes
pub stored_is_kept : (limit : ℕ) (start : State) (ms : List Moment) (name bytes : List ℕ) → IsStart start →
    IsRun limit start ms → Stored ms name bytes → IsKeptAs (now start ms) name bytes
stored_is_kept limit start ms name bytes clean run S =
    (let p = put_of_stored limit start ms name bytes clean run S in
    record {
      file = file_as name p.put.subject (length bytes) p.put.profile;
      kept = p.kept;
      size = refl;
      bytes_are = subst (λ hs. (now start hs).bytes p.put.subject ≡ bytes) (sym S.split)
          (put_bytes_stay limit start S.later (S.between ++ S.begin ∷ S.older) S.end p.put name bytes clean
          (subst (IsRun limit start) S.split run) p.ends);
    })

-- what was put is got, or the report holds a forgery against it
pub put_is_got_later : (limit : ℕ) (start : State) (ms gaps : List Moment) (c g : Moment) (get : ℕ)
    (name bytes got : List ℕ) → IsStart start → IsRun limit start (g ∷ (gaps ++ c ∷ ms)) →
    Stored ms name bytes → GetEnds c gaps g get name (Got got) →
    GotRight start ms (g ∷ (gaps ++ c ∷ ms)) get name bytes got
put_is_got_later limit start ms gaps c g get name bytes got clean run S G = (let all = gaps ++ c ∷ ms in
    let p = put_of_stored limit start ms name bytes clean (run_back limit start (g ∷ gaps) (c ∷ ms) run).2 S in
    let put = p.put in
    let file = file_as name put.subject (length bytes) put.profile in
    let in_effect : file_in (now start ms) name ≡ Some file = p.kept.in_effect in
    let q = ended_job limit (length all) (now start all) g.event g.outcome g.state get (Got got) tt
    G.end_event G.ended run.1 in
    let job = q.0 in
    let get_begun = is_begun limit start clean gaps ms c run.2 get job G.begun G.none q.1 in
    let get_kind = kind_of c.event job name get_begun.1 G.begin_event in
    let runs : job_of (now start all).jobs job.number ≡ Some job =
    ap (job_of (now start all).jobs) q.2 ∙ q.1 in
    let event : g.event ≡ Step job.number = G.end_event ∙ ap Step (sym q.2) in
    let ends_get : EndsGet start g all job name got =
    record { event = event; outcome = G.ended; runs = runs; kind = get_kind } in
    let first : first_moments job.begun all ≡ ms =
    ap (λ n. first_moments n all) get_begun.0 ∙ first_behind gaps c ms in
    let same = (stays limit start clean job [] g all run
    (record { answer = Got got; event = event; outcome = G.ended; runs = runs }) tt).1 in
    elim (put_is_got limit start g S.end all S.later (S.between ++ S.begin ∷ S.older) put job name bytes got
    file clean run ends_get (first ∙ S.split) p.ends
    (ap (λ hs. file_in (now start hs) name) first ∙ in_effect) refl) [
      | inl right ↦ inl right
      | inr forged ↦ inr (
        file,
        in_effect,
        subst (λ hs. HoldsForgery (file_object (now start hs) file) bytes get (heard_in start (g ∷ all)))
            first (same_forgery start file (now start (first_moments job.begun all)) bytes get g all job q.2
            same forged),
      )
    ])
