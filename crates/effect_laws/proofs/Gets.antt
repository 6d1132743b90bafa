-- A get gave what stood under its name at its begin, told by events and outcomes alone.
use Rattle.effect_laws.proofs.Words.{◌≡◌, ◌⊎◌, ℕ, List, ◌∷◌, ◌++◌, length, Some, ap, sym, subst, ◌∙◌, inl, inr, File, IsForgery, Given, Job, job_of, Got, Step, State, IsStart, file_object, file_in, Moment, now, first_moments, IsRun, NoneContinues, heard_by, heard_in, given_to, HoldsForgery, first_behind, is_begun, kind_of, ended_job, run_back, Stored, GetEnds, GotRight, IsLimit, WasPut, PutsOnly}
use Rattle.machine_defs.specs.Given.{blocks_given}
use Rattle.machine_defs.specs.Halves.{IsRightGet}
use Rattle.machine_defs.proofs.Reports.{stays}
use Rattle.run_laws.proofs.FirstHalf.{got_right}
use Rattle.effect_laws.proofs.Origin.{was_put}
use Rattle.effect_laws.proofs.Since.{OldOrNew, whose, put_only}

-- a forgery among what a job heard is one among what a report has of it
reported : (start : State) (file : File) (w : State) (own : List ℕ) (k : ℕ) (all : List Moment) (job : Job) →
    job.number ≡ k → given_to job.number (heard_in start all) ≡ given_to job.number (heard_by (Some job)) →
    HoldsForgery (file_object w file) own job.number (heard_by (Some job)) →
    HoldsForgery (file_object w file) own k (heard_in start all)
reported start file w own k all job number same h = record {
  stripe = h.stripe;
  place = h.place;
  forgery = subst (λ (x : List Given). IsForgery (file_object w file) own
      (blocks_given x (file_object w file).shape.n (file_object w file).id) h.stripe h.place)
      (sym (ap (λ n. given_to n (heard_in start all)) (sym number) ∙ same)) h.forgery;
}

-- bytes that stood under the name at these moments, and the get gave them, or a forgery is heard
pub record Gave (start : State) (ms all : List Moment) (get : ℕ) (name got : List ℕ) : Type 0 where
  pub file : File
  pub in_effect : file_in (now start ms) name ≡ Some file
  pub right : GotRight start ms all get name ((now start ms).bytes file.id) got

-- the get ended, and a report is read behind it in the same call of the program
module _ (limit : ℕ) (start : State) (after gaps : List Moment) (c g : Moment) (get : ℕ) (name got : List ℕ)
    (clean : IsStart start) (same_call : NoneContinues after) (G : GetEnds c gaps g get name (Got got)) where
  -- all moments
  abbrev pub seen : List Moment → List Moment
  seen ms = after ++ g ∷ (gaps ++ c ∷ ms)

  pub gave : (ms : List Moment) → IsRun limit start (seen ms) → Gave start ms (seen ms) get name got
  gave ms all_run = (let run = run_back limit start after (g ∷ (gaps ++ c ∷ ms)) all_run in
      let all = gaps ++ c ∷ ms in
      let q = ended_job limit (length all) (now start all) g.event g.outcome g.state get (Got got) tt
      G.end_event G.ended run.1 in
      let job = q.0 in
      let begun = is_begun limit start clean gaps ms c run.2 get job G.begun G.none q.1 in
      let kind = kind_of c.event job name begun.1 G.begin_event in
      let runs : job_of (now start all).jobs job.number ≡ Some job =
      ap (job_of (now start all).jobs) q.2 ∙ q.1 in
      let event : g.event ≡ Step job.number = G.end_event ∙ ap Step (sym q.2) in
      let first : first_moments job.begun all ≡ ms =
      ap (λ n. first_moments n all) begun.0 ∙ first_behind gaps c ms in
      let R : IsRightGet (now start ms) job name got =
      subst (λ hs. IsRightGet (now start hs) job name got) first
      (got_right limit start g all job name got clean run
      (record { event = event; outcome = G.ended; runs = runs; kind = kind })) in
      let same = (stays limit start clean job after g all all_run
      (record { answer = Got got; event = event; outcome = G.ended; runs = runs }) same_call).1 in
      record {
        file = R.file;
        in_effect = R.in_effect;
        right = elim R.right [
          | inl is ↦ inl is
          | inr forged ↦ inr (
            R.file,
            R.in_effect,
            reported start R.file (now start ms) ((now start ms).bytes R.file.id) get (seen ms) job q.2 same
                forged,
          )
        ];
      })

  -- so it gave what was put
  pub gave_put : (ms : List Moment) → IsRun limit start (seen ms) →
      (own : List ℕ) × WasPut ms name own × GotRight start ms (seen ms) get name own got
  gave_put ms run = (let R = gave ms run in (
    (now start ms).bytes R.file.id,
    was_put limit start ms name R.file clean
        (run_back limit start gaps (c ∷ ms) (run_back limit start after (g ∷ (gaps ++ c ∷ ms)) run).2).2
        (inl R.in_effect),
    R.right,
  ))

  module _ (later ms : List Moment) (bytes : List ℕ) (fits : IsLimit limit)
      (run : IsRun limit start (seen (later ++ ms))) (S : Stored ms name bytes) where
    -- what was stored, or put since
    pub gave_since : (own : List ℕ) × OldOrNew later name bytes own
        × GotRight start (later ++ ms) (seen (later ++ ms)) get name own got
    gave_since = (let R = gave (later ++ ms) run in (
      (now start (later ++ ms)).bytes R.file.id,
      whose limit start later ms name bytes fits clean (run_back limit start gaps (c ∷ (later ++ ms))
          (run_back limit start after (g ∷ (gaps ++ c ∷ (later ++ ms))) run).2).2 S R.file (inl R.in_effect),
      R.right,
    ))

    -- where all puts since are of some bytes, the stored ones or these
    pub gave_only : (new : List ℕ) → PutsOnly name new later →
        GotRight start (later ++ ms) (seen (later ++ ms)) get name bytes got
        ⊎ GotRight start (later ++ ms) (seen (later ++ ms)) get name new got
    gave_only new only = elim gave_since.1 [
      | inl old ↦ inl (rw old at gave_since.2)
      | inr put ↦ inr (rw (put_only name new gave_since.0 later only put) at gave_since.2)
    ]
