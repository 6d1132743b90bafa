-- Every get that ended with bytes gave the file that was in effect at its begin, or what it fetched holds a
-- forgery.
use Rattle.run_laws.proofs.Words.{◌≡◌, ℕ, true, List, [], ◌∷◌, length, Option, Some, None, refl, ap, sym, subst, ◌∙◌, inl, inr, is_some, nat_le, cases_Bool, false≢true, IsShape, Setup, setup_of, Kind, GetJob, Job, job_of, setup_or_none, Answer, Event, Step, Outcome, Ended, State, IsStart, setup_in, file_object, Moment, now, first_moments, IsRun, blocks_given, heard_by, given_to, IsRightGet, EndsRight, at_begin, KeepsFirstHalf, FirstHalf, FirstHalfHolds, EndsGet, cond_true, cond_false, number_of, found_none}
use Rattle.machine_defs.specs.Answers as answer
use Rattle.machine_defs.proofs.Gets.{got_is_opened}
use Rattle.machine_defs.proofs.Held.{all}
use Rattle.run_laws.proofs.InEffect.{valid_setup, valid_shape, held_file, facts}
use Rattle.run_laws.proofs.Files.{file_or_forged}

-- the first moments of a run are a run
pub first_run : (limit : ℕ) (start : State) (k : ℕ) (ms : List Moment) → IsRun limit start ms →
    IsRun limit start (first_moments k ms)
first_run limit start k [] run = tt
first_run limit start k (m ∷ ms) run = elim (cases_Bool (nat_le (length (m ∷ ms)) k)) [
  | inl t ↦ subst (IsRun limit start)
      (sym (cond_true (nat_le (length (m ∷ ms)) k) (m ∷ ms) (first_moments k ms) t)) run
  | inr f ↦ subst (IsRun limit start)
      (sym (cond_false (nat_le (length (m ∷ ms)) k) (m ∷ ms) (first_moments k ms) f))
      (first_run limit start k ms run.2)
]

-- a setup in effect makes a shape
pub shape_in : (w : State) → ((s : Setup) → setup_of w.records ≡ Some s → IsShape s.n s.l s.b) →
    is_some (setup_of w.records) ≡ true → IsShape (setup_in w).n (setup_in w).l (setup_in w).b
unfolding setup_in
shape_in w valid up = go (setup_of w.records) valid up
  where
    go : (o : Option Setup) → ((s : Setup) → o ≡ Some s → IsShape s.n s.l s.b) → is_some o ≡ true →
        IsShape (setup_or_none o).n (setup_or_none o).l (setup_or_none o).b
    go None f h = absurd (false≢true h)
    go (Some s) f h = f s refl

-- while a job runs, the setup makes a shape
pub runs_shape : (limit : ℕ) (start : State) (ms : List Moment) → IsStart start → IsRun limit start ms →
    (k : ℕ) (job : Job) → job_of (now start ms).jobs k ≡ Some job →
    IsShape (setup_in (now start ms)).n (setup_in (now start ms)).l (setup_in (now start ms)).b
runs_shape limit start ms clean run k job runs = shape_in (now start ms)
    (λ s e. valid_shape s ((facts limit start ms clean run).setup s e))
    (elim (cases_Bool (now start ms).is_open) [
      | inl t ↦ (facts limit start ms clean run).opened t
      | inr f ↦ absurd (found_none (now start ms).jobs k job
          ((all limit start clean ms run).numbers.idle.idle f).0 runs)
    ])

-- a get that ended with bytes gave those in effect at its begin, or its fetches hold a forgery
pub got_right : (limit : ℕ) (start : State) (m : Moment) (ms : List Moment) (job : Job)
    (name bytes : List ℕ) → IsStart start → IsRun limit start (m ∷ ms) →
    EndsGet start m ms job name bytes → IsRightGet (now start (first_moments job.begun ms)) job name bytes
got_right limit start m ms job name bytes clean run e =
    (let b : State = now start (first_moments job.begun ms) in
    let run_b = first_run limit start job.begun ms run.2 in
    let got = got_is_opened limit start m ms job name bytes clean run e in
    let held = held_file limit start (first_moments job.begun ms) name got.file clean run_b got.in_effect in
    let shape = shape_in b
    (λ s h. valid_shape s (valid_setup limit start (first_moments job.begun ms) s clean run_b h)) held.up in
    record {
      file = got.file;
      in_effect = got.in_effect;
      right = elim (file_or_forged (file_object b got.file) (b.bytes got.file.id) got.file.profile refl shape
          (blocks_given (given_to job.number (heard_by (Some job))) (setup_in b).n got.file.id) bytes
          held.bytes got.opens) [
            | inl same ↦ inl same
            | inr (stripe, place, forged) ↦ inr (record { stripe = stripe; place = place; forgery = forged })
          ];
    })

module _ (limit : ℕ) (start : State) (m : Moment) (ms : List Moment) (clean : IsStart start)
    (run : IsRun limit start (m ∷ ms)) where
  ends : (number : ℕ) (job : Job) → m.event ≡ Step number → job_of (now start ms).jobs number ≡ Some job →
      (kind : Kind) (how : Answer) → m.outcome ≡ Ended how → job.kind ≡ kind →
      EndsRight (now start (first_moments job.begun ms)) (Some (record job { kind = kind })) how
  ends number job event runs (GetJob name) (answer.Got bytes) outcome kind =
      (let same : job.number ≡ number = number_of (now start ms).jobs number job runs in
      subst (λ kd. IsRightGet (now start (first_moments job.begun ms)) (record job { kind = kd }) name bytes)
      kind
      (got_right limit start m ms job name bytes clean run
      (record {
        event = event ∙ ap Step (sym same);
        outcome = outcome;
        runs = ap (job_of (now start ms).jobs) same ∙ runs;
        kind = kind;
      })))
  ends number job event runs kind how outcome kind_is = tt

  by_job : (number : ℕ) (how : Answer) (o : Option Job) → m.event ≡ Step number → m.outcome ≡ Ended how →
      job_of (now start ms).jobs number ≡ o → EndsRight (at_begin start ms o) o how
  by_job number how None event outcome runs = tt
  by_job number how (Some job) event outcome runs = ends number job event runs job.kind how outcome refl

  keeps : (e : Event) (r : Outcome) → m.event ≡ e → m.outcome ≡ r → KeepsFirstHalf start ms e r
  keeps (Step number) (Ended how) event outcome =
      by_job number how (job_of (now start ms).jobs number) event outcome refl
  keeps e r event outcome = tt

halves : (limit : ℕ) (start : State) → IsStart start → (ms : List Moment) → IsRun limit start ms →
    FirstHalf start ms
halves limit start clean [] run = tt
halves limit start clean (m ∷ ms) run =
    (keeps limit start m ms clean run m.event m.outcome refl refl, halves limit start clean ms run.2)

-- the first half holds of every run
pub first_half : FirstHalfHolds
first_half limit start ms clean run = halves limit start clean ms run
