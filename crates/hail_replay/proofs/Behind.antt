-- One event more behind a run.
use Rattle.hail_replay.proofs.Words.{◌≡◌, ℕ, ◌<◌, ◌^◌, false, List, [], ◌∷◌, ◌++◌, length, Option, Some, None, refl, ap₂, sym, subst, ◌∙◌, IfSome, append-nil, Event, Step, Outcome, More, Closed, Entry, heard_by, heard_at, heard_in, reported_after, job_of, Moment, now, State, Steps, Once, RunJob, GoOn, Devices, Client, ClientTurn, is_open, step_outcome, HeardIs, ClientStands, MakesEvent, IsReached, RunsJobOn, open-of, Came, outcome_in, heard_in_turn, heard_in_came, Performs}
use Rattle.vault.specs.declared.turn.Turn.TheVariants as turn
use Rattle.hail_scrub.specs.declared.turn.ScrubTurn.TheVariants as scrubs
use Rattle.hail_client.specs.declared.turn.ClientTurn.TheVariants as turns
use Rattle.hail_client.specs.declared.turn.PackStep.TheVariants as packs
use Rattle.hail_replay.specs.declared.came.Came.TheVariants as came

-- what is heard after a step is what was heard, and what its job heard
after-step : (w : State) (es : List Entry) (job : ℕ) (e : Event) (r q : Outcome) → e ≡ Step job → r ≡ q →
    reported_after e es ++ heard_at w e r ≡ es ++ heard_at w (Step job) q
after-step w es job e r q e_is r_is =
    ap₂ (λ (x : Event) (y : Outcome). reported_after x es ++ heard_at w x y) e_is r_is

-- steps that went on report nothing
same-heard : (start : State) (ms : List Moment) (job : ℕ) (steps : List Moment) → GoOn job steps →
    heard_in start (steps ++ ms) ≡ heard_in start ms
same-heard start ms job [] on = refl
same-heard start ms job (m ∷ steps) on =
    after-step (now start (steps ++ ms)) (heard_in start (steps ++ ms)) job m.event m.outcome More on.0 on.1
    ∙ append-nil (heard_in start (steps ++ ms)) ∙ same-heard start ms job steps on.2

-- what a turn's job heard
pub turn-heard : (w : State) (job : ℕ) (t : Option ClientTurn) →
    IfSome t (λ turn. HeardIs turn (heard_by (job_of w.jobs job)))
    → heard_at w (Step job) (step_outcome t) ≡ heard_in_turn t
turn-heard w job (Some (turns.Job (turn.Done ended))) h = sym h
turn-heard w job (Some (turns.Job turn.More)) h = refl
turn-heard w job (Some (turns.Job (turn.Waiting holder))) h = refl
turn-heard w job (Some (turns.Job turn.NoSuchJob)) h = refl
turn-heard w job (Some (turns.Job turn.MustReopen)) h = refl
turn-heard w job (Some (turns.Scrub n scrubs.More)) h = refl
turn-heard w job (Some (turns.Scrub n (scrubs.Done answer))) h = h
turn-heard w job (Some (turns.Pack packs.More)) h = refl
turn-heard w job (Some (turns.Pack (packs.Done answer))) h = h
turn-heard w job None h = refl

-- a call that is one event
pub once : (event : Event) (came : Option Came) (c next : Client) (d e : Devices)
    → ((w : State) (moment : ℕ) → ClientStands c d w →
    MakesEvent w moment event (outcome_in next came) next e)
    → ((w : State) (es : List Entry) → ClientStands c d w →
    reported_after event es ++ heard_at w event (outcome_in next came) ≡ es ++ heard_in_came came)
    → (start : State) (ms : List Moment) → IsReached start ms c d → Performs start ms (Once event) came next e
once event came c next d e makes heard start ms R =
    (let M = makes (now start ms) (length ms) R.stands in record {
      steps = [];
      last = record { event = event; outcome = outcome_in next came; state = M.state };
      moments = (refl, refl);
      outcome_is = refl;
      reached = record { run = (M.spelled, M.happens, R.run); stands = M.stands };
      heard_is = heard (now start ms) (heard_in start ms) R.stands;
    })

-- a job that was run
pub run : (start : State) (ms : List Moment) (job : ℕ) (t : Option ClientTurn) (next : Client) (e : Devices) →
    RunsJobOn start ms job t next e → Performs start ms (RunJob job) (Some (came.Stepped t)) next e
run start ms job t next e R = record {
  steps = R.steps;
  last = R.last;
  moments = R.runs;
  outcome_is = R.outcome_is;
  reached = R.reached;
  heard_is = after-step (now start (R.steps ++ ms)) (heard_in start (R.steps ++ ms)) job R.last.event
      R.last.outcome (step_outcome t) R.runs.step R.outcome_is
      ∙ ap₂ (λ (x y : List Entry). x ++ y) (same-heard start ms job R.steps R.runs.before)
      (turn-heard (now start (R.steps ++ ms)) job t R.heard);
}

-- a vault is open in both or in none
pub open-same : (c : Client) (d : Devices) (w : State) → ClientStands c d w → w.is_open ≡ is_open c
open-same c d w S = open-of c.vault c.alone c.next_job d w S

-- a job that was not run, since no vault is open
pub not-run : (job : ℕ) → job < 2 ^ 32 → (c : Client) (d : Devices) → is_open c ≡ false →
    (start : State) (ms : List Moment) → IsReached start ms c d
    → Performs start ms (RunJob job) (Some (came.Stepped None)) c d
not-run job spelled c d closed start ms R = record {
  steps = [];
  last = record { event = Step job; outcome = Closed; state = now start ms };
  moments = record { step = refl; over = λ e. absurd cc; before = tt };
  outcome_is = refl;
  reached = record {
    run = (
      spelled,
      subst (λ b. Steps (now start ms) job b Closed (now start ms))
          (sym (open-same c d (now start ms) R.stands ∙ closed)) refl,
      R.run,
    );
    stands = R.stands;
  };
  heard_is = refl;
}
