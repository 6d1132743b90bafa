-- The steps of one job behind a run.
use Rattle.hail_client.proofs.Words.{◌≡◌, ℕ, false, List, [], ◌∷◌, ◌++◌, Option, Some, None, refl, sym, subst, ◌∙◌, IfSome, false≢true, Step, More, Outcome, heard_by, job_of, State, Moment, now, Devices, Client, step_outcome, job_goes_on, HeardIs, MakesEvent, IsReached, RunsJobOn}
use Rattle.std.proofs.Common.{true, length}
use Rattle.machine_defs.specs.Transcripts.{GoOn}
use Rattle.hail_scrub.specs.declared.turn.ScrubTurn.TheVariants as scrub_turn
use Rattle.vault.specs.declared.turn.Turn.TheVariants as turn
use Rattle.hail_client.specs.declared.turn.ClientTurn.{ClientTurn}
use Rattle.hail_client.specs.declared.turn.ClientTurn.TheVariants as client_turn
use Rattle.hail_client.specs.declared.turn.PackStep.TheVariants as pack_step

-- a step that goes on is told as one
pub told-more : (t : Option ClientTurn) → job_goes_on t ≡ true → step_outcome t ≡ More
told-more (Some (client_turn.Job turn.More)) e = refl
told-more (Some (client_turn.Job (turn.Waiting holder))) e = absurd (false≢true e)
told-more (Some (client_turn.Job (turn.Done ended))) e = absurd (false≢true e)
told-more (Some (client_turn.Job turn.NoSuchJob)) e = absurd (false≢true e)
told-more (Some (client_turn.Job turn.MustReopen)) e = absurd (false≢true e)
told-more (Some (client_turn.Scrub n scrub_turn.More)) e = refl
told-more (Some (client_turn.Scrub n (scrub_turn.Done answer))) e = absurd (false≢true e)
told-more (Some (client_turn.Pack pack_step.More)) e = refl
told-more (Some (client_turn.Pack (pack_step.Done answer))) e = absurd (false≢true e)
told-more None e = absurd (false≢true e)

-- and only such a step is
pub is-more : (t : Option ClientTurn) → step_outcome t ≡ More → job_goes_on t ≡ true
is-more (Some (client_turn.Job turn.More)) e = refl
is-more (Some (client_turn.Job (turn.Waiting holder))) e = absurd cc
is-more (Some (client_turn.Job (turn.Done ended))) e = absurd cc
is-more (Some (client_turn.Job turn.NoSuchJob)) e = absurd cc
is-more (Some (client_turn.Job turn.MustReopen)) e = absurd cc
is-more (Some (client_turn.Scrub n scrub_turn.More)) e = refl
is-more (Some (client_turn.Scrub n (scrub_turn.Done answer))) e = absurd cc
is-more (Some (client_turn.Pack pack_step.More)) e = refl
is-more (Some (client_turn.Pack (pack_step.Done answer))) e = absurd cc
is-more None e = absurd cc

-- steps of a job were made behind a run, and it goes on
pub record IsOnWay (start : State) (ms : List Moment) (job : ℕ) (c : Client) (d : Devices) : Type 0 where
  pub steps : List Moment
  pub going : GoOn job steps
  pub reached : IsReached start (steps ++ ms) c d

module _ (start : State) (ms : List Moment) (job : ℕ) where
  -- a job of which no step was made yet is on its way behind the run
  pub no-steps : (c : Client) (d : Devices) → IsReached start ms c d → IsOnWay start ms job c d
  no-steps c d reached = record { steps = []; going = tt; reached = reached }

  module _ (c next : Client) (old new : Devices) (way : IsOnWay start ms job c old) where
    abbrev here : State
    here = now start (way.steps ++ ms)

    one-step : MakesEvent here (length (way.steps ++ ms)) (Step job) More next new →
        IsOnWay start ms job next new
    one-step M = record {
      steps = record { event = Step job; outcome = More; state = M.state } ∷ way.steps;
      going = (refl, refl, way.going);
      reached = record { run = (M.spelled, M.happens, way.reached.run); stands = M.stands };
    }

    -- with a step that goes on, the job is on its way still
    pub one-more : (t : Option ClientTurn) → job_goes_on t ≡ true →
        MakesEvent here (length (way.steps ++ ms)) (Step job) (step_outcome t) next new →
        IsOnWay start ms job next new
    one-more t goes M = one-step
        (subst (λ (r : Outcome). MakesEvent here (length (way.steps ++ ms)) (Step job) r next new)
        (told-more t goes) M)

    -- with a step that does not go on, the job has run to its end, and what it heard is told
    pub at-end : (t : Option ClientTurn) → job_goes_on t ≡ false →
        MakesEvent here (length (way.steps ++ ms)) (Step job) (step_outcome t) next new →
        IfSome t (λ turn. HeardIs turn (heard_by (job_of here.jobs job))) → RunsJobOn start ms job t next new
    at-end t over M heard = record {
      steps = way.steps;
      last = record { event = Step job; outcome = step_outcome t; state = M.state };
      runs = record { step = refl; over = λ e. false≢true (sym over ∙ is-more t e); before = way.going };
      outcome_is = refl;
      reached = record { run = (M.spelled, M.happens, way.reached.run); stands = M.stands };
      heard = heard;
    }
