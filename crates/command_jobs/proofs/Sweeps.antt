-- A scrub that runs alone, step by step.
use Rattle.command_jobs.proofs.Words.{◌≡◌, ℕ, ◌+◌, true, false, List, [], ◌∷◌, length, refl, ap, sym, subst, ◌∙◌, Provider, Outcome, Step, More, heard_by, job_of, Happens, Moment, now, State, Scrub, setup_in, AreSteps, ScrubAnswer, ScrubStands, MakesScrubStep, scrub_outcome, ScrubView, SweepsToEnd}
use Rattle.hail_scrub.specs.declared.turn.ScrubTurn.TheVariants as turn

-- the scrub has made these steps, and stands for that of the state after them; but for what runs alone and
-- the providers this state is the first
pub record OnSweep (w : State) (m : Scrub) (moment : ℕ) (v : ScrubView) (ps : List Provider) : Type 0 where
  pub steps : List Moment
  pub are_steps : AreSteps w moment m.number steps
  pub next : Scrub
  pub stands : ScrubStands v ps (now w steps) next
  pub number : next.number ≡ m.number
  pub beside : now w steps ≡ record w { alone = (now w steps).alone; providers = (now w steps).providers }

-- before its first step
pub no-sweep : (w : State) (m : Scrub) (moment : ℕ) (v : ScrubView) (ps : List Provider) →
    ScrubStands v ps w m → OnSweep w m moment v ps
no-sweep w m moment v ps stands = record {
  steps = [];
  are_steps = tt;
  next = m;
  stands = stands;
  number = refl;
  beside = refl;
}

-- but for what runs alone and the providers the setup is the same
setup-same : (w : State) (x : State) → x ≡ record w { alone = x.alone; providers = x.providers } →
    setup_in x ≡ setup_in w
unfolding setup_in
setup-same w x beside = ap setup_in beside

module _ (w : State) (m : Scrub) (moment : ℕ) (v next : ScrubView) (ps qs : List Provider)
    (opened : w.is_open ≡ true) (unbarred : w.is_barred ≡ false) (way : OnSweep w m moment v ps) where
  abbrev here : State
  here = now w way.steps

  -- a step is an event of the machine
  sweeps : (outcome : Outcome) (new : State) →
      ((limit moment : ℕ) → here.is_open ≡ true → here.is_barred ≡ false →
      Happens limit moment here (Step way.next.number) outcome new) →
      Happens 8 (moment + length way.steps) here (Step m.number) outcome new
  sweeps outcome new happens = subst (λ n. Happens 8 (moment + length way.steps) here (Step n) outcome new)
      way.number (happens 8 (moment + length way.steps) (ap (λ (x : State). x.is_open) way.beside ∙ opened)
      (ap (λ (x : State). x.is_barred) way.beside ∙ unbarred))

  -- what it changes beside
  still-beside : (new : State) → new ≡ record here { alone = new.alone; providers = new.providers } →
      new ≡ record w { alone = new.alone; providers = new.providers }
  still-beside new beside =
      beside ∙ ap (λ (x : State). record x { alone = new.alone; providers = new.providers }) way.beside

  -- one step more
  pub sweep-more : MakesScrubStep here way.next turn.More next qs → OnSweep w m moment next qs
  sweep-more M = record {
    steps = record { event = Step m.number; outcome = More; state = M.state } ∷ way.steps;
    are_steps = (refl, refl, sweeps More M.state M.happens, way.are_steps);
    next = M.left.next;
    stands = M.left.stands;
    number = M.left.number_stays ∙ way.number;
    beside = still-beside M.state M.beside;
  }

  -- the step that ends it
  pub sweep-end : (answer : ScrubAnswer) → w.jobs ≡ [] → MakesScrubStep here way.next (turn.Done answer) next qs →
      SweepsToEnd w m.number moment answer qs
  sweep-end answer idle M = record {
    last = M.state;
    goes = record {
      steps = way.steps;
      are_steps = way.are_steps;
      ends = rw (ap (λ s. s.n) (setup-same w here way.beside)) at (sweeps
          (scrub_outcome (setup_in here).n (turn.Done answer)) M.state M.happens);
      heard_is = ap (λ js. heard_by (job_of js m.number)) (sym idle ∙ sym (ap (λ x. x.jobs) way.beside));
    };
    beside = still-beside M.state M.beside;
    ended = M.left;
    handed = M.handed;
  }
