-- The state in which a job ended is sound, and has the setup and the providers that it began with.
use Rattle.command_laws.proofs.Words.{◌≡◌, ℕ, ◌+◌, true, false, List, length, Option, Some, refl, ap, sym, subst, ◌∙◌, arith, is_some, setup_of, Kind, Job, Action, WriteBody, SyncBody, WriteGate, SyncGate, Store, Work, End, Answer, Step, Ended, IsSpelledKind, Entry, State, Append, setup_in, setup_or_none, chosen, beginning, Acts, now, AreSteps, RunsJob, RunsPart, IsSound, IsOpenAtRest, MayName, WalkedAt, events-sound}
use Rattle.machine_defs.specs.Answers as answer
use Rattle.machine_defs.specs.Appends.{Moves}
use Rattle.lone_laws.proofs.Walk.{walk-begin, walk-last}
use Rattle.job_laws.proofs.Runs.{walk-steps}
use Rattle.job_laws.proofs.Keeping.{part-keeps, runs-keep}

-- the last state of a job that ran alone
pub record IsLast (start new : State) : Type 0 where
  pub sound : IsSound 8 new
  pub up : is_some (setup_of new.records) ≡ true
  pub setup : setup_in new ≡ setup_in start
  pub handed : new.handed ≡ start.handed
  pub unswitched : new.is_switching ≡ false

-- a last step changes neither the records nor how many providers are handed in
abbrev Stays : State → State → Type 0
Stays w new = (new.records ≡ w.records) × (new.handed ≡ w.handed)

by-state : (w new left : State) → new ≡ left → left.records ≡ w.records → left.handed ≡ w.handed → Stays w new
by-state w new left is records handed = (ap (λ v. v.records) is ∙ records, ap (λ v. v.handed) is ∙ handed)

module _ (w : State) (job : Job) (new : State) where
  moves-stay : (action : Action) (flight : Option Append) (how : Answer) →
      Moves w job action flight (Ended how) new → Stays w new
  moves-stay WriteBody flight answer.DiskFault (faults, low, rose, is) = by-state w new _ is refl refl
  moves-stay WriteBody flight answer.Memory is = by-state w new _ is refl refl
  moves-stay SyncBody (Some a) answer.DiskFault (at, (faults, low, rose, is)) = by-state w new _ is refl refl
  moves-stay WriteGate (Some a) answer.DiskFault (at, (faults, low, rose, is)) = by-state w new _ is refl refl
  moves-stay WriteGate (Some a) answer.Memory (at, is) = by-state w new _ is refl refl
  moves-stay SyncGate (Some a) answer.DiskFault (at, (faults, low, rose, is)) = by-state w new _ is refl refl
  moves-stay action flight how h = absurd h

  acts-stay : (action : Action) (how : Answer) → Acts w job action (Ended how) new → Stays w new
  acts-stay (Store j o s) (answer.ProviderFault k) (same, (p, made, is)) = by-state w new _ is refl refl
  acts-stay (Store j o s) answer.Memory (p, made, is) = by-state w new _ is refl refl
  acts-stay (Work o s) (answer.Lost t row) (same, loses, is) = by-state w new _ is refl refl
  acts-stay End how (so, is) = by-state w new _ is refl refl
  acts-stay action how h = moves-stay action w.append how h

last-of : (start w : State) (kind : Kind) {profile : ℕ} (job : Job) (new : State) →
    WalkedAt start kind profile w job →
    IsSound 8 new → new.is_switching ≡ false → Stays w new → IsLast start new
unfolding setup_in
last-of start w kind job new W sound unswitched stay = record {
  sound = sound;
  up = ap (λ rs. is_some (setup_of rs)) stay.0 ∙ W.sound.set_up W.opened;
  setup = ap (λ rs. setup_or_none (setup_of rs)) stay.0 ∙ W.setup;
  handed = stay.1 ∙ W.handed;
  unswitched = unswitched;
}

-- the state in which a put was given up is sound, with the setup and the providers of its begin
pub part-state : (start new : State) (moment : ℕ) (kind : Kind) (own : Option ℕ) (count : ℕ) →
    IsOpenAtRest start 1 → IsSpelledKind kind → MayName kind own →
    RunsPart start moment kind own count new → IsLast start new
unfolding setup_in
part-state start new moment kind own count O spelled named r =
    (let b = walk-begin moment r.job start r.begun kind own named O spelled r.begins in
    let steps : AreSteps r.begun (moment + 1) 1 r.steps =
    subst (λ n. AreSteps r.begun (moment + 1) n r.steps) b.0 r.are_steps in
    let last = walk-steps start r.begun kind (chosen (setup_in start) own) (beginning start moment kind own)
    (moment + 1) r.steps O b.1 steps in
    let W = last.1 in
    subst (IsLast start) (sym r.last) (record {
      sound = W.sound;
      up = W.sound.set_up W.opened;
      setup = W.setup;
      handed = W.handed;
      unswitched = (part-keeps start O kind own moment r.job r.begun (beginning start moment kind own) r.steps
          r.begins b.1 steps).switch ∙ O.rest.unswitched;
    }))

-- the state in which a job ended is sound, with the setup and the providers of its begin
pub last-state : (start new : State) (moment : ℕ) (kind : Kind) (own : Option ℕ) (how : Answer)
    (heard : List Entry) → IsOpenAtRest start 1 → IsSpelledKind kind → MayName kind own →
    RunsJob start moment kind own how heard new → IsLast start new
last-state start new moment kind own how heard O spelled named r =
    (let b = walk-begin moment r.job start r.begun kind own named O spelled r.begins in
    let g =
    rw b.0 at r.goes_on in
    let last = walk-steps start r.begun kind (chosen (setup_in start) own) (beginning start moment kind own)
    (moment + 1) g.steps O b.1 g.are_steps in
    let a = walk-last start O kind (now r.begun g.steps) last.0 last.1
    ((moment + 1) + length g.steps) new how g.ends in
    last-of start (now r.begun g.steps) kind last.0 new last.1
    (events-sound 8 ((moment + 1) + length g.steps) (now r.begun g.steps) last.1.sound
    (omega arith, omega arith) (Step 1) (Ended how) new (omega arith) g.ends)
    ((runs-keep start O kind own new moment how heard spelled named r).switch ∙ O.rest.unswitched)
    (acts-stay (now r.begun g.steps) last.0 new a.0 how a.3))
