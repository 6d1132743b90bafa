-- A step that ends a job with an answer of its kind makes the end of that job.
use Rattle.machine_defs.proofs.Words.{◌≡◌, zero, suc, refl, ap, sym, subst, ◌∙◌, Job, job_of, Action, WriteBody, SyncBody, WriteGate, SyncGate, Store, Work, End, Answer, Event, Step, Outcome, Ended, State, Append, Scrub, Pack, Alone, Scrubbing, Packing, Moves, Ends, next_action, Acts, Steps, Scrubs, StepsScrub, Packs, StepsAlone, Happens}
use Rattle.std.proofs.Common.{ℕ, List, [], ◌∷◌, Option, Some}
use Rattle.machine_defs.specs.Answers as answer
use Rattle.machine_defs.proofs.Cases.{by_step}

-- an answer of an action that failed, or of what runs alone
abbrev pub HasFailed : Answer → Type 0
HasFailed answer.DiskFault = Unit {0}
HasFailed answer.Memory = Unit {0}
HasFailed (answer.ProviderFault provider) = Unit {0}
HasFailed (answer.Lost stripe row) = Unit {0}
HasFailed (answer.Scrubbed stripes symbols blocks) = Unit {0}
HasFailed (answer.Packed before after) = Unit {0}
HasFailed how = ⊥

-- the next action of a job is its end, and the answer is that of its kind
abbrev pub IsItsEnd : State → Job → Answer → Type 0
IsItsEnd old job how = (next_action old job ≡ Some End) × Ends old job job.kind how

module _ (old : State) (job : Job) (new : State) where
  moves_fail : (action : Action) (flight : Option Append) (how : Answer) →
      Moves old job action flight (Ended how) new → HasFailed how
  moves_fail WriteBody flight answer.DiskFault h = tt
  moves_fail WriteBody flight answer.Memory h = tt
  moves_fail SyncBody (Some a) answer.DiskFault h = tt
  moves_fail WriteGate (Some a) answer.DiskFault h = tt
  moves_fail WriteGate (Some a) answer.Memory h = tt
  moves_fail SyncGate (Some a) answer.DiskFault h = tt
  moves_fail action flight how h = absurd h

  acts_end : (action : Action) (how : Answer) → (HasFailed how → ⊥) → Acts old job action (Ended how) new →
      (action ≡ End) × Ends old job job.kind how
  acts_end End how good h = (refl, h.0)
  acts_end (Store j o s) (answer.ProviderFault k) good h = absurd (good tt)
  acts_end (Store j o s) answer.Memory good h = absurd (good tt)
  acts_end (Work o s) (answer.Lost t row) good h = absurd (good tt)
  acts_end action how good h = absurd (good (moves_fail action old.append how h))

  scrubs_fail : (scrub : Scrub) (action : Action) (rest : List Action) (how : Answer) →
      Scrubs old scrub action rest (Ended how) new → HasFailed how
  scrubs_fail scrub (Work o s) rest (answer.Lost t row) h = tt
  scrubs_fail scrub (Store j o s) rest (answer.ProviderFault k) h = tt
  scrubs_fail scrub (Store j o s) rest answer.Memory h = tt
  scrubs_fail scrub End rest (answer.Scrubbed stripes symbols blocks) h = tt
  scrubs_fail scrub action rest how h = absurd h

  todo_fails : (scrub : Scrub) (todo : List Action) (how : Answer) →
      StepsScrub old scrub todo (Ended how) new → HasFailed how
  todo_fails scrub [] how h = absurd h
  todo_fails scrub (action ∷ rest) how h = scrubs_fail scrub action rest how h

  packs_fail : (pack : Pack) (moves : ℕ) (how : Answer) → Packs old pack moves (Ended how) new → HasFailed how
  packs_fail pack zero answer.DiskFault h = tt
  packs_fail pack zero answer.Memory h = tt
  packs_fail pack (suc zero) answer.DiskFault h = tt
  packs_fail pack (suc (suc zero)) answer.DiskFault h = tt
  packs_fail pack (suc (suc zero)) answer.Memory h = tt
  packs_fail pack (suc (suc (suc zero))) answer.DiskFault h = tt
  packs_fail pack (suc (suc (suc (suc zero)))) (answer.Packed before after) h = tt
  packs_fail pack moves how h = absurd h

  pub alone_fails : (x : Alone) (how : Answer) → StepsAlone old x (Ended how) new → HasFailed how
  alone_fails (Scrubbing scrub) how h = todo_fails scrub scrub.todo how h
  alone_fails (Packing pack) how h = packs_fail pack pack.moves how h

-- a step that ended, of the number of a job that runs, is one of its actions or one of what runs alone
pub by_end : (old : State) (job : Job) (how : Answer) (new : State) (Q : Type 0) →
    job_of old.jobs job.number ≡ Some job →
    ((action : Action) → next_action old job ≡ Some action → Acts old job action (Ended how) new → Q) →
    ((x : Alone) → old.alone ≡ Some x → StepsAlone old x (Ended how) new → Q) →
    Steps old job.number old.is_open (Ended how) new → Q
by_end old job how new Q runs acts alone h = by_step old (λ n r w. n ≡ job.number → r ≡ Ended how → w ≡ new →
    Q) (λ n r still same is left. absurd (rw is at still))
    (λ x at is_open unbarred action r w next free made same is left. its x
    (let e = sym at ∙ (ap (job_of old.jobs) same ∙ runs) in cc) action next
    (rw left at (subst (λ (o : Outcome). Acts old x action o w) is made)))
    (λ n x r w at is_open unbarred made same is left. alone x at
    (rw left at (subst (λ (o : Outcome). StepsAlone old x o w) is made))) job.number old.is_open (Ended how)
    new refl h refl refl refl
  where
    its : (x : Job) → x ≡ job → (action : Action) → next_action old x ≡ Some action →
        Acts old x action (Ended how) new → Q
    its x same action next made = acts action (rw same at next) (rw same at made)

-- an event that is such a step of a job whose answer is of no failure is the end of that job
pub event_end : (limit moment : ℕ) (old : State) (e : Event) (r : Outcome) (new : State) (job : Job)
    (how : Answer) → (HasFailed how → ⊥) →
    e ≡ Step job.number → r ≡ Ended how → job_of old.jobs job.number ≡ Some job →
    Happens limit moment old e r new → IsItsEnd old job how
event_end limit moment old e r new job how good event outcome runs h =
    by_end old job how new (IsItsEnd old job how) runs
    (λ action next made. (let z = acts_end old job new action how good made in (next ∙ ap Some z.0, z.1)))
    (λ x at made. absurd (good (alone_fails old job new x how made)))
    (subst (λ (x : Event). Happens limit moment old x (Ended how) new) event
    (subst (λ (o : Outcome). Happens limit moment old e o new) outcome h))
