-- What ends or is refused for want of memory counts no fault.
use Rattle.machine_defs.proofs.Words.{◌≡◌, refl, ap, sym, ◌∙◌, inl, inr, cases_Bool, eqb-true, Provider, FindsNoMemory, Setup, is_setup, Job, Action, WriteBody, SyncBody, WriteGate, SyncGate, Store, End, Init, Step, Reopen, Outcome, Refused, Ended, State, Append, Scrub, Pack, Alone, Scrubbing, Packing, with_provider, Moves, Acts, StepsScrub, Packs, StepsAlone, InitsBy, Inits, Happens}
use Rattle.std.specs.Prelude.{ℕ, suc, zero, ◌==◌, Bool, true, false, List, ◌∷◌, Option, Some}
use Rattle.machine_defs.specs.Refusals as refusal
use Rattle.machine_defs.specs.Answers as answer
use Rattle.machine_defs.specs.States.{ended, given_up}
use Rattle.machine_defs.specs.Failures.{Count, OfDisk, OfStores, OfOthers, count_in}
use Rattle.machine_defs.specs.Alone.{unalone}
use Rattle.machine_defs.proofs.Cases.{by_step}
use Rattle.machine_defs.proofs.JobLists.{cond_true, cond_false}

module _ (old : State) where
  -- each count of faults is as it was
  abbrev Keeps : State → Type 0
  Keeps new = (count : Count) → count_in count new ≡ count_in count old

  -- a count of each provider is as it was where that of the called one is
  module _ (j : ℕ) (p : Provider) (new : State) (called : new.providers ≡ with_provider old.providers j p)
      (count : Provider → ℕ) (same : count p ≡ count (old.providers j)) (i : ℕ) where
    at_each : count (new.providers i) ≡ count (old.providers i)
    at_each = ap (λ (f : ℕ → Provider). count (f i)) called ∙ elim (cases_Bool (i == j)) [
      | inl t ↦ ap count (cond_true (i == j) p (old.providers i) t) ∙ same
          ∙ ap (λ n. count (old.providers n)) (sym (eqb-true i j t))
      | inr f ↦ ap count (cond_false (i == j) p (old.providers i) f)
    ]

  -- a store that found no memory
  unstored : (j : ℕ) (p : Provider) (left new : State) → left.disk_faults ≡ old.disk_faults →
      FindsNoMemory (old.providers j) p →
      new ≡ record left { providers = with_provider old.providers j p } → Keeps new
  unstored j p left new disk call is OfDisk = ap (λ (w : State). w.disk_faults) is ∙ disk
  unstored j p left new disk call is (OfStores i) = at_each j p new (ap (λ (w : State). w.providers) is)
      (λ (q : Provider). q.store_faults) call.no_fault i
  unstored j p left new disk call is (OfOthers i) = at_each j p new (ap (λ (w : State). w.providers) is)
      (λ (q : Provider). q.other_faults) call.counts.other_faults i

  -- a state with the devices of this one
  quiet : (left new : State) → left.disk_faults ≡ old.disk_faults → left.providers ≡ old.providers →
      new ≡ left → Keeps new
  quiet left new disk providers is count = ap (count_in count) is ∙ by count
    where
      by : (c : Count) → count_in c left ≡ count_in c old
      by OfDisk = disk
      by (OfStores j) = ap (λ (f : ℕ → Provider). (f j).store_faults) providers
      by (OfOthers j) = ap (λ (f : ℕ → Provider). (f j).other_faults) providers

  moves : (job : Job) (action : Action) (flight : Option Append) (new : State) →
      Moves old job action flight (Ended answer.Memory) new → Keeps new
  moves job WriteBody flight new is = quiet _ new refl refl is
  moves job WriteGate (Some a) new (at, is) = quiet _ new refl refl is
  moves job SyncBody (Some a) new h = absurd h
  moves job SyncGate (Some a) new h = absurd h
  moves job action flight new h = absurd h

  acts : (job : Job) (action : Action) (new : State) → Acts old job action (Ended answer.Memory) new → Keeps new
  acts job (Store j o s) new (p, call, is) = unstored j p (ended old job) new refl call is
  acts job End new (so, is) = quiet _ new refl refl is
  acts job action new h = moves job action old.append new h

  scrubs : (scrub : Scrub) (todo : List Action) (new : State) →
      StepsScrub old scrub todo (Ended answer.Memory) new → Keeps new
  scrubs scrub (Store j o s ∷ rest) new (p, call, is) = unstored j p (unalone old) new refl call is
  scrubs scrub _ new h = absurd h

  packs : (pack : Pack) (made : ℕ) (new : State) → Packs old pack made (Ended answer.Memory) new → Keeps new
  packs pack zero new is = quiet _ new refl refl is
  packs pack (suc zero) new h = absurd h
  packs pack (suc (suc zero)) new is = quiet _ new refl refl is
  packs pack (suc (suc (suc zero))) new h = absurd h
  packs pack (suc (suc (suc (suc zero)))) new h = absurd h
  packs pack (suc (suc (suc (suc (suc more))))) new h = absurd h

  alone : (x : Alone) (new : State) → StepsAlone old x (Ended answer.Memory) new → Keeps new
  alone (Scrubbing scrub) new h = scrubs scrub scrub.todo new h
  alone (Packing pack) new h = packs pack pack.moves new h

  inits_by : (s : Setup) (good : Bool) (new : State) → InitsBy old s good (Refused refusal.Memory) new → Keeps new
  inits_by s true new (doubt, leaves, is) = quiet (record old { doubt = doubt }) new refl refl is
  inits_by s false new h = absurd h

  inits : (s : Setup) (is_open : Bool) (new : State) → Inits old s is_open (Refused refusal.Memory) new → Keeps new
  inits s false new h = inits_by s (is_setup s) new h
  inits s true new h = absurd h

-- a step that ends for want of memory leaves each count of faults
pub memory_counts_none : (limit moment : ℕ) (old new : State) (number : ℕ) →
    Happens limit moment old (Step number) (Ended answer.Memory) new → (count : Count) →
    count_in count new ≡ count_in count old
memory_counts_none limit moment old new number h = by_step old Left (λ n r still is. absurd (rw is at still))
    (λ job runs is_open unbarred action r w next free made is. acts old job action w (rw is at made))
    (λ n x r w at is_open unbarred made is. alone old x w (rw is at made)) number old.is_open
    (Ended answer.Memory) new refl h refl
  where
    Left : ℕ → Outcome → State → Type 0
    Left n r w = r ≡ Ended answer.Memory → (count : Count) → count_in count w ≡ count_in count old

-- so does a reopening that is refused for it
pub reopenings_count_none : (limit moment : ℕ) (old new : State) →
    Happens limit moment old Reopen (Refused refusal.Memory) new → (count : Count) →
    count_in count new ≡ count_in count old
reopenings_count_none limit moment old new is = quiet old (given_up old) new refl refl is

-- and an init
pub inits_count_none : (limit moment : ℕ) (old new : State) (s : Setup) →
    Happens limit moment old (Init s) (Refused refusal.Memory) new → (count : Count) →
    count_in count new ≡ count_in count old
inits_count_none limit moment old new s h = inits old s old.is_open new h
