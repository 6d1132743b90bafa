-- Failed calls are at most as many as the counts rose.
use Rattle.second_half_laws.proofs.Words.{true, refl, ap, subst, ◌∙◌, inl, inr, arith, cases_lt, eq-eqb, Rose, last_count, Provider, Removes, Kind, PutJob, Job, Fetched, Answered, job_of, advanced, advanced_with, Action, WriteBody, SyncBody, WriteGate, SyncGate, Store, Fetch, Ask, Remove, End, Event, Init, Step, Reopen, Outcome, Refused, More, Ended, State, Append, Scrub, Pack, Alone, Scrubbing, Packing, with_provider, going_on, Moves, Ends, FetchStep, AskStep, Acts, ActsOrWaits, StepsOn, StepsJob, StepsOne, StepsOpen, Steps, Scrubs, StepsScrub, Packs, StepsAlone, InitsBy, Inits, Reopens, Happens, Moment, now, IsRun, Makes, cond_true, found_itself, is_setup}
use Rattle.std.proofs.Common.{◌≡◌, ℕ, zero, suc, ◌≤◌, ◌==◌, false, List, [], ◌∷◌, ◌++◌, Option, Some, None}
use Rattle.machine_defs.specs.Refusals as refusal
use Rattle.machine_defs.specs.Answers as answer
use Rattle.machine_defs.specs.Failures.{Count, OfDisk, OfStores, OfOthers, count_in, IsDiskFault, IsStoreFault, GaveAmiss, IsFailure, HasFailures, RoseBy}
use Rattle.machine_defs.proofs.Cases.{by_step}
use Rattle.second_half_laws.proofs.Onward.{run_onward}

-- a step by a job that makes an action is that action
made_acts : (limit moment : ℕ) (old : State) (m : Moment) (job : Job) (action : Action) →
    Makes old m job action → Happens limit moment old m.event m.outcome m.state →
    Acts old job action m.outcome m.state
made_acts limit moment old m job action makes h =
    waits _ makes.unheld (subst (λ a. StepsOn old job a m.outcome m.state) makes.next
    (subst (λ o. StepsJob old o m.outcome m.state) makes.runs (subst (λ x. StepsOne old job.number x m.outcome
    m.state) makes.none_alone (subst (λ b. StepsOpen old job.number b m.outcome m.state) makes.unbarred
    (subst (λ b. Steps old job.number b m.outcome m.state) makes.is_open
    (subst (λ e. Happens limit moment old e m.outcome m.state) makes.event h))))))
  where
    waits : (holder : Option ℕ) → holder ≡ None → ActsOrWaits old job action holder m.outcome m.state →
        Acts old job action m.outcome m.state
    waits None is g = g
    waits (Some n) is g = (cc is)

module _ (old : State) where
  -- the provider that was called
  at_one : (j : ℕ) (p : Provider) → with_provider old.providers j p j ≡ p
  at_one j p = cond_true (j == j) p (old.providers j) (eq-eqb j j refl)

  -- a count of the provider that was called rises as it does in the call
  called : (count : Provider → ℕ) (j : ℕ) (p : Provider) (new : State) →
      new.providers ≡ with_provider old.providers j p → Rose (count (old.providers j)) (count p) →
      Rose (count (old.providers j)) (count (new.providers j))
  called count j p new is rose = subst (λ x. Rose (count (old.providers j)) (count x)) (cc (at_one j p)) rose

  abbrev DiskRose : State → Type 0
  DiskRose new = Rose old.disk_faults new.disk_faults

  abbrev StoreRose : ℕ → State → Type 0
  StoreRose k new = Rose (old.providers k).store_faults (new.providers k).store_faults

  -- a disk call fails only with its cause
  ends_fault : (job : Job) (kind : Kind) → Ends old job kind answer.DiskFault → ⊥
  ends_fault job (PutJob name bytes) h = h
  ends_fault job kind h = h

  ends_store : (job : Job) (kind : Kind) (k : ℕ) → Ends old job kind (answer.ProviderFault k) → ⊥
  ends_store job (PutJob name bytes) k h = h
  ends_store job kind k h = h

  module _ (job : Job) where
    disk_moves : (action : Action) (flight : Option Append) (new : State) →
        Moves old job action flight (Ended answer.DiskFault) new → DiskRose new
    disk_moves WriteBody flight new (faults, low, rose, is) = subst (Rose old.disk_faults) (cc) rose
    disk_moves SyncBody (Some a) new (at, (faults, low, rose, is)) = subst (Rose old.disk_faults) (cc) rose
    disk_moves WriteGate (Some a) new (at, (faults, low, rose, is)) = subst (Rose old.disk_faults) (cc) rose
    disk_moves SyncGate (Some a) new (at, (faults, low, rose, is)) = subst (Rose old.disk_faults) (cc) rose
    disk_moves action flight new h = absurd h

    disk_acts : (action : Action) (new : State) → Acts old job action (Ended answer.DiskFault) new →
        DiskRose new
    disk_acts End new (ends, is) = absurd (ends_fault job job.kind ends)
    disk_acts action new h = disk_moves action old.append new h

    -- a store fails only with its cause
    store_moves : (action : Action) (flight : Option Append) (k : ℕ) (new : State) →
        Moves old job action flight (Ended (answer.ProviderFault k)) new → ⊥
    store_moves WriteBody flight k new h = h
    store_moves SyncBody (Some a) k new h = h
    store_moves WriteGate (Some a) k new h = h
    store_moves SyncGate (Some a) k new h = h
    store_moves action flight k new h = absurd h

    store_acts : (action : Action) (k : ℕ) (new : State) →
        Acts old job action (Ended (answer.ProviderFault k)) new → StoreRose k new
    store_acts (Store j o s) k new (k_is, (p, call, is)) = rw k_is
        (called (λ x. x.store_faults) j p new (cc) call.cause)
    store_acts End k new (ends, is) = absurd (ends_store job job.kind k ends)
    store_acts action k new h = absurd (store_moves action old.append k new h)

  disk_packs : (pack : Pack) (moves : ℕ) (new : State) → Packs old pack moves (Ended answer.DiskFault) new →
      DiskRose new
  disk_packs pack (suc (suc (suc (suc zero)))) new h = absurd h
  disk_packs pack (suc (suc (suc (suc (suc moves))))) new h = absurd h
  disk_packs pack moves new (faults, low, rose, is) = subst (Rose old.disk_faults) (cc) rose

  disk_scrubs : (scrub : Scrub) (todo : List Action) (new : State) →
      StepsScrub old scrub todo (Ended answer.DiskFault) new → ⊥
  disk_scrubs scrub (Fetch j o s ∷ rest) new h = h
  disk_scrubs scrub todo new h = h

  disk_alone : (x : Alone) (new : State) → StepsAlone old x (Ended answer.DiskFault) new → DiskRose new
  disk_alone (Scrubbing scrub) new h = absurd (disk_scrubs scrub scrub.todo new h)
  disk_alone (Packing pack) new h = disk_packs pack pack.moves new h

  store_scrubs : (scrub : Scrub) (action : Action) (rest : List Action) (k : ℕ) (new : State) →
      Scrubs old scrub action rest (Ended (answer.ProviderFault k)) new → StoreRose k new
  store_scrubs scrub (Store j o s) rest k new (k_is, (p, call, is)) = rw k_is
      (called (λ x. x.store_faults) j p new (cc) call.cause)
  store_scrubs scrub action rest k new h = absurd h

  store_todo : (scrub : Scrub) (todo : List Action) (k : ℕ) (new : State) →
      StepsScrub old scrub todo (Ended (answer.ProviderFault k)) new → StoreRose k new
  store_todo scrub [] k new h = absurd h
  store_todo scrub (action ∷ rest) k new h = store_scrubs scrub action rest k new h

  store_packs : (pack : Pack) (moves k : ℕ) (new : State) →
      Packs old pack moves (Ended (answer.ProviderFault k)) new → ⊥
  store_packs pack (suc (suc (suc (suc zero)))) k new h = h
  store_packs pack moves k new h = h

  store_alone : (x : Alone) (k : ℕ) (new : State) → StepsAlone old x (Ended (answer.ProviderFault k)) new →
      StoreRose k new
  store_alone (Scrubbing scrub) k new h = store_todo scrub scrub.todo k new h
  store_alone (Packing pack) k new h = absurd (store_packs pack pack.moves k new h)

  disk_steps : (number : ℕ) (new : State) → Steps old number old.is_open (Ended answer.DiskFault) new →
      DiskRose new
  disk_steps number new h = by_step old (λ n r w. r ≡ Ended answer.DiskFault →
      DiskRose w) (λ n r still is. absurd (rw is at still))
      (λ job runs is_open unbarred action r w next free made is. disk_acts job action w (rw is at made))
      (λ n x r w at is_open unbarred made is. disk_alone x w (rw is at made)) number old.is_open
      (Ended answer.DiskFault) new refl h refl

  store_steps : (number k : ℕ) (new : State) →
      Steps old number old.is_open (Ended (answer.ProviderFault k)) new → StoreRose k new
  store_steps number k new h = by_step old (λ n r w. r ≡ Ended (answer.ProviderFault k) → StoreRose k w)
      (λ n r still is. absurd (rw is at still))
      (λ job runs is_open unbarred action r w next free made is. store_acts job action k w (rw is at made))
      (λ n x r w at is_open unbarred made is. store_alone x k w (rw is at made)) number old.is_open
      (Ended (answer.ProviderFault k)) new refl h refl

  disk_inits : (s : _) (is_open good : _) (new : State) → is_setup s ≡ good →
      Inits old s is_open (Refused refusal.DiskFault) new → DiskRose new
  disk_inits s true good new is h = absurd h
  disk_inits s false good new is h =
      by good (subst (λ b. InitsBy old s b (Refused refusal.DiskFault) new) is h)
    where
      by : (b : _) → InitsBy old s b (Refused refusal.DiskFault) new → DiskRose new
      by false g = absurd g
      by true (doubt, leaves_it, (faults, low, rose, is)) = subst (Rose old.disk_faults) (cc) rose

  disk_reopens : (new : State) → Reopens old (Refused refusal.DiskFault) new → DiskRose new
  disk_reopens new (faults, low, rose, is) = subst (Rose old.disk_faults) (cc) rose

  disk_rose : (limit moment : ℕ) (e : Event) (r : Outcome) (new : State) → IsDiskFault e r →
      Happens limit moment old e r new → DiskRose new
  disk_rose limit moment (Step number) (Ended answer.DiskFault) new fault h = disk_steps number new h
  disk_rose limit moment Reopen (Refused refusal.DiskFault) new fault h = disk_reopens new h
  disk_rose limit moment (Init s) (Refused refusal.DiskFault) new fault h =
      disk_inits s old.is_open (is_setup s) new refl h
  disk_rose limit moment e r new fault h = absurd fault

  store_rose : (limit moment j : ℕ) (e : Event) (r : Outcome) (new : State) → IsStoreFault j e r →
      Happens limit moment old e r new → StoreRose j new
  store_rose limit moment j (Step number) (Ended (answer.ProviderFault k)) new fault h =
      (rw fault at (store_steps number k new h))
  store_rose limit moment j e r new fault h = absurd fault

  -- a call that gave or left something else failed
  module _ (j : ℕ) (m : Moment) (job : Job) (runs : job_of old.jobs job.number ≡ Some job) where
    abbrev Goal : Type 0
    Goal = Rose (old.providers j).other_faults (m.state.providers j).other_faults

    fetch_rose : (o s : ℕ) → FetchStep old job j o s m.state → GaveAmiss old m job j (Fetch j o s) → Goal
    fetch_rose o s (block, (p, call, is)) amiss = elim call.gives [
      | inl g ↦ absurd (amiss.1 block (cc (found_itself old.jobs (advanced_with job (Fetched j o s block)) job
          runs)) g)
      | inr f ↦ called (λ x. x.other_faults) j p m.state (cc) f.1
    ]

    ask_rose : (o round : ℕ) → AskStep old job j o round m.state → GaveAmiss old m job j (Ask j o round) →
        Goal
    ask_rose o round (symbol, (p, call, is)) amiss = elim call.gives [
      | inl g ↦ absurd (amiss.1 symbol (cc (found_itself old.jobs (advanced_with job (Answered j o round
          symbol)) job runs)) g)
      | inr f ↦ called (λ x. x.other_faults) j p m.state (cc) f.1
    ]

    remove_rose : (o : ℕ) (p : Provider) →
        m.state ≡ record (going_on old (advanced job)) { providers = with_provider old.providers j p } →
        Removes o (old.providers j) p → GaveAmiss old m job j (Remove j o) → Goal
    remove_rose o p is (inl all) amiss =
        absurd (amiss.1 (ap (λ (w : State). (w.providers j).held) is ∙ (cc (at_one j p))))
    remove_rose o p is (inr failed) amiss = called (λ x. x.other_faults) j p m.state (cc) failed.cause

    other_by : (action : Action) (r : Outcome) → Acts old job action r m.state →
        GaveAmiss old m job j action → Goal
    other_by (Fetch k o s) More h (is, amiss) =
        fetch_rose o s (subst (λ n. FetchStep old job n o s m.state) is h) (refl, amiss)
    other_by (Ask k o s) More h (is, amiss) =
        ask_rose o s (subst (λ n. AskStep old job n o s m.state) is h) (refl, amiss)
    other_by (Remove k o) More (p, call, e) (is, amiss) = remove_rose o p
        (e ∙ ap (λ n. record (going_on old (advanced job)) { providers = with_provider old.providers n p })
        is) (rw is at call) (refl, amiss)
    other_by (Fetch k o s) r h amiss = absurd h
    other_by (Ask k o s) r h amiss = absurd h
    other_by (Remove k o) r h amiss = absurd h
    other_by action r h amiss = absurd amiss

-- a failed call has its cause
failure_rose : (limit moment : ℕ) (count : Count) (old : State) (m : Moment) → IsFailure count old m →
    Happens limit moment old m.event m.outcome m.state → Rose (count_in count old) (count_in count m.state)
failure_rose limit moment OfDisk old m fault h = disk_rose old limit moment m.event m.outcome m.state fault h
failure_rose limit moment (OfStores j) old m fault h =
    store_rose old limit moment j m.event m.outcome m.state fault h
failure_rose limit moment (OfOthers j) old m fault h = other_by old j m fault.job fault.makes.runs
    fault.action m.outcome (made_acts limit moment old m fault.job fault.action fault.makes h) fault.amiss

-- counts never fall
never_falls : (limit : ℕ) (start : State) (count : Count) (m : Moment) (ms : List Moment) →
    IsRun limit start (m ∷ ms) → count_in count (now start ms) ≤ count_in count m.state
never_falls limit start OfDisk m ms run = (run_onward limit start m ms run).disk
never_falls limit start (OfStores j) m ms run = ((run_onward limit start m ms run).provider j).stores
never_falls limit start (OfOthers j) m ms run = ((run_onward limit start m ms run).provider j).others

one_rose : (a b c n : ℕ) → RoseBy a b n → b ≤ c → Rose b c → RoseBy a c (suc n)
one_rose a b c n (inr last) low rose = inr (omega arith)
one_rose a b c n (inl by) low rose = elim (cases_lt b last_count) [
  | inl l ↦ (let more = rose l in inl (omega arith))
  | inr l ↦ inr (omega arith)
]

kept_rose : (a b c n : ℕ) → RoseBy a b n → b ≤ c → RoseBy a c n
kept_rose a b c n (inr last) low = inr (omega arith)
kept_rose a b c n (inl by) low = inl (omega arith)

-- the state after more moments
after_more : (start : State) (later ms : List Moment) → now (now start ms) later ≡ now start (later ++ ms)
after_more start [] ms = refl
after_more start (m ∷ later) ms = refl

-- a count rises by as many as its failed calls, or stands at its last value
pub failures_rose : (limit : ℕ) (start : State) (later ms : List Moment) (count : Count) (n : ℕ) →
    IsRun limit start (later ++ ms) → HasFailures count (now start ms) later n →
    RoseBy (count_in count (now start ms)) (count_in count (now start (later ++ ms))) n
failures_rose limit start [] ms count n run none = inl (omega (arith, none))
failures_rose limit start (m ∷ later) ms count n run (inl has) = kept_rose _ _ _ n
    (failures_rose limit start later ms count n run.2 has) (never_falls limit start count m (later ++ ms) run)
failures_rose limit start (m ∷ later) ms count n run (inr (fewer, is, fails, has)) =
    rw (← is) at (one_rose _ _ _ fewer (failures_rose limit start later ms count fewer run.2 has)
    (never_falls limit start count m (later ++ ms) run) (failure_rose limit _ count _ m
    (subst (λ (w : State). IsFailure count w m) (after_more start later ms) fails) run.1))
