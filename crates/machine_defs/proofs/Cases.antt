-- What may come of an event, in one case for each kind of thing that may happen. Who tells what every event
-- does gives one answer for each case, told of the very state that is left: a walk through the machine is this
-- one alone.
--
--   Acting old job P         == P of what a job's next action comes to
--   Beside old x P           == P of what a step of a scrub or of a pack comes to
--   Cases limit moment old P == P of what any event comes to
--   by_action, by_alone      == so P holds of every action, and of every step of what runs alone
--   by_step, by_event        == so P holds of every step, and of every event
use Rattle.machine_defs.proofs.Words.{◌≡◌, zero, suc, ◌≤◌, Bool, false, ◌⊎◌, refl, ap, sym, subst, ◌∙◌, inl, inr, IsSome, is_some, nat_lt, eq-eqb, GivesSymbols, LosesRow, Record, Setup, SetUp, is_setup, setup_of, Area, Rose, Held, Provider, with_symbol, without_block, HasPlace, Stores, FailsToStore, FindsNoMemory, Fetches, Asks, Removes, Replaces, Kind, PutJob, Job, Fetched, Answered, Worked, job_of, advanced, advanced_with, Action, WriteBody, SyncBody, WriteGate, SyncGate, Store, Fetch, Ask, Work, Remove, End, Refusal, Answer, Event, Init, Begin, BeginAt, BeginScrub, BeginPack, Step, Alter, Lose, Stop, Reopen, Names, Continue, Outcome, Ready, Refused, Opened, Begun, More, Waiting, Ended, Replaced, NothingHeld, Stopped, Listed, Closed, Continued, State, Append, Doubt, Scrub, Pack, Alone, Scrubbing, Packing, setup_in, worked_object, brought, with_provider, going_on, continued, Settles, blocks_given, refusal_of_begin, beginning, BeginsAt, Writes, begun_append, moved, doubted, done_append, barred, unappended, IsAt, Moves, block_to_store, Ends, next_action, holder_of, Acts, ActsOrWaits, StepsOn, StepsJob, StepsMine, StepsOne, StepsOpen, Steps, number_alone, alone_refusal, scrubbed_object, block_to_scrub, Scrubs, StepsScrub, Packs, StepsAlone, new_scrub, pack_refusal, new_pack, BeginsAlone, IsSetUp, IsNotSetUp, LeavesDoubt, reread, Rereads, Stops, Reopens, InitsClosed, InitsBy, Inits, Continues, ReplacesAt, ReplacesIf, Lists, Happens, is_replacement}
use Rattle.std.proofs.Common.{ℕ, ◌+◌, ◌==◌, true, List, [], ◌∷◌, ◌++◌, Option, Some, None, arith}
use Rattle.algebra_laws.proofs.Options.{some-not-none, is_some-none}
use Rattle.column_defs.specs.Challenges.{honest_answer}
use Rattle.machine_defs.specs.Refusals as refusal
use Rattle.machine_defs.specs.Answers as answer
use Rattle.machine_defs.specs.States.{ended, given_up}
use Rattle.machine_defs.specs.Audits.{asked_challenge}
use Rattle.machine_defs.proofs.JobLists.{number_of}

-- an event that neither begins, goes on with nor ends a job or what runs alone, nor is a later call
abbrev pub IsStill : Event → Outcome → Type 0
IsStill Continue r = ⊥
IsStill e (Begun number) = ⊥
IsStill e More = ⊥
IsStill e (Ended how) = ⊥
IsStill e r = Unit {0}

-- a step that went on or ended
abbrev pub IsStepped : Outcome → Type 0
IsStepped More = Unit {0}
IsStepped (Ended how) = Unit {0}
IsStepped r = ⊥

-- an action of an append whose failure leaves what is in doubt
abbrev pub IsUngated : Action → Type 0
IsUngated WriteBody = Unit {0}
IsUngated SyncBody = Unit {0}
IsUngated SyncGate = Unit {0}
IsUngated action = ⊥

-- an action with which a job ends so, and with which no device is called
abbrev pub IsLast : State → Job → Action → Answer → Type 0
IsLast old job (Work o s) (answer.Lost t row) =
    (t ≡ s) × LosesRow (worked_object old job o) s (blocks_given job.given (setup_in old).n o s) row
IsLast old job End how = Ends old job job.kind how
IsLast old job action how = ⊥

-- a store that is not made, and how the job ends with it
abbrev pub IsUnstored : Provider → Provider → ℕ → Answer → Type 0
IsUnstored p q j how = (FailsToStore p q × (how ≡ answer.ProviderFault j))
    ⊎ (FindsNoMemory p q × (how ≡ answer.Memory))

-- the records after a record in doubt is settled
abbrev pub AreSettled : State → List Record → Type 0
AreSettled old rs = (rs ≡ old.records) ⊎ ((d : Doubt) × (old.doubt ≡ Some d) × (rs ≡ d.entry ∷ old.records))

-- a state with these records, and nothing in doubt
abbrev pub settled : State → List Record → List Record → State
settled w rs js = record w { records = rs; journal = js; doubt = None }

-- what a job's next action comes to
pub record Acting (old : State) (job : Job) (P : Outcome → State → Type 0) : Type 0 where
  pub begins : (entry : Record) → next_action old job ≡ Some WriteBody → old.append ≡ None →
      Writes old job job.kind entry → (faults : ℕ) → old.disk_faults ≤ faults →
      P More (record (begun_append old job entry) { disk_faults = faults })
  pub syncs : (a : Append) → next_action old job ≡ Some SyncBody → old.append ≡ Some a → IsAt a job 1 →
      (faults : ℕ) → old.disk_faults ≤ faults →
      P More (record (moved (going_on old (advanced job)) a) { disk_faults = faults })
  pub gates : (a : Append) → next_action old job ≡ Some WriteGate → old.append ≡ Some a → IsAt a job 2 →
      (faults : ℕ) → old.disk_faults ≤ faults →
      P More (record (doubted (moved (going_on old (advanced job)) a) a job) { disk_faults = faults })
  pub finishes : (a : Append) → next_action old job ≡ Some SyncGate → old.append ≡ Some a → IsAt a job 3 →
      (faults : ℕ) → old.disk_faults ≤ faults → P More (record (done_append old job a) { disk_faults = faults })
  pub bars : (action : Action) → IsUngated action → next_action old job ≡ Some action →
      ((a : Append) → old.append ≡ Some a → a.job ≡ job.number) → (faults : ℕ) →
      old.disk_faults ≤ faults → Rose old.disk_faults faults →
      P (Ended answer.DiskFault) (record (barred (ended old job)) { disk_faults = faults })
  pub bars_gated : (a : Append) → next_action old job ≡ Some WriteGate → old.append ≡ Some a →
      IsAt a job 2 → (faults : ℕ) → old.disk_faults ≤ faults → Rose old.disk_faults faults →
      P (Ended answer.DiskFault) (record (doubted (barred (ended old job)) a job) { disk_faults = faults })
  pub begins_not : next_action old job ≡ Some WriteBody → old.append ≡ None →
      P (Ended answer.Memory) (ended old job)
  pub gates_not : (a : Append) → next_action old job ≡ Some WriteGate → old.append ≡ Some a → IsAt a job 2 →
      P (Ended answer.Memory) (unappended (ended old job))
  pub stores : (j o s : ℕ) (p : Provider) → next_action old job ≡ Some (Store j o s) →
      Stores o s (block_to_store old job job.kind j o s) (old.providers j) p →
      P More (record (going_on old (advanced job)) { providers = with_provider old.providers j p })
  pub stores_not : (j o s : ℕ) (p : Provider) (how : Answer) → next_action old job ≡ Some (Store j o s) →
      IsUnstored (old.providers j) p j how →
      P (Ended how) (record (ended old job) { providers = with_provider old.providers j p })
  pub fetches : (j o s : ℕ) (block : Option (List ℕ)) (p : Provider) →
      next_action old job ≡ Some (Fetch j o s) →
      Fetches (worked_object old job o).profile.size o s (old.providers j) block p →
      P More (record (going_on old (advanced_with job (Fetched j o s block)))
      { providers = with_provider old.providers j p })
  pub asks : (j o round : ℕ) (symbol : Option ℕ) (p : Provider) →
      next_action old job ≡ Some (Ask j o round) →
      Asks (honest_answer (asked_challenge (setup_in old) job o round)) o (old.providers j) symbol p →
      P More (record (going_on old (advanced_with job (Answered j o round symbol)))
      { providers = with_provider old.providers j p })
  pub works : (o s : ℕ) (symbols : List ℕ) → next_action old job ≡ Some (Work o s) →
      GivesSymbols (worked_object old job o) s (blocks_given job.given (setup_in old).n o s) symbols →
      P More (going_on old (advanced_with job (Worked o s symbols)))
  pub removes : (j o : ℕ) (p : Provider) → next_action old job ≡ Some (Remove j o) →
      Removes o (old.providers j) p →
      P More (record (going_on old (advanced job)) { providers = with_provider old.providers j p })
  pub ends : (action : Action) (how : Answer) → next_action old job ≡ Some action →
      IsLast old job action how → P (Ended how) (ended old job)

-- what a step of a scrub or of a pack comes to
pub record Beside (old : State) (x : Alone) (P : Outcome → State → Type 0) : Type 0 where
  pub stores : (scrub : Scrub) (rest : List Action) (j o s : ℕ) (p : Provider) → x ≡ Scrubbing scrub →
      scrub.todo ≡ Store j o s ∷ rest → Stores o s (block_to_scrub old scrub j o s) (old.providers j) p →
      P More (record old {
        alone = Some (Scrubbing (record scrub { todo = rest }));
        providers = with_provider old.providers j p;
      })
  pub stores_not : (j : ℕ) (p : Provider) (how : Answer) → IsUnstored (old.providers j) p j how →
      P (Ended how) (record old { alone = None; providers = with_provider old.providers j p })
  pub fetches : (scrub left : Scrub) (j o s : ℕ) (block : Option (List ℕ)) (p : Provider) →
      Fetches (scrubbed_object old scrub o).profile.size o s (old.providers j) block p → P More
      (record old { alone = Some (Scrubbing left); providers = with_provider old.providers j p })
  pub aside : (left : Option Alone) (r : Outcome) → IsStepped r → P r (record old { alone = left })
  pub packs : (left : Option Alone) (barred switching : Bool) (journal : List Record) (area : Area)
      (faults : ℕ) (r : Outcome) → IsStepped r → old.disk_faults ≤ faults → P r
      (record old {
        alone = left;
        is_barred = barred;
        is_switching = switching;
        journal = journal;
        area = area;
        disk_faults = faults;
      })

-- what any event comes to
pub record Cases (limit moment : ℕ) (old : State) (P : Event → Outcome → State → Type 0) : Type 1 where
  pub still : (e : Event) (r : Outcome) → IsStill e r → P e r old
  pub acts : (job : Job) → job_of old.jobs job.number ≡ Some job → old.is_open ≡ true →
      old.is_barred ≡ false → Acting old job (P (Step job.number))
  pub alone : (number : ℕ) (x : Alone) (r : Outcome) (new : State) → old.alone ≡ Some x →
      old.is_open ≡ true → old.is_barred ≡ false → StepsAlone old x r new → P (Step number) r new
  pub begins : (kind : Kind) → old.is_open ≡ true → refusal_of_begin limit old kind None ≡ None →
      P (Begin kind) (Begun old.next_job) (record old {
        jobs = old.jobs ++ beginning old moment kind None ∷ [];
        next_job = old.next_job + 1;
      })
  pub begins_at : (profile : ℕ) (name bytes : List ℕ) → old.is_open ≡ true →
      refusal_of_begin limit old (PutJob name bytes) (Some profile) ≡ None →
      P (BeginAt profile name bytes) (Begun old.next_job) (record old {
        jobs = old.jobs ++ beginning old moment (PutJob name bytes) (Some profile) ∷ [];
        next_job = old.next_job + 1;
      })
  pub scrub : alone_refusal old [] ≡ None → P BeginScrub (Begun old.next_job)
      (record old { alone = Some (Scrubbing (new_scrub old moment)); next_job = old.next_job + 1 })
  pub pack : pack_refusal old ≡ None → P BeginPack (Begun old.next_job)
      (record old { alone = Some (Packing (new_pack old)); next_job = old.next_job + 1 })
  pub stops : (picks : List ℕ) (rs js : List Record) (area : Area) → AreSettled old rs →
      P (Stop picks) Stopped (settled (reread old js area) rs js)
  pub opens : (rs js : List Record) (area : Area) → AreSettled old rs → is_some (setup_of rs) ≡ true →
      (faults : ℕ) → old.disk_faults ≤ faults → P Reopen Opened
      (record (settled (reread old js area) rs js) { is_open = true; disk_faults = faults })
  pub opens_not : (why : Refusal) (rs js : List Record) (area : Area) → AreSettled old rs → (faults : ℕ) →
      old.disk_faults ≤ faults → P Reopen (Refused why)
      (record (settled (reread old js area) rs js) { disk_faults = faults })
  pub reads_not : (why : Refusal) (faults : ℕ) → old.disk_faults ≤ faults →
      P Reopen (Refused why) (record (given_up old) { disk_faults = faults })
  pub sets_up : (s : Setup) (rs js : List Record) → is_setup s ≡ true → old.is_open ≡ false →
      AreSettled old rs → setup_of rs ≡ None → (faults : ℕ) → old.disk_faults ≤ faults → P (Init s) Ready
      (record (settled old (SetUp s ∷ rs) (SetUp s ∷ js)) { disk_faults = faults })
  pub sets_up_not : (s : Setup) (why : Refusal) (doubt : Option Doubt) → is_setup s ≡ true →
      old.is_open ≡ false → LeavesDoubt old s doubt → (faults : ℕ) → old.disk_faults ≤ faults →
      P (Init s) (Refused why) (record old { doubt = doubt; disk_faults = faults })
  pub is_set_up : (s : Setup) (rs js : List Record) → old.is_open ≡ false → AreSettled old rs →
      (faults : ℕ) → old.disk_faults ≤ faults →
      P (Init s) (Refused refusal.Already) (record (settled old rs js) { disk_faults = faults })
  pub replaces : (e : Event) (j : ℕ) (IsThere : Held → Type 0) (changed : Held → Held) (p : Provider) →
      IsStill e Replaced → ((i : ℕ) → i ≡ j → is_replacement e Replaced i ≡ true) →
      Replaces IsThere changed true (old.providers j) p →
      P e Replaced (record old { providers = with_provider old.providers j p })
  pub replaces_not : (e : Event) (j : ℕ) (IsThere : Held → Type 0) (changed : Held → Held) (p : Provider) →
      IsStill e NothingHeld → Replaces IsThere changed false (old.providers j) p →
      P e NothingHeld (record old { providers = with_provider old.providers j p })
  pub continues : P Continue Continued (continued old)

module _ (old : State) (job : Job) (P : Outcome → State → Type 0) (c : Acting old job P) where
  left : {r : Outcome} {w new : State} → new ≡ w → P r w → P r new
  left is h = subst (P _) (sym is) h

  flies_none : old.append ≡ None → (a : Append) → old.append ≡ Some a → a.job ≡ job.number
  flies_none none a h = absurd (some-not-none old.append a h none)

  flies : (b : Append) → old.append ≡ Some b → b.job ≡ job.number → (a : Append) → old.append ≡ Some a →
      a.job ≡ job.number
  flies b flight mine a h =
      (let e : Some a ≡ Some b = sym h ∙ flight in let f : a ≡ b = cc in ap (λ (x : Append). x.job) f ∙ mine)

  moves : (action : Action) (flight : Option Append) (r : Outcome) (new : State) →
      old.append ≡ flight → next_action old job ≡ Some action → holder_of flight action ≡ None →
      Moves old job action flight r new → P r new
  moves WriteBody None More new at next free (entry, writes, (faults, low, is)) =
      left is (c.begins entry next at writes faults low)
  moves WriteBody (Some a) r new at next free h = absurd (some-not-none (Some a.job) a.job refl free)
  moves WriteBody None (Ended answer.DiskFault) new at next free (faults, low, rose, is) =
      left is (c.bars WriteBody tt next (flies_none at) faults low rose)
  moves WriteBody None (Ended answer.Memory) new at next free is = left is (c.begins_not next at)
  moves SyncBody (Some a) More new at next free (mine, (faults, low, is)) =
      left is (c.syncs a next at mine faults low)
  moves SyncBody (Some a) (Ended answer.DiskFault) new at next free (mine, (faults, low, rose, is)) =
      left is (c.bars SyncBody tt next (flies a at mine.0) faults low rose)
  moves WriteGate (Some a) More new at next free (mine, (faults, low, is)) =
      left is (c.gates a next at mine faults low)
  moves WriteGate (Some a) (Ended answer.DiskFault) new at next free (mine, (faults, low, rose, is)) =
      left is (c.bars_gated a next at mine faults low rose)
  moves WriteGate (Some a) (Ended answer.Memory) new at next free (mine, is) =
      left is (c.gates_not a next at mine)
  moves SyncGate (Some a) More new at next free (mine, (faults, low, is)) =
      left is (c.finishes a next at mine faults low)
  moves SyncGate (Some a) (Ended answer.DiskFault) new at next free (mine, (faults, low, rose, is)) =
      left is (c.bars SyncGate tt next (flies a at mine.0) faults low rose)
  moves action flight r new at next free h = absurd h

  pub by_action : (action : Action) (r : Outcome) (new : State) → next_action old job ≡ Some action →
      holder_of old.append action ≡ None → Acts old job action r new → P r new
  by_action (Store j o s) More new next free (p, call, is) = left is (c.stores j o s p next call)
  by_action (Store j o s) (Ended (answer.ProviderFault k)) new next free (same, (p, call, is)) = left is
      (c.stores_not j o s p (answer.ProviderFault k) next (inl (call, ap answer.ProviderFault same)))
  by_action (Store j o s) (Ended answer.Memory) new next free (p, call, is) =
      left is (c.stores_not j o s p answer.Memory next (inr (call, refl)))
  by_action (Fetch j o s) More new next free (block, (p, call, is)) =
      left is (c.fetches j o s block p next call)
  by_action (Ask j o round) More new next free (symbol, (p, call, is)) =
      left is (c.asks j o round symbol p next call)
  by_action (Work o s) More new next free (symbols, gives, is) = left is (c.works o s symbols next gives)
  by_action (Work o s) (Ended (answer.Lost t row)) new next free (same, lost, is) =
      left is (c.ends (Work o s) (answer.Lost t row) next (same, lost))
  by_action (Remove j o) More new next free (p, call, is) = left is (c.removes j o p next call)
  by_action End (Ended how) new next free (so, is) = left is (c.ends End how next so)
  by_action action r new next free h = moves action old.append r new refl next free h

module _ (old : State) (x : Alone) (P : Outcome → State → Type 0) (c : Beside old x P) where
  leaves : {r : Outcome} {w new : State} → new ≡ w → P r w → P r new
  leaves is h = subst (P _) (sym is) h

  scrubs : (scrub : Scrub) (action : Action) (rest : List Action) (r : Outcome) (new : State) →
      x ≡ Scrubbing scrub → scrub.todo ≡ action ∷ rest → Scrubs old scrub action rest r new → P r new
  scrubs scrub (Fetch j o s) rest More new at todo (block, (p, call, is)) =
      leaves is (c.fetches scrub _ j o s block p call)
  scrubs scrub (Work o s) rest More new at todo (symbols, gives, is) = leaves is (c.aside _ More tt)
  scrubs scrub (Work o s) rest (Ended (answer.Lost t row)) new at todo (same, lost, is) =
      leaves is (c.aside None (Ended (answer.Lost t row)) tt)
  scrubs scrub (Store j o s) rest More new at todo (p, call, is) =
      leaves is (c.stores scrub rest j o s p at todo call)
  scrubs scrub (Store j o s) rest (Ended (answer.ProviderFault k)) new at todo (same, (p, call, is)) =
      leaves is (c.stores_not j p (answer.ProviderFault k) (inl (call, ap answer.ProviderFault same)))
  scrubs scrub (Store j o s) rest (Ended answer.Memory) new at todo (p, call, is) =
      leaves is (c.stores_not j p answer.Memory (inr (call, refl)))
  scrubs scrub End rest (Ended (answer.Scrubbed stripes symbols blocks)) new at todo (a, b, d, is) =
      leaves is (c.aside None (Ended (answer.Scrubbed stripes symbols blocks)) tt)
  scrubs scrub action rest r new at todo h = absurd h

  steps_scrub : (scrub : Scrub) (todo : List Action) (r : Outcome) (new : State) →
      x ≡ Scrubbing scrub → scrub.todo ≡ todo → StepsScrub old scrub todo r new → P r new
  steps_scrub scrub [] r new at is h = absurd h
  steps_scrub scrub (action ∷ rest) r new at is h = scrubs scrub action rest r new at is h

  packed_by : (pack : Pack) (made : ℕ) (r : Outcome) (new : State) → Packs old pack made r new → P r new
  packed_by pack (suc (suc (suc (suc zero)))) (Ended (answer.Packed before after)) new (b, a, is) =
      leaves is (c.aside None (Ended (answer.Packed before after)) tt)
  packed_by pack (suc (suc (suc (suc made)))) r new h = absurd h
  packed_by pack made More new (faults, low, is) = leaves is (c.packs _ _ _ _ _ faults More tt low)
  packed_by pack made (Ended answer.DiskFault) new (faults, low, rose, is) =
      leaves is (c.packs _ _ _ _ _ faults (Ended answer.DiskFault) tt low)
  packed_by pack zero (Ended answer.Memory) new is = leaves is (c.aside None (Ended answer.Memory) tt)
  packed_by pack (suc (suc zero)) (Ended answer.Memory) new is =
      leaves is (c.aside None (Ended answer.Memory) tt)
  packed_by pack made r new h = absurd h

pub by_alone : (old : State) (x : Alone) (P : Outcome → State → Type 0) → Beside old x P → (r : Outcome)
    (new : State) → StepsAlone old x r new → P r new
by_alone old (Scrubbing scrub) P c r new h =
    steps_scrub old (Scrubbing scrub) P c scrub scrub.todo r new refl refl h
by_alone old (Packing pack) P c r new h = packed_by old (Packing pack) P c pack pack.moves r new h

-- a step, from what is so of steps that change nothing, of those of jobs, and of those of what runs alone
module _ (old : State) (P : ℕ → Outcome → State → Type 0)
    (still : (number : ℕ) (r : Outcome) → IsStill (Step number) r → P number r old)
    (acts : (job : Job) → job_of old.jobs job.number ≡ Some job → old.is_open ≡ true →
    old.is_barred ≡ false → (action : Action) (r : Outcome) (new : State) →
    next_action old job ≡ Some action → holder_of old.append action ≡ None → Acts old job action r new →
    P job.number r new)
    (alone : (number : ℕ) (x : Alone) (r : Outcome) (new : State) → old.alone ≡ Some x →
    old.is_open ≡ true → old.is_barred ≡ false → StepsAlone old x r new → P number r new) (number : ℕ) where
  stays : (r : Outcome) (new : State) → new ≡ old → IsStill (Step number) r → P number r new
  stays r new is quiet = subst (λ (w : State). P number r w) (sym is) (still number r quiet)

  module _ (is_open : old.is_open ≡ true) (unbarred : old.is_barred ≡ false) where
    acts_or_waits : (job : Job) → job_of old.jobs job.number ≡ Some job → job.number ≡ number →
        (action : Action) (holder : Option ℕ) (r : Outcome) (new : State) →
        next_action old job ≡ Some action → holder_of old.append action ≡ holder →
        ActsOrWaits old job action holder r new → P number r new
    acts_or_waits job runs same action (Some n) (Waiting h) new next free w = stays (Waiting h) new w.1 tt
    acts_or_waits job runs same action None r new next free h =
        subst (λ n. P n r new) same (acts job runs is_open unbarred action r new next free h)
    acts_or_waits job runs same action (Some n) r new next free h = absurd h

    steps_on : (job : Job) → job_of old.jobs job.number ≡ Some job → job.number ≡ number →
        (action : Option Action) (r : Outcome) (new : State) → next_action old job ≡ action →
        StepsOn old job action r new → P number r new
    steps_on job runs same None r new next h = absurd h
    steps_on job runs same (Some action) r new next h =
        acts_or_waits job runs same action (holder_of old.append action) r new next refl h

    steps_job : (job : Option Job) (r : Outcome) (new : State) → job_of old.jobs number ≡ job →
        StepsJob old job r new → P number r new
    steps_job None (Refused refusal.NoSuchJob) new is h = stays (Refused refusal.NoSuchJob) new h tt
    steps_job (Some job) r new is h = (let same = number_of old.jobs number job is in
        steps_on job (subst (λ n. job_of old.jobs n ≡ Some job) (sym same) is) same (next_action old job) r
        new refl h)
    steps_job None r new is h = absurd h

    steps_mine : (x : Alone) (mine : Bool) (r : Outcome) (new : State) → old.alone ≡ Some x →
        StepsMine old number x mine r new → P number r new
    steps_mine x true r new at h = alone number x r new at is_open unbarred h
    steps_mine x false r new at h = steps_job (job_of old.jobs number) r new refl h

    steps_one : (x : Option Alone) (r : Outcome) (new : State) → old.alone ≡ x →
        StepsOne old number x r new → P number r new
    steps_one None r new at h = steps_job (job_of old.jobs number) r new refl h
    steps_one (Some x) r new at h = steps_mine x (number_alone x == number) r new at h

  steps_open : (is_barred : Bool) (r : Outcome) (new : State) → old.is_open ≡ true →
      old.is_barred ≡ is_barred → StepsOpen old number is_barred r new → P number r new
  steps_open true (Refused refusal.MustReopen) new is_open at h = stays (Refused refusal.MustReopen) new h tt
  steps_open false r new is_open at h = steps_one is_open at old.alone r new refl h
  steps_open true r new is_open at h = absurd h

  pub by_step : (is_open : Bool) (r : Outcome) (new : State) → old.is_open ≡ is_open →
      Steps old number is_open r new → P number r new
  by_step false Closed new at h = stays Closed new h tt
  by_step true r new at h = steps_open old.is_barred r new at refl h
  by_step false r new at h = absurd h

-- what is so of a state with its record in doubt settled
by_settling : (w : State) (Q : State → Type 0) →
    ((rs js : List Record) → AreSettled w rs → Q (settled w rs js)) → (mid : State) → Settles w mid → Q mid
by_settling w Q q mid (inl is) = subst Q (sym is) (q w.records w.journal (inl refl))
by_settling w Q q mid (inr (d, at, is)) =
    subst Q (sym is) (q (d.entry ∷ w.records) (d.entry ∷ w.journal) (inr (d, at, refl)))

module _ (limit moment : ℕ) (old : State) (P : Event → Outcome → State → Type 0)
    (c : Cases limit moment old P) where
  keeps : (e : Event) (r : Outcome) (new : State) → new ≡ old → IsStill e r → P e r new
  keeps e r new is quiet = subst (λ (w : State). P e r w) (sym is) (c.still e r quiet)

  becomes : {e : Event} {r : Outcome} {w new : State} → new ≡ w → P e r w → P e r new
  becomes is h = subst (P _ _) (sym is) h

  begins : (kind : Kind) (r : Outcome) (new : State) → BeginsAt limit moment old kind None r new →
      P (Begin kind) r new
  begins kind Closed new h = keeps (Begin kind) Closed new h.1 tt
  begins kind (Refused why) new h = keeps (Begin kind) (Refused why) new h.2 tt
  begins kind (Begun job) new (is_open, allowed, number, is) =
      subst (λ n. P (Begin kind) (Begun n) new) (sym number) (becomes is (c.begins kind is_open allowed))
  begins kind r new h = absurd h

  begins_at : (profile : ℕ) (name bytes : List ℕ) (r : Outcome) (new : State) →
      BeginsAt limit moment old (PutJob name bytes) (Some profile) r new → P (BeginAt profile name bytes) r new
  begins_at profile name bytes Closed new h = keeps (BeginAt profile name bytes) Closed new h.1 tt
  begins_at profile name bytes (Refused why) new h =
      keeps (BeginAt profile name bytes) (Refused why) new h.2 tt
  begins_at profile name bytes (Begun job) new (is_open, allowed, number, is) =
      (rw (← number) at (becomes is (c.begins_at profile name bytes is_open allowed)))
  begins_at profile name bytes r new h = absurd h

  begins_alone : (e : Event) (why : Option Refusal) (x : Alone) → IsStill e Closed →
      ((refused : Refusal) → IsStill e (Refused refused)) →
      (why ≡ None → P e (Begun old.next_job) (record old { alone = Some x; next_job = old.next_job + 1 })) →
      (r : Outcome) (new : State) → BeginsAlone old why x r new → P e r new
  begins_alone e why x closed refuses b Closed new h = keeps e Closed new h.1 closed
  begins_alone e why x closed refuses b (Refused refused) new h =
      keeps e (Refused refused) new h.2 (refuses refused)
  begins_alone e why x closed refuses b (Begun job) new (is_open, allowed, number, is) =
      subst (λ n. P e (Begun n) new) (sym number) (becomes is (b allowed))
  begins_alone e why x closed refuses b r new h = absurd h

  -- a state read again
  by_reading : (Q : State → Type 0) →
      ((rs js : List Record) (area : Area) → AreSettled old rs → Q (settled (reread old js area) rs js)) →
      (mid : State) → Rereads old mid → Q mid
  by_reading Q q mid (journal, area, holds, inl is) = subst Q (sym is) (q old.records journal area (inl refl))
  by_reading Q q mid (journal, area, holds, inr (d, at, is)) =
      subst Q (sym is) (q (d.entry ∷ old.records) (d.entry ∷ journal) area (inr (d, at, refl)))

  stops : (picks : List ℕ) (r : Outcome) (new : State) → Stops old r new → P (Stop picks) r new
  stops picks Stopped new h = by_reading (P (Stop picks) Stopped) (c.stops picks) new h
  stops picks r new h = absurd h

  reopens : (r : Outcome) (new : State) → Reopens old r new → P Reopen r new
  reopens Opened new (mid, s, up, enough, (faults, low, is)) = by_reading
      (λ mid. IsSetUp mid → new ≡ record mid { is_open = true; disk_faults = faults } → P Reopen Opened new)
      (λ rs js area so up is. becomes is (c.opens rs js area so up faults low)) mid s up is
  reopens (Refused refusal.NotSetUp) new (mid, s, none, (faults, low, is)) =
      by_reading (λ mid. new ≡ record mid { disk_faults = faults } → P Reopen (Refused refusal.NotSetUp) new)
      (λ rs js area so is. becomes is (c.opens_not refusal.NotSetUp rs js area so faults low)) mid s is
  reopens (Refused refusal.TooFewProviders) new (mid, s, up, few, (faults, low, is)) = by_reading
      (λ mid. new ≡ record mid { disk_faults = faults } → P Reopen (Refused refusal.TooFewProviders) new)
      (λ rs js area so is. becomes is (c.opens_not refusal.TooFewProviders rs js area so faults low)) mid s is
  reopens (Refused refusal.DiskFault) new (faults, low, rose, is) =
      becomes is (c.reads_not refusal.DiskFault faults low)
  reopens (Refused refusal.Memory) new is =
      becomes is (c.reads_not refusal.Memory old.disk_faults (omega arith))
  reopens r new h = absurd h

  inits_closed : (s : Setup) (r : Outcome) (new : State) → is_setup s ≡ true → old.is_open ≡ false →
      InitsClosed old s r new → P (Init s) r new
  inits_closed s (Refused refusal.DiskFault) new good closed (doubt, leaves_it, (faults, low, rose, is)) =
      becomes is (c.sets_up_not s refusal.DiskFault doubt good closed leaves_it faults low)
  inits_closed s (Refused refusal.Memory) new good closed (doubt, leaves_it, is) =
      becomes is (c.sets_up_not s refusal.Memory doubt good closed leaves_it old.disk_faults (omega arith))
  inits_closed s (Refused refusal.Already) new good closed (mid, settles, up, (faults, low, is)) =
      by_settling old (λ mid. new ≡ record mid { disk_faults = faults } → P (Init s) (Refused refusal.Already)
      new) (λ rs js so is. becomes is (c.is_set_up s rs js closed so faults low)) mid settles is
  inits_closed s Ready new good closed (mid, settles, none, (faults, low, is)) =
      by_settling old (λ mid. IsNotSetUp mid → new ≡ record (brought mid (SetUp s)) { disk_faults = faults } →
      P (Init s) Ready new) (λ rs js so none is. becomes is
      (c.sets_up s rs js good closed so (is_some-none (setup_of rs) none) faults low)) mid settles none is
  inits_closed s r new good closed h = absurd h

  inits_by : (s : Setup) (good : Bool) (r : Outcome) (new : State) → is_setup s ≡ good →
      old.is_open ≡ false → InitsBy old s good r new → P (Init s) r new
  inits_by s false (Refused refusal.BadSetup) new is closed h =
      keeps (Init s) (Refused refusal.BadSetup) new h tt
  inits_by s true r new is closed h = inits_closed s r new is closed h
  inits_by s false r new is closed h = absurd h

  inits : (s : Setup) (is_open : Bool) (r : Outcome) (new : State) → old.is_open ≡ is_open →
      Inits old s is_open r new → P (Init s) r new
  inits s true (Refused refusal.Already) new at h = keeps (Init s) (Refused refusal.Already) new h tt
  inits s false r new at h = inits_by s (is_setup s) r new refl at h
  inits s true r new at h = absurd h

  module _ (e : Event) (j : ℕ) (quiet : IsStill e Replaced) (nothing : IsStill e NothingHeld)
      (counts : (i : ℕ) → i ≡ j → is_replacement e Replaced i ≡ true) (IsThere : Held → Type 0)
      (changed : Held → Held) where
    replaces : (r : Outcome) (new : State) → ReplacesAt old j IsThere changed r new → P e r new
    replaces Replaced new (p, call, is) = becomes is (c.replaces e j IsThere changed p quiet counts call)
    replaces NothingHeld new (p, call, is) = becomes is (c.replaces_not e j IsThere changed p nothing call)
    replaces r new h = absurd h

    replaces_if : (handed : Bool) (r : Outcome) (new : State) → ReplacesIf handed old j IsThere changed r new →
        P e r new
    replaces_if true r new h = replaces r new h
    replaces_if false NothingHeld new h = keeps e NothingHeld new h nothing
    replaces_if false r new h = absurd h

  lists : (is_open : Bool) (r : Outcome) (new : State) → Lists old is_open r new → P Names r new
  lists true (Listed files) new h = keeps Names (Listed files) new h.1 tt
  lists false Closed new h = keeps Names Closed new h tt
  lists is_open r new h = absurd h

  going : (r : Outcome) (new : State) → Continues old r new → P Continue r new
  going Continued new is = becomes is c.continues
  going r new h = absurd h

  pub by_event : (e : Event) (r : Outcome) (new : State) → Happens limit moment old e r new → P e r new
  by_event (Init s) r new h = inits s old.is_open r new refl h
  by_event (Begin kind) r new h = begins kind r new h
  by_event (BeginAt profile name bytes) r new h = begins_at profile name bytes r new h
  by_event BeginScrub r new h = begins_alone BeginScrub _ _ tt (λ why. tt) c.scrub r new h
  by_event BeginPack r new h = begins_alone BeginPack _ _ tt (λ why. tt) c.pack r new h
  by_event (Step number) r new h = by_step old (λ n. P (Step n)) (λ n. c.still (Step n))
      (λ job runs is_open unbarred. by_action old job (P (Step job.number)) (c.acts job runs is_open unbarred))
      c.alone number old.is_open r new refl h
  by_event (Alter j object stripe place symbol) r new h = replaces_if (Alter j object stripe place symbol) j
      tt tt (λ i is. eq-eqb j i (sym is)) (λ held. HasPlace (held object stripe) place)
      (with_symbol object stripe place symbol) (nat_lt j old.handed) r new h
  by_event (Lose j object stripe) r new h =
      replaces_if (Lose j object stripe) j tt tt (λ i is. eq-eqb j i (sym is))
      (λ held. IsSome (held object stripe)) (without_block object stripe) (nat_lt j old.handed) r new h
  by_event (Stop picks) r new h = stops picks r new h
  by_event Reopen r new h = reopens r new h
  by_event Names r new h = lists old.is_open r new h
  by_event Continue r new h = going r new h
