-- How a scrub comes to be what it is after an event.
use Rattle.second_half_laws.proofs.Words.{found_none, true, ◌⊎◌, refl, ap, sym, subst, ◌∙◌, inl, inr, nat_lt, option_map, cases_Bool, and_from, eq-eqb, false≢true, some-not-none, GivesSymbols, Held, Provider, with_block, Stores, FetchGives, PutJob, Job, Fetched, job_of, Action, Store, Fetch, Work, End, Cause, Event, Begin, BeginAt, BeginScrub, BeginPack, Step, Outcome, Refused, Begun, More, Ended, Closed, State, Scrub, Pack, Alone, Scrubbing, Packing, setup_in, with_provider, blocks_given, told_block, cond_true, block_to_scrub, alone_refusal, scrubbed_object, opened_scrub, Scrubs, StepsScrub, Packs, StepsAlone, new_scrub, new_pack, BeginsAlone, Happens, IsLone, none_lone}
use Rattle.std.proofs.Common.{◌≡◌, ℕ, zero, suc, ◌==◌, Bool, false, List, [], ◌∷◌, Option, Some, None}
use Rattle.std.specs.Prelude.{length}
use Rattle.machine_defs.specs.Answers as answer
use Rattle.machine_defs.proofs.Cases.{Acting, Cases, by_event}

-- jobs, records, bytes and what is in doubt stay, and whether a vault is open
pub record Beside (old new : State) : Type 0 where
  pub jobs : new.jobs ≡ old.jobs
  pub records : new.records ≡ old.records
  pub bytes : new.bytes ≡ old.bytes
  pub doubt : new.doubt ≡ old.doubt
  pub is_open : new.is_open ≡ old.is_open

-- a scrub has made its next action
pub data Scrub_goes (old new : State) (scrub next : Scrub) : Type 0 where
  stored : (i o s : ℕ) (rest : List Action) → scrub.todo ≡ Store i o s ∷ rest →
      next ≡ record scrub { todo = rest } →
      ((b : Option (List ℕ)) → told_block new i o s ≡ Some b → b ≡ Some (block_to_scrub old scrub i o s)) →
      Scrub_goes old new scrub next
  fetched : (i o s : ℕ) (rest : List Action) (block : Option (List ℕ)) → scrub.todo ≡ Fetch i o s ∷ rest →
      next ≡ record scrub { todo = rest; given = Fetched i o s block ∷ scrub.given } →
      FetchGives (scrubbed_object old scrub o).profile.size o s (old.providers i).held block ⊎
      (block ≡ None) → Scrub_goes old new scrub next
  worked : (o s : ℕ) (rest : List Action) (symbols : List ℕ) → scrub.todo ≡ Work o s ∷ rest →
      GivesSymbols (scrubbed_object old scrub o) s (blocks_given scrub.given (setup_in old).n o s) symbols →
      next ≡ opened_scrub old scrub o s rest symbols → Scrub_goes old new scrub next

-- a scrub that runs after an event
pub data Scrub_is (moment : ℕ) (e : Event) (old new : State) (next : Scrub) : Type 0 where
  kept : old.alone ≡ Some (Scrubbing next) → Beside old new → Scrub_is moment e old new next
  begun : e ≡ BeginScrub → next ≡ new_scrub old moment → old.alone ≡ None → old.is_open ≡ true →
      old.is_barred ≡ false → Beside old new → Scrub_is moment e old new next
  went : (scrub : Scrub) → old.alone ≡ Some (Scrubbing scrub) → Scrub_goes old new scrub next →
      Beside old new → Scrub_is moment e old new next

-- the scrub that runs alone
scrub_of : (a b : Scrub) → Some (Scrubbing a) ≡ Some (Scrubbing b) → a ≡ b
scrub_of a b h = cc

-- what a provider tells of a block that it has stored
stored_told : (providers : ℕ → Provider) (i o s : ℕ) (block : List ℕ) (p : Provider) →
    Stores o s block (providers i) p → (b : Option (List ℕ)) →
    option_map (λ (h : Held). h o s) (with_provider providers i p i).held ≡ Some b → b ≡ Some block
stored_told providers i o s block p call b told =
    by_held (providers i).held call.held (cc (cond_true (i == i) p (providers i) (eq-eqb i i refl)))
  where
    by_held : (held : Option Held) → p.held ≡ option_map (with_block o s block) held →
        option_map (λ h. h o s) p.held ≡ Some b → b ≡ Some block
    by_held None is t = (let z : None ≡ Some b = cc in cc)
    by_held (Some held) is t = (let z : Some (with_block o s block held o s) ≡ Some b = cc in
        let y : with_block o s block held o s ≡ b = cc in
        sym y ∙ cond_true _ _ _ (and_from (o == o) (s == s) (eq-eqb o o refl) (eq-eqb s s refl)))

module _ (moment : ℕ) (old : State) (lone : IsLone old)
    (opened : (scrub : Scrub) → old.alone ≡ Some (Scrubbing scrub) → old.is_open ≡ true) where
  abbrev Result : Event → State → Type 0
  Result e new = (next : Scrub) → new.alone ≡ Some (Scrubbing next) → Scrub_is moment e old new next

  none : (e : Event) (new : State) → new.alone ≡ None → Result e new
  none e new is next h = absurd (some-not-none new.alone (Scrubbing next) h is)

  module _ (e : Event) where
    scrubs : (scrub : Scrub) (action : Action) (rest : List Action) (r : Outcome) (new : State) →
        old.alone ≡ Some (Scrubbing scrub) → scrub.todo ≡ action ∷ rest → Scrubs old scrub action rest r new →
        Result e new
    scrubs scrub (Fetch i o s) rest More new at todo (block, (p, call, is)) =
        subst (Result e) (sym is) (λ next h. Scrub_is.went scrub at (Scrub_goes.fetched i o s rest block todo
        (sym (scrub_of _ _ h)) (elim call.gives [ inl g ↦ inl g | inr f ↦ inr f.0 ]))
        (record { jobs = refl; records = refl; bytes = refl; doubt = refl; is_open = refl }))
    scrubs scrub (Work o s) rest More new at todo (symbols, gives, is) =
        subst (Result e) (sym is) (λ next h. Scrub_is.went scrub at
        (Scrub_goes.worked o s rest symbols todo gives (sym (scrub_of _ _ h)))
        (record { jobs = refl; records = refl; bytes = refl; doubt = refl; is_open = refl }))
    scrubs scrub (Work o s) rest (Ended (answer.Lost t row)) new at todo (t_is, lost, is) = none e new (cc)
    scrubs scrub (Store i o s) rest More new at todo (p, call, is) = subst (Result e) (sym is)
        (λ next h. Scrub_is.went scrub at (Scrub_goes.stored i o s rest todo (sym (scrub_of _ _ h))
        (λ c told. stored_told old.providers i o s (block_to_scrub old scrub i o s) p call c told))
        (record { jobs = refl; records = refl; bytes = refl; doubt = refl; is_open = refl }))
    scrubs scrub (Store i o s) rest (Ended (answer.ProviderFault k)) new at todo (k_is, (p, call, is)) =
        none e new (cc)
    scrubs scrub (Store i o s) rest (Ended answer.Memory) new at todo (p, call, is) = none e new (cc)
    scrubs scrub End rest (Ended (answer.Scrubbed stripes symbols blocks)) new at todo (a, b, c, is) =
        none e new (cc)
    scrubs scrub action rest r new at todo h = absurd h

    steps_scrub : (scrub : Scrub) (todo : List Action) (r : Outcome) (new : State) →
        old.alone ≡ Some (Scrubbing scrub) → scrub.todo ≡ todo → StepsScrub old scrub todo r new → Result e new
    steps_scrub scrub [] r new at is h = absurd h
    steps_scrub scrub (action ∷ rest) r new at is h = scrubs scrub action rest r new at is h

    -- a pack stays one, or ends
    packed : (new : State) (pack : Pack) → new.alone ≡ Some (Packing pack) → Result e new
    packed new pack is next h = absurd (cc (sym is ∙ h))

    packs : (pack : Pack) (moves : ℕ) (r : Outcome) (new : State) → old.alone ≡ Some (Packing pack) →
        Packs old pack moves r new → Result e new
    packs pack zero More new at (faults, low, is) = packed new _ (ap (λ w. w.alone) is)
    packs pack zero (Ended answer.DiskFault) new at (faults, low, rose, is) = none e new (cc)
    packs pack zero (Ended answer.Memory) new at is = none e new (cc)
    packs pack (suc zero) More new at (faults, low, is) = packed new _ (ap (λ w. w.alone) is)
    packs pack (suc zero) (Ended answer.DiskFault) new at (faults, low, rose, is) = none e new (cc)
    packs pack (suc (suc zero)) More new at (faults, low, is) = packed new _ (ap (λ w. w.alone) is)
    packs pack (suc (suc zero)) (Ended answer.DiskFault) new at (faults, low, rose, is) = none e new (cc)
    packs pack (suc (suc zero)) (Ended answer.Memory) new at is = none e new (cc)
    packs pack (suc (suc (suc zero))) More new at (faults, low, is) = packed new _ (ap (λ w. w.alone) is)
    packs pack (suc (suc (suc zero))) (Ended answer.DiskFault) new at (faults, low, rose, is) =
        none e new (cc)
    packs pack (suc (suc (suc (suc zero)))) (Ended (answer.Packed before after)) new at (b, a, is) =
        none e new (cc)
    packs pack moves r new at h = absurd h

    steps_alone : (x : Alone) (r : Outcome) (new : State) → old.alone ≡ Some x → StepsAlone old x r new →
        Result e new
    steps_alone (Scrubbing scrub) r new at h = steps_scrub scrub scrub.todo r new at refl h
    steps_alone (Packing pack) r new at h = packs pack pack.moves r new at h

  -- a begin of what runs alone
  unbarred : (more : List Cause) → alone_refusal old more ≡ None → old.is_barred ≡ false
  unbarred more h = elim (cases_Bool old.is_barred) [
    | inl t ↦ absurd (let e = rw t at h in cc e)
    | inr f ↦ f
  ]

  -- nothing else runs alone then
  lonely : (more : List Cause) → alone_refusal old more ≡ None → old.alone ≡ None
  lonely more h = nobody old.alone refl
    where
      nobody : (x : Option Alone) → old.alone ≡ x → x ≡ None
      nobody None is = refl
      nobody (Some x) is = absurd (by_jobs (nat_lt 0 (length old.jobs)) refl)
        where
          by_jobs : (b : Bool) → nat_lt 0 (length old.jobs) ≡ b → ⊥
          by_jobs true j = (let e = rw (unbarred more h, j) at h in cc e)
          by_jobs false j = (let e = rw (unbarred more h, j, is) at h in cc e)

  -- what runs alone stays so, or a scrub has begun
  unchanged : (new : State) → new ≡ old → Result BeginScrub new
  unchanged new is = subst (Result BeginScrub) (sym is) (λ next h. Scrub_is.kept h
      (record { jobs = refl; records = refl; bytes = refl; doubt = refl; is_open = refl }))

  begins_scrub : (r : Outcome) (new : State) →
      BeginsAlone old (alone_refusal old []) (Scrubbing (new_scrub old moment)) r new → Result BeginScrub new
  begins_scrub Closed new h = unchanged new h.1
  begins_scrub (Refused refused) new h = unchanged new h.2
  begins_scrub (Begun job) new h = subst (Result BeginScrub) (sym h.3) (λ next q.
      Scrub_is.begun refl (sym (scrub_of _ _ q)) (lonely [] h.1) h.0 (unbarred [] h.1)
      (record { jobs = refl; records = refl; bytes = refl; doubt = refl; is_open = refl }))
  begins_scrub r new h = absurd h

  -- nothing runs alone while no vault is open
  shut : {e : Event} {new : State} → old.is_open ≡ false → (next : Scrub) →
      old.alone ≡ Some (Scrubbing next) → Scrub_is moment e old new next
  shut closed next h = absurd (false≢true (sym closed ∙ opened next h))

  -- nor beside a job
  idle : {e : Event} {new : State} (job : Job) → job_of old.jobs job.number ≡ Some job → (next : Scrub) →
      old.alone ≡ Some (Scrubbing next) → Scrub_is moment e old new next
  idle job runs next h = absurd (found_none old.jobs job.number job (lone (Scrubbing next) h) runs)

  -- nothing runs alone any more
  gone : {e : Event} {new : State} (next : Scrub) → None ≡ Some (Scrubbing next) → Scrub_is moment e old new next
  gone next h = absurd (some-not-none None (Scrubbing next) h refl)

  acting : (job : Job) → job_of old.jobs job.number ≡ Some job →
      Acting old job (λ r new. (Step job.number ≡ BeginScrub → ⊥) → Result (Step job.number) new)
  acting job runs = record {
    begins = λ entry next none writes faults low other. idle job runs;
    syncs = λ a next flight mine faults low other. idle job runs;
    gates = λ a next flight mine faults low other. idle job runs;
    finishes = λ a next flight mine faults low other. idle job runs;
    bars = λ action ungated next mine faults low rose other. idle job runs;
    bars_gated = λ a next flight mine faults low rose other. idle job runs;
    begins_not = λ next none other. idle job runs;
    gates_not = λ a next flight mine other. idle job runs;
    stores = λ j o s p next call other. idle job runs;
    stores_not = λ j o s p how next call other. idle job runs;
    fetches = λ j o s block p next call other. idle job runs;
    asks = λ j o round symbol p next call other. idle job runs;
    works = λ o s symbols next gives other. idle job runs;
    removes = λ j o p next call other. idle job runs;
    ends = λ action how next last other. idle job runs;
  }

  -- an event that is no begin of a scrub
  scrub_cases : (limit : ℕ) → Cases limit moment old (λ e r new. (e ≡ BeginScrub → ⊥) → Result e new)
  scrub_cases limit = record {
    still = λ e r quiet other next h. Scrub_is.kept h (record { jobs = refl; records = refl; bytes = refl; doubt = refl; is_open = refl });
    acts = λ job runs is_open unbarred. acting job runs;
    alone = λ number x r new at is_open unbarred h other. steps_alone (Step number) x r new at h;
    begins = λ kind is_open allowed other. none (Begin kind) _ (none_lone limit old kind None allowed);
    begins_at = λ profile name bytes is_open allowed other. none (BeginAt profile name bytes) _
        (none_lone limit old (PutJob name bytes) (Some profile) allowed);
    scrub = λ allowed other. absurd (other refl);
    pack = λ allowed other. packed BeginPack _ (new_pack old) refl;
    stops = λ picks rs js area so other. gone;
    opens = λ rs js area so up faults low other. gone;
    opens_not = λ why rs js area so faults low other. gone;
    reads_not = λ why faults low other. gone;
    sets_up = λ s rs js good closed so none faults low other. shut closed;
    sets_up_not = λ s why doubt good closed so faults low other. shut closed;
    is_set_up = λ s rs js closed so faults low other. shut closed;
    replaces = λ e j IsThere changed p quiet counts call other next h. Scrub_is.kept h (record { jobs = refl; records = refl; bytes = refl; doubt = refl; is_open = refl });
    replaces_not = λ e j IsThere changed p quiet call other next h. Scrub_is.kept h (record { jobs = refl; records = refl; bytes = refl; doubt = refl; is_open = refl });
    continues = λ other. gone;
  }

-- a scrub that runs after an event has just begun, or ran before and stayed or made its next action
pub scrub_is : (moment : ℕ) (old : State) → IsLone old →
    ((scrub : Scrub) → old.alone ≡ Some (Scrubbing scrub) → old.is_open ≡ true) →
    (limit : ℕ) (e : Event) (r : Outcome) (new : State) → Happens limit moment old e r new →
    (next : Scrub) → new.alone ≡ Some (Scrubbing next) → Scrub_is moment e old new next
scrub_is moment old lone opened limit BeginScrub r new h = begins_scrub moment old lone opened r new h
scrub_is moment old lone opened limit e r new h = by_event limit moment old
    (λ e r new. (e ≡ BeginScrub → ⊥) → Result moment old lone opened e new)
    (scrub_cases moment old lone opened limit) e r new h (λ is. (cc is))
