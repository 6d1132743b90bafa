-- What runs alone keeps its number, or has just begun under it; so a job runs from its begin to the step that
-- ends it.
use Rattle.machine_defs.proofs.Words.{◌≡◌, zero, suc, ◌⊎◌, Bool, false, refl, ap, sym, subst, ◌∙◌, inl, inr, eqb-true, option_map, Kind, PutJob, Job, job_of, Action, Store, Fetch, Work, End, Answer, Event, Begin, BeginAt, Step, Outcome, Begun, More, Ended, State, Scrub, Pack, Alone, Scrubbing, Packing, IsStart, BeginsAt, StepsJob, StepsMine, StepsOne, StepsOpen, Steps, number_alone, Scrubs, StepsScrub, Packs, StepsAlone, Happens, Moment, now, IsRun, IsBeginOf, IsBeginOfKind, NoneBegan, IsBeginFor}
use Rattle.std.proofs.Common.{ℕ, ◌==◌, true, List, [], ◌∷◌, ◌++◌, length, Option, Some, None}
use Rattle.machine_defs.specs.Answers as answer
use Rattle.machine_defs.proofs.JobLists.{number_of, found_none}
use Rattle.machine_defs.proofs.Cases.{Acting, Cases, by_event}
use Rattle.machine_defs.proofs.Changes.{IsLone}
use Rattle.machine_defs.proofs.Refused.{none_lone}
use Rattle.machine_defs.proofs.Began.{is_begun}
use Rattle.machine_defs.proofs.Numbers.{objects}
use Rattle.machine_defs.proofs.Numbers as num

-- the number of what runs alone, if anything does
abbrev pub lone_number : State → Option ℕ
lone_number w = option_map number_alone w.alone

module _ (old : State) where
  -- nothing runs alone, or what did still does, or something has begun with its number
  abbrev pub Lone_is : Outcome → State → Type 0
  Lone_is r new = (lone_number new ≡ None) ⊎ ((lone_number new ≡ lone_number old) ⊎
      ((n : ℕ) × (r ≡ Begun n) × (lone_number new ≡ Some n)))

  acting : (job : Job) → Acting old job Lone_is
  acting job = record {
    begins = λ entry next none writes faults low. inr (inl refl);
    syncs = λ a next flight mine faults low. inr (inl refl);
    gates = λ a next flight mine faults low. inr (inl refl);
    finishes = λ a next flight mine faults low. inr (inl refl);
    bars = λ action ungated next mine faults low rose. inr (inl refl);
    bars_gated = λ a next flight mine faults low rose. inr (inl refl);
    begins_not = λ next none. inr (inl refl);
    gates_not = λ a next flight mine. inr (inl refl);
    stores = λ j o s p next call. inr (inl refl);
    stores_not = λ j o s p how next call. inr (inl refl);
    fetches = λ j o s block p next call. inr (inl refl);
    asks = λ j o round symbol p next call. inr (inl refl);
    works = λ o s symbols next gives. inr (inl refl);
    removes = λ j o p next call. inr (inl refl);
    ends = λ action how next last. inr (inl refl);
  }

  module _ (x : Alone) (at : old.alone ≡ Some x) where
    -- it goes on with its number, or nothing runs alone any more
    abbrev Goes : State → Type 0
    Goes new = (lone_number new ≡ None) ⊎ (lone_number new ≡ Some (number_alone x))

    goes_on : (r : Outcome) (new : State) → Goes new → Lone_is r new
    goes_on r new (inl none) = inl none
    goes_on r new (inr same) = inr (inl (same ∙ sym (ap (option_map number_alone) at)))

  scrubs : (scrub : Scrub) (action : Action) (rest : List Action) (r : Outcome) (new : State) →
      Scrubs old scrub action rest r new →
      (lone_number new ≡ None) ⊎ (lone_number new ≡ Some (number_alone (Scrubbing scrub)))
  scrubs scrub (Fetch j object stripe) rest More new (block, (p, call, is)) = inr (ap lone_number is)
  scrubs scrub (Work object stripe) rest More new (symbols, gives, is) = inr (ap lone_number is)
  scrubs scrub (Work object stripe) rest (Ended (answer.Lost s row)) new (s_is, lost, is) =
      inl (ap lone_number is)
  scrubs scrub (Store j object stripe) rest More new (p, call, is) = inr (ap lone_number is)
  scrubs scrub (Store j object stripe) rest (Ended (answer.ProviderFault k)) new (k_is, (p, call, is)) =
      inl (ap lone_number is)
  scrubs scrub (Store j object stripe) rest (Ended answer.Memory) new (p, call, is) = inl (ap lone_number is)
  scrubs scrub End rest (Ended (answer.Scrubbed stripes symbols blocks)) new (a, b, c, is) =
      inl (ap lone_number is)
  scrubs scrub action rest r new h = absurd h

  steps_scrub : (scrub : Scrub) (todo : List Action) (r : Outcome) (new : State) →
      StepsScrub old scrub todo r new →
      (lone_number new ≡ None) ⊎ (lone_number new ≡ Some (number_alone (Scrubbing scrub)))
  steps_scrub scrub [] r new h = absurd h
  steps_scrub scrub (action ∷ rest) r new h = scrubs scrub action rest r new h

  packs : (pack : Pack) (moves : ℕ) (r : Outcome) (new : State) → Packs old pack moves r new →
      (lone_number new ≡ None) ⊎ (lone_number new ≡ Some (number_alone (Packing pack)))
  packs pack zero More new (faults, low, is) = inr (ap lone_number is)
  packs pack zero (Ended answer.DiskFault) new (faults, low, rose, is) = inl (ap lone_number is)
  packs pack zero (Ended answer.Memory) new is = inl (ap lone_number is)
  packs pack (suc zero) More new (faults, low, is) = inr (ap lone_number is)
  packs pack (suc zero) (Ended answer.DiskFault) new (faults, low, rose, is) = inl (ap lone_number is)
  packs pack (suc (suc zero)) More new (faults, low, is) = inr (ap lone_number is)
  packs pack (suc (suc zero)) (Ended answer.DiskFault) new (faults, low, rose, is) = inl (ap lone_number is)
  packs pack (suc (suc zero)) (Ended answer.Memory) new is = inl (ap lone_number is)
  packs pack (suc (suc (suc zero))) More new (faults, low, is) = inr (ap lone_number is)
  packs pack (suc (suc (suc zero))) (Ended answer.DiskFault) new (faults, low, rose, is) =
      inl (ap lone_number is)
  packs pack (suc (suc (suc (suc zero)))) (Ended (answer.Packed before after)) new (a, b, is) =
      inl (ap lone_number is)
  packs pack moves r new h = absurd h

  steps_alone : (x : Alone) (r : Outcome) (new : State) → StepsAlone old x r new →
      (lone_number new ≡ None) ⊎ (lone_number new ≡ Some (number_alone x))
  steps_alone (Scrubbing scrub) r new h = steps_scrub scrub scrub.todo r new h
  steps_alone (Packing pack) r new h = packs pack pack.moves r new h

  lone_cases : (limit moment : ℕ) → Cases limit moment old (λ e r new. Lone_is r new)
  lone_cases limit moment = record {
    still = λ e r quiet. inr (inl refl);
    acts = λ job runs is_open unbarred. acting job;
    alone = λ number x r new at is_open unbarred h. goes_on x at r new (steps_alone x r new h);
    begins = λ kind is_open allowed. inr (inl refl);
    begins_at = λ profile name bytes is_open allowed. inr (inl refl);
    scrub = λ allowed. inr (inr (old.next_job, refl, refl));
    pack = λ allowed. inr (inr (old.next_job, refl, refl));
    stops = λ picks rs js area so. inl refl;
    opens = λ rs js area so up faults low. inl refl;
    opens_not = λ why rs js area so faults low. inl refl;
    reads_not = λ why faults low. inl refl;
    sets_up = λ s rs js good closed so none faults low. inr (inl refl);
    sets_up_not = λ s why doubt good closed so faults low. inr (inl refl);
    is_set_up = λ s rs js closed so faults low. inr (inl refl);
    replaces = λ e j IsThere changed p quiet counts call. inr (inl refl);
    replaces_not = λ e j IsThere changed p quiet call. inr (inl refl);
    continues = inl refl;
  }

  -- what runs alone after an event did so before, or the event is its begin
  pub lone_is : (limit moment : ℕ) (e : Event) (r : Outcome) (new : State) → Happens limit moment old e r new →
      Lone_is r new
  lone_is limit moment e r new h =
      by_event limit moment old (λ e r new. Lone_is r new) (lone_cases limit moment) e r new h

-- something runs alone where it has a number
alone_of : (x : Option Alone) (n : ℕ) → option_map number_alone x ≡ Some n →
    (y : Alone) × (x ≡ Some y) × (number_alone y ≡ n)
alone_of None n h = absurd (let e : None ≡ Some n = h in cc)
alone_of (Some y) n h = (y, refl, (let e : Some (number_alone y) ≡ Some n = h in cc))

-- a job of a number runs, or none of it does, and what runs alone has another number
abbrev Runs_or_not : State → ℕ → Type 0
Runs_or_not w k = ((j : Job) × (job_of w.jobs k ≡ Some j)) ⊎ (lone_number w ≡ Some k → ⊥)

-- where a job runs, nothing runs alone
beside_none : (w : State) (k n : ℕ) (j : Job) → IsLone w → job_of w.jobs k ≡ Some j →
    lone_number w ≡ Some n → ⊥
beside_none w k n j lone runs h = (let x = alone_of w.alone n h in found_none w.jobs k j (lone x.0 x.1) runs)

by_number : (w : State) (k : ℕ) → ((job_of w.jobs k ≡ None) → lone_number w ≡ Some k → ⊥) → Runs_or_not w k
by_number w k other = go (job_of w.jobs k) refl
  where
    go : (found : Option Job) → job_of w.jobs k ≡ found → Runs_or_not w k
    go (Some j) is = inl (j, is)
    go None is = inr (other is)

-- where a job begins, nothing runs alone
begins_lone : (limit moment : ℕ) (old : State) (e : Event) (r : Outcome) (new : State) (n : ℕ) →
    IsBeginFor (λ kind. Unit {0}) e → r ≡ Begun n → Happens limit moment old e r new → lone_number new ≡ None
begins_lone limit moment old (Begin kind) r new n on is h = by_begin kind None (rw is at h)
  where
    by_begin : (kind : Kind) (profile : Option ℕ) → BeginsAt limit moment old kind profile (Begun n) new →
        lone_number new ≡ None
    by_begin kind profile g = ap lone_number g.3
        ∙ ap (option_map number_alone) (none_lone limit old kind profile g.1)
begins_lone limit moment old (BeginAt profile name bytes) r new n on is h = by_begin (rw is at h)
  where
    by_begin : BeginsAt limit moment old (PutJob name bytes) (Some profile) (Begun n) new →
        lone_number new ≡ None
    by_begin g = ap lone_number g.3
        ∙ ap (option_map number_alone) (none_lone limit old (PutJob name bytes) (Some profile) g.1)
begins_lone limit moment old e r new n on is h = absurd on

-- behind the begin of a job, and no later one of its number, the number is never that of what runs alone
still : (limit : ℕ) (start : State) → IsStart start → (gaps older : List Moment) (b : Moment) (k : ℕ) →
    IsRun limit start (gaps ++ b ∷ older) → IsBeginFor (λ kind. Unit {0}) b.event → b.outcome ≡ Begun k →
    NoneBegan k gaps → Runs_or_not (now start (gaps ++ b ∷ older)) k
still limit start clean [] older b k run on begun none = inr (λ h.
    (let z = begins_lone limit (length older) (now start older) b.event b.outcome b.state k on begun run.1 in
    let e : None ≡ Some k = sym z ∙ h in cc))
still limit start clean (m ∷ gaps) older b k run on begun none = by_number m.state k (λ gone h.
    elim (lone_is (now start ms) limit (length ms) m.event m.outcome m.state run.1) [
      | inl stopped ↦ absurd (let e : None ≡ Some k = sym stopped ∙ h in cc)
      | inr (inl same) ↦ elim (still limit start clean gaps older b k run.2 on begun none.1) [
        | inl found ↦ beside_none (now start ms) k k found.0 (num.facts objects limit start clean ms run.2).idle.lone
            found.1 (sym same ∙ h)
        | inr other ↦ other (sym same ∙ h)
      ]
      | inr (inr fresh) ↦ none.0 (fresh.1 ∙ ap Begun (let e : Some fresh.0 ≡ Some k = sym fresh.2 ∙ h in
          let f : fresh.0 ≡ k = cc in f))
    ])
  where
    ms : List Moment
    ms = gaps ++ b ∷ older

module _ (old new : State) (k : ℕ) (how : Answer) where
  abbrev Found : Type 0
  Found = (job : Job) × (job_of old.jobs k ≡ Some job)

  job_found : (found : Option Job) → job_of old.jobs k ≡ found → StepsJob old found (Ended how) new → Found
  job_found None is h = absurd h
  job_found (Some job) is h = (job, is)

  module _ (lone : IsLone old) (runs : Runs_or_not old k) where
    mine_found : (x : Alone) (mine : Bool) → old.alone ≡ Some x → (number_alone x == k) ≡ mine →
        StepsMine old k x mine (Ended how) new → Found
    mine_found x true at is h = elim runs [
      | inl found ↦ found
      | inr other ↦ absurd (other (ap (option_map number_alone) at ∙ ap Some (eqb-true (number_alone x) k is)))
    ]
    mine_found x false at is h = job_found (job_of old.jobs k) refl h

    one_found : (alone : Option Alone) → old.alone ≡ alone → StepsOne old k alone (Ended how) new → Found
    one_found None at h = job_found (job_of old.jobs k) refl h
    one_found (Some x) at h = mine_found x (number_alone x == k) at refl h

    open_found : (is_barred : Bool) → StepsOpen old k is_barred (Ended how) new → Found
    open_found true h = absurd h
    open_found false h = one_found old.alone refl h

    step_found : (is_open : Bool) → Steps old k is_open (Ended how) new → Found
    step_found true h = open_found old.is_barred h
    step_found false h = absurd h

-- a step that ended, of the number that the begin of a job came to, is of that job, whatever the answer
pub ended_by_job : (limit : ℕ) (start : State) → IsStart start → (between older : List Moment) (m b : Moment)
    (k : ℕ) (how : Answer) → IsRun limit start (m ∷ (between ++ b ∷ older)) →
    IsBeginFor (λ kind. Unit {0}) b.event → b.outcome ≡ Begun k → NoneBegan k between → m.event ≡ Step k →
    m.outcome ≡ Ended how → (job : Job) × (job_of (now start (between ++ b ∷ older)).jobs k ≡ Some job) ×
    (job.number ≡ k)
ended_by_job limit start clean between older m b k how run on begun none event over =
    (let ms = between ++ b ∷ older in
    let f = step_found (now start ms) m.state k how (num.facts objects limit start clean ms run.2).idle.lone
    (still limit start clean between older b k run.2 on begun none) (now start ms).is_open
    (subst (λ (x : Event). Happens limit (length ms) (now start ms) x (Ended how) m.state) event
    (subst (λ (o : Outcome). Happens limit (length ms) (now start ms) m.event o m.state) over run.1)) in
    (f.0, f.1, number_of (now start ms).jobs k f.0 f.1))

-- the begin of a job of some kind is one of any
any_kind : (e : Event) (kind : Kind) → IsBeginOfKind e kind → IsBeginFor (λ kind. Unit {0}) e
any_kind e kind (inl is) = subst (IsBeginFor (λ kind. Unit {0})) (sym is) tt
any_kind e kind (inr (profile, name, bytes, kind_is, is)) = subst (IsBeginFor (λ kind. Unit {0})) (sym is) tt

-- a job that such an event began is of that kind
kind_is_of : (e : Event) (j : Job) (kind : Kind) → IsBeginOf e j → IsBeginOfKind e kind → j.kind ≡ kind
kind_is_of e j kind (inl is) (inl p) = (let f : Begin j.kind ≡ Begin kind = sym is ∙ p in cc)
kind_is_of e j kind (inl is) (inr (profile, name, bytes, kind_is, p)) =
    absurd (let f : Begin j.kind ≡ BeginAt profile name bytes = sym is ∙ p in cc)
kind_is_of e j kind (inr (n, by, j_kind, is)) (inl p) =
    absurd (let f : BeginAt j.profile n by ≡ Begin kind = sym is ∙ p in cc)
kind_is_of e j kind (inr (n, by, j_kind, is)) (inr (profile, name, bytes, kind_is, p)) =
    (let f : BeginAt j.profile n by ≡ BeginAt profile name bytes = sym is ∙ p in
    let g : PutJob n by ≡ PutJob name bytes = cc in j_kind ∙ (g ∙ sym kind_is))

-- the same with the kind and the begin of the job
pub ended_of_kind : (limit : ℕ) (start : State) (between older : List Moment) (m b : Moment) (kind : Kind)
    (k : ℕ) (how : Answer) → IsStart start → IsRun limit start (m ∷ (between ++ b ∷ older)) →
    IsBeginOfKind b.event kind → b.outcome ≡ Begun k → NoneBegan k between → m.event ≡ Step k →
    m.outcome ≡ Ended how → (job : Job) × (job_of (now start (between ++ b ∷ older)).jobs k ≡ Some job) ×
    (job.number ≡ k) × (job.kind ≡ kind) × (job.begun ≡ length older)
ended_of_kind limit start between older m b kind k how clean run on begun none event over =
    (let f = ended_by_job limit start clean between older m b k how run (any_kind b.event kind on) begun none
    event over in
    let g = is_begun limit start clean between older b run.2 k f.0 begun none f.1 in
    (f.0, f.1, f.2, kind_is_of b.event f.0 kind g.1 on, g.0))
