-- What every step of a job has in common.
use Rattle.vault.proofs.Words.{false, StandsForState, zero, suc, [], ◌∷◌, ◌≡◌, ℕ, ◌<◌, true, List, Option, Some, None, refl, sym, ap, subst, ◌∙◌, inl, inr, arith, ◌+◌, slice_get, slice_set, cases_eq, eq-eqb, ne_eqb, get-set_same, get-set_other, Cells, Provider, Setup, Area, base_of, end_in, actions_of, actions_by, actions_left, Outcome, Step, More, Kind, PutJob, Given, Job, with_job, job_of, Happens, State, setup_in, with_provider, ActsOrWaits, StepsOn, StepsJob, StepsOne, StepsOpen, Steps, next_action, cond_true, cond_false, number_of, CoreIs, ComesNext, entry_in, CoreView, told_in, wants_in, AreHanded, Devices, devices, IsSameBeyond, records_in_flight, Desk, with_master, ShapeValue, KeepsAll, IsFed, place_in, Running, Tells, Reply, DeskStands, IsFlight, IsShaped, DeskMakesStep, IsRunning, AreRunning, shown-again, goes_still, hand_of, AreAtHand, KeepsStreams, setup_same}
use Rattle.std.proofs.Common.{◌==◌, length}
use Rattle.std.proofs.Common.{length-set}
use Rattle.record_defs.specs.Records.{Record}
use Rattle.machine_defs.specs.Actions.{Action}
use Rattle.machine_defs.specs.States.{Append}
use Rattle.machine_defs.specs.Steps.{Acts}
use Rattle.vault_core.proofs.InFlight.{flight-entry}
use Rattle.record_codec.specs.declared.setup.Setup.{Setup as SetupValue}
use Rattle.vault.specs.declared.turn.Turn.TheVariants as turn
use Rattle.vault.proofs.JobPlaces.{Found, found, place_is, put_back, at_set}
use Rattle.vault.proofs.Allowed.{IsAllowed, next_allowed}
use Rattle.vault.proofs.Hands.{waits_not, hand_on, no_hand, hands_with}

-- what comes of the next action of a job is a step of the machine
pub happens_by : (w new : State) (moment number : ℕ) (action : Action) (outcome : Outcome) →
    w.is_open ≡ true → w.alone ≡ None → (next : ComesNext w number action None) →
    Acts w next.job action outcome new → Happens 8 moment w (Step number) outcome new
happens_by w new moment number action outcome opened lone next acts =
    subst (λ b. Steps w number b outcome new) (sym opened) (subst (λ b. StepsOpen w number b outcome new)
    (sym next.unbarred) (subst (λ o. StepsOne w number o outcome new) (sym lone)
    (subst (λ o. StepsJob w o outcome new) (sym next.runs) (subst (λ o. StepsOn w next.job o outcome new)
    (sym next.comes) (subst (λ h. ActsOrWaits w next.job action h outcome new) (sym next.holder) acts)))))

-- the actions of a job do not depend on its place and on what it was given
pub actions_same : (s : Setup) (j : Job) (place : ℕ) (given : List Given) →
    actions_of s (record j { place = place; given = given }) ≡ actions_of s j
unfolding actions_of
actions_same s j place given = by_kind j.kind
  where
    by_kind : (kind : Kind) → actions_by s (record j { place = place; given = given }) kind
        ≡ actions_by s j kind
    by_kind _ = refl

-- ---- providers

-- one of the providers handed in changed
pub handed_on : (ps : List Provider) (w new : State) (k : ℕ) (p : Provider) → AreHanded ps w → k < length ps →
    new.handed ≡ w.handed
    → ((j : ℕ) → new.providers j ≡ with_provider w.providers k p j) → AreHanded (slice_set ps k p) new
handed_on ps w new k p are less handed providers = record {
  count = handed ∙ are.count ∙ sym (length-set ps k p);
  each = λ j below. elim (cases_eq j k) [
    | inl same ↦ ap (slice_get (slice_set ps k p)) same ∙ get-set_same ps k p less
        ∙ ap Some (sym (providers j ∙ cond_true (j == k) p (w.providers j) (eq-eqb j k same)))
    | inr other ↦ get-set_other ps k j p other
        ∙ are.each j (subst (λ (n : ℕ). j < n) (length-set ps k p) below)
        ∙ ap Some (sym (providers j ∙ cond_false (j == k) p (w.providers j) (ne_eqb j k other)))
  ];
}

-- ---- the state after

-- a step that changes neither the records nor where they are, nor what is in doubt, nor the append in flight,
-- nor the disk
pub record IsQuiet (w new : State) : Type 0 where
  pub records : new.records ≡ w.records
  pub journal : new.journal ≡ w.journal
  pub area : new.area ≡ w.area
  pub switching : new.is_switching ≡ w.is_switching
  pub doubt : new.doubt ≡ w.doubt
  pub append : new.append ≡ w.append
  pub faults : new.disk_faults ≡ w.disk_faults
  pub barred : new.is_barred ≡ w.is_barred

-- a vault that keeps its setup and its master keeps its shape
pub shaped_on : (v v' : Desk) → KeepsAll v v' → IsShaped v → IsShaped v'
shaped_on v v' keeps is = record {
  n = ap (λ (s : ShapeValue). s.n) keeps.shape ∙ is.n ∙ sym (ap (λ (s : SetupValue). s.n) keeps.setup);
  l = ap (λ (s : ShapeValue). s.l) keeps.shape ∙ is.l ∙ sym (ap (λ (s : SetupValue). s.l) keeps.setup);
  b = ap (λ (s : ShapeValue). s.b) keeps.shape ∙ is.b ∙ sym (ap (λ (s : SetupValue). s.b) keeps.setup);
}

-- what a step leaves: the devices and what is counted, and the append in flight
pub record IsLeft (v' : Desk) (w new : State) (holds : Option Cells) (count : ℕ)
    (ps : List Provider) : Type 0 where
  pub setup : setup_in new ≡ setup_in w
  pub area : new.area ≡ w.area
  pub handed : AreHanded ps new
  pub faults : new.disk_faults ≡ count
  pub images : StandsForState holds new
  pub flight : new.is_barred ≡ false → IsFlight v'.flight new.append new.area new.journal holds

-- a vault of which this is left stands for the state after it, if its core and its jobs do
pub stands_left : (v v' v2 : Desk) (w new : State) (holds holds' : Option Cells) (faults faults' : ℕ)
    (ps ps' : List Provider) → DeskStands v (devices holds faults ps) w → IsLeft v' w new holds' faults' ps'
    → CoreIs v2.core new → KeepsAll v v2 → v2.flight ≡ v'.flight →
    AreRunning (setup_in w) v2.jobs.items new.jobs →
    AreAtHand (setup_in w) v2.core.jobs v2.jobs.items new.jobs → DeskStands v2 (devices holds' faults' ps') new
stands_left v v' v2 w new holds holds' faults faults' ps ps' stands left core keeps flight jobs streams = record {
  devices = record { images = left.images; faults = left.faults; providers = left.handed };
  core = core;
  base = keeps.base ∙ stands.base ∙ sym (ap base_of left.area);
  setup = left.setup ∙ stands.setup ∙ sym (λ i. with_master (keeps.setup i) (keeps.master i).0);
  shaped = shaped_on v v2 keeps stands.shaped;
  jobs = rw (← left.setup) at jobs;
  streams = rw (← left.setup) at streams;
  flight = λ free. (rw (← flight) at (left.flight free));
}

-- what a quiet step leaves
pub left_quiet : (v v' : Desk) (w new : State) (holds : Option Cells) (faults : ℕ) (ps ps' : List Provider) →
    DeskStands v (devices holds faults ps) w → IsQuiet w new → AreHanded ps' new → v'.flight ≡ v.flight →
    IsLeft v' w new holds faults ps'
left_quiet v v' w new holds faults ps ps' stands quiet handed flight = record {
  setup = setup_same w new quiet.records;
  area = quiet.area;
  handed = handed;
  faults = quiet.faults ∙ stands.devices.faults;
  images = shown-again holds w new quiet.journal quiet.area quiet.switching quiet.doubt stands.devices.images;
  flight = λ free. (rw (← flight) at (subst (λ (a : Option Append). IsFlight v.flight a new.area
      new.journal holds) (sym quiet.append) (subst (λ (a : Area). IsFlight v.flight w.append a new.journal
      holds) (sym quiet.area) (subst (λ (rs : List Record). IsFlight v.flight w.append w.area rs holds)
      (sym quiet.journal) (stands.flight (sym quiet.barred ∙ free))))));
}

-- with a quiet step a vault stands for the state after it, if its core and its jobs do
pub stands_on : (v v' : Desk) (w new : State) (holds : Option Cells) (faults : ℕ) (ps ps' : List Provider) →
    DeskStands v (devices holds faults ps) w → IsQuiet w new → AreHanded ps' new → CoreIs v'.core new →
    KeepsAll v v' → v'.flight ≡ v.flight → AreRunning (setup_in w) v'.jobs.items new.jobs →
    AreAtHand (setup_in w) v'.core.jobs v'.jobs.items new.jobs → DeskStands v' (devices holds faults ps') new
stands_on v v' w new holds faults ps ps' stands quiet handed core keeps flight =
    stands_left v v' v' w new holds holds faults faults ps ps' stands
    (left_quiet v v' w new holds faults ps ps' stands quiet handed flight) core keeps refl

-- ---- a job goes on

-- the record in flight is the one that the core gave
pub entry_kept : (c : CoreView) (w : State) (number : ℕ) → CoreIs c w →
    (a : Append) → w.append ≡ Some a → a.job ≡ number → entry_in c number ≡ Some a.entry
entry_kept c w number is a flight mine = rw mine at (flight-entry c w a is flight)

-- what is read past the text is as before where the disk was not called
pub same_beyond : (w : State) (holds : Option Cells) (faults : ℕ) (ps ps' : List Provider) →
    IsSameBeyond w (devices holds faults ps) (devices holds faults ps')
same_beyond w holds faults ps ps' =
    goes_still (end_in w.area (records_in_flight w.journal w.append)) holds holds refl

-- what the step of a job leaves of the stripe that it has at hand
pub record KeepsHand (c : CoreView) (number : ℕ) (old r : Running) (before job : Job) : Type 0 where
  pub wants : wants_in c number ≡ None
  pub number_is : r.number ≡ old.number
  pub hand : hand_of r.task ≡ hand_of old.task
  pub kind : job.kind ≡ before.kind
  pub profile : job.profile ≡ before.profile
  pub place_is : job.place ≡ before.place + 1

-- a job goes on with what it has at hand, and all others with what they have
pub hands_goes : (v v' : Desk) (w new : State) (number place : ℕ) (old r : Running) (before job : Job) →
    AreAtHand (setup_in w) v.core.jobs v.jobs.items w.jobs → CoreIs v.core w → CoreIs v'.core new →
    KeepsStreams v.core v'.core → job_of w.jobs number ≡ Some before → job.number ≡ number
    → place_in v.jobs.items number ≡ Some place → slice_get v.jobs.items place ≡ Some old
    → new.jobs ≡ with_job w.jobs job → KeepsHand v.core number old r before job
    → AreAtHand (setup_in w) v'.core.jobs (slice_set v.jobs.items place r) new.jobs
hands_goes v v' w new number place old r before job streams core core' keeps runs mine at there jobs h =
    hands_with (setup_in w) v.core v'.core v.jobs.items w.jobs streams new core' keeps number place old r
    before job (sym (place_is v.jobs.items number) ∙ at) there h.number_is runs mine
    (λ has. (rw (← h.hand) at (hand_on (setup_in w) before job h.place_is h.kind h.profile
    (told_in v.core.jobs number) (hand_of old.task) (waits_not v.core w number before core runs h.wants)
    has))) (at_set v.jobs.items number place old r there h.number_is) jobs

-- a job that cannot be a put has no stripe at hand, before and after
pub hands_alike : (w : State) (job next : Job) (action : Action) (r r' : Running) →
    next_action w job ≡ Some action
    → ((n : ℕ) (name bytes : List ℕ) → IsAllowed n (PutJob name bytes) action → ⊥) → next.kind ≡ job.kind
    → IsRunning (setup_in w) r job → IsRunning (setup_in w) r' next → hand_of r'.task ≡ hand_of r.task
hands_alike w job next action r r' comes never kind is is' = no_hand (setup_in w) next
    (actions_left (setup_in w) next) r'.task (λ name bytes e. no_put name bytes (sym kind ∙ e)) is'.task
    ∙ sym (no_hand (setup_in w) job (actions_left (setup_in w) job) r.task no_put is.task)
  where
    no_put : (name bytes : List ℕ) → job.kind ≡ PutJob name bytes → ⊥
    no_put name bytes e = never (setup_in w).n name bytes (rw e at (next_allowed w job action comes))

-- a list is itself with what is there set again
pub set_same : {X : Type 0} (xs : List X) (p : ℕ) (x : X) → slice_get xs p ≡ Some x → xs ≡ slice_set xs p x
set_same [] p x there = (let e : None ≡ Some x = there in cc)
set_same (y ∷ ys) zero x there = (ap (λ z. z ∷ ys) (let e : Some y ≡ Some x = there in cc))
set_same (y ∷ ys) (suc p) x there = ap (λ l. y ∷ l) (set_same ys p x there)

-- a job goes on, and another state is left
pub goes_left : (v v' : Desk) (w new : State) (holds holds' : Option Cells)
    (faults faults' moment number place : ℕ) (ps ps' : List Provider) (action : Action) (old r : Running)
    (j : Job) (answer : Reply)
    → DeskStands v (devices holds faults ps) w → (next : ComesNext w number action None) →
    Acts w next.job action More new → IsLeft v' w new holds' faults' ps' → new.jobs ≡ with_job w.jobs j
    → j.number ≡ next.job.number → IsRunning (setup_in w) r j → place_in v.jobs.items number ≡ Some place →
    slice_get v.jobs.items place ≡ Some old → v'.jobs.items ≡ slice_set v.jobs.items place r
    → ((a : Append) → new.append ≡ Some a → a.job ≡ number → entry_in v.core number ≡ Some a.entry)
    → IsSameBeyond new (devices holds faults ps) (devices holds' faults' ps') → KeepsAll v v' →
    IsFed v.core number answer v'.core → Tells number answer More new → KeepsHand v.core number old r next.job j
    → DeskMakesStep w moment number turn.More v' (devices holds faults ps) (devices holds' faults' ps')
goes_left v v' w new holds holds' faults faults' moment number place ps ps' action old r j answer stands next acts left jobs numbered running at there jobs' entry beyond keeps fed tells hand =
    let happens = happens_by w new moment number action More stands.core.is_open stands.core.none_alone next
    acts in
    let mine = numbered ∙ number_of w.jobs number next.job next.runs in
    let core = fed.step w new More moment stands.core happens (record { tells = tells; entry = entry }) in
    let are =
    subst (λ (js : List Job). AreRunning (setup_in w) v'.jobs.items js) (sym jobs)
    (rw (← jobs') at (put_back (setup_in w) number r j running mine v.jobs.items w.jobs place stands.jobs
    (sym (place_is v.jobs.items number) ∙ at))) in
    record {
      state = new;
      happens = happens;
      stands = stands_left v v' v' w new holds holds' faults faults' ps ps' stands left core keeps refl are
          (rw (← jobs') at (hands_goes v v' w new number place old r next.job j stands.streams stands.core
          core fed.streams next.runs mine at there jobs hand));
      heard = tt;
      beyond = λ on. beyond;
      torn = λ e. cc;
    }

-- the same, where another state is left of it alone, and of the providers
pub goes_on : (v v' : Desk) (w new : State) (holds : Option Cells) (faults moment number place : ℕ)
    (ps ps' : List Provider) (action : Action) (old r : Running) (j : Job) (answer : Reply)
    → DeskStands v (devices holds faults ps) w → (next : ComesNext w number action None) →
    Acts w next.job action More new → IsQuiet w new → new.jobs ≡ with_job w.jobs j
    → j.number ≡ next.job.number → IsRunning (setup_in w) r j → place_in v.jobs.items number ≡ Some place →
    slice_get v.jobs.items place ≡ Some old → v'.jobs.items ≡ slice_set v.jobs.items place r
    → AreHanded ps' new → KeepsAll v v' → v'.flight ≡ v.flight → IsFed v.core number answer v'.core →
    Tells number answer More new → KeepsHand v.core number old r next.job j
    → DeskMakesStep w moment number turn.More v' (devices holds faults ps) (devices holds faults ps')
goes_on v v' w new holds faults moment number place ps ps' action old r j answer stands next acts quiet jobs numbered running at there jobs' handed keeps flight =
    goes_left v v' w new holds holds faults faults moment number place ps ps' action old r j answer stands next
    acts (left_quiet v v' w new holds faults ps ps' stands quiet handed flight) jobs numbered running at there
    jobs' (λ a is. entry_kept v.core w number stands.core a (sym quiet.append ∙ is))
    (same_beyond new holds faults ps ps') keeps

-- ---- what a job works with

-- the job of a next action has its place
pub working : (v : Desk) (d : Devices) (w : State) (number : ℕ) (action : Action) → DeskStands v d w →
    (next : ComesNext w number action None) → Found (setup_in w) v.jobs.items number next.job
working v d w number action stands next =
    found (setup_in w) v.jobs.items w.jobs number next.job stands.jobs next.runs

-- what stands at its place
pub at_place : (v : Desk) (d : Devices) (w : State) (number place : ℕ) (action : Action) (r : Running) →
    DeskStands v d w → (next : ComesNext w number action None) → place_in v.jobs.items number ≡ Some place →
    slice_get v.jobs.items place ≡ Some r → IsRunning (setup_in w) r next.job
at_place v d w number place action r stands next at there =
    let f = working v d w number action stands next in
    let same : f.place ≡ place = cc (sym f.at ∙ sym (place_is v.jobs.items number) ∙ at) in
    let one : f.running ≡ r = cc (sym f.there ∙ ap (slice_get v.jobs.items) same ∙ there) in
    subst (λ (x : Running). IsRunning (setup_in w) x next.job) one f.is

-- a provider of the setup is handed in
pub is_handed : (v : Desk) (d : Devices) (w : State) (k : ℕ) → DeskStands v d w → k < (setup_in w).n →
    k < length d.providers
is_handed v d w k stands below =
    omega (arith, below, stands.core.sound.handed stands.core.is_open, stands.devices.providers.count)
