-- Streams of a vault: which wait, how they begin, and how they are given up.
use mathlib.Core.Bool.{Bool-set}
use Rattle.vault.proofs.Words.{◌≡◌, ℕ, ◌+◌, ◌*◌, ◌≤◌, true, List, [], ◌∷◌, take, Option, Some, None, Result, Ok, Err, refl, sym, ap, subst, ◌∙◌, inl, inr, arith, IsSome, is_some, slice_get, remove, cases_Bool, cases_eq, false≢true, All-head, All-tail, All-take, ∥∥₁_map, ℕ_set, none-some, AllPass-from_list_all, list_all-from_AllPass, length-take, Provider, with_master, Setup, is_byte, largest_file, beginning, chosen, BeginsAt, AreBytes, PutJob, Job, job_of, without_job, State, setup_in, ended, cond_true, cond_false, number_of, found_more, found_without, numbered-below, CoreIs, stripe_size, CoreJob, CoreView, job_in, told_by, told_in, wanted_at, wanted_by, wants_in, pair_some, BeginFault, Devices, devices, Desk, Running, StreamTask, IsStreaming, piece_size, IsBenchFor, DeskStands, DeskMakesBegin, PutEndsIn, HasEnds, IsAtWork, begin_outcome, place_in, IsSameDesk, KeepsAll, stripe_by, OpensStream, IsStream, AreRunning, setup_same, handed_same}
use Rattle.std.proofs.Common.{◌==◌, length}
use Rattle.std.specs.List.{All}
use Rattle.vault.proofs.AtWork.{by_work}
use Rattle.vault.proofs.BenchLemmas.{bench-is}
use Rattle.vault.proofs.GivenStripes.{waits_runs, waiting, streaming, bench_bytes}
use Rattle.vault.proofs.Hands.{hands_without, task_at}
use Rattle.vault.proofs.JobPlaces.{found, place_is, taken_out}
use Rattle.vault.proofs.Props.{streaming_prop}
use Rattle.vault.proofs.Ways.{stands_on}

-- ---- which wait

-- where no stream is open, none waits
pub none_waits : (s : Setup) (cs : List CoreJob) (k : ℕ) → All (λ (j : CoreJob). j.told ≡ None) cs
    → wanted_by s (job_in cs k) ≡ None
none_waits s [] k none = refl
none_waits s (c ∷ cs) k none = elim (cases_Bool (c.number == k)) [
  | inl t ↦ ap (wanted_by s) (cond_true (c.number == k) (Some c) (job_in cs k) t)
      ∙ ap (wanted_at s c.place) (All-head (λ (j : CoreJob). j.told ≡ None) c cs none)
  | inr f ↦ ap (wanted_by s) (cond_false (c.number == k) (Some c) (job_in cs k) f)
      ∙ none_waits s cs k (All-tail (λ (j : CoreJob). j.told ≡ None) c cs none)
]

-- ---- the begin of a stream

-- what it works with
pub stream-task : (v : Desk) (d : Devices) (w : State) (moment : ℕ) (name bytes : List ℕ) (own : Option ℕ)
    (t : StreamTask) (size profile : ℕ) → DeskStands v d w → IsBenchFor v 0 size profile t.bench
    → ((key : List ℕ) → profile ≡ chosen (with_master v.setup key) own) → t.at_hand ≡ None
    → IsStream (setup_in w) t (beginning w moment (PutJob name bytes) own)
stream-task v d w moment name bytes own t size profile stands bench is none = record {
  name = name;
  bytes = bytes;
  kind = refl;
  bench = rw (is v.master.0 ∙ ap (λ (s : Setup). chosen s own) (sym stands.setup)) at
      (bench-is v (setup_in w) 0 size profile t.bench stands.shaped stands.setup bench);
  rows = λ x hand. absurd (none-some x (sym none ∙ hand));
}

-- a desk is the same as itself
pub unchanged_desk : (v : Desk) → IsSameDesk v v
unchanged_desk v =
    record { core = refl; setup = refl; master = refl; base = refl; flight = refl; jobs = refl }

-- a begin of a stream that told why not
pub opens_none : (old new : Desk) (why : BeginFault) → IsSameDesk old new → OpensStream old new (Err why)
opens_none old new why same = record {
  unchanged = same;
  number = tt;
  opened = tt;
  others = λ m other. ap (λ (c : CoreView). told_in c.jobs m) same.core;
  setup = ap (λ (c : CoreView). c.setup) same.core;
}

-- the files of the streams end with what they still get
stream_ends : (old new : Desk) (result : Result ℕ BeginFault) (name bytes : List ℕ) (own : Option ℕ)
    (w state : State) (moment : ℕ) (rest : ℕ → List ℕ) → OpensStream old new result → CoreIs old.core w
    → CoreIs new.core state
    → BeginsAt 8 moment w (PutJob name bytes) own (begin_outcome result) state
    → bytes ≡ take largest_file (rest old.core.next_job) → HasEnds old w rest → HasEnds new state rest
stream_ends old new (Ok job) name bytes own w state moment rest opens core core' begins is ends m stripes j told runs =
    let same : setup_in w ≡ setup_in state = sym core.setup ∙ sym opens.setup ∙ core'.setup in
    elim (found_more w.jobs (beginning w moment (PutJob name bytes) own) m j
    (ap (λ (x : State). job_of x.jobs m) (sym begins.3) ∙ runs)) [
      | inl h ↦ (
          let mine : m ≡ old.core.next_job = h.0 ∙ sym core.next_job in
          let none : 0 ≡ stripes =
          cc (sym opens.opened ∙ ap (told_in new.core.jobs) (opens.number ∙ sym mine) ∙ told) in
          let zero_is : 0 ≡ 0 * stripe_size (setup_in state) j.profile = omega arith in
          subst (λ (x : Job). PutEndsIn (stripes * stripe_size (setup_in state) j.profile) (rest m) x.kind)
          (sym h.1)
          (subst (λ (k : ℕ). PutEndsIn k (rest m) (PutJob name bytes))
          (zero_is ∙ ap (λ (k : ℕ). k * stripe_size (setup_in state) j.profile) none) (
            [],
            is ∙ ap (λ (k : ℕ). take largest_file (rest k)) (sym mine),
            refl,
          )))
      | inr h ↦ (
          let below = numbered-below 0 w.jobs w.next_job m j core.sound.numbered h in
          let next = core.next_job in
          let other : m ≡ old.core.next_job → ⊥ = (λ e. omega (arith, below, next, e)) in
          subst (λ (s : Setup). PutEndsIn (stripes * stripe_size s j.profile) (rest m) j.kind) same
          (ends m stripes j (sym (opens.others m other) ∙ told) h))
    ]
stream_ends old new (Err why) name bytes own w state moment rest opens core core' begins is ends m stripes j told runs =
    let same : setup_in w ≡ setup_in state = sym core.setup ∙ sym opens.setup ∙ core'.setup in
    subst (λ (s : Setup). PutEndsIn (stripes * stripe_size s j.profile) (rest m) j.kind) same
    (ends m stripes j (ap (λ (c : CoreView). told_in c.jobs m) (sym opens.unchanged.core) ∙ told)
    (ap (λ (x : State). job_of x.jobs m) (sym begins.2) ∙ runs))

-- so the desk is at work
pub stream_works : (old new : Desk) (name : List ℕ) (own : Option ℕ) (result : Result ℕ BeginFault)
    → OpensStream old new result
    → ((w : State) (d : Devices) (moment : ℕ) (bytes : List ℕ) → DeskStands old d w → AreBytes bytes
    → length bytes ≤ largest_file → DeskMakesBegin w moment (PutJob name bytes) own result new d)
    → IsAtWork old → IsAtWork new
stream_works old new name own result opens makes at = λ rest are. ∥∥₁_map (at rest are) (λ x.
    let bytes = take largest_file (rest old.core.next_job) in
    let m = makes x.0 (devices None x.1 x.2) 0 bytes x.3
    (list_all-from_AllPass is_byte bytes
    (All-take (λ (b : ℕ). is_byte b ≡ true) largest_file (rest old.core.next_job)
    (AllPass-from_list_all is_byte (rest old.core.next_job) (are old.core.next_job))))
    (let l = length-take largest_file (rest old.core.next_job) in omega (arith, l)) in (
      m.state,
      x.1,
      x.2,
      m.stands,
      stream_ends old new result name bytes own x.0 m.state 0 rest opens x.3.core m.stands.core m.begins refl
          x.4,
    ))

-- ---- a stream that waits

some_of : (o : Option ℕ) → is_some o ≡ true → (x : ℕ) × (o ≡ Some x)
some_of None e = absurd (false≢true e)
some_of (Some x) e = (x, refl)

-- its place is there
pub place_waits : (v : Desk) (number : ℕ) → is_some (wants_in v.core number) ≡ true → IsAtWork v
    → IsSome (place_in v.jobs.items number)
place_waits v number wants = by_work (Bool-set _ _) v (λ w faults ps S.
    let x = some_of (wants_in v.core number) wants in
    let runs = waits_runs v (devices None faults ps) w number x.0 S x.1 in
    let f = found (setup_in w) v.jobs.items w.jobs number runs.0 S.jobs runs.1 in
    ap is_some (place_is v.jobs.items number ∙ f.at))

module _ (v : Desk) (number stripe place : ℕ) (r : Running) (wants : wants_in v.core number ≡ Some stripe)
    (at : place_in v.jobs.items number ≡ Some place) (there : slice_get v.jobs.items place ≡ Some r) where
  module _ (w : State) (faults : ℕ) (ps : List Provider) (S : DeskStands v (devices None faults ps) w) where
    streams_here : IsStreaming r.task
    streams_here =
        let runs = waits_runs v (devices None faults ps) w number stripe S wants in
        let wait = waiting v (devices None faults ps) w number stripe runs.0 S runs.1 wants in
        streaming (setup_in w) (told_in v.core.jobs number) stripe r.task runs.0 wait.told
        (S.streams number r.task runs.0
        (task_at v.jobs.items number place r (sym (place_is v.jobs.items number) ∙ at) there) runs.1)

    size_here : piece_size r.task ≡ stripe_by v.core.setup (job_in v.core.jobs number)
    size_here =
        let runs = waits_runs v (devices None faults ps) w number stripe S wants in
        let f = found (setup_in w) v.jobs.items w.jobs number runs.0 S.jobs runs.1 in
        let same : f.place ≡ place = cc (sym f.at ∙ sym (place_is v.jobs.items number) ∙ at) in
        let one : f.running ≡ r = cc (sym f.there ∙ ap (slice_get v.jobs.items) same ∙ there) in
        bench_bytes (setup_in w) runs.0 r.task streams_here
        (rw one at f.is).task
        ∙ sym (waiting v (devices None faults ps) w number stripe runs.0 S runs.1 wants).size

  -- its task is that of a stream, whose stripes have the size that the core knows
  pub streams_there : IsAtWork v → IsStreaming r.task
  streams_there = by_work (streaming_prop r.task) v streams_here

  pub size_there : IsAtWork v → piece_size r.task ≡ stripe_by v.core.setup (job_in v.core.jobs number)
  size_there = by_work (ℕ_set _ _) v size_here

  -- how long the file is with a piece
  pub total_with : IsAtWork v → (size total count : ℕ) → size ≡ piece_size r.task
      → total ≡ stripe * size + count
      → total ≡ stripe * stripe_by v.core.setup (job_in v.core.jobs number) + count
  total_with work size total count size_is total_is =
      total_is ∙ ap (λ (x : ℕ). stripe * x + count) (size_is ∙ size_there work)

-- ---- the end of a stream that is given up

-- what the desk did
pub record IsAbandoned (v v' : Desk) (number : ℕ) : Type 0 where
  pub wants : is_some (wants_in v.core number) ≡ true
  pub place : ℕ
  pub old : Running
  pub at : place_in v.jobs.items number ≡ Some place
  pub there : slice_get v.jobs.items place ≡ Some old
  pub jobs : v'.jobs.items ≡ remove v.jobs.items place
  pub keeps : KeepsAll v v'
  pub flight : v'.flight ≡ v.flight
  pub stands : (w : State) (j : Job) → CoreIs v.core w → job_of w.jobs number ≡ Some j
      → CoreIs v'.core (ended w j)
  pub gone : job_in v'.core.jobs number ≡ None
  pub others : (m : ℕ) → (m ≡ number → ⊥) → job_in v'.core.jobs m ≡ job_in v.core.jobs m

module _ (v v' : Desk) (number : ℕ) (g : IsAbandoned v v' number) where
  -- all other jobs run on as they were
  others_told : (m : ℕ) (j : CoreJob) → job_in v'.core.jobs m ≡ Some j → j.told ≡ told_in v.core.jobs m
  others_told m j is = elim (cases_eq m number) [
    | inl e ↦ absurd (none-some j (sym (ap (job_in v'.core.jobs) e ∙ g.gone) ∙ is))
    | inr n ↦ ap told_by (sym is ∙ g.others m n)
  ]

  pub abandoned_stands : (w : State) (d : Devices) (j : Job) → DeskStands v d w → job_of w.jobs number ≡ Some j
      → DeskStands v' d (ended w j)
  abandoned_stands w d j S runs =
      let s = setup_in w in
      let core = g.stands w j S.core runs in
      let at = sym (place_is v.jobs.items number) ∙ g.at in
      let jobs = ap (without_job w.jobs) (number_of w.jobs number j runs) in
      stands_on v v' w (ended w j) d.holds d.faults d.providers d.providers S
      (record { records = refl; journal = refl; area = refl; switching = refl; doubt = refl; append = refl; faults = refl; barred = refl })
      (handed_same d.providers w (ended w j) S.devices.providers refl (λ k. refl)) core g.keeps g.flight
      (subst (λ js. AreRunning s v'.jobs.items js) (sym jobs)
      (rw (← g.jobs) at (taken_out s v.jobs.items w.jobs 0 w.next_job number g.place S.core.sound.numbered
      S.jobs at)))
      (hands_without s v.core v'.core v.jobs.items w.jobs S.streams (ended w j) core
      (record {
        setup = core.setup ∙ setup_same w (ended w j) refl ∙ sym S.core.setup;
        none = λ none. absurd (false≢true
            (sym (ap is_some (none_waits v.core.setup v.core.jobs number none)) ∙ g.wants));
        told = others_told;
      }) number g.place g.old at g.there v'.jobs.items g.jobs jobs)

  -- so the desk is at work
  pub abandoned_works : IsAtWork v → IsAtWork v'
  abandoned_works at = λ rest are. ∥∥₁_map (at rest are) (λ x.
      let runs = by_job x.0 x.3.core (job_in v.core.jobs number) refl g.wants in
      let S = abandoned_stands x.0 (devices None x.1 x.2) runs.0 x.3 runs.1 in (
        ended x.0 runs.0,
        x.1,
        x.2,
        S,
        λ m stripes j told jobs.
            let h = found_without x.0.jobs number m j
            (ap (λ n. job_of (without_job x.0.jobs n) m)
            (sym (number_of x.0.jobs number runs.0 runs.1)) ∙ jobs) in
            (rw (← (setup_same x.0 (ended x.0 runs.0) refl)) at (x.4 m stripes j
            (ap told_by (sym (g.others m h.0)) ∙ told) h.1)),
      ))
    where
      by_job : (w : State) → CoreIs v.core w → (o : Option CoreJob) → job_in v.core.jobs number ≡ o
          → is_some (wanted_by v.core.setup o) ≡ true → (j : Job) × (job_of w.jobs number ≡ Some j)
      by_job w core None is e = absurd (false≢true e)
      by_job w core (Some c) is e =
          let p = pair_some v.core.setup v.core.jobs w.jobs number c core.jobs is in (p.job, p.runs)
