-- What a desk at work stands for, whatever devices it was lent.
use mathlib.Core.Bool.{Bool-set}
use Rattle.vault.proofs.Words.{◌≡◌, ◌⊎◌, ℕ, ◌*◌, ◌≤◌, List, [], get_or, Option, Some, None, Result, Ok, Err, refl, sym, ap, subst, ◌∙◌, inl, inr, arith, IsSome, is_some, OnOk, OnErr, ∥∥₁_elim, ∥∥₁_map, ℕ_set, slice_get-get_or, Provider, Setup, Kind, Job, job_of, State, setup_in, AreNumbered, IsSound, journal-same, BeginFault, Devices, devices, Desk, DeskStands, IsAtWork, DeskMakesBegin, Comes, PutEndsIn, HasEnds, DeskMakesStep, place_in, IsSameDesk, BeginsAt, beginning, Outcome, Step, Happens, found_more, CoreIs, stripe_size, Turn, KeepsStreams, begin_outcome, outcome_of, setup_same}
use Rattle.std.proofs.Common.{length}
use Rattle.machine_defs.specs.Actions.{Action}
use Rattle.vault.proofs.JobPlaces.{place_is}
use Rattle.vault.proofs.Ways.{working}
use Rattle.machine_defs.proofs.Changes.{Job_is, Changes}
use Rattle.machine_defs.proofs.Events.{changes}
use Rattle.vault.proofs.Hands.{keeps_same, told_same, told_below}

-- ---- from one state that a desk stands for

-- what has at most one proof holds of a desk at work, where it holds of each that stands for a state
pub by_work : {P : Type 0} → IsProp P → (v : Desk)
    → ((w : State) (faults : ℕ) (ps : List Provider) → DeskStands v (devices None faults ps) w → P)
    → IsAtWork v → P
by_work prop v shows at = ∥∥₁_elim (at (λ number. []) (λ number. refl)) prop (λ x. shows x.0 x.1 x.2 x.3)

-- a desk that stands for a state over a disk that tells nothing, in which no stream is open, is at work
pub works : (v : Desk) (w : State) (faults : ℕ) (ps : List Provider)
    → DeskStands v (devices None faults ps) w → ((rest : ℕ → List ℕ) → HasEnds v w rest) → IsAtWork v
works v w faults ps stands ends = λ rest bytes. ∣ (w, faults, ps, stands, ends rest) ∣₁

-- the jobs of a state that were there before, and one that began
abbrev pub ComesFrom : State → State → Type 0
ComesFrom w new = (number : ℕ) (job : Job) → job_of new.jobs number ≡ Some job →
    (number ≡ w.next_job) ⊎ ((before : Job) × (job_of w.jobs number ≡ Some before) × (job.kind ≡ before.kind)
    × (job.profile ≡ before.profile))

-- the files of open streams end as before
pub ends_kept : (v v' : Desk) (w new : State) (rest : ℕ → List ℕ) → CoreIs v.core w → CoreIs v'.core new
    → KeepsStreams v.core v'.core → ComesFrom w new → HasEnds v w rest → HasEnds v' new rest
ends_kept v v' w new rest core core' keeps from ends number stripes job told runs =
    let before =
    sym (told_same v.core v'.core new number job core' keeps runs) ∙ told in
    elim (from number job runs) [
      | inl next ↦ absurd (omega (arith, told_below v.core w number stripes core before, next))
      | inr there ↦ subst (λ s. PutEndsIn (stripes * stripe_size s job.profile) (rest number) job.kind)
          (sym core.setup ∙ sym keeps.setup ∙ core'.setup) (rw (← there.3) at
          (subst (PutEndsIn (stripes * stripe_size (setup_in w) (there.0).profile) (rest number))
          (sym there.2) (ends number stripes there.0 before there.1)))
    ]

-- a begin leaves each job as it was, and may bring one more
begun_from : (w new : State) (moment : ℕ) (kind : Kind) (own : Option ℕ) (result : Result ℕ BeginFault)
    → BeginsAt 8 moment w kind own (begin_outcome result) new → ComesFrom w new
begun_from w new moment kind own (Ok job) begins number j runs =
    elim (found_more w.jobs (beginning w moment kind own) number j
    (ap (λ (x : State). job_of x.jobs number) (sym begins.3) ∙ runs)) [
      | inl h ↦ inl h.0
      | inr h ↦ inr (j, h, refl, refl)
    ]
begun_from w new moment kind own (Err why) begins number j runs =
    inr (j, ap (λ (x : State). job_of x.jobs number) (sym begins.2) ∙ runs, refl, refl)

-- and so is one that a begin left
pub begun_works : (old new : Desk) (kind : Kind) (own : Option ℕ) (result : Result ℕ BeginFault)
    → KeepsStreams old.core new.core
    → ((w : State) (d : Devices) (moment : ℕ) → DeskStands old d w
    → DeskMakesBegin w moment kind own result new d)
    → IsAtWork old → IsAtWork new
begun_works old new kind own result keeps makes at = λ rest bytes. ∥∥₁_map (at rest bytes) (λ x.
    let m = makes x.0 (devices None x.1 x.2) 0 x.3 in (
      m.state,
      x.1,
      x.2,
      m.stands,
      ends_kept old new x.0 m.state rest x.3.core m.stands.core keeps
          (begun_from x.0 m.state 0 kind own result m.begins) x.4,
    ))

-- what a begin keeps, whether it is refused or not
pub begin_keeps : (old new : Desk) (result : Result ℕ BeginFault) → OnErr result (IsSameDesk old new)
    → OnOk result (KeepsStreams old.core new.core) → KeepsStreams old.core new.core
begin_keeps old new (Ok job) same keeps = keeps
begin_keeps old new (Err why) same keeps = subst (KeepsStreams old.core) (sym same.core) (keeps_same old.core)

-- a job whose action comes next has its place
pub place_there : (v : Desk) (number : ℕ) (action : Action) → Comes v.core number action → IsAtWork v
    → IsSome (place_in v.jobs.items number)
place_there v number action comes = by_work (Bool-set _ _) v (λ w faults ps stands.
    let f = working v (devices None faults ps) w number action stands (comes.machine w stands.core) in
    ap is_some (place_is v.jobs.items number ∙ f.at))

-- the core counts the providers of the setup
pub providers_fit : (v : Desk) → IsAtWork v → v.core.setup.n ≡ v.setup.n
providers_fit v =
    by_work (ℕ_set _ _) v (λ w faults ps stands. ap (λ (s : Setup). s.n) (stands.core.setup ∙ stands.setup))

-- ---- over other devices

-- a state with these providers and this count of faults of the disk
abbrev pub over : State → ℕ → List Provider → State
over w faults ps = record w {
  providers = λ j. get_or ps j (w.providers j);
  handed = length ps;
  disk_faults = faults;
}

-- what the devices are, where providers enough are handed in, and the next number make no state unsound
pub beside_sound : (w : State) (providers : ℕ → Provider) (handed faults next : ℕ) → (setup_in w).n ≤ handed →
    AreNumbered 0 w.jobs next → IsSound 8 w →
    IsSound 8 (record w { providers = providers; handed = handed; disk_faults = faults; next_job = next })
unfolding setup_in
beside_sound w providers handed faults next enough numbered S = record {
  accepted = S.accepted;
  spelled = S.spelled;
  journal = journal-same w
      (record w { providers = providers; handed = handed; disk_faults = faults; next_job = next }) refl refl
      refl S.journal;
  room = S.room;
  files = S.files;
  names = S.names;
  ids = S.ids;
  audits = S.audits;
  closed = S.closed;
  set_up = S.set_up;
  handed = λ opened. enough;
  few = S.few;
  numbered = numbered;
  jobs = S.jobs;
  in_journal = S.in_journal;
  lone = S.lone;
  packing = S.packing;
  switching = λ e. (let s = S.switching e in
      record { version = s.version; undoubted = s.undoubted; jobs = s.jobs; packing = s.packing });
  upgrade = S.upgrade;
  one_check = S.one_check;
  apart = S.apart;
  append = λ a h. (let A = S.append a h in record {
    job = A.job;
    runs = A.runs;
    begun = A.begun;
    undone = A.undone;
    writes = A.writes;
    drawn = A.drawn;
    bytes = A.bytes;
    follows = A.follows;
  });
  barred = S.barred;
  undoubted = S.undoubted;
  doubt = S.doubt;
}

-- the desk stands for the state over these devices
over_stands : (v : Desk) (w : State) (old faults : ℕ) (older ps : List Provider) → v.setup.n ≤ length ps
    → DeskStands v (devices None old older) w → DeskStands v (devices None faults ps) (over w faults ps)
over_stands v w old faults older ps enough S =
    let same = setup_same w (over w faults ps) refl in
    record {
      devices = record {
        images = tt;
        faults = refl;
        providers = record { count = refl; each = λ j below. slice_get-get_or ps j (w.providers j) below };
      };
      core = record {
        sound = beside_sound w (over w faults ps).providers (length ps) faults w.next_job
            (subst (λ (n : ℕ). n ≤ length ps) (ap (λ (s : Setup). s.n) (sym S.setup)) enough)
            S.core.sound.numbered S.core.sound;
        is_open = S.core.is_open;
        none_alone = S.core.none_alone;
        table = S.core.table;
        setup = S.core.setup ∙ sym same;
        end = S.core.end;
        jobs = S.core.jobs;
        next_job = S.core.next_job;
        append = S.core.append;
        barred = S.core.barred;
      };
      base = S.base;
      setup = same ∙ S.setup;
      shaped = S.shaped;
      jobs = rw (← same) at S.jobs;
      streams = rw (← same) at S.streams;
      flight = S.flight;
    }

-- the files of its streams end as before
ends_over : (v : Desk) (w : State) (faults : ℕ) (ps : List Provider) (rest : ℕ → List ℕ) → HasEnds v w rest
    → HasEnds v (over w faults ps) rest
ends_over v w faults ps rest ends number stripes job told runs =
    rw (← (setup_same w (over w faults ps) refl)) at (ends number stripes job told runs)

-- a step leaves each job what it is for
stepped_from : (w new : State) (moment number : ℕ) (outcome : Outcome) → IsSound 8 w
    → Happens 8 moment w (Step number) outcome new → ComesFrom w new
stepped_from w new moment number outcome sound happens k job runs =
    by_change (changes 8 moment w (Step number) outcome new
    (record { idle = λ closed. (let i = sound.closed closed in (i.0, i.1)); lone = sound.lone }) happens)
  where
    by_job : Job_is 8 moment w new k job → (k ≡ w.next_job) ⊎ ((before : Job)
        × (job_of w.jobs k ≡ Some before) × (job.kind ≡ before.kind) × (job.profile ≡ before.profile))
    by_job (Job_is.kept there grown) = inr (job, there, refl, refl)
    by_job (Job_is.begun kind profile is next free records) = inl next
    by_job (Job_is.plain before action there next plain goes records stores) =
        inr (before, there, goes.kind, goes.profile)
    by_job (Job_is.drew before there next free is records) =
        inr (before, there, ap (λ (j : Job). j.kind) is, ap (λ (j : Job). j.profile) is)
    by_job (Job_is.finished before a there next flies mine is records none) =
        inr (before, there, ap (λ (j : Job). j.kind) is, ap (λ (j : Job). j.profile) is)

    by_change : Changes 8 moment w (Step number) outcome new → (k ≡ w.next_job) ⊎ ((before : Job)
        × (job_of w.jobs k ≡ Some before) × (job.kind ≡ before.kind) × (job.profile ≡ before.profile))
    by_change made = by_job (made.job k job runs)

-- a desk at work stays so by a step, over devices that tell nothing
pub works_on : (v v' : Desk) (faults faults' job : ℕ) (ps ps' : List Provider) (turn : Turn)
    → v.setup.n ≤ length ps → KeepsStreams v.core v'.core
    → ((w : State) → DeskStands v (devices None faults ps) w
    → DeskMakesStep w 0 job turn v' (devices None faults ps) (devices None faults' ps'))
    → IsAtWork v → IsAtWork v'
works_on v v' faults faults' job ps ps' turn enough keeps shows at = λ rest bytes.
    ∥∥₁_map (at rest bytes) (λ x.
    let w = over x.0 faults ps in
    let stands = over_stands v x.0 x.1 faults x.2 ps enough x.3 in
    let made = shows w stands in (
      made.state,
      faults',
      ps',
      made.stands,
      ends_kept v v' w made.state rest stands.core made.stands.core keeps
          (stepped_from w made.state 0 job (outcome_of turn) stands.core.sound made.happens)
          (ends_over v x.0 faults ps rest x.4),
    ))
