-- A reopening as an event of the machine.
use Rattle.hail_client.proofs.Words.{◌≡◌, ◌≢◌, ◌⊎◌, inl, inr, ℕ, zero, suc, ◌<◌, ◌≤◌, false, List, [], replicate, length-take, Option, Some, None, refl, ap, sym, subst, ◌∙◌, arith, is_some, slice_get, option_map, length-replicate, Cells, reads, synced, Rose, Goes, Provider, Record, largest_journal, Area, StandsActive, setup_of, Reopen, State, setup_in, given_up, StandsForState, Reopens, IsSetUp, IsNotSetUp, IsSound, IsAtRest, events-sound, StartFault, Vault, AreHanded, IsJustOpened, devices, AreDevices, journal_read, IsResynced, IsStartFault, provider_count, Stands, IsStreamless, Shows, shown-read, shown-long, read-accepted, read-fits, bytes-shown, shown-again, with_vault, without_vault, start_refusal, anyone, StandsClosed, MakesEvent}
use Rattle.std.proofs.Common.{true, length, Err}
use Rattle.record_defs.specs.Records.{Setup}
use Rattle.record_defs.specs.Reading.{HasNoSetup}
use Rattle.machine_defs.specs.Events as events
use Rattle.machine_defs.specs.Refusals as refusal
use Rattle.vault_open.specs.declared.fault.StartFault.TheVariants as start_fault
use Rattle.vault_open.specs.Disks.{StartsOver}
use Rattle.vault.specs.Started.{IsStarted}
use Rattle.hail_client.proofs.Settled.{AreLeft, left_with, left-rereads, left-sound, same-left, read-left, left-set_up, none-read}
use Rattle.opening_defs.proofs.Readings.{bad-none}
use Rattle.device_defs.proofs.PickLaws.{IsImage-reads}
use Rattle.device_defs.proofs.Lasting.{image-firm}
use Rattle.record_defs.proofs.Standing.{active-front, active-take, stands-front}

each-anyone : (n j : ℕ) → j < n → slice_get (replicate n anyone) j ≡ Some anyone
each-anyone zero j l = absurd (omega (arith, l))
each-anyone (suc n) zero l = refl
each-anyone (suc n) (suc j) l = each-anyone n j (omega (arith, l))

-- the vault was opened over these records in their area, and so many providers are handed in
abbrev pub opened : State → List Record → List Record → Area → (ℕ → Provider) → ℕ → ℕ → State
opened w rs js area providers handed faults = record (left_with w rs js area) {
  is_open = true;
  providers = providers;
  handed = handed;
  disk_faults = faults;
}

module _ (w : State) (rs js : List Record) (area : Area) (sound : IsSound 8 w) (left : AreLeft w rs js area)
    (some : js ≢ []) where
  mid : IsSound 8 (left_with w rs js area)
  mid = left-sound w rs js area sound left

  pub up : IsSetUp (left_with w rs js area)
  up = left-set_up (left_with w rs js area) mid some

  rests : (providers : ℕ → Provider) (handed faults : ℕ) → (setup_in (left_with w rs js area)).n ≤ handed →
      IsAtRest (opened w rs js area providers handed faults)
  unfolding setup_in
  rests providers handed faults enough = record {
    idle = (refl, refl, refl, refl);
    undoubted = refl;
    unswitched = refl;
    journal = (let j = mid.journal in record {
      accepted = j.accepted;
      spelled = j.spelled;
      alike = j.alike;
      started = j.started;
      whole = j.whole;
      first = j.first;
    });
    accepted = mid.accepted;
    in_grammar = mid.spelled;
    room = (let a = mid.room in omega (arith, a));
    files = mid.files;
    set_up = λ is. up;
    handed = λ is. enough;
  }

  module _ (v : Vault) (holds : Option Cells) (faults first : ℕ) (is_first : w.next_job ≡ first)
      (stands : (u : State) (ps : List Provider) → IsJustOpened u area js first faults ps →
      Stands v (devices holds faults ps) u) where
    just : (u : State) (ps : List Provider) → IsAtRest u → u.is_open ≡ true → u.journal ≡ js → u.area ≡ area →
        u.next_job ≡ first → u.disk_faults ≡ faults → AreHanded ps u → Stands v (devices holds faults ps) u
    just u ps rest opens journal here next faults_are handed = stands u ps (record {
      at_rest = record { rest = rest; opened = opens; next = next };
      journal = journal;
      area_is = here;
      faults_are = faults_are;
      handed = handed;
    })

    -- a vault opened over such a journal stands for the machine's state once it is open
    pub stands-opened : (providers : ℕ → Provider) (ps : List Provider) →
        AreHanded ps (record (left_with w rs js area) { providers = providers; handed = length ps }) →
        (setup_in (left_with w rs js area)).n ≤ length ps →
        Stands v (devices holds faults ps) (opened w rs js area providers (length ps) faults)
    stands-opened providers ps handed enough =
        just (opened w rs js area providers (length ps) faults) ps (rests providers (length ps) faults enough)
        refl refl refl is_first refl (record { count = refl; each = handed.each })

    -- the vault uses as many providers as the setup in effect says
    pub count-is : provider_count v ≡ (setup_in (left_with w rs js area)).n
    unfolding setup_in
    count-is = (let n : ℕ = (setup_in (left_with w rs js area)).n in
        let ps : List Provider = replicate n anyone in
        let e : length ps ≡ n = length-replicate n anyone in
        let enough : n ≤ length ps = omega (arith, e) in
        let S = stands-opened (λ j. anyone) ps
        (record { count = refl; each = λ j l. each-anyone n j (omega (arith, l, e)) }) enough in
        sym (ap (λ (z : Setup). z.n) S.desk.setup))

-- ---- events

module _ (w : State) (moment next : ℕ) (old : Cells) (f0 f1 : ℕ) (ps : List Provider) (sound : IsSound 8 w)
    (are : AreDevices (devices (Some old) f0 ps) w) (is_next : w.next_job ≡ next) (never : f0 ≤ f1) where
  le : w.disk_faults ≤ f1
  le = (let e = are.faults in omega (arith, e, never))

  -- what the disk reads shows what may be in effect
  read : Shows w (reads old)
  read = are.images (reads old) (IsImage-reads old)

  -- a state in which no vault is open, and job numbers go on
  closed-at : (new : Option Cells) (u : State) → Reopens w events.Opened u ⊎
      ((why : refusal.Refusal) × Reopens w (events.Refused why) u) → StandsForState new u →
      u.disk_faults ≡ f1 → u.handed ≡ w.handed → ((j : ℕ) → u.providers j ≡ w.providers j) →
      u.is_open ≡ false → u.next_job ≡ w.next_job → StandsClosed next (devices new f1 ps) u
  closed-at new u happens images faults handed providers closed same = record {
    devices = record {
      images = images;
      faults = faults;
      providers = record {
        count = handed ∙ are.providers.count;
        each = λ j l. are.providers.each j l
            ∙ ap Some (sym (providers j));
      };
    };
    sound = by happens;
    closed = closed;
    next_job_is = same ∙ is_next;
  }
    where
      by : Reopens w events.Opened u ⊎ ((why : refusal.Refusal) × Reopens w (events.Refused why) u) →
          IsSound 8 u
      by (inl h) = events-sound 8 moment w sound (omega arith, omega arith) Reopen events.Opened u tt h
      by (inr (why, h)) = events-sound 8 moment w sound (omega arith, omega arith) Reopen
          (events.Refused why) u tt h

  refused-at : (new : Option Cells) (why : refusal.Refusal) (u : State) → Reopens w (events.Refused why) u →
      StandsForState new u → u.disk_faults ≡ f1 → u.handed ≡ w.handed →
      ((j : ℕ) → u.providers j ≡ w.providers j) → u.is_open ≡ false → u.next_job ≡ w.next_job →
      MakesEvent w moment Reopen (events.Refused why) (without_vault next) (devices new f1 ps)
  refused-at new why u happens images faults handed providers closed same =
      record {
        state = u;
        spelled = tt;
        happens = happens;
        stands = closed-at new u (inr (why, happens)) images faults handed providers closed same;
      }

  -- what the disk reads it reads still
  abbrev left : State
  left = record (given_up w) { disk_faults = f1 }

  resynced-images : (new : Option Cells) → Goes IsResynced (Some old) new → StandsForState new left
  resynced-images None goes = absurd goes
  resynced-images (Some new) (inl same) = shown-again (Some new) w left refl refl refl refl
      (subst (λ (c : Cells). StandsForState (Some c) w) (sym same) are.images)
  resynced-images (Some new) (inr same) = shown-again (Some new) w left refl refl refl refl
      (subst (λ (c : Cells). StandsForState (Some c) w) (sym same) one)
    where
      one : StandsForState (Some (synced old)) w
      one image of = subst (Shows w) (sym (image-firm (reads old) image of))
          (are.images (reads old) (IsImage-reads old))

  synced-images : (new : Option Cells) (u : State) → new ≡ option_map synced (Some old) →
      Shows u (reads old) → StandsForState new u
  synced-images new u is shows =
      subst (λ (o : Option Cells). StandsForState o u) (sym is) (bytes-shown (reads old) u shows)

  -- bytes that are no journal are not read
  not-bad : (at : ℕ) → IsStartFault (journal_read old) (start_fault.BadJournal at) → ⊥
  not-bad at (long, bad) = (let size = length-take largest_journal (reads old) in
      let L = shown-long w (reads old) read (omega (arith, long, size)) in
      bad-none (journal_read old) at L.0 L.1 (read-accepted 8 w sound L.0 L.1 L.3)
      (active-take largest_journal (reads old) L.0 L.1 L.2 (read-fits 8 w sound L.0 L.1 L.3)) bad)

  -- a disk on which nothing is set up
  free-read : IsStartFault (journal_read old) start_fault.NotSetUp → HasNoSetup (reads old)
  free-read (inl short) =
      inl (let size = length-take largest_journal (reads old) in omega (arith, short, size))
  free-read (inr none) = inr (stands-front largest_journal (reads old) [] none)

  -- the state as it was, with the vault given up
  abbrev bare : State
  bare = left_with w w.records w.journal w.area

  none-set : w.journal ≡ [] → IsNotSetUp bare
  none-set none = sym (ap is_some sound.journal.alike.setup)
      ∙ ap (λ (l : List Record). is_some (setup_of l)) none

  -- a start that fails, by the disk or by what it read, is a reopening that the machine refuses
  pub fault-event : {T : Type 0} {new : Option Cells} (why : StartFault) →
      StartsOver {T = T} (Some old) new f0 f1 (Err why) →
      MakesEvent w moment Reopen (events.Refused (start_refusal why)) (without_vault next) (devices new f1 ps)
  fault-event {T} {new} start_fault.DiskFault start = refused-at new refusal.DiskFault left
      (f1, le, subst (λ (k : ℕ). Rose k f1) (sym are.faults) (start.disk.called.cause.rose refl), refl)
      (resynced-images new start.disk.resynced) refl refl (λ j. refl) refl refl
  fault-event {T} {new} start_fault.Memory start =
      refused-at new refusal.Memory left (ap (λ n. record (given_up w) { disk_faults = n })
      (start.disk.called.no_fault (λ e. cc) ∙ sym are.faults)) (resynced-images new start.disk.resynced) refl
      refl (λ j. refl) refl refl
  fault-event {T} {new} start_fault.NotSetUp start =
      (let none = none-read w (reads old) sound.journal read (free-read start.refused) in
      refused-at new refusal.NotSetUp (record bare { disk_faults = f1 })
      (bare, left-rereads w w.records w.journal w.area (same-left w), none-set none.0, (f1, le, refl))
      (shown-again new bare (record bare { disk_faults = f1 }) refl refl refl refl
      (synced-images new bare (start.disk.synced tt) none.1)) refl refl (λ j. refl) refl refl)
  fault-event (start_fault.BadJournal at) start = absurd (not-bad at start.refused)

  -- records were read
  module _ {new : Option Cells} {v : Vault} (s : IsStarted v (Some old) new f1 next)
      (is_synced : new ≡ option_map synced (Some old)) where
    whole : StandsActive (reads old) s.area s.records
    whole = active-front largest_journal (reads old) s.area s.records s.is_read.reads_are.1

    -- the history with them
    kept : (rs : List Record) × AreLeft w rs s.records s.area
    kept = read-left w s.area s.records (shown-read w (reads old) s.area s.records sound.journal read whole)

    abbrev here : State
    here = left_with w kept.0 s.records s.area

    uses-as : provider_count v ≡ (setup_in here).n
    uses-as = count-is w kept.0 s.records s.area sound kept.1 s.is_read.some v new f1 next is_next s.stands

    -- a start with too few providers is a reopening that the machine refuses
    pub few-event : length ps < provider_count v →
        MakesEvent w moment Reopen (events.Refused refusal.TooFewProviders) (without_vault next)
        (devices new f1 ps)
    few-event few = (let count = are.providers.count in
        let fewer : w.handed < (setup_in here).n =
        (let e = uses-as in omega (arith, count, few, e)) in
        refused-at new refusal.TooFewProviders (record here { disk_faults = f1 }) (
          here,
          left-rereads w kept.0 s.records s.area kept.1,
          up w kept.0 s.records s.area sound kept.1 s.is_read.some,
          fewer,
          (f1, le, refl),
        )
        (shown-again new here (record here { disk_faults = f1 }) refl refl refl refl
        (synced-images new here is_synced (inl (inl whole))))
        refl refl (λ j. refl) refl refl)

    -- a start with enough providers is a reopening that the machine makes
    pub opened-event : provider_count v ≤ length ps → (streamless : IsStreamless v) →
        MakesEvent w moment Reopen events.Opened (with_vault v streamless next) (devices new f1 ps)
    opened-event enough streamless = (let count = are.providers.count in
        let many : (setup_in here).n ≤ length ps = (let e = uses-as in omega (arith, enough, e)) in
        let many_handed : (setup_in here).n ≤ w.handed = omega (arith, many, count) in
        record {
          state = opened w kept.0 s.records s.area w.providers w.handed f1;
          spelled = tt;
          happens = (
            here,
            left-rereads w kept.0 s.records s.area kept.1,
            up w kept.0 s.records s.area sound kept.1 s.is_read.some,
            many_handed,
            (f1, le, refl),
          );
          stands = subst (λ (k : ℕ). Stands v (devices new f1 ps)
              (opened w kept.0 s.records s.area w.providers k f1)) (sym count)
              (stands-opened w kept.0 s.records s.area sound kept.1 s.is_read.some v new f1 next is_next
              s.stands w.providers ps (record { count = refl; each = are.providers.each }) many);
        })
