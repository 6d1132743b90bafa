-- An init as an event of the machine.
use Rattle.vault_open.proofs.Words.{◌≡◌, inl, inr, ℕ, ◌<◌, ◌≤◌, Bool, true, false, List, [], ◌∷◌, length, Option, Some, None, refl, sym, ap, ◌∙◌, subst, arith, length-take, IfSome, IsTrue, is_some, option_map, false≢true, WriteFault, Cells, reads, synced, IsImage, EachImage, Goes, each_image-mono, Setup, Record, SetUp, PutStart, PutDone, Drop, AuditStart, AuditDone, RepairDone, PutDoneIn, Version, Resume, InEffect, RepairDue, is_setup, is_appended, largest_journal, Area, other_area, StandsActive, packed, setup_of, NoSetup, AreAccepted, active-front, active-take, State, Doubt, brought, StandsForState, LeavesDoubt, Inits, InitsBy, InitsClosed, StandsFirm, MayStandWith, one_meaning, bad_is_none, IsSoundJournal, IsSound, second-set_up, journal-brought, InitFault, Devices, devices, AreDevices, journal_read, IsFree, IsBlankIn, BeginsWithSetup, BeginsOtherwise, IsBadInit, blank-free, IsInitFault, IsNoWrite, MayInit, MakesInit, init_answer, IsBlank, IsReadied, IsHalfReady}
use Rattle.std.proofs.Common.{Ok, Err}
use Rattle.std.specs.Prelude.{IsErrOf}
use Rattle.std.specs.List.{list_all}
use Rattle.std.proofs.lemmas.Option.{none-some}
use Rattle.stream_model.specs.declared.fault.WriteFault.TheVariants as write_fault
use Rattle.device_defs.specs.Faults.{Rose}
use Rattle.device_defs.specs.Providers.{Provider}
use Rattle.device_defs.proofs.PickLaws.{IsImage-reads}
use Rattle.machine_defs.specs.Events as events
use Rattle.machine_defs.specs.Events.{Outcome, Init}
use Rattle.machine_defs.specs.Refusals as refusal
use Rattle.machine_defs.specs.Machine.{Happens}
use Rattle.vault_open.specs.declared.fault.InitFault.TheVariants as init_fault
use Rattle.vault_open.specs.Disks.{CallsDisk}
use Rattle.vault_open.proofs.Images.{Shows, MayRead, packed-some, more-some, shown-read, shown-short, shown-long, read-accepted, read-fits, doubt-shown, firm-shown, bytes-shown, shown-again}

-- ---- what bytes stand for

begins-up : (rs : List Record) → BeginsWithSetup rs → is_some (setup_of rs) ≡ true
begins-up [] h = absurd h
begins-up (SetUp s ∷ rs) h = refl
begins-up (PutStart id name ∷ []) h = absurd h
begins-up (PutDone id size ∷ []) h = absurd h
begins-up (Drop name ∷ []) h = absurd h
begins-up (AuditStart number ∷ []) h = absurd h
begins-up (AuditDone number undecided counts ∷ []) h = absurd h
begins-up (RepairDone number ∷ []) h = absurd h
begins-up (PutDoneIn id size profile ∷ []) h = absurd h
begins-up (Version ∷ []) h = absurd h
begins-up (Resume next audit ∷ []) h = absurd h
begins-up (InEffect id size profile kept ∷ []) h = absurd h
begins-up (RepairDue number counts ∷ []) h = absurd h
begins-up (PutStart id name ∷ q ∷ rs) h = begins-up (q ∷ rs) h
begins-up (PutDone id size ∷ q ∷ rs) h = begins-up (q ∷ rs) h
begins-up (Drop name ∷ q ∷ rs) h = begins-up (q ∷ rs) h
begins-up (AuditStart number ∷ q ∷ rs) h = begins-up (q ∷ rs) h
begins-up (AuditDone number undecided counts ∷ q ∷ rs) h = begins-up (q ∷ rs) h
begins-up (RepairDone number ∷ q ∷ rs) h = begins-up (q ∷ rs) h
begins-up (PutDoneIn id size profile ∷ q ∷ rs) h = begins-up (q ∷ rs) h
begins-up (Version ∷ q ∷ rs) h = begins-up (q ∷ rs) h
begins-up (Resume next audit ∷ q ∷ rs) h = begins-up (q ∷ rs) h
begins-up (InEffect id size profile kept ∷ q ∷ rs) h = begins-up (q ∷ rs) h
begins-up (RepairDue number counts ∷ q ∷ rs) h = begins-up (q ∷ rs) h

-- accepted records do not begin otherwise
others-refused : (rs : List Record) → AreAccepted rs → BeginsOtherwise rs → ⊥
others-refused [] a h = h
others-refused (SetUp s ∷ []) a h = h
others-refused (PutStart id name ∷ []) a h = none-some NoSetup (sym a.0)
others-refused (PutDone id size ∷ []) a h = none-some NoSetup (sym a.0)
others-refused (Drop name ∷ []) a h = none-some NoSetup (sym a.0)
others-refused (AuditStart number ∷ []) a h = none-some NoSetup (sym a.0)
others-refused (AuditDone number undecided counts ∷ []) a h = none-some NoSetup (sym a.0)
others-refused (RepairDone number ∷ []) a h = none-some NoSetup (sym a.0)
others-refused (PutDoneIn id size profile ∷ []) a h = none-some NoSetup (sym a.0)
others-refused (Version ∷ []) a h = none-some NoSetup (sym a.0)
others-refused (Resume next audit ∷ []) a h = none-some NoSetup (sym a.0)
others-refused (InEffect id size profile kept ∷ []) a h = none-some NoSetup (sym a.0)
others-refused (RepairDue number counts ∷ []) a h = none-some NoSetup (sym a.0)
others-refused (SetUp s ∷ q ∷ rs) a h = others-refused (q ∷ rs) a.1 h
others-refused (PutStart id name ∷ q ∷ rs) a h = others-refused (q ∷ rs) a.1 h
others-refused (PutDone id size ∷ q ∷ rs) a h = others-refused (q ∷ rs) a.1 h
others-refused (Drop name ∷ q ∷ rs) a h = others-refused (q ∷ rs) a.1 h
others-refused (AuditStart number ∷ q ∷ rs) a h = others-refused (q ∷ rs) a.1 h
others-refused (AuditDone number undecided counts ∷ q ∷ rs) a h = others-refused (q ∷ rs) a.1 h
others-refused (RepairDone number ∷ q ∷ rs) a h = others-refused (q ∷ rs) a.1 h
others-refused (PutDoneIn id size profile ∷ q ∷ rs) a h = others-refused (q ∷ rs) a.1 h
others-refused (Version ∷ q ∷ rs) a h = others-refused (q ∷ rs) a.1 h
others-refused (Resume next audit ∷ q ∷ rs) a h = others-refused (q ∷ rs) a.1 h
others-refused (InEffect id size profile kept ∷ q ∷ rs) a h = others-refused (q ∷ rs) a.1 h
others-refused (RepairDue number counts ∷ q ∷ rs) a h = others-refused (q ∷ rs) a.1 h

-- ---- counts of faults

-- a call behind one that was no fault
pub called-after : {a b c : Option Cells} {f g h : ℕ} {F G : Type 0} → CallsDisk a b f g F → (F → ⊥) →
    CallsDisk b c g h G → CallsDisk a c f h G
called-after first none second = record {
  tells = second.tells ∙ first.tells;
  no_fault = λ sure. second.no_fault sure ∙ first.no_fault none;
  cause = rw (first.no_fault none) at second.cause;
}

module _ (s : Setup) (w : State) (moment : ℕ) (providers : List Provider) where
  -- ---- states

  abbrev left_at : Option Doubt → ℕ → State
  left_at doubt faults = record (record w { doubt = doubt }) { disk_faults = faults }

  happens : (outcome : Outcome) (new : State) → w.is_open ≡ false → is_setup s ≡ true →
      InitsClosed w s outcome new → Happens 8 moment w (Init s) outcome new
  happens outcome new closed valid h = subst (λ (b : Bool). Inits w s b outcome new) (sym closed)
      (subst (λ (b : Bool). InitsBy w s b outcome new) (sym valid) h)

  -- an init with a setup beyond its limits is refused, as an event of the machine
  pub bad-setup : (told : Option Cells) (d : Devices) → MayInit w told → AreDevices d w → is_setup s ≡ false →
      MakesInit w moment s (Err init_fault.BadSetup) d
  bad-setup told d may are bad = record {
    state = w;
    happens = subst (λ (b : Bool). Inits w s b (events.Refused refusal.BadSetup) w) (sym may.closed)
        (subst (λ (b : Bool). InitsBy w s b (events.Refused refusal.BadSetup) w) (sym bad) refl);
    devices = are;
  }

-- ---- before it

-- records that are none in the journal are none in the history
none-recorded : (w : State) → IsSound 8 w → w.journal ≡ [] → w.records ≡ []
none-recorded w sound none =
    sym (sound.journal.whole (subst (λ (l : List Record). IsTrue (list_all is_appended l)) (sym none) refl)) ∙ none

module _ (w : State) (providers : List Provider) (old : Cells) (f0 : ℕ) (may : MayInit w (Some old))
    (are : AreDevices (devices (Some old) f0 providers) w) where
  sound : IsSound 8 w
  sound = may.sound

  read : Shows w (reads old)
  read = are.images (reads old) (IsImage-reads old)

  -- what the disk reads in its active area the state may have there
  may-read : (area : Area) (rs : List Record) → StandsActive (journal_read old) area rs → MayRead w area rs
  may-read area rs stands = shown-read w (reads old) area rs sound.journal read
      (active-front largest_journal (reads old) area rs stands)

  no-records : (area : Area) → MayRead w area [] → (w.journal ≡ []) × (area ≡ w.area)
  no-records area (inl (inl e)) = (sym e.0, e.1)
  no-records area (inl (inr x)) = absurd (packed-some w.journal (sym x.1))
  no-records area (inr d) = absurd (more-some d.0.entry w.journal (sym d.2))

  -- a disk that has no record stands for none
  none-held : IsFree old → w.journal ≡ []
  none-held (inl short) = shown-short w (reads old) read short
  none-held (inr stands) = (no-records stands.0 (may-read stands.0 [] stands.1)).0

  free : IsFree old → w.records ≡ []
  free is = none-recorded w sound (none-held is)

  -- it is made blank in the area of the state
  area-of-blank : (area : Area) (blank : Cells) → IsBlankIn old area blank → area ≡ w.area
  area-of-blank area blank (IsBlankIn.short short first is) =
      first ∙ sym (sound.journal.first (none-held (inl short)))
  area-of-blank area blank (IsBlankIn.empty stands is) = (no-records area (may-read area [] stands)).1

  le : (f1 : ℕ) → f0 ≤ f1 → w.disk_faults ≤ f1
  le f1 never = (let e = are.faults in omega (arith, e, never))

-- ---- a fault

module _ (s : Setup) (w : State) (moment : ℕ) (providers : List Provider) (old : Cells) (f0 : ℕ)
    (may : MayInit w (Some old)) (are : AreDevices (devices (Some old) f0 providers) w)
    (valid : is_setup s ≡ true)
    (new : Option Cells) (f1 : ℕ) (never : f0 ≤ f1) where
  devices-at : (doubt : Option Doubt) → StandsForState new (left_at s w moment providers doubt f1) →
      AreDevices (devices new f1 providers) (left_at s w moment providers doubt f1)
  devices-at doubt images =
      record {
        images = images;
        faults = refl;
        providers = record { count = are.providers.count; each = are.providers.each };
      }

  failed : (doubt : Option Doubt) → LeavesDoubt w s doubt →
      StandsForState new (left_at s w moment providers doubt f1) → Rose f0 f1 →
      MakesInit w moment s (Err init_fault.DiskFault) (devices new f1 providers)
  failed doubt leaves images rose = record {
    state = left_at s w moment providers doubt f1;
    happens = happens s w moment providers _ _ may.closed valid (
      doubt,
      leaves,
      (f1, le w providers old f0 may are f1 never, subst (λ (k : ℕ). Rose k f1) (sym are.faults) rose, refl),
    );
    devices = devices-at doubt images;
  }

  wanting : (doubt : Option Doubt) → LeavesDoubt w s doubt →
      StandsForState new (left_at s w moment providers doubt f1) → f1 ≡ f0 →
      MakesInit w moment s (Err init_fault.Memory) (devices new f1 providers)
  wanting doubt leaves images same = record {
    state = left_at s w moment providers doubt f1;
    happens = happens s w moment providers _ _ may.closed valid
        (doubt, leaves, ap (λ n. left_at s w moment providers doubt n) (same ∙ sym are.faults));
    devices = devices-at doubt images;
  }

  -- each image is one that the disk had
  still : EachImage new (IsImage old) → StandsForState new (left_at s w moment providers w.doubt f1)
  still same = shown-again new w (left_at s w moment providers w.doubt f1) refl refl refl refl
      (each_image-mono new (IsImage old) (Shows w) (λ image is. are.images image is) same)

  abbrev own_doubt : Doubt
  own_doubt = record { entry = SetUp s; maker = None }

  abbrev own : Option Doubt
  own = Some own_doubt

  own-leaves : IsFree old → LeavesDoubt w s own
  own-leaves is = inr (
    ap (λ (rs : List Record). is_some (setup_of rs)) (free w providers old f0 may are is),
    refl,
  )

  short-images : IsFree old → EachImage new (λ image. length image ≤ 9) →
      StandsForState new (left_at s w moment providers own f1)
  short-images is = each_image-mono new (λ image. length image ≤ 9) _
      (λ image short. inl (inr (none-held w providers old f0 may are is, short)))

  half-failed : IsHalfReady old new → Rose f0 f1 →
      MakesInit w moment s (Err init_fault.DiskFault) (devices new f1 providers)
  half-failed (inl same) rose = failed w.doubt (inl refl) (still same) rose
  half-failed (inr short) rose = failed own (own-leaves (inl short.0)) (short-images (inl short.0) short.1) rose

  half-wanting : IsHalfReady old new → f1 ≡ f0 →
      MakesInit w moment s (Err init_fault.Memory) (devices new f1 providers)
  half-wanting (inl same) = wanting w.doubt (inl refl) (still same)
  half-wanting (inr short) = wanting own (own-leaves (inl short.0)) (short-images (inl short.0) short.1)

  module _ (area : Area) (mid : Cells) (ready : IsReadied area old mid)
      (left : MayStandWith area [] (SetUp s) new) where
    was-free : IsFree old
    was-free = blank-free old ready.blank area ready.blank_is

    append-images : StandsForState new (left_at s w moment providers own f1)
    append-images = doubt-shown new (left_at s w moment providers own f1) area []
        (none-held w providers old f0 may are was-free)
        (sym (area-of-blank w providers old f0 may are area ready.blank ready.blank_is)) own_doubt refl left

    append-failed : Rose f0 f1 → MakesInit w moment s (Err init_fault.DiskFault) (devices new f1 providers)
    append-failed rose = failed own (own-leaves was-free) append-images rose

    append-wanting : f1 ≡ f0 → MakesInit w moment s (Err init_fault.Memory) (devices new f1 providers)
    append-wanting = wanting own (own-leaves was-free) append-images

-- ---- what is there already

module _ (s : Setup) (w : State) (moment : ℕ) (providers : List Provider) (old : Cells) (f0 : ℕ)
    (may : MayInit w (Some old)) (are : AreDevices (devices (Some old) f0 providers) w)
    (valid : is_setup s ≡ true)
    (f1 : ℕ) (never : f0 ≤ f1) (area : Area) (rs : List Record)
    (stands : StandsActive (journal_read old) area rs) (begins : BeginsWithSetup rs) where
  whole : StandsActive (reads old) area rs
  whole = active-front largest_journal (reads old) area rs stands

  here : (a : Area) (l : List Record) → area ≡ a → rs ≡ l → StandsActive (reads old) a l
  here a l area_is same = subst (λ (x : Area). StandsActive (reads old) x l) area_is
      (subst (λ (x : List Record). StandsActive (reads old) area x) same whole)

  up : (l : List Record) → rs ≡ l → is_some (setup_of l) ≡ true
  up l same = subst (λ (x : List Record). is_some (setup_of x) ≡ true) same (begins-up rs begins)

  -- nothing is in doubt any longer
  settled : is_some (setup_of w.records) ≡ true → Shows (left_at s w moment providers None f1) (reads old) →
      MakesInit w moment s (Err init_fault.Already) (devices (Some (synced old)) f1 providers)
  settled is_up shows = record {
    state = left_at s w moment providers None f1;
    happens = happens s w moment providers _ _ may.closed valid (
      record w { doubt = None },
      inl refl,
      is_up,
      (f1, le w providers old f0 may are f1 never, refl),
    );
    devices = record {
      images = bytes-shown (reads old) (left_at s w moment providers None f1) shows;
      faults = refl;
      providers = record { count = are.providers.count; each = are.providers.each };
    };
  }

  already-by : MayRead w area rs →
      MakesInit w moment s (Err init_fault.Already) (devices (Some (synced old)) f1 providers)
  already-by (inl (inl (same, area_is))) =
      settled (ap is_some (sym may.sound.journal.alike.setup) ∙ up w.journal same)
      (inl (inl (here w.area w.journal area_is same)))
  already-by (inl (inr (switching, same, area_is))) = settled
      (second-set_up w.records may.sound.accepted (may.sound.switching switching).version) (inr (inr (record {
        switching = switching;
        stands = here (other_area w.area) (packed w.journal) area_is same;
      })))
  already-by (inr (d, in_doubt, same, area_is)) =
      let follows = may.sound.doubt d in_doubt in
      let journal : IsSoundJournal (brought w d.entry) = journal-brought w (brought w d.entry) d.entry
      refl refl follows.spelled follows.in_journal may.sound.journal in
      record {
        state = record (record (brought w d.entry) { doubt = None }) { disk_faults = f1 };
        happens = happens s w moment providers _ _ may.closed valid (
          record (brought w d.entry) { doubt = None },
          inr (d, in_doubt, refl),
          ap is_some (sym journal.alike.setup) ∙ up (d.entry ∷ w.journal) same,
          (f1, le w providers old f0 may are f1 never, refl),
        );
        devices = record {
          images = bytes-shown (reads old)
              (record (record (brought w d.entry) { doubt = None }) { disk_faults = f1 })
              (inl (inl (here w.area (d.entry ∷ w.journal) area_is same)));
          faults = refl;
          providers = record { count = are.providers.count; each = are.providers.each };
        };
      }

module _ (w : State) (providers : List Provider) (old : Cells) (f0 : ℕ) (may : MayInit w (Some old))
    (are : AreDevices (devices (Some old) f0 providers) w) where
  no-bad : (at : ℕ) → 9 < length (journal_read old) → IsBadInit (journal_read old) at → ⊥
  no-bad at long bad = (let is = shown-long w (reads old) (read w providers old f0 may are)
      (omega (arith, long, length-take largest_journal (reads old))) in
      by is.0 is.1 is.2 is.3 bad)
    where
      by : (area : Area) (rs : List Record) → StandsActive (reads old) area rs → MayRead w area rs →
          IsBadInit (journal_read old) at → ⊥
      by area rs stands may_read (inl bad) = bad_is_none (journal_read old) at area rs bad
          (active-take largest_journal (reads old) area rs stands (read-fits 8 w may.sound area rs may_read))
      by area rs stands may_read (inr bad) = (let one = one_meaning (reads old) area bad.area rs bad.records
          stands (active-front largest_journal (reads old) bad.area bad.records bad.stands) in
          others-refused bad.records
          (subst AreAccepted one.1 (read-accepted 8 w may.sound area rs may_read)) bad.otherwise)

-- ---- a store is set up

module _ (s : Setup) (w : State) (moment : ℕ) (providers : List Provider) (old : Cells) (f0 : ℕ)
    (may : MayInit w (Some old)) (are : AreDevices (devices (Some old) f0 providers) w)
    (valid : is_setup s ≡ true)
    (f1 : ℕ) (never : f0 ≤ f1) where
  abbrev set_up_at : State
  set_up_at = record (brought (record w { doubt = None }) (SetUp s)) { disk_faults = f1 }

  ready : (area : Area) (mid : Cells) (new : Option Cells) → IsReadied area old mid →
      IfSome new (StandsFirm area (SetUp s ∷ [])) → MakesInit w moment s (Ok tt) (devices new f1 providers)
  ready area mid new readied stands =
      let was_free = blank-free old readied.blank area readied.blank_is in
      record {
        state = set_up_at;
        happens = happens s w moment providers _ _ may.closed valid (
          record w { doubt = None },
          inl refl,
          ap (λ (rs : List Record). is_some (setup_of rs)) (free w providers old f0 may are was_free),
          (f1, le w providers old f0 may are f1 never, refl),
        );
        devices = record {
          images = firm-shown new set_up_at area (SetUp s ∷ [])
              (ap (λ (rs : List Record). SetUp s ∷ rs) (none-held w providers old f0 may are was_free))
              (sym (area-of-blank w providers old f0 may are area readied.blank readied.blank_is)) stands;
          faults = refl;
          providers = record { count = are.providers.count; each = are.providers.each };
        };
      }

-- ---- the same of what a disk tells

module _ (s : Setup) (w : State) (moment : ℕ) (providers : List Provider) where
  untold : (told : Option Cells) → told ≡ None → MayInit w told → ⊥
  untold None is may = false≢true may.told_is
  untold (Some cells) is may = absurd cc

  -- an init that fails before its append is an event of the machine
  pub prepared-event : (old new : Option Cells) (f0 f1 : ℕ) (why : InitFault) → MayInit w old →
      AreDevices (devices old f0 providers) w → is_setup s ≡ true
      → IfSome old (λ cells. IsInitFault (journal_read cells) s why) →
      (IsNoWrite why → new ≡ option_map synced old) → IfSome old (λ cells. IsHalfReady cells new)
      → CallsDisk old new f0 f1 (IsErrOf {T = ℕ} (Err why) init_fault.DiskFault) →
      MakesInit w moment s (Err why) (devices new f1 providers)
  prepared-event None new f0 f1 why may are valid fault looked half calls = absurd (untold None refl may)
  prepared-event (Some old) new f0 f1 init_fault.BadSetup may are valid fault looked half calls =
      absurd (false≢true (sym fault ∙ valid))
  prepared-event (Some old) new f0 f1 init_fault.DiskFault may are valid fault looked half calls =
      half-failed s w moment providers old f0 may are valid new f1 calls.cause.never_falls half (calls.cause.rose refl)
  prepared-event (Some old) new f0 f1 init_fault.Memory may are valid fault looked half calls =
      half-wanting s w moment providers old f0 may are valid new f1 calls.cause.never_falls half (calls.no_fault (λ e. cc))
  prepared-event (Some old) new f0 f1 init_fault.Already may are valid fault looked half calls =
      subst (λ (o : Option Cells). MakesInit w moment s (Err init_fault.Already) (devices o f1 providers))
      (sym (looked tt))
      (already-by s w moment providers old f0 may are valid f1 calls.cause.never_falls fault.1.1.0 fault.1.0
      fault.1.1.1 fault.1.2 (may-read w providers old f0 may are fault.1.1.0 fault.1.0 fault.1.1.1))
  prepared-event (Some old) new f0 f1 (init_fault.BadJournal at) may are valid fault looked half calls =
      absurd (no-bad w providers old f0 may are at fault.0 fault.1)

  module _ (area : Area) where
    -- an init whose append fails is an event of the machine
    pub append-event : (old mid new : Option Cells) (f0 f1 : ℕ) (fault : WriteFault) → MayInit w old →
        AreDevices (devices old f0 providers) w → is_setup s ≡ true
        → Goes (IsReadied area) old mid → MayStandWith area [] (SetUp s) new →
        CallsDisk old new f0 f1 (IsErrOf {T = Unit {0}} (Err fault) write_fault.Failed) →
        MakesInit w moment s (Err (init_answer fault)) (devices new f1 providers)
    append-event None mid new f0 f1 fault may are valid goes left calls = absurd (untold None refl may)
    append-event (Some old) None new f0 f1 fault may are valid goes left calls = absurd goes
    append-event (Some old) (Some mid) new f0 f1 write_fault.Failed may are valid goes left calls =
        append-failed s w moment providers old f0 may are valid new f1 calls.cause.never_falls area mid goes left
        (calls.cause.rose refl)
    append-event (Some old) (Some mid) new f0 f1 write_fault.Memory may are valid goes left calls =
        append-wanting s w moment providers old f0 may are valid new f1 calls.cause.never_falls area mid goes left
        (calls.no_fault (λ e. cc))

    -- an init that is done is an event of the machine
    pub ready-event : (old mid new : Option Cells) (f0 f1 : ℕ) → MayInit w old →
        AreDevices (devices old f0 providers) w → is_setup s ≡ true
        → Goes (IsReadied area) old mid → IfSome new (StandsFirm area (SetUp s ∷ [])) → f0 ≤ f1 →
        MakesInit w moment s (Ok tt) (devices new f1 providers)
    ready-event None mid new f0 f1 may are valid goes stands never = absurd (untold None refl may)
    ready-event (Some old) None new f0 f1 may are valid goes stands never = absurd goes
    ready-event (Some old) (Some mid) new f0 f1 may are valid goes stands never =
        ready s w moment providers old f0 may are valid f1 never area mid new goes stands

-- a setup beyond its limits is refused for that cause, whatever the disk reads
pub bad-refused : (s : Setup) (told : Option Cells) → is_setup s ≡ false →
    IfSome told (λ cells. IsInitFault (journal_read cells) s init_fault.BadSetup)
bad-refused s None bad = tt
bad-refused s (Some cells) bad = bad

-- what a disk has on which the append can begin
pub readied-blank : (area : Area) (told mid : Option Cells) → Goes (IsReadied area) told mid →
    IfSome mid (IsBlank area)
readied-blank area None None is = tt
readied-blank area None (Some mid) is = absurd is
readied-blank area (Some old) None is = absurd is
readied-blank area (Some old) (Some mid) is = is.reads_none
