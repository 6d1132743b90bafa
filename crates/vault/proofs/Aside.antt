-- A desk that stands for a state beside which something may run alone.
use Rattle.vault.proofs.Words.{◌≡◌, ℕ, Bool, true, false, [], Option, Some, None, refl, false≢true, some-not-none, State, setup_in, found_none, IsSound, IsDoubtOf, journal-same, Devices, AreDevices, Desk, DeskStands, IsFlight, plain}
use Rattle.machine_defs.specs.States.{Append}

-- a state in which nothing runs alone, with this doubt of the switch byte and this count of the disk's faults
abbrev pub aside : State → Bool → ℕ → State
aside w switching faults = record w { alone = None; is_switching = switching; disk_faults = faults }

-- a state in which nothing runs alone is one such
pub unalone-is : (w : State) → w.alone ≡ None → w ≡ aside w w.is_switching w.disk_faults
unalone-is w none = λ i. record w { alone = none i }

-- a sound state without what runs alone is sound
pub plain-sound : (w : State) → IsSound 8 w → IsSound 8 (plain w)
unfolding setup_in
plain-sound w S = record {
  accepted = S.accepted;
  spelled = S.spelled;
  journal = journal-same w (plain w) refl refl refl S.journal;
  room = S.room;
  files = S.files;
  names = S.names;
  ids = S.ids;
  audits = S.audits;
  closed = λ closed. (let i = S.closed closed in (i.0, i.1, i.2, refl));
  set_up = S.set_up;
  handed = S.handed;
  few = S.few;
  numbered = S.numbered;
  jobs = S.jobs;
  in_journal = S.in_journal;
  lone = λ x e. absurd (some-not-none None x e refl);
  packing = λ p e. absurd (some-not-none None _ e refl);
  switching = λ e. absurd (false≢true e);
  upgrade = S.upgrade;
  one_check = S.one_check;
  apart = S.apart;
  append = λ a h. (let A = S.append a h in record {
    job = A.job;
    runs = A.runs;
    begun = A.begun;
    undone = A.undone;
    writes = A.writes;
    drawn = A.drawn;
    bytes = A.bytes;
    follows = A.follows;
  });
  barred = S.barred;
  undoubted = S.undoubted;
  doubt = S.doubt;
}

-- a desk that stands for a state with nothing alone stands for the state with another doubt of the switch
-- byte and another count of faults, over devices that are those of it
pub again : (v : Desk) (w : State) (d e : Devices) (before now : Bool) (old faults : ℕ)
    → DeskStands v d (aside w before old) → IsSound 8 (aside w now faults) → AreDevices e (aside w now faults)
    → (w.is_barred ≡ false → IsFlight v.flight w.append w.area w.journal e.holds)
    → DeskStands v e (aside w now faults)
unfolding setup_in
again v w d e before now old faults S sound devices flight = record {
  devices = devices;
  core = record {
    sound = sound;
    is_open = S.core.is_open;
    none_alone = refl;
    table = S.core.table;
    setup = S.core.setup;
    end = S.core.end;
    jobs = S.core.jobs;
    next_job = S.core.next_job;
    append = S.core.append;
    barred = S.core.barred;
  };
  base = S.base;
  setup = S.setup;
  shaped = S.shaped;
  jobs = S.jobs;
  streams = S.streams;
  flight = flight;
}

-- where no job runs, no append is in flight
pub none-flies : (w : State) → w.jobs ≡ [] → IsSound 8 w → w.append ≡ None
none-flies w idle S = by w.append refl
  where
    by : (o : Option Append) → w.append ≡ o → o ≡ None
    by None e = refl
    by (Some a) e = absurd (let A = S.append a e in found_none w.jobs a.job A.job idle A.runs)

-- and where no disk call failed, nothing is in doubt
pub none-doubted : (w : State) → w.jobs ≡ [] → w.is_open ≡ true → w.is_barred ≡ false → IsSound 8 w
    → w.doubt ≡ None
none-doubted w idle opened unbarred S = by w.append (none-flies w idle S) (S.undoubted opened unbarred)
  where
    by : (o : Option Append) → o ≡ None → IsDoubtOf o w.doubt → w.doubt ≡ None
    by None e h = h
    by (Some a) e h = absurd (some-not-none (Some a) a refl e)
