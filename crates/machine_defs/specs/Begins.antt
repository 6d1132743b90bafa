-- Begins: what they are refused for, and the job that they add.
--
--   begin_refusal limit w kind               == the first refusal in order whose cause applies; None where
--                                               the job begins
--   refusal_of_begin limit w kind profile    == the same, of a put also with a profile of its own
--   pins_by p make found files aim           == the files that a job works on, each made a pin: a get's own,
--                                               found by its name, and for an audit or a repair all in
--                                               effect, by number
--   pinned_for w kind                        == the same of the machine
--   new_job w moment kind                    == a job as it begins, after so many events
--   beginning w moment kind profile          == the same, of a put also with a profile of its own
--   BeginsAt limit moment old kind profile outcome new
--                                            == a begin may have this outcome and leave this state; of a put
--                                               also with a profile of its own
--   Begins limit moment old kind outcome new == the same without a profile
use Rattle.std.specs.Prelude.{◌≡◌, ◌⊎◌, ℕ, ◌+◌, Bool, true, false, List, [], ◌∷◌, ◌++◌, Option, None, Some, nat_lt, if◌then◌else◌}
use Rattle.column_defs.specs.Verdicts.{is_flagged}
use Rattle.record_defs.specs.Records.{Setup}
use Rattle.record_defs.specs.Table.{File, Due, files_of, due_of}
use Rattle.machine_defs.specs.Jobs.{Kind, RepairJob, Aim, ToGet, ToAudit, ToRepair, aim_of, Pinned, Job}
use Rattle.machine_defs.specs.Actions.{PinsOf, machine_pins}
use Rattle.machine_defs.specs.Refusals as refusal
use Rattle.machine_defs.specs.Refusals.{Refusal, first_refusal}
use Rattle.machine_defs.specs.Events.{Outcome, Closed, Refused, Begun}
use Rattle.machine_defs.specs.States.{State, setup_in, file_in}
use Rattle.machine_defs.specs.Sights.{sight_of, causes}

-- why a begin is refused, of a put also with a profile of its own
abbrev pub refusal_of_begin : ℕ → State → Kind → Option ℕ → Option Refusal
refusal_of_begin limit w kind profile = first_refusal (causes limit (sight_of w) (aim_of kind) profile)

-- why a begin is refused
abbrev pub begin_refusal : ℕ → State → Kind → Option Refusal
begin_refusal limit w kind = refusal_of_begin limit w kind None

-- a file in effect, with the bytes of its put
abbrev pub pinned_file : State → File → Pinned
pinned_file w f = record { id = f.id; profile = f.profile; bytes = w.bytes f.id }

-- pins with one more, in ascending order of their numbers
abbrev pub pin_by : {P : Type 0} → PinsOf P → P → List P → List P
pin_by p f [] = f ∷ []
pin_by p f (g ∷ gs) = if nat_lt (p.id f) (p.id g) then f ∷ g ∷ gs else g ∷ pin_by p f gs

-- all these files as pins, in ascending order of their numbers
abbrev pub pin_each : {P : Type 0} → PinsOf P → (File → P) → List File → List P
pin_each p make [] = []
pin_each p make (f ∷ fs) = pin_by p (make f) (pin_each p make fs)

-- a file as a pin, if it is there
abbrev pub pin_found : {P : Type 0} → (File → P) → Option File → List P
pin_found make None = []
pin_found make (Some f) = make f ∷ []

-- the files that a job of this aim works on, as pins: a get's own, and for an audit or a repair all in effect
abbrev pub pins_by : {P : Type 0} → PinsOf P → (File → P) → (List ℕ → Option File) → List File → Aim → List P
pins_by p make found files (ToGet name) = pin_found make (found name)
pins_by p make found files ToAudit = pin_each p make files
pins_by p make found files ToRepair = pin_each p make files
pins_by p make found files aim = []

-- these files, in ascending order of their numbers
abbrev pub pin_all : State → List File → List Pinned
pin_all w files = pin_each machine_pins (pinned_file w) files

-- the files that a job works on
abbrev pub pinned_for : State → Kind → List Pinned
pinned_for w kind = pins_by machine_pins (pinned_file w) (file_in w) (files_of w.records) (aim_of kind)

-- the number of the due audit
abbrev pub due_number : Option Due → ℕ
due_number None = 0
due_number (Some due) = due.number

-- the providers that the due audit flags
abbrev pub due_flags : ℕ → Option Due → ℕ → Bool
due_flags tolerance None j = false
due_flags tolerance (Some due) j = is_flagged tolerance due.counts j

-- the number that a job has from its begin on
abbrev pub subject_at_begin : State → Kind → ℕ
subject_at_begin w RepairJob = due_number (due_of w.records)
subject_at_begin w kind = 0

-- the profile that a put names, or else the setup's
abbrev pub chosen : Setup → Option ℕ → ℕ
chosen s None = s.profile
chosen s (Some profile) = profile

-- a job as it begins, after so many events, of a put also with a profile of its own
abbrev pub beginning : State → ℕ → Kind → Option ℕ → Job
beginning w moment kind profile = record {
  number = w.next_job;
  kind = kind;
  profile = chosen (setup_in w) profile;
  begun = moment;
  pinned = pinned_for w kind;
  flagged = due_flags (setup_in w).tolerance (due_of w.records);
  subject = subject_at_begin w kind;
  older = [];
  place = 0;
  given = [];
}

-- a job as it begins, after so many events
abbrev pub new_job : State → ℕ → Kind → Job
new_job w moment kind = beginning w moment kind None

-- a begin, after so many events, of a put also with a profile of its own
abbrev pub BeginsAt : ℕ → ℕ → State → Kind → Option ℕ → Outcome → State → Type 0
BeginsAt limit moment old kind profile Closed new = (old.is_open ≡ false) × (new ≡ old)
BeginsAt limit moment old kind profile (Refused why) new =
    (old.is_open ≡ true)
    × ((refusal_of_begin limit old kind profile ≡ Some why) ⊎ (why ≡ refusal.Memory)) × (new ≡ old)
BeginsAt limit moment old kind profile (Begun job) new =
    (old.is_open ≡ true) × (refusal_of_begin limit old kind profile ≡ None) × (job ≡ old.next_job)
    × (new ≡ record old {
      jobs = old.jobs ++ beginning old moment kind profile ∷ [];
      next_job = old.next_job + 1;
    })
BeginsAt limit moment old kind profile outcome new = ⊥

-- a begin, after so many events
abbrev pub Begins : ℕ → ℕ → State → Kind → Outcome → State → Type 0
Begins limit moment old kind outcome new = BeginsAt limit moment old kind None outcome new
