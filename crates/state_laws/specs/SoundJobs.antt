-- What holds of a running job, by the setup, the records in effect and the bytes of object numbers.
--
--   IsWish kind                        == the words of a begin that was not refused for them
--   HasPins kind pinned                == which files a job works on: a get one, a put and a drop none
--   IsPin rs bytes file                == a file that a job works on is one that was stored
--   IsOlder rs older                   == a job takes at most one object away, and one that was stored
--   HasDrawn s rs bytes job name data  == a put whose first append is done has a number of its own, which
--                                         stands for its bytes, and is started under its name until its
--                                         second append is done
--   AcceptsNext rs entry               == records accept this one next, if there is one
--   IsReady s rs bytes job kind        == what stands in the records for a job, so that they accept its
--                                         next record
--   IsPlainJob s job                   == a job and the files that it works on have the setup's profile
--   IsSoundJob s rs bytes moves job    == all that holds of a running job, of whose append in flight so
--                                         many moves are made
use Rattle.std.specs.Prelude.{◌≡◌, ◌⊎◌, ℕ, ◌^◌, ◌<◌, ◌≤◌, IsTrue, List, [], ◌∷◌, length, Option, None, Some}
use Rattle.std.specs.List.{Contains}
use Rattle.record_defs.specs.Records.{Setup, Record, is_name, largest_file, most_files, all_profiles}
use Rattle.record_defs.specs.Table.{version_of, next_id, started_as, running_audit, due_of}
use Rattle.record_defs.specs.Acceptance.{refused_after}
use Rattle.machine_defs.specs.Jobs.{Kind, PutJob, GetJob, DropJob, AuditJob, Pinned, Job}
use Rattle.machine_defs.specs.Actions.{actions_left, appends_left}
use Rattle.machine_defs.specs.Appends.{record_of}
use Rattle.machine_defs.specs.Events.{AreBytes, IsSpelledKind}
use Rattle.state_laws.specs.Orders.{IsInOrder, AreAscending}

-- the words of a begin that was not refused for them
abbrev pub IsWish : Kind → Type 0
IsWish (PutJob name bytes) = IsTrue (is_name name) × (length bytes ≤ largest_file)
IsWish (GetJob name) = IsTrue (is_name name)
IsWish (DropJob name) = IsTrue (is_name name)
IsWish kind = Unit {0}

-- which files a job works on
abbrev pub HasPins : Kind → List Pinned → Type 0
HasPins (PutJob name bytes) pinned = pinned ≡ []
HasPins (GetJob name) pinned = (file : Pinned) × (pinned ≡ file ∷ [])
HasPins (DropJob name) pinned = pinned ≡ []
HasPins kind pinned = Unit {0}

-- a file that a job works on was stored
pub record IsPin (rs : List Record) (bytes : ℕ → List ℕ) (file : Pinned) : Type 0 where
  pub drawn : file.id < next_id rs
  pub bytes_are : bytes file.id ≡ file.bytes
  pub spelled : AreBytes file.bytes
  pub size : length file.bytes ≤ largest_file

-- a job takes at most one object away
abbrev pub IsOlder : List Record → List ℕ → Type 0
IsOlder rs older = (older ≡ []) ⊎ ((id : ℕ) × (older ≡ id ∷ []) × (id < next_id rs))

-- a put whose first append is done has a number of its own, which stands for its bytes
pub record HasDrawn (s : Setup) (rs : List Record) (bytes : ℕ → List ℕ) (job : Job)
    (name content : List ℕ) : Type 0 where
  pub drawn : job.subject < next_id rs
  pub bytes_are : bytes job.subject ≡ content
  pub started : 0 < appends_left s job → started_as rs job.subject ≡ Some name

-- records accept this one next, if there is one
abbrev pub AcceptsNext : List Record → Option Record → Type 0
AcceptsNext rs None = Unit {0}
AcceptsNext rs (Some entry) = refused_after rs entry ≡ None

-- what stands in the records for a job, so that they accept its next record; a drop whose name has no file
-- any more ends without one
abbrev pub IsReady : Setup → List Record → (ℕ → List ℕ) → Job → Kind → Type 0
IsReady s rs bytes job (PutJob name content) = 4 ≤ job.place → HasDrawn s rs bytes job name content
IsReady s rs bytes job AuditJob =
    (job.place < 4 → due_of rs ≡ None)
    × (4 ≤ job.place → 0 < appends_left s job → running_audit rs ≡ Some job.subject)
IsReady s rs bytes job (DropJob name) = Unit {0}
IsReady s rs bytes job kind = 0 < appends_left s job → AcceptsNext rs (record_of rs job kind)

-- a job and the files that it works on have the setup's profile
pub record IsPlainJob (s : Setup) (job : Job) : Type 0 where
  pub own : job.profile ≡ s.profile
  pub pinned : (file : Pinned) → Contains job.pinned file → file.profile ≡ s.profile

-- all that holds of a running job
pub record IsSoundJob (s : Setup) (rs : List Record) (bytes : ℕ → List ℕ) (moves : ℕ)
    (job : Job) : Type 0 where
  pub spelled : IsSpelledKind job.kind
  pub wish : IsWish job.kind
  pub pins : HasPins job.kind job.pinned
  pub few : length job.pinned ≤ most_files
  pub ascending : AreAscending 0 job.pinned
  pub pinned : (file : Pinned) → Contains job.pinned file → IsPin rs bytes file
  pub subject : job.subject < 2 ^ 64
  pub older : IsOlder rs job.older
  pub undecided : 0 < appends_left s job → job.older ≡ []
  pub order : IsInOrder moves (actions_left s job)
  pub ready : IsReady s rs bytes job job.kind
  pub profile : job.profile < all_profiles
  pub plain : version_of rs ≡ 1 → IsPlainJob s job
