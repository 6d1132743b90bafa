-- How acknowledged files survive.
--
--   ComesIn old new name file      == the end of a put came into effect, and with it this file under this
--                                     name
--   takes_out rs name r            == a record, put on top of these, takes the file of a name out of effect
--   NoneTakesOut name w            == no record that does so is in doubt: none has come to the third move
--                                     of its append
--   IsKept w name file             == the file is in effect, in the records and in these with the one in
--                                     doubt added
--   Survives                       == a file that came in stays at every later moment until a record that
--                                     takes it out is in doubt
--   IsAcknowledged                 == a put that ended well had brought its file in
--
-- With what the images of a disk stand for, every image at such a moment stands for records that have the
-- file.
use Rattle.std.specs.Prelude.{◌≡◌, ℕ, ◌==◌, Bool, false, List, [], ◌∷◌, ◌++◌, length, Some}
use Rattle.record_defs.specs.Records.{Record, SetUp, PutStart, PutDone, Drop, AuditStart, AuditDone, RepairDone, PutDoneIn, Version, Resume, InEffect, RepairDue}
use Rattle.record_defs.specs.Table.{File, file_as, setup_of, profile_in, started_as, is_same_name, is_start_of, file_of}
use Rattle.machine_defs.specs.Jobs.{PutJob, Job, job_of}
use Rattle.machine_defs.specs.Answers.{Put}
use Rattle.machine_defs.specs.Events.{Step, Ended}
use Rattle.machine_defs.specs.States.{State, Doubt, IsStart, file_in, with_doubt}
use Rattle.machine_defs.specs.Appends.{done_record}
use Rattle.machine_defs.specs.Runs.{Moment, now, IsRun, came}

-- the end of a put came into effect, and with it this file under this name
pub record ComesIn (old new : State) (name : List ℕ) (file : File) : Type 0 where
  pub version : ℕ  -- as the put's end was written
  pub done : came old new ≡ Some (done_record version file.id file.size file.profile)
  pub profiled : (version == 2) ≡ false → file.profile ≡ profile_in (setup_of old.records)
  pub started : started_as old.records file.id ≡ Some name
  pub named : file.name ≡ name

-- a record takes the file of a name out of effect
abbrev pub takes_out : List Record → List ℕ → Record → Bool
takes_out rs name (PutDone id size) = is_start_of name (started_as rs id)
takes_out rs name (Drop dropped) = is_same_name dropped name
takes_out rs name (PutDoneIn id size profile) = is_start_of name (started_as rs id)
takes_out rs name (InEffect id size profile kept) = is_same_name kept name
takes_out rs name (SetUp s) = false
takes_out rs name (PutStart id started) = false
takes_out rs name (AuditStart number) = false
takes_out rs name (AuditDone number undecided counts) = false
takes_out rs name (RepairDone number) = false
takes_out rs name Version = false
takes_out rs name (Resume id audit) = false
takes_out rs name (RepairDue number counts) = false

-- no record that takes the file of a name out of effect is in doubt
abbrev pub NoneTakesOut : List ℕ → State → Type 0
NoneTakesOut name w = (d : Doubt) → w.doubt ≡ Some d → takes_out w.records name d.entry ≡ false

-- so it is at each of these moments
abbrev pub NeverTakenOut : List ℕ → List Moment → Type 0
NeverTakenOut name [] = Unit {0}
NeverTakenOut name (m ∷ ms) = NoneTakesOut name m.state × NeverTakenOut name ms

-- a file is in effect, in the records and in these with the one in doubt added
pub record IsKept (w : State) (name : List ℕ) (file : File) : Type 0 where
  pub in_effect : file_in w name ≡ Some file
  pub with_doubt : (d : Doubt) → w.doubt ≡ Some d → file_of (with_doubt w d) name ≡ Some file

-- a file that came in stays at every later moment until a record that takes it out is in doubt
abbrev pub Survives : Type 0
Survives = (limit : ℕ) (start : State) (later ms : List Moment) (m : Moment) (name : List ℕ) (file : File) →
    IsStart start → IsRun limit start (later ++ m ∷ ms) → ComesIn (now start ms) m.state name file →
    NeverTakenOut name later → IsKept (now start (later ++ m ∷ ms)) name file

-- the end of a put whose job was this one
pub record EndsPut (start : State) (m : Moment) (ms : List Moment) (job : Job)
    (name bytes : List ℕ) : Type 0 where
  pub event : m.event ≡ Step job.number
  pub outcome : m.outcome ≡ Ended Put
  pub runs : job_of (now start ms).jobs job.number ≡ Some job
  pub kind : job.kind ≡ PutJob name bytes

-- the moment at which a file came in, among these
pub record HasComeIn (start : State) (ms : List Moment) (name : List ℕ) (file : File) : Type 0 where
  pub later : List Moment
  pub moment : Moment
  pub before : List Moment
  pub split : ms ≡ later ++ moment ∷ before
  pub comes : ComesIn (now start before) moment.state name file

-- a put that ended well had brought its file in
abbrev pub IsAcknowledged : Type 0
IsAcknowledged =
    (limit : ℕ) (start : State) (m : Moment) (ms : List Moment) (job : Job) (name bytes : List ℕ) →
    IsStart start → IsRun limit start (m ∷ ms) → EndsPut start m ms job name bytes →
    HasComeIn start ms name (file_as name job.subject (length bytes) job.profile)
