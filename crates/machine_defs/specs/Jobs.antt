-- Jobs: what they are for, what they work on, and what their steps gave.
--
--   Kind                     == what a job is for: a put of bytes under a name, a get or a drop of a name,
--                               an audit, a repair, an upgrade of the journal to its second version
--   Aim, aim_of kind         == the same with the length of a put's file in place of its bytes
--   Pinned                   == a file that a job works on: its object number, its profile and its bytes
--   Given                    == what a step gave: a block or none, an answer or none, the symbols of a stripe
--   Job                      == a running job
--   job_of jobs number       == the job of that number; None where there is none
--   with_job jobs job        == the jobs, with this one in place of that of its number
--   without_job jobs number  == the jobs but for that of the number
--   advanced job             == the job with its next action made
--   advanced_with job gift   == the same, and the action gave this
use Rattle.std.specs.Prelude.{ℕ, ◌+◌, ◌==◌, Bool, List, [], ◌∷◌, length, Option, None, Some, if◌then◌else◌}

-- what a job is for
pub data Kind : Type 0 where
  PutJob : (name bytes : List ℕ) → Kind
  GetJob : (name : List ℕ) → Kind
  DropJob : (name : List ℕ) → Kind
  AuditJob : Kind
  RepairJob : Kind
  UpgradeJob : Kind

-- what a job is for, with the length of a put's file in place of its bytes
pub data Aim : Type 0 where
  ToPut : (name : List ℕ) (size : ℕ) → Aim
  ToGet : (name : List ℕ) → Aim
  ToDrop : (name : List ℕ) → Aim
  ToAudit : Aim
  ToRepair : Aim
  ToUpgrade : Aim

-- the aim of a kind
abbrev pub aim_of : Kind → Aim
aim_of (PutJob name bytes) = ToPut name (length bytes)
aim_of (GetJob name) = ToGet name
aim_of (DropJob name) = ToDrop name
aim_of AuditJob = ToAudit
aim_of RepairJob = ToRepair
aim_of UpgradeJob = ToUpgrade

-- a file that a job works on: its object number, its profile and its bytes
pub record Pinned : Type 0 where
  pub id : ℕ
  pub profile : ℕ
  pub bytes : List ℕ

-- what a Fetch, an Ask or a Work step gave
pub data Given : Type 0 where
  Fetched : (provider object stripe : ℕ) (block : Option (List ℕ)) → Given
  Answered : (provider object round : ℕ) (symbol : Option ℕ) → Given
  Worked : (object stripe : ℕ) (symbols : List ℕ) → Given

-- A running job. Its subject is the object number of a put and the number of an audit or a repair, once it
-- has one.
pub record Job : Type 0 where
  pub number : ℕ
  pub kind : Kind
  pub profile : ℕ  -- of the file that a put stores
  pub begun : ℕ  -- how many events were before its begin
  pub pinned : List Pinned  -- at its begin, in ascending order of their numbers
  pub flagged : ℕ → Bool  -- the providers that a repair rewrites
  pub subject : ℕ
  pub older : List ℕ  -- the object that it takes away, once its append has decided on it
  pub place : ℕ  -- in its list of actions
  pub given : List Given  -- the newest first

-- the job of a number
abbrev pub job_of : List Job → ℕ → Option Job
job_of [] number = None
job_of (j ∷ js) number = if j.number == number then Some j else job_of js number

-- jobs with this one in place of that of its number
abbrev pub with_job : List Job → Job → List Job
with_job [] job = []
with_job (j ∷ js) job = if j.number == job.number then job ∷ js else j ∷ with_job js job

-- jobs without that of a number
abbrev pub without_job : List Job → ℕ → List Job
without_job [] number = []
without_job (j ∷ js) number = if j.number == number then without_job js number else j ∷ without_job js number

-- a job that has made its next action
abbrev pub advanced : Job → Job
advanced job = record job { place = job.place + 1 }

-- a job that has made its next action and was given something by it
abbrev pub advanced_with : Job → Given → Job
advanced_with job gift = record job { place = job.place + 1; given = gift ∷ job.given }
