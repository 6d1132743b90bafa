-- Streams: puts that are given their files stripe by stripe, as a caller of a vault sees them.
--
--   wants_of v job              == the stripe that an open stream waits for; None for every other job
--   told_of v job               == how many stripes an open stream was given; None for every other job
--   KeepsTold old new job       == a job that still runs was given as many stripes as before
--   IsStreamless v              == no stream is open
--   KeepsStreamless old new     == where none was open, none is
--   OpensStream old new result  == a begin of a stream
--   TakesNext old job last new  == a stream was given a stripe more, or its last bytes
--   stripe_of v job             == how many bytes a stripe of a running job's file has; 0 where it does not run
--   IsPiece size wanted count last
--                               == a stream that waits for this stripe may be given so many bytes: a whole
--                                  stripe, or its last ones, at most a stripe and none perhaps; the file has
--                                  at most 2^22 bytes with them
--   HasPiece size wanted piece last bytes
--                               == these bytes have this piece behind the stripes before, and no more where
--                                  it is the last
--   FitsPiece size wanted piece last job
--                               == so has the file of a put of the machine
use Rattle.std.specs.Prelude.{◌≡◌, ◌≢◌, ℕ, ◌+◌, ◌*◌, ◌≤◌, Bool, true, false, List, [], ◌++◌, length, Option, None, Some, Result, OnErr, IfOk}
use Rattle.record_defs.specs.Records.{Setup, largest_file}
use Rattle.machine_defs.specs.Jobs.{Kind, PutJob, Job}
use Rattle.vault_core.specs.Streams.{stripe_size}
use Rattle.vault_core.specs.View as core
use Rattle.vault_core.specs.View.{CoreJob, CoreView}
use Rattle.vault_core.specs.Coming.{core_left}
use Rattle.vault_core.specs.declared.wish.BeginFault.{BeginFault}
use Rattle.vault.specs.declared.desk.Desk.{Desk}
use Rattle.vault.specs.declared.vault.Vault.{Vault}
use Rattle.vault.specs.Running.{IsSameDesk}

-- the stripe that an open stream waits for
abbrev pub wants_of : Vault → ℕ → Option ℕ
wants_of v job = core.wants_in v.desk.core job

-- how many stripes an open stream was given
abbrev pub told_of : Vault → ℕ → Option ℕ
told_of v job = core.told_in v.desk.core.jobs job

-- a job that still runs was given as many stripes as before
abbrev pub KeepsTold : Vault → Vault → ℕ → Type 0
KeepsTold old new job =
    (j : CoreJob) → core.job_in new.desk.core.jobs job ≡ Some j → j.told ≡ told_of old job

-- no stream is open
abbrev pub IsStreamless : Vault → Type 0
IsStreamless v = core.HasNoStream v.desk.core

-- where none was open, none is
abbrev pub KeepsStreamless : Vault → Vault → Type 0
KeepsStreamless old new = IsStreamless old → IsStreamless new

-- A begin of a stream: an Ok has it run under the number that was next, given no stripe so far; an Err
-- changed nothing; no other stream changes.
pub record OpensStream (old new : Desk) (result : Result ℕ BeginFault) : Type 0 where
  pub unchanged : OnErr result (IsSameDesk old new)
  pub number : IfOk result (λ job. job ≡ old.core.next_job)
  pub opened : IfOk result (λ job. core.told_in new.core.jobs job ≡ Some 0)
  pub others : (m : ℕ) → m ≢ old.core.next_job → core.told_in new.core.jobs m ≡ core.told_in old.core.jobs m
  pub setup : new.core.setup ≡ old.core.setup

-- a stream was given a stripe more, or its last bytes, and waits for none
pub record TakesNext (old : CoreView) (job : ℕ) (last : Bool) (new : CoreView) : Type 0 where
  pub more : (stripe : ℕ) → core.wants_in old job ≡ Some stripe → last ≡ false →
      core.told_in new.jobs job ≡ Some (stripe + 1)
  pub closed : last ≡ true → core.told_in new.jobs job ≡ None
  pub wants : core.wants_in new job ≡ None
  pub left : core_left new job ≤ core_left old job

-- how many bytes a stripe of a job's file has, if it runs
abbrev pub stripe_by : Setup → Option CoreJob → ℕ
stripe_by s None = 0
stripe_by s (Some job) = stripe_size s job.plan.profile

-- the same of the job of a number
abbrev pub stripe_of : Vault → ℕ → ℕ
stripe_of v job = stripe_by v.desk.core.setup (core.job_in v.desk.core.jobs job)

-- a stream that waits for a stripe may be given so many bytes
abbrev pub IsPiece : ℕ → Option ℕ → ℕ → Bool → Type 0
IsPiece size None count last = ⊥
IsPiece size (Some stripe) count false = (count ≡ size) × (stripe * size + count ≤ largest_file)
IsPiece size (Some stripe) count true = (count ≤ size) × (stripe * size + count ≤ largest_file)

-- these bytes have this piece behind the stripes before it
pub record HasPieceAt (place : ℕ) (piece : List ℕ) (last : Bool) (bytes : List ℕ) : Type 0 where
  pub before : List ℕ
  pub rest : List ℕ
  pub parts : bytes ≡ before ++ (piece ++ rest)
  pub place_is : length before ≡ place
  pub end : last ≡ true → rest ≡ []

-- these bytes have this piece where the stream waits for its stripe
abbrev pub HasPiece : ℕ → Option ℕ → List ℕ → Bool → List ℕ → Type 0
HasPiece size None piece last bytes = ⊥
HasPiece size (Some stripe) piece last bytes = HasPieceAt (stripe * size) piece last bytes

-- so has the file of a put
abbrev pub FitsKind : ℕ → Option ℕ → List ℕ → Bool → Kind → Type 0
FitsKind size wanted piece last (PutJob name bytes) = HasPiece size wanted piece last bytes
FitsKind size wanted piece last kind = ⊥

-- so has the file of a put of the machine, if it runs
abbrev pub FitsPiece : ℕ → Option ℕ → List ℕ → Bool → Option Job → Type 0
FitsPiece size wanted piece last None = ⊥
FitsPiece size wanted piece last (Some job) = FitsKind size wanted piece last job.kind
