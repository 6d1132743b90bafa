-- Streams: puts that are given their files stripe by stripe.
--
--   stripe_size s profile        == how many bytes a stripe of a file of this profile has
--   IsTold s job                 == an open stream is a put of the longest file, and has made no action
--                                   behind the stores of the stripes given so far, which this file has
--   AreTold c                    == so are all open streams of a core
--   IsGivenLength s j stripes length last
--                                == a stream that waits for the stripe of this number may be told so: its
--                                   file has so many bytes so far, with a whole stripe more, or is at its
--                                   end, with at most a stripe more
--   closed length job            == a stream that was told the length of its file
--   given_more stripes job       == a stream that was given so many stripes
--   IsStreamAt c k place stripes == the job of number k, at this place, is a stream that waits for this
--                                   stripe
--   MayClose s job stripes l     == a stream that waits for this stripe may be told that its file has l
--                                   bytes
--   FitsGiven last length job    == a put of the machine has at least so many bytes, or exactly so many where
--                                   the last were given
use Rattle.std.specs.Prelude.{◌≡◌, ℕ, ◌+◌, ◌*◌, ◌<◌, ◌≤◌, ◌==◌, Bool, true, false, Option, None, Some, position, slice_get}
use Rattle.std.specs.List.{All}
use Rattle.column_defs.specs.Objects.{stripe_symbols}
use Rattle.record_defs.specs.Records.{Setup, largest_file}
use Rattle.machine_defs.specs.Jobs.{Aim, ToPut, Job, aim_of}
use Rattle.machine_defs.specs.Setups.{profiled, object_of}
use Rattle.vault_core.specs.View.{CoreJob, CoreView, job_in}

-- how many bytes a stripe of a file of this profile has
abbrev pub stripe_size : Setup → ℕ → ℕ
stripe_size s profile = 16 * stripe_symbols (object_of (profiled s profile) 0)

-- a put of the longest file
abbrev pub IsLongest : Aim → Type 0
IsLongest (ToPut name size) = size ≡ largest_file
IsLongest aim = ⊥

-- of a stream that was given so many stripes, which the longest file has: it has made no action behind their
-- stores
abbrev pub IsToldAs : Setup → CoreJob → Option ℕ → Type 0
IsToldAs s j None = Unit {0}
IsToldAs s j (Some stripes) =
    (j.place ≤ 4 + stripes * s.n) × (0 < stripe_size s j.plan.profile)
    × (stripes * stripe_size s j.plan.profile ≤ largest_file) × IsLongest j.plan.aim

-- an open stream has made no action behind the stores of the stripes given so far
abbrev pub IsTold : Setup → CoreJob → Type 0
IsTold s j = IsToldAs s j j.told

-- so has each of a core
abbrev pub AreTold : CoreView → Type 0
AreTold c = All (IsTold c.setup) c.jobs

-- with the next piece a file has so many bytes, those before it being of whole stripes
abbrev pub IsNextLength : ℕ → ℕ → ℕ → Bool → Type 0
IsNextLength size stripes length false = (length ≡ (stripes + 1) * size) × (length ≤ largest_file)
IsNextLength size stripes length true =
    (stripes * size ≤ length) × (length ≤ (stripes + 1) * size) × (length ≤ largest_file)

-- a stream that waits for the stripe of this number may be told so
abbrev pub IsGivenLength : ℕ → Option ℕ → ℕ → Bool → Type 0
IsGivenLength size None length last = ⊥
IsGivenLength size (Some stripes) length last = IsNextLength size stripes length last

-- a put has at least so many bytes, or exactly so many
abbrev pub FitsAim : Bool → ℕ → Aim → Type 0
FitsAim false length (ToPut name size) = length ≤ size
FitsAim true length (ToPut name size) = length ≡ size
FitsAim last length aim = ⊥

-- so has a put of the machine, if it runs
abbrev pub FitsGiven : Bool → ℕ → Option Job → Type 0
FitsGiven last length None = ⊥
FitsGiven last length (Some job) = FitsAim last length (aim_of job.kind)

-- the aim of a put of so many bytes
abbrev pub cut_aim : ℕ → Aim → Aim
cut_aim length (ToPut name size) = ToPut name length
cut_aim length aim = aim

-- a stream that was told the length of its file
abbrev pub closed : ℕ → CoreJob → CoreJob
closed length j = record j { plan = record j.plan { aim = cut_aim length j.plan.aim }; told = None }

-- a stream that was given so many stripes
abbrev pub given_more : ℕ → CoreJob → CoreJob
given_more stripes j = record j { told = Some stripes }

-- the job of a number, at this place, is a stream that waits for this stripe
pub record IsStreamAt (c : CoreView) (number place stripes : ℕ) : Type 0 where
  pub job : CoreJob
  pub here : slice_get c.jobs place ≡ Some job
  pub runs : job_in c.jobs number ≡ Some job
  pub found : Some place ≡ position (λ (j : CoreJob). j.number == number) c.jobs
  pub told : job.told ≡ Some stripes
  pub at : job.place ≡ 4 + stripes * c.setup.n
  pub within : IsToldAs c.setup job (Some stripes)
  pub some : 0 < c.setup.n

-- a stream that was given so many stripes waits for the next, and may be told that its file ends within it
pub record MayClose (s : Setup) (j : CoreJob) (stripes length : ℕ) : Type 0 where
  pub told : j.told ≡ Some stripes
  pub at : j.place ≡ 4 + stripes * s.n
  pub least : stripes * stripe_size s j.plan.profile ≤ length
  pub most : length ≤ largest_file
