-- The stripe that the task of a stream has at hand, by what its core was told.
--
--   task_of running number        == what the job of that number works with; None where there is none
--   hand_of task                  == of a stream the stripe at hand, if there is one; None for every other task
--   IsOn s stripe hand job        == a put is behind the stores of the stripes before this one, which is at hand
--   HasGiven s stripes hand job   == so it is with the last of the stripes that an open stream was given, if
--                                    there is one; and it is no further than the place where it waits
--   HasLast s hand job            == so it is with a closed stream, and behind this stripe its file has none
--   HasAtHand s told hand job     == one of these, by the stripes that the core was told of; a job of every
--                                    other task is no open stream
--   AreAtHand s cs running jobs   == so it is with each running job
--   IsStreaming task              == the task of a stream
--   piece_size task               == how many bytes a stripe of its file has
--   TakesPiece old new piece stripe
--                                 == a stream took a stripe out of a piece that begins with it
--   KeepsStreams old new          == no stream was opened, and each job was told what it was told before
use Rattle.std.specs.Prelude.{◌≡◌, ℕ, ◌+◌, ◌*◌, ◌≤◌, ◌==◌, List, [], ◌∷◌, Option, None, Some, if◌then◌else◌}
use Rattle.column_defs.specs.Objects.{stripe_symbols, symbols_in}
use Rattle.record_defs.specs.Records.{Setup}
use Rattle.machine_defs.specs.Jobs.{Kind, PutJob, Job, job_of}
use Rattle.machine_defs.specs.Setups.{put_stripes}
use Rattle.column_codec.specs.Bench.{bench_object}
use Rattle.vault_core.specs.View.{CoreJob, CoreView, job_in, told_in, HasNoStream}
use Rattle.vault.specs.declared.tasks.Running.{Running}
use Rattle.vault.specs.declared.tasks.Task.{Task}
use Rattle.vault.specs.declared.tasks.Task.TheVariants as task

-- what the job of a number works with
abbrev pub task_of : List Running → ℕ → Option Task
task_of [] number = None
task_of (r ∷ rs) number = if r.number == number then Some r.task else task_of rs number

-- of a stream the stripe at hand
abbrev pub hand_of : Task → Option (Option ℕ)
hand_of (task.Stream t) = Some t.at_hand
hand_of t = None

-- a put is behind the stores of the stripes before this one, which is at hand
abbrev pub IsOn : Setup → ℕ → Option ℕ → Job → Type 0
IsOn s stripe hand job = (hand ≡ Some stripe) × (4 + stripe * s.n ≤ job.place)

-- an open stream that was given so many stripes
pub record HasGiven (s : Setup) (stripes : ℕ) (hand : Option ℕ) (job : Job) : Type 0 where
  pub within : job.place ≤ 4 + stripes * s.n
  pub last : (stripe : ℕ) → stripes ≡ stripe + 1 → IsOn s stripe hand job

-- a closed stream
abbrev pub HasLast : Setup → Option ℕ → Job → Kind → Type 0
HasLast s hand job (PutJob name bytes) =
    (stripe : ℕ) × IsOn s stripe hand job × (put_stripes s job bytes ≤ stripe + 1)
HasLast s hand job kind = ⊥

-- what is at hand of a job, by the stripes that its core was told of
abbrev pub HasAtHand : Setup → Option ℕ → Option (Option ℕ) → Job → Type 0
HasAtHand s told None job = told ≡ None
HasAtHand s (Some stripes) (Some hand) job = HasGiven s stripes hand job
HasAtHand s None (Some hand) job = HasLast s hand job job.kind

-- so it is with each running job
abbrev pub AreAtHand : Setup → List CoreJob → List Running → List Job → Type 0
AreAtHand s cs running jobs =
    (number : ℕ) (t : Task) (job : Job) → task_of running number ≡ Some t → job_of jobs number ≡ Some job
    → HasAtHand s (told_in cs number) (hand_of t) job

-- the task of a stream
abbrev pub IsStreaming : Task → Type 0
IsStreaming (task.Stream t) = Unit {0}
IsStreaming t = ⊥

-- how many bytes a stripe of its file has
abbrev pub piece_size : Task → ℕ
piece_size (task.Stream t) = 16 * stripe_symbols (bench_object t.bench)
piece_size t = 0

-- a stream took a stripe out of a piece that begins with it
abbrev pub TakesPiece : Task → Task → List ℕ → ℕ → Type 0
TakesPiece (task.Stream t) (task.Stream u) piece stripe =
    (u.at_hand ≡ Some stripe) × (u.bench.rows.items ≡ symbols_in (bench_object t.bench) piece 0)
    × (bench_object u.bench ≡ bench_object t.bench)
TakesPiece t u piece stripe = ⊥

-- no stream was opened, and each job was told what it was told before
pub record KeepsStreams (old new : CoreView) : Type 0 where
  pub setup : new.setup ≡ old.setup
  pub none : HasNoStream old → HasNoStream new
  pub told : (number : ℕ) (j : CoreJob) → job_in new.jobs number ≡ Some j → j.told ≡ told_in old.jobs number
