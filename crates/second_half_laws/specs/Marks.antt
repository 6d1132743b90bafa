-- Moments since which all damage of files in effect is new.
--
--   WasWrong w j id                     == provider j was wrong for a file that was in effect in this state
--                                          under the object number
--   WrongAt start ms from j id stripe   == so it was in the state after so many events
--   IsFlaggedBy w counts j id stripe    == the counts flag provider j
--   Remains w job j id stripe           == a repair that flags provider j has still to make its store of this
--                                          block
--   Never j id stripe                   == nothing is exempt
--   IsEndOfPut rs entry id size profile == over these records, a record ends the put of a file of this
--                                          number, length and profile
--   PrecedesPuts start ms from          == a moment not after now: no put that runs, or whose record is in
--                                          doubt, began before it
--   IsClear start ms from IsExempt      == each provider with a bad block of a file in effect was replaced
--                                          since, or the block is exempt
--   IsMark start ms from                == both, and nothing is exempt: all damage of files in effect is new
--                                          since then
use Rattle.std.specs.Prelude.{◌≡◌, ◌⊎◌, ℕ, ◌==◌, ◌<◌, ◌≤◌, true, false, List, length, Some, slice_get}
use Rattle.column_defs.specs.Objects.{stripes}
use Rattle.column_defs.specs.Verdicts.{is_flagged}
use Rattle.record_defs.specs.Records.{Record}
use Rattle.record_defs.specs.Table.{File, setup_of, profile_in}
use Rattle.machine_defs.specs.Jobs.{PutJob, Job, job_of}
use Rattle.machine_defs.specs.Actions.{Store, actions_of}
use Rattle.machine_defs.specs.States.{State, Doubt, setup_in, file_object, file_in}
use Rattle.machine_defs.specs.Appends.{done_record}
use Rattle.machine_defs.specs.Runs.{Moment, now, first_moments}
use Rattle.machine_defs.specs.Missed.{is_wrong_now}
use Rattle.machine_defs.specs.Halves.{begun_of}
use Rattle.second_half_laws.specs.Damage.{IsBad, IsReplaced}

-- a provider was wrong for a file that was in effect in a state
pub record WasWrong (w : State) (j id : ℕ) : Type 0 where
  pub name : List ℕ
  pub file : File
  pub in_effect : file_in w name ≡ Some file
  pub id_is : file.id ≡ id
  pub was : is_wrong_now w file j ≡ true

-- so it was after so many events
abbrev pub WrongAt : State → List Moment → ℕ → ℕ → ℕ → ℕ → Type 0
WrongAt start ms from j id stripe = WasWrong (now start (first_moments from ms)) j id

-- counts flag a provider
abbrev pub IsFlaggedBy : State → List ℕ → ℕ → ℕ → ℕ → Type 0
IsFlaggedBy w counts j id stripe = is_flagged (setup_in w).tolerance counts j ≡ true

-- a repair has still to make a store
abbrev pub Remains : State → Job → ℕ → ℕ → ℕ → Type 0
Remains w job j id stripe =
    (job.flagged j ≡ true) × ((place : ℕ) × (job.place ≤ place)
    × (slice_get (actions_of (setup_in w) job) place ≡ Some (Store j id stripe)))

-- nothing is exempt
abbrev pub Never : ℕ → ℕ → ℕ → Type 0
Never j id stripe = ⊥

-- over these records, a record ends the put of a file: in the first version of the journal its profile is
-- that of the setup
pub record IsEndOfPut (rs : List Record) (entry : Record) (id size profile : ℕ) : Type 0 where
  pub version : ℕ
  pub entry_is : entry ≡ done_record version id size profile
  pub profiled : (version == 2) ≡ false → profile ≡ profile_in (setup_of rs)

-- no put that works began before a moment
pub record PrecedesPuts (start : State) (ms : List Moment) (from : ℕ) : Type 0 where
  pub early : from ≤ length ms
  pub puts : (number : ℕ) (job : Job) (name bytes : List ℕ) → job_of (now start ms).jobs number ≡ Some job
      → job.kind ≡ PutJob name bytes → from ≤ job.begun
  pub doubts : (d : Doubt) (version id size profile : ℕ) → (now start ms).doubt ≡ Some d
      → d.entry ≡ done_record version id size profile → from ≤ begun_of d.maker

-- each provider with a bad block of a file in effect was replaced since a moment, or the block is exempt
abbrev pub IsClear : State → List Moment → ℕ → (ℕ → ℕ → ℕ → Type 0) → Type 0
IsClear start ms from IsExempt =
    (name : List ℕ) (file : File) (j stripe : ℕ) → file_in (now start ms) name ≡ Some file
    → j < (setup_in (now start ms)).n →
    stripe < stripes (file_object (now start ms) file) (length ((now start ms).bytes file.id))
    → IsBad (now start ms) file.profile file.id j stripe →
    IsReplaced from j ms ⊎ IsExempt j file.id stripe

-- a moment since which all damage of files in effect is new
pub record IsMark (start : State) (ms : List Moment) (from : ℕ) : Type 0 where
  pub before : PrecedesPuts start ms from
  pub clear : IsClear start ms from Never
