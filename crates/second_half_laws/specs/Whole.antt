-- What a put, a repair or an audit has done by the time of its last record.
--
--   PutIsWhole start ms job id size profile == a put of that number, length and profile made its store of
--                                              each stripe on each provider, and its number stands for its
--                                              bytes
--   Rewrote start ms job object j stripe    == a repair made its store of a stripe on a provider, after its
--                                              work on the stripe
--   RepairIsWhole start ms job number       == a repair of that number rewrote each stripe of each of its
--                                              files on each flagged provider
--   AuditIsWhole start ms job number undecided counts
--                                           == an audit of that number made each of its asks, and these are
--                                              its sums over what it was given
use Rattle.std.specs.Prelude.{◌≡◌, ℕ, ◌<◌, true, List, length}
use Rattle.std.specs.List.{Contains}
use Rattle.record_defs.specs.Table.{next_id}
use Rattle.machine_defs.specs.Jobs.{PutJob, AuditJob, RepairJob, Pinned, Job}
use Rattle.machine_defs.specs.Setups.{profiled, stripes_of, pinned_stripes}
use Rattle.machine_defs.specs.Actions.{Store, Work, rounds_of}
use Rattle.machine_defs.specs.States.{State, setup_in}
use Rattle.machine_defs.specs.Given.{answer_given}
use Rattle.machine_defs.specs.Audits.{HasSums}
use Rattle.machine_defs.specs.Runs.{Moment, now}
use Rattle.machine_defs.specs.Deeds.{HasMadeStore}
use Rattle.second_half_laws.specs.Made.{WasMade}
use Rattle.second_half_laws.specs.Gave.{WasAsked}

-- a put made its store of each stripe on each provider, and its number stands for its bytes
pub record PutIsWhole (start : State) (ms : List Moment) (job : Job) (id size profile : ℕ) : Type 0 where
  pub name : List ℕ
  pub bytes : List ℕ
  pub kind : job.kind ≡ PutJob name bytes
  pub subject : job.subject ≡ id
  pub length_is : length bytes ≡ size
  pub profile_is : job.profile ≡ profile
  pub drawn : id < next_id (now start ms).records
  pub bytes_are : (now start ms).bytes id ≡ bytes
  pub stored : (j stripe : ℕ) → j < (setup_in (now start ms)).n
      → stripe < stripes_of (profiled (setup_in (now start ms)) profile) size →
      WasMade start ms job (Store j id stripe)
  pub placed : (j stripe : ℕ) → j < (setup_in (now start ms)).n
      → stripe < stripes_of (profiled (setup_in (now start ms)) profile) size →
      HasMadeStore (setup_in (now start ms)) job j id stripe

-- a repair made its store of a stripe on a provider, after its work on the stripe
pub record Rewrote (start : State) (ms : List Moment) (job : Job) (object j stripe : ℕ) : Type 0 where
  pub store : WasMade start ms job (Store j object stripe)
  pub work : WasMade start store.before store.maker (Work object stripe)
  pub placed : HasMadeStore (setup_in (now start ms)) job j object stripe

-- a repair rewrote each stripe of each of its files on each flagged provider
pub record RepairIsWhole (start : State) (ms : List Moment) (job : Job) (number : ℕ) : Type 0 where
  pub kind : job.kind ≡ RepairJob
  pub subject : job.subject ≡ number
  pub rewrote : (file : Pinned) (j stripe : ℕ) → Contains job.pinned file → j < (setup_in (now start ms)).n
      → job.flagged j ≡ true →
      stripe < pinned_stripes (setup_in (now start ms)) file → Rewrote start ms job file.id j stripe

-- an audit made each of its asks, and these are its sums over what it was given
pub record AuditIsWhole (start : State) (ms : List Moment) (job : Job) (number undecided : ℕ)
    (counts : List ℕ) : Type 0 where
  pub kind : job.kind ≡ AuditJob
  pub subject : job.subject ≡ number
  pub asked : (file : Pinned) (j round : ℕ) → Contains job.pinned file → j < (setup_in (now start ms)).n →
      Contains (rounds_of (profiled (setup_in (now start ms)) file.profile) (length file.bytes)) round →
      WasAsked start ms job j file.id round (answer_given job.given file.id round j)
  pub sums : HasSums (setup_in (now start ms)) job (record { counts = counts; undecided = undecided })
