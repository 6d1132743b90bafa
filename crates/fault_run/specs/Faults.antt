-- The run, what happens in it, and the places at which the premises of laws about faults are met.
--
--   other, first_file       == the name of the second file, and the first file
--   told ms                 == the events of some moments, with what came of them, the newest first
--   faulty_schedule         == those of the run
--   IsFaulty ms             == these moments are the run: from a start of four providers that tell, at limit
--                              8, and nothing is ever replaced
--   Fails ms k count        == event k is a failed call that this count counts
--   HasMissed w number j    == a get of the file runs that a fetch from provider j gave nothing
--   RefusesGet ms k why     == event k is a begin of a get of the file, and is refused so
--   IsInFlight w entry      == a running job is appending this record
--   HasReported ms k later  == before event k a step ended a job, and no later call of the program began
--                              since, in these moments
--   HasFaults ms            == what fails, is refused, cut off and settled in the run, and when
use Rattle.std.specs.Prelude.{◌≡◌, ℕ, List, [], ◌∷◌, ◌++◌, replicate, suc, ◌<◌, length, Some, None}
use Rattle.std.specs.List.{Contains}
use Rattle.machine_defs.specs.Refusals as refusal
use Rattle.damage_run.specs.Words.{PutJob, GetJob, DropJob, AuditJob, Put, Got, Dropped, Audited, Lost, ProviderFault, DiskFault, Event, Outcome, Begin, Step, Stop, Reopen, Continue, Refused, Opened, Begun, More, Ended, Stopped, Closed, Continued, IsStart, Moment, IsRun, IsCalm, relies, AreScrubsCalm, IsScrubCalm, AllTell, set_up, BeginsNoScrub, Record, PutDone, AuditDone, File, Fetched, Job, job_of, State, Append, object_in, file_in, setup_in, first_moments, came, HasStored, HasAsked, ComesIn, NeverTakenOut, EndsJob, NoneContinues, heard_in, Count, OfDisk, OfStores, OfOthers, IsFailure, stripes, RoseSince}
use Rattle.damage_run.specs.Points.{name, byte, counts, at, InDoubt, IsEvent, EndsBy}

-- the name of the second file is "b"
abbrev pub other : List ℕ
other = 98 ∷ []

-- the events of moments, each with what came of it
abbrev pub told : List Moment → List (Event × Outcome)
told [] = []
told (m ∷ ms) = (m.event, m.outcome) ∷ told ms

-- one event
abbrev pub once : Event → Outcome → List (Event × Outcome)
once event outcome = (event, outcome) ∷ []

-- so many steps of a job go on
abbrev pub steps : ℕ → ℕ → List (Event × Outcome)
steps job count = replicate count (Step job, More)

-- The events, the newest first: a put of the first file; a get, two of whose fetches fail, so that it is
-- lost; a put whose first store fails; a put that a fault of the disk cuts off at its last move; a begin is
-- refused; a stop settles what is in doubt; a reopening that cannot read the disk, and one that can; a
-- begin finds no memory; a get gives the first file; an audit, one of whose asks fails, so that it flags a
-- provider; a begin is refused; a drop, one of whose removals fails; and a later call of the program.
abbrev pub faulty_schedule : List (Event × Outcome)
faulty_schedule = once (Step 1) Closed ++ once Continue Continued
    ++ once (Step 7) (Ended Dropped) ++ steps 7 8 ++ once (Begin (DropJob name)) (Begun 7)
    ++ once (Begin AuditJob) (Refused refusal.RepairDue)
    ++ once (Step 6) (Ended (Audited 1 0 counts)) ++ steps 6 12 ++ once (Begin AuditJob) (Begun 6)
    ++ once (Step 5) (Ended (Got byte)) ++ steps 5 5 ++ once (Begin (GetJob name)) (Begun 5)
    ++ once (Begin (GetJob name)) (Refused refusal.Memory) ++ once Reopen Opened
    ++ once Reopen (Refused refusal.DiskFault) ++ once (Stop []) Stopped
    ++ once (Begin (GetJob name)) (Refused refusal.MustReopen)
    ++ once (Step 4) (Ended DiskFault) ++ steps 4 7 ++ once (Begin (PutJob other [])) (Begun 4)
    ++ once (Step 3) (Ended (ProviderFault 0)) ++ steps 3 4 ++ once (Begin (PutJob other byte)) (Begun 3)
    ++ once (Step 2) (Ended (Lost 0 0)) ++ steps 2 4 ++ once (Begin (GetJob name)) (Begun 2)
    ++ once (Step 1) (Ended Put) ++ steps 1 12 ++ once (Begin (PutJob name byte)) (Begun 1)
    ++ once Reopen Opened

-- these moments are the run
pub record IsFaulty (ms : List Moment) : Type 0 where
  pub clean : IsStart set_up
  pub tell : AllTell set_up
  pub run : IsRun 8 set_up ms
  pub calm : IsCalm relies (λ moments. 0) ms
  pub scrubs : AreScrubsCalm (λ moments. 0) ms
  pub unscrubbed : BeginsNoScrub ms
  pub scrub_calm : IsScrubCalm set_up ms
  pub happens : told ms ≡ faulty_schedule

-- the file of the first put
abbrev pub first_file : File
first_file = record { name = name; id = 1; size = 1; profile = 0 }

-- an event is a failed call
pub record Fails (ms : List Moment) (k : ℕ) (count : Count) : Type 0 where
  pub moment : Moment
  pub is : first_moments (suc k) ms ≡ moment ∷ first_moments k ms
  pub failure : IsFailure count (at k ms) moment

-- a running get of the file was given nothing by a fetch
pub record HasMissed (w : State) (number j : ℕ) : Type 0 where
  pub job : Job
  pub runs : job_of w.jobs number ≡ Some job
  pub number_is : job.number ≡ number
  pub kind_is : job.kind ≡ GetJob name
  pub pinned : Contains job.pinned (record { id = 1; profile = 0; bytes = byte })
  pub provider_in : j < (setup_in w).n
  pub stripe_in : 0 < stripes (object_in w 0 1) (length (w.bytes 1))
  pub missed : Contains job.given (Fetched j 1 0 None)

-- the begin of a get of the stored file is refused
abbrev pub RefusesGet : List Moment → ℕ → refusal.Refusal → Type 0
RefusesGet ms k why =
    IsEvent ms k (Begin (GetJob name)) (Refused why) × (file_in (at k ms) name ≡ Some first_file)

-- a record is being appended by a job that runs
pub record IsInFlight (w : State) (entry : Record) : Type 0 where
  pub append : Append
  pub in_flight : w.append ≡ Some append
  pub entry_is : append.entry ≡ entry
  pub job : Job
  pub runs : job_of w.jobs append.job ≡ Some job

-- a job has ended, and no later call of the program began since
pub record HasReported (ms : List Moment) (k : ℕ) (later : List Moment) : Type 0 where
  pub moment : Moment
  pub job : Job
  pub before : List Moment
  pub split : first_moments k ms ≡ later ++ moment ∷ before
  pub ends : EndsJob set_up moment before job
  pub none_continues : NoneContinues later

-- what fails, is refused, cut off and settled in the run
pub record HasFaults (ms : List Moment) : Type 0 where
  -- failed calls of each kind
  pub fetch_fails : Fails ms 16 (OfOthers 0)
  pub store_fails : Fails ms 26 (OfStores 0)
  pub sync_fails : Fails ms 35 OfDisk
  pub reopening_fails : Fails ms 38 OfDisk
  pub ask_fails : Fails ms 55 (OfOthers 2)
  pub removal_fails : Fails ms 71 (OfOthers 3)
  -- the get that is lost, and what it was given
  pub get_missed : HasMissed (at 20 ms) 2 0
  pub get_rose : RoseSince (at 15 ms) (at 20 ms) 0
  pub get_lost : EndsBy ms 20 2 (Lost 0 0)
  -- begins that are refused
  pub must_reopen : RefusesGet ms 36 refusal.MustReopen
  pub no_memory : RefusesGet ms 40 refusal.Memory
  -- the put that was cut off: its job has ended, its record is in doubt, and a stop brings it into effect
  pub cut_in_doubt : InDoubt (at 37 ms) (PutDone 3 0)
  pub cut_ended : (at 37 ms).jobs ≡ []
  pub cut_profile : 0 ≡ (setup_in (at 37 ms)).profile
  pub stop : Moment
  pub stopped : first_moments 38 ms ≡ stop ∷ first_moments 37 ms
  pub cut_settled : came (at 37 ms) stop.state ≡ Some (PutDone 3 0)
  pub cut_in_effect : file_in (at 38 ms) other ≡ Some (record { name = other; id = 3; size = 0; profile = 0 })
  -- the first file came in, and is not taken out until its drop is in doubt: past the fault, the stop and
  -- the reopening
  pub later : List Moment
  pub came_moment : Moment
  pub first_split : first_moments 63 ms ≡ later ++ came_moment ∷ first_moments 13 ms
  pub first_came : ComesIn (at 13 ms) came_moment.state name first_file
  pub never_out : NeverTakenOut name later
  pub first_got : EndsBy ms 47 5 (Got byte)
  -- the first put has stored, the audit has asked, and its end is in flight
  pub has_stored : HasStored set_up (first_moments 7 ms) 1 1
  pub has_asked : HasAsked set_up (first_moments 54 ms) 48 1 1 0
  pub end_in_flight : IsInFlight (at 58 ms) (AuditDone 1 0 counts)
  -- the report of the second get, while a later job runs; and none after a later call of the program
  pub after_get : List Moment
  pub reported : HasReported ms 60 after_get
  pub begun_anew : heard_in set_up (first_moments 74 ms) ≡ []
