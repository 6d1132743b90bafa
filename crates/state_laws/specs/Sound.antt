-- Sound states: what holds of every state that a run reaches, of the state alone.
--
--   IsDoubtOf append doubt   == while jobs go on the record of the append in flight is in doubt after its
--                               third move, and nothing else is
--   IsSoundAppend w a        == all that holds of the append in flight: its job runs and has written its
--                               record, which may come into effect next, and has drawn its number and kept
--                               what belongs to it
--   IsPutUnderWay job kind   == a job is a put whose first append is done, so that it has a number
--   IsIdle w                 == nothing runs, no append is in flight, no job is kept from going on, and there
--                               is no scrub and no pack
--   starts_left job          == how many object numbers a job has still to draw: 1 for a put whose first
--                               append is not done
--   IsLimit limit            == a limit of running jobs
--   IsSoundJournal w         == the journal that the disk holds is accepted, and its table is that of the
--                               history; with no packed record it is the whole history, and with no record it
--                               is in area A
--   IsSwitchable w           == what holds while the byte that names the area may name the other one
--   IsSound limit w          == a sound state, with this limit of running jobs
--   IsAtRest w               == a state in which nothing runs, is appended or in doubt, over a journal and a
--                               history that the fold accepts, whose files have their bytes
use Rattle.std.specs.Prelude.{◌≡◌, ℕ, ◌+◌, ◌-◌, ◌^◌, ◌<◌, ◌≤◌, ◌==◌, Bool, true, false, IsTrue, List, [], ◌∷◌, length, sum_by, Option, None, Some, if◌then◌else◌}
use Rattle.std.specs.List.{list_all}
use Rattle.record_defs.specs.Records.{is_in_grammar, is_appended, largest_journal, most_files}
use Rattle.record_defs.specs.Table.{version_of, next_id, next_audit, started_as}
use Rattle.record_defs.specs.Acceptance.{AreAccepted}
use Rattle.record_defs.specs.Packed.{AreAlike}
use Rattle.record_defs.specs.Areas.{A}
use Rattle.machine_defs.specs.Jobs.{Kind, PutJob, AuditJob, aim_of, Job, job_of}
use Rattle.machine_defs.specs.States.{State, Append, Doubt, Alone, Pack, Packing, setup_in, journal_end}
use Rattle.machine_defs.specs.Space.{reserved}
use Rattle.machine_defs.specs.Sights.{sight_of, is_check, is_upgrade, names_taken}
use Rattle.machine_defs.specs.Appends.{Writes, is_first_append, subject_drawn, bytes_drawn}
use Rattle.machine_defs.specs.Openings.{IsSetUp}
use Rattle.state_laws.specs.Orders.{moves_made, AreNumbered}
use Rattle.state_laws.specs.Follows.{AreHeld, MayFollowIn}
use Rattle.state_laws.specs.SoundJobs.{IsReady, IsSoundJob}

-- the record of the append in flight is in doubt after its third move, and none before
abbrev pub IsGatedDoubt : Append → Bool → Option Doubt → Type 0
IsGatedDoubt a true doubt = (d : Doubt) × (doubt ≡ Some d) × (d.entry ≡ a.entry)
IsGatedDoubt a false doubt = doubt ≡ None

-- while jobs go on nothing else is in doubt
abbrev pub IsDoubtOf : Option Append → Option Doubt → Type 0
IsDoubtOf None doubt = doubt ≡ None
IsDoubtOf (Some a) doubt = IsGatedDoubt a (a.moves == 3) doubt

-- all that holds of the append in flight
pub record IsSoundAppend (w : State) (a : Append) : Type 0 where
  pub job : Job
  pub runs : job_of w.jobs a.job ≡ Some job
  pub begun : 1 ≤ a.moves
  pub undone : a.moves ≤ 3
  pub writes : Writes w job job.kind a.entry
  pub drawn : subject_drawn w job job.kind ≡ job.subject
  pub bytes : (id : ℕ) → bytes_drawn w job job.kind id ≡ w.bytes id
  pub follows : MayFollowIn w a.entry

-- a job is a put whose first append is done
abbrev pub IsPutUnderWay : Job → Kind → Type 0
IsPutUnderWay job (PutJob name bytes) = 4 ≤ job.place
IsPutUnderWay job kind = ⊥

-- nothing is under way
abbrev pub IsIdle : State → Type 0
IsIdle w = (w.jobs ≡ []) × (w.append ≡ None) × (w.is_barred ≡ false) × (w.alone ≡ None)

-- how many object numbers a job has still to draw
abbrev pub starts_left : Job → ℕ
starts_left job = by_kind job.kind
  where
    by_kind : Kind → ℕ
    by_kind (PutJob name bytes) = if is_first_append job then 1 else 0
    by_kind kind = 0

-- a limit of running jobs: the last numbers suffice for as many puts as begin where a number is left
abbrev pub IsLimit : ℕ → Type 0
IsLimit limit = (1 ≤ limit) × (limit ≤ 31)

-- the journal that the disk holds is accepted, its table is that of the history, and what is started in it is
-- so in the history; with no packed record it is the whole history, and with no record it is in area A
pub record IsSoundJournal (w : State) : Type 0 where
  pub accepted : AreAccepted w.journal
  pub spelled : IsTrue (list_all is_in_grammar w.journal)
  pub alike : AreAlike w.journal w.records
  pub started : (id : ℕ) (name : List ℕ) → started_as w.journal id ≡ Some name
      → started_as w.records id ≡ Some name
  pub whole : IsTrue (list_all is_appended w.journal) → w.journal ≡ w.records
  pub first : w.journal ≡ [] → w.area ≡ A

-- while the byte that names the area may name the other one, the journal has its second version, nothing is
-- in doubt and no job runs; where a vault goes on, it is a pack after its third move that does
pub record IsSwitchable (w : State) : Type 0 where
  pub version : version_of w.records ≡ 2
  pub undoubted : w.doubt ≡ None
  pub jobs : w.jobs ≡ []
  pub packing : w.is_open ≡ true → w.is_barred ≡ false
      → (p : Pack) × (w.alone ≡ Some (Packing p)) × (p.moves ≡ 3)

-- a sound state
pub record IsSound (limit : ℕ) (w : State) : Type 0 where
  pub accepted : AreAccepted w.records
  pub spelled : IsTrue (list_all is_in_grammar w.records)
  pub journal : IsSoundJournal w
  pub room : journal_end w + sum_by (reserved (version_of w.records) (setup_in w)) w.jobs ≤ largest_journal
  pub files : AreHeld w.bytes w.records
  pub names : length (names_taken (sight_of w)) ≤ most_files
  pub ids : 0 < sum_by starts_left w.jobs
      → next_id w.records + sum_by starts_left w.jobs ≤ 2 ^ 64 - 1
  pub audits : (number : ℕ) (job : Job) → job_of w.jobs number ≡ Some job → job.kind ≡ AuditJob
      → job.place < 4 → next_audit w.records ≤ 2 ^ 64 - 32
  pub closed : w.is_open ≡ false → IsIdle w
  pub set_up : w.is_open ≡ true → IsSetUp w
  pub handed : w.is_open ≡ true → (setup_in w).n ≤ w.handed
  pub few : length w.jobs ≤ limit
  pub numbered : AreNumbered 0 w.jobs w.next_job
  pub jobs : (number : ℕ) (job : Job) → job_of w.jobs number ≡ Some job →
      IsSoundJob (setup_in w) w.records w.bytes (moves_made w.append number) job
  pub in_journal : (number : ℕ) (job : Job) → job_of w.jobs number ≡ Some job →
      IsReady (setup_in w) w.journal w.bytes job job.kind
  pub lone : (x : Alone) → w.alone ≡ Some x → w.jobs ≡ []
  pub packing : (p : Pack) → w.alone ≡ Some (Packing p) → version_of w.records ≡ 2
  pub switching : w.is_switching ≡ true → IsSwitchable w
  pub upgrade : (number : ℕ) (job : Job) → job_of w.jobs number ≡ Some job →
      IsTrue (is_upgrade (aim_of job.kind)) → w.jobs ≡ job ∷ []
  pub one_check : (k l : ℕ) (i j : Job) → job_of w.jobs k ≡ Some i → job_of w.jobs l ≡ Some j →
      IsTrue (is_check (aim_of i.kind)) → IsTrue (is_check (aim_of j.kind)) → k ≡ l
  pub apart : (k l : ℕ) (i j : Job) → job_of w.jobs k ≡ Some i → job_of w.jobs l ≡ Some j →
      IsPutUnderWay i i.kind → IsPutUnderWay j j.kind → i.subject ≡ j.subject → k ≡ l
  pub append : (a : Append) → w.append ≡ Some a → IsSoundAppend w a
  pub barred : w.is_barred ≡ true → w.append ≡ None
  pub undoubted : w.is_open ≡ true → w.is_barred ≡ false → IsDoubtOf w.append w.doubt
  pub doubt : (d : Doubt) → w.doubt ≡ Some d → MayFollowIn w d.entry

-- a state at rest
pub record IsAtRest (w : State) : Type 0 where
  pub idle : IsIdle w
  pub undoubted : w.doubt ≡ None
  pub unswitched : w.is_switching ≡ false
  pub journal : IsSoundJournal w
  pub accepted : AreAccepted w.records
  pub in_grammar : IsTrue (list_all is_in_grammar w.records)
  pub room : journal_end w ≤ largest_journal
  pub files : AreHeld w.bytes w.records
  pub set_up : w.is_open ≡ true → IsSetUp w
  pub handed : w.is_open ≡ true → (setup_in w).n ≤ w.handed
