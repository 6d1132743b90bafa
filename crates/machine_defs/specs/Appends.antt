-- The four moves of an append, and what is in effect or in doubt after each.
--
--   writes_counts job kind                   == an append writes what an audit counted
--   record_of rs job kind                    == the record that a job's append writes over these records, by
--                                               which of its appends it is at, but for the counts of an audit
--   Writes w job kind entry                  == the record that a job's append writes
--   done_record version id size profile      == the record that ends a put
--   subject_drawn, bytes_drawn, audits_drawn == the number that the first append of a put or an audit draws
--                                               at its first move, and what the state keeps of it
--   is_pinned w id                           == a running get, audit or repair works on the object
--   taken_out w job kind                     == the object that a job takes away once its append has taken it
--                                               out of effect
--   IsAt a job moves                         == the append in flight is this job's, with so many moves done
--   begun_append, moved, doubted, done_append, barred
--                                            == the states after a first, a second and a third move, after a
--                                               fourth, and after a failed one
--   Moves old job action flight outcome new  == one move of an append may have this outcome and leave this
--                                               state
--
-- A record is in doubt from the third move until the fourth is done, and after a fault in either. A third
-- move that found no memory counts as not made. A move that found no memory is no fault: the disk's count
-- stays. Numbers are drawn at the first move, so that they stand in the journal in order; an object to be
-- taken away is decided on at the fourth.
use Rattle.std.specs.Prelude.{◌≡◌, ℕ, ◌+◌, ◌==◌, ◌&&◌, Bool, true, false, not, List, [], ◌∷◌, length, Option, None, Some, nat_lt, if◌then◌else◌}
use Rattle.std.specs.List.{list_any}
use Rattle.column_defs.specs.Verdicts.{Sums}
use Rattle.record_defs.specs.Records.{Record, PutStart, PutDone, Drop, AuditStart, AuditDone, RepairDone, PutDoneIn, Version}
use Rattle.record_defs.specs.Table.{File, version_of, next_id, next_audit}
use Rattle.machine_defs.specs.Jobs.{Kind, PutJob, GetJob, DropJob, AuditJob, RepairJob, UpgradeJob, Pinned, Job, advanced}
use Rattle.machine_defs.specs.Actions.{Action, WriteBody, SyncBody, WriteGate, SyncGate}
use Rattle.machine_defs.specs.Answers.{DiskFault, Memory}
use Rattle.machine_defs.specs.Events.{Outcome, More, Ended}
use Rattle.machine_defs.specs.States.{State, Append, setup_in, file_in, brought, going_on, ended, DiskCall, DiskFails}
use Rattle.machine_defs.specs.Audits.{HasSums}

-- a job is at its first append
abbrev pub is_first_append : Job → Bool
is_first_append job = nat_lt job.place 4

-- the record that ends a put in a version of the journal: in the second one it has the file's profile
abbrev pub done_record : ℕ → ℕ → ℕ → ℕ → Record
done_record version id size profile =
    if version == 2 then PutDoneIn id size profile else PutDone id size

-- an append writes what an audit counted: it is an audit's second one
abbrev pub writes_counts : Job → Kind → Bool
writes_counts job AuditJob = not (is_first_append job)
writes_counts job kind = false

-- the record that a job's append writes over these records, but for the counts of an audit; a get has none
abbrev pub record_of : List Record → Job → Kind → Option Record
record_of rs job (PutJob name bytes) =
    Some (if is_first_append job then PutStart (next_id rs) name
    else done_record (version_of rs) job.subject (length bytes) job.profile)
record_of rs job (GetJob name) = None
record_of rs job (DropJob name) = Some (Drop name)
record_of rs job AuditJob = Some (AuditStart (next_audit rs))
record_of rs job RepairJob = Some (RepairDone job.subject)
record_of rs job UpgradeJob = Some Version

-- a record is this one
abbrev pub IsRecord : Option Record → Record → Type 0
IsRecord None entry = ⊥
IsRecord (Some r) entry = entry ≡ r

-- the record that a job's append writes: that of counts has the sums of all that the audit heard
abbrev pub Writes : State → Job → Kind → Record → Type 0
Writes w job kind entry = by_counts (writes_counts job kind)
  where
    by_counts : Bool → Type 0
    by_counts true =
        (sums : Sums) × HasSums (setup_in w) job sums
        × (entry ≡ AuditDone job.subject sums.undecided sums.counts)
    by_counts more = IsRecord (record_of w.records job kind) entry

-- the number of a job from the first move of this append on
abbrev pub subject_drawn : State → Job → Kind → ℕ
subject_drawn w job (PutJob name bytes) = if is_first_append job then next_id w.records else job.subject
subject_drawn w job AuditJob = if is_first_append job then next_audit w.records else job.subject
subject_drawn w job kind = job.subject

-- the bytes of object numbers, with those of a put that draws one
abbrev pub bytes_drawn : State → Job → Kind → ℕ → List ℕ
bytes_drawn w job (PutJob name bytes) id =
    if is_first_append job && (id == next_id w.records) then bytes else w.bytes id
bytes_drawn w job kind id = w.bytes id

-- the begins of audit numbers, with that of an audit that draws one
abbrev pub audits_drawn : State → Job → Kind → ℕ → ℕ
audits_drawn w job AuditJob number =
    if is_first_append job && (number == next_audit w.records) then job.begun else w.audits number
audits_drawn w job kind number = w.audits number

-- a running get, audit or repair has pinned an object; only these pin any
abbrev pub is_pinned : State → ℕ → Bool
is_pinned w id = list_any (λ (j : Job). list_any (λ (f : Pinned). f.id == id) j.pinned) w.jobs

-- the object of a file, unless there is none or it is pinned
abbrev pub removable : State → Option File → List ℕ
removable w None = []
removable w (Some f) = if is_pinned w f.id then [] else f.id ∷ []

-- the object that a job takes away once its append has taken it out of effect
abbrev pub taken_out : State → Job → Kind → List ℕ
taken_out w job (PutJob name bytes) = if is_first_append job then [] else removable w (file_in w name)
taken_out w job (DropJob name) = removable w (file_in w name)
taken_out w job kind = []

-- the record of an append is in doubt
abbrev pub doubted : State → Append → Job → State
doubted w a job = record w { doubt = Some (record { entry = a.entry; maker = Some (advanced job) }) }

-- an append has made one more move
abbrev pub moved : State → Append → State
moved w a = record w { append = Some (record a { moves = a.moves + 1 }) }

-- no append is in flight
abbrev pub unappended : State → State
unappended w = record w { append = None }

-- after a failed disk call of a job no job goes on until the next reopening
abbrev pub barred : State → State
barred w = record w { append = None; is_barred = true }

-- a job's first move has drawn its number and put a record in flight
abbrev pub begun_append : State → Job → Record → State
begun_append old job entry =
    record (going_on old (record (advanced job) { subject = subject_drawn old job job.kind })) {
      append = Some (record { job = job.number; entry = entry; moves = 1 });
      bytes = bytes_drawn old job job.kind;
      audits = audits_drawn old job job.kind;
    }

-- a job's fourth move has put its record in effect and has decided which object it takes away
abbrev pub done_append : State → Job → Append → State
done_append old job a =
    record (brought (going_on old (record (advanced job) { older = taken_out old job job.kind })) a.entry) {
      append = None;
      doubt = None;
    }

-- the append in flight is this job's, with so many moves done
abbrev pub IsAt : Append → Job → ℕ → Type 0
IsAt a job moves = (a.job ≡ job.number) × (a.moves ≡ moves)

-- one move of the append in flight
abbrev pub Moves : State → Job → Action → Option Append → Outcome → State → Type 0
Moves old job WriteBody flight More new =
    (entry : Record) × Writes old job job.kind entry × DiskCall old (begun_append old job entry) new
Moves old job WriteBody flight (Ended DiskFault) new = DiskFails old (barred (ended old job)) new
Moves old job WriteBody flight (Ended Memory) new = new ≡ ended old job
Moves old job SyncBody (Some a) More new =
    IsAt a job 1 × DiskCall old (moved (going_on old (advanced job)) a) new
Moves old job SyncBody (Some a) (Ended DiskFault) new =
    IsAt a job 1 × DiskFails old (barred (ended old job)) new
Moves old job WriteGate (Some a) More new =
    IsAt a job 2 × DiskCall old (doubted (moved (going_on old (advanced job)) a) a job) new
Moves old job WriteGate (Some a) (Ended DiskFault) new =
    IsAt a job 2 × DiskFails old (doubted (barred (ended old job)) a job) new
Moves old job WriteGate (Some a) (Ended Memory) new = IsAt a job 2 × (new ≡ unappended (ended old job))
Moves old job SyncGate (Some a) More new = IsAt a job 3 × DiskCall old (done_append old job a) new
Moves old job SyncGate (Some a) (Ended DiskFault) new =
    IsAt a job 3 × DiskFails old (barred (ended old job)) new
Moves old job action flight outcome new = ⊥
