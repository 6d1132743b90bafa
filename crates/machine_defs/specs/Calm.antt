-- Settled audits, and calm runs: a mobile adversary changes at most b providers from one epoch to the next
-- (Bowers, Juels and Oprea, HAIL, 2009). What ends an epoch here, a settled audit, is this project's own.
--
--   Mark                     == a moment of a run, told from the moments so far as the number of events
--                               before it
--   settled_by setup r       == the audit that a record settles as it comes into effect: an AuditDone that
--                               flags nobody its own, and a RepairDone that of its number
--   since start ms           == the begin of the last audit that was settled, or 0, the start of the run
--   relies kind              == a job relies on what providers hold: a get, a repair
--   replaced_count w from ms == how many of the n providers were replaced by the event of number `from` or
--                               later ones
--   IsCalm reads mark ms     == at each moment, for each running job that relies on providers, at most b of
--                               these were replaced since the mark as it stood at the job's begin
use Rattle.std.specs.Prelude.{◌≡◌, ℕ, ◌≤◌, Bool, true, false, IsTrue, List, [], ◌∷◌, Option, None, Some, if◌then◌else◌}
use Rattle.code_defs.specs.Points.{upto}
use Rattle.column_defs.specs.Forgeries.{count_of}
use Rattle.record_defs.specs.Records.{Record, Setup, AuditDone, RepairDone}
use Rattle.record_defs.specs.Table.{exceeds}
use Rattle.machine_defs.specs.Jobs.{Kind, GetJob, RepairJob, Job, job_of}
use Rattle.machine_defs.specs.States.{State, setup_in}
use Rattle.machine_defs.specs.Runs.{Moment, now, first_moments, is_replaced_since, came}

-- a mark, told from the moments so far
abbrev pub Mark : Type 0
Mark = List Moment → ℕ

-- the audit that a record settles as it comes into effect
abbrev pub settled_by : Setup → Option Record → Option ℕ
settled_by setup (Some (AuditDone number undecided counts)) =
    if exceeds (Some setup) counts then None else Some number
settled_by setup (Some (RepairDone number)) = Some number
settled_by setup came_in = None

-- the begin of an audit that has just been settled, or else the mark before
abbrev pub mark_after : State → Option ℕ → ℕ → ℕ
mark_after w None before = before
mark_after w (Some number) before = w.audits number

-- the begin of the last audit that was settled, or the start of the run
abbrev pub since : State → Mark
since start [] = 0
since start (m ∷ ms) =
    mark_after m.state (settled_by (setup_in m.state) (came (now start ms) m.state))
    (since start ms)

-- gets and repairs rely on what providers hold
abbrev pub relies : Kind → Bool
relies (GetJob name) = true
relies RepairJob = true
relies kind = false

-- how many providers were replaced by the event of this number or later ones
abbrev pub replaced_count : State → ℕ → List Moment → ℕ
replaced_count w from ms = count_of (λ j. is_replaced_since from j ms) (upto (setup_in w).n)

-- of each job that relies on providers and runs now, at most b of these were replaced since the mark as it
-- stood at its begin
abbrev pub IsCalmNow : (Kind → Bool) → Mark → List Moment → State → Type 0
IsCalmNow reads mark ms w =
    (number : ℕ) (job : Job) → job_of w.jobs number ≡ Some job → IsTrue (reads job.kind) →
    replaced_count w (mark (first_moments job.begun ms)) ms ≤ (setup_in w).b

-- A run is calm where it is so at each moment. Since no job's own step is a replacement, that is to count
-- up to the end of each job.
abbrev pub IsCalm : (Kind → Bool) → Mark → List Moment → Type 0
IsCalm reads mark [] = Unit {0}
IsCalm reads mark (m ∷ ms) = IsCalmNow reads mark (m ∷ ms) m.state × IsCalm reads mark ms
