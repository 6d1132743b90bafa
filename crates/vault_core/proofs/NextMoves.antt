-- A move that comes next is the next action of a job.
use Rattle.vault_core.proofs.Words.{◌≡◌, ℕ, Bool, true, false, cond, None, Some, refl, Action, WriteBody, CoreJob, CoreView, job_in, Coming, IsBarred, action_next, is_move, calls_disk, waits_or_acts, next_of, next_in}
use Rattle.std.proofs.Common.{Option}

-- a job that may go on and has a move next has this move as its next action
moves-acts : (flight : Option ℕ) (o : Option Action) → calls_disk (waits_or_acts flight o) ≡ true →
    is_move o ≡ true
moves-acts flight None h = cc h
moves-acts (Some k) (Some WriteBody) h = refl
moves-acts flight (Some a) h = h

-- the same of the job of a number
pub moves-job : (c : CoreView) (number : ℕ) (j : CoreJob) → job_in c.jobs number ≡ Some j →
    calls_disk (next_in c number) ≡ true → is_move (action_next c.setup c.table j) ≡ true
moves-job c number j found h = by_barred c.barred (rw found at h)
  where
    by : Bool → Option CoreJob → Coming
    by barred o = cond barred IsBarred (next_of c o)

    by_barred : (b : Bool) → calls_disk (by b (Some j)) ≡ true →
        is_move (action_next c.setup c.table j) ≡ true
    by_barred true h = cc h
    by_barred false h = moves-acts c.append (action_next c.setup c.table j) h
