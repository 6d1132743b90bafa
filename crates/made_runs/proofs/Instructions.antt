-- What instructions make that can be carried out is a run.
use Rattle.made_runs.proofs.Words.{refl, arith, inl, inr, ◌≡◌, ℕ, zero, suc, ◌<◌, ◌^◌, true, false, List, [], ◌∷◌, length, Option, None, Some, leb-true, Event, Begin, BeginAt, BeginScrub, BeginPack, Begun, Happens, reread, Moment, IsRun, now, State, Doubt, Settles, setup_in, given_up, can_step, Turn, gone_by, can_go_by, turned, FitsTurn, job_run, Sweep, Instruction, Turned, Turns, Swept, Sweeps, Fails, Begins, Reopens, Stops, Comes, begun_by, FitsBegin, settled, sweep_run, AreTurns, AreSweeps, done, FitsOne, run_of, AreFit}
use Rattle.made_runs.specs.Turns.{Goes}
use Rattle.made_runs.proofs.Steps.{first, second, steps}
use Rattle.made_runs.proofs.Turns.{goes-so}
use Rattle.made_runs.proofs.Sweeps.{sweeps-so}
use Rattle.made_runs.proofs.Failures.{fails-so}

-- plain steps go on a run
plain : (limit : ℕ) (start : State) (ms : List Moment) (n k : ℕ) → n < 2 ^ 32 →
    can_go_by start ms n k ≡ true → IsRun limit start ms → IsRun limit start (gone_by start ms n k)
plain limit start ms n zero l c r = r
plain limit start ms n (suc k) l c r = (
  l,
  steps limit (length (gone_by start ms n k)) (now start (gone_by start ms n k)) n
      (first (can_step (now start (gone_by start ms n k)) n) (can_go_by start ms n k) c),
  plain limit start ms n k l
      (second (can_step (now start (gone_by start ms n k)) n) (can_go_by start ms n k) c) r,
)

-- so does a turn
turn-run : (limit : ℕ) (start : State) (ms : List Moment) (n : ℕ) (turn : Turn) → n < 2 ^ 32 →
    FitsTurn start ms n turn → IsRun limit start ms → IsRun limit start (turned start ms n turn)
turn-run limit start ms n (Goes k) l f r = plain limit start ms n k l f r
turn-run limit start ms n turn l f r = (l, goes-so limit (length ms) (now start ms) n turn f, r)

-- and so do turns
pub turns-run : (limit : ℕ) (start : State) (ms : List Moment) (n : ℕ) (turns : List Turn) → n < 2 ^ 32 →
    AreTurns start ms n turns → IsRun limit start ms → IsRun limit start (job_run start ms n turns)
turns-run limit start ms n [] l f r = r
turns-run limit start ms n (turn ∷ turns) l f r =
    turn-run limit start (job_run start ms n turns) n turn l f.0 (turns-run limit start ms n turns l f.1 r)

-- a begin that is not refused happens
begins : (limit m : ℕ) (w : State) (event : Event) → w.is_open ≡ true → FitsBegin limit w event →
    Happens limit m w event (Begun w.next_job) (begun_by w m event)
begins limit m w (Begin kind) o f = (o, f, refl, refl)
begins limit m w (BeginAt profile name bytes) o f = (o, f, refl, refl)
begins limit m w BeginScrub o f = (o, f, refl, refl)
begins limit m w BeginPack o f = (o, f, refl, refl)
begins limit m w event o f = absurd f

-- so do steps of what runs alone
sweeps-run : (limit : ℕ) (start : State) (ms : List Moment) (n : ℕ) (sweeps : List Sweep) → n < 2 ^ 32 →
    AreSweeps start ms n sweeps → IsRun limit start ms → IsRun limit start (sweep_run start ms n sweeps)
sweeps-run limit start ms n [] l f r = r
sweeps-run limit start ms n (sweep ∷ sweeps) l f r = (
  l,
  sweeps-so limit (length (sweep_run start ms n sweeps)) (now start (sweep_run start ms n sweeps)) n sweep
      f.0,
  sweeps-run limit start ms n sweeps l f.1 r,
)

-- what is in doubt, if anything, comes into effect
settles : (w : State) (doubt : Option Doubt) → w.doubt ≡ doubt → Settles w (settled w doubt)
settles w None e = inl refl
settles w (Some d) e = inr (d, e, refl)

-- what an instruction makes goes on a run
one : (limit : ℕ) (start : State) (ms : List Moment) (i : Instruction) → FitsOne limit start ms i →
    IsRun limit start ms → IsRun limit start (done start ms i)
unfolding setup_in
one limit start ms (Turned n turn) f r = (f.0, goes-so limit (length ms) (now start ms) n turn f.1, r)
one limit start ms (Turns n turns) f r = turns-run limit start ms n turns f.0 f.1 r
one limit start ms (Swept n sweep) f r = (f.0, sweeps-so limit (length ms) (now start ms) n sweep f.1, r)
one limit start ms (Sweeps n sweeps) f r = sweeps-run limit start ms n sweeps f.0 f.1 r
one limit start ms (Fails n) f r = (f.0, fails-so limit (length ms) (now start ms) n f.1, r)
one limit start ms (Begins event) f r = (f.0, begins limit (length ms) (now start ms) event f.1 f.2, r)
one limit start ms Reopens f r = (
  tt,
  (
    record (given_up (now start ms)) { is_switching = false; doubt = None },
    ((now start ms).journal, (now start ms).area, inl (refl, refl), inl refl),
    f.0,
    leb-true (setup_in (now start ms)).n (now start ms).handed f.1,
    ((now start ms).disk_faults, omega arith, refl),
  ),
  r,
)
one limit start ms (Stops picks) f r = (
  f,
  (
    (now start ms).journal,
    (now start ms).area,
    inl (refl, refl),
    settles (reread (now start ms) (now start ms).journal (now start ms).area) (now start ms).doubt refl,
  ),
  r,
)
one limit start ms (Comes event outcome change) f r = (f.0, f.1, r)

-- what instructions make that can be carried out is a run
pub are-run : (limit : ℕ) (start : State) (is : List Instruction) → AreFit limit start is →
    IsRun limit start (run_of start is)
are-run limit start [] f = tt
are-run limit start (i ∷ is) f = one limit start (run_of start is) i f.0 (are-run limit start is f.1)
