-- The running jobs of a desk, and the end of one of them.
--
--   place_in jobs number                 == the place of the job of a number; None where there is none
--   RunsIn c job                         == a job of this number runs
--   heard_of task                        == what a job heard, by what it works with
--   IsFed old job reply new              == the core was given a reply
--   KeepsAll old new                     == nothing but the core, the running jobs and the append in flight
--                                           may have changed
--   IsSameDesk old new                   == the same jobs with what they work with, the same core, area and
--                                           append; spare room does not count
--   IsStopped old job reply answer t new == a job was ended with an answer
use Rattle.std.specs.Prelude.{◌≡◌, ℕ, ◌==◌, true, List, [], Option, Some, is_some, slice_get, position}
use Rattle.std.specs.List.{remove}
use Rattle.machine_defs.specs.Events.{Outcome, Step}
use Rattle.machine_defs.specs.Heard.{Entry}
use Rattle.machine_defs.specs.Machine.{Happens}
use Rattle.machine_defs.specs.States.{State}
use Rattle.vault_core.specs.declared.reply.Reply.{Reply}
use Rattle.vault_core.specs.View.{CoreView, job_in}
use Rattle.vault_core.specs.Carried.{CoreIs}
use Rattle.vault_core.specs.Replies.{IsReplyTo}
use Rattle.vault.specs.declared.tasks.Running.{Running}
use Rattle.vault.specs.declared.tasks.Task.{Task}
use Rattle.vault.specs.declared.tasks.Task.TheVariants as task
use Rattle.vault.specs.declared.turn.Answer.{Answer}
use Rattle.vault.specs.declared.turn.Turn.{Turn}
use Rattle.vault.specs.declared.turn.Turn.TheVariants as turn
use Rattle.vault.specs.declared.desk.Desk.{Desk}
use Rattle.vault.specs.AtHand.{KeepsStreams}
use Rattle.vault.specs.Heard.{entries_fetched, answered_entries}

-- the place of the job of a number
abbrev pub place_in : List Running → ℕ → Option ℕ
place_in jobs number = position (λ (r : Running). r.number == number) jobs

-- a job of this number runs
abbrev pub RunsIn : CoreView → ℕ → Type 0
RunsIn c job = is_some (job_in c.jobs job) ≡ true

-- what a job heard
abbrev pub heard_of : Task → List Entry
heard_of (task.Get t) = entries_fetched t.fetched
heard_of (task.Audit t) = answered_entries t.heard.job t.heard.asks.items t.heard.symbols.items
heard_of t = []

-- the core was given a reply
pub record IsFed (old : CoreView) (job : ℕ) (reply : Reply) (new : CoreView) : Type 0 where
  pub step : (w n : State) (outcome : Outcome) (moment : ℕ) → CoreIs old w
      → Happens 8 moment w (Step job) outcome n → IsReplyTo old job reply outcome n → CoreIs new n
  pub streams : KeepsStreams old new

-- nothing but the core, the running jobs and the append in flight may have changed
pub record KeepsAll (old new : Desk) : Type 0 where
  pub setup : new.setup ≡ old.setup
  pub master : new.master ≡ old.master
  pub shape : new.shape ≡ old.shape
  pub base : new.base ≡ old.base

-- nothing changed but spare room
pub record IsSameDesk (old new : Desk) : Type 0 where
  pub core : new.core ≡ old.core
  pub setup : new.setup ≡ old.setup
  pub master : new.master ≡ old.master
  pub base : new.base ≡ old.base
  pub flight : new.flight ≡ old.flight
  pub jobs : new.jobs.items ≡ old.jobs.items

-- a job was ended with an answer
pub record IsStopped (old : Desk) (job : ℕ) (reply : Reply) (answer : Answer) (t : Turn)
    (new : Desk) : Type 0 where
  pub place : ℕ
  pub running : Running
  pub found : place_in old.jobs.items job ≡ Some place
  pub there : slice_get old.jobs.items place ≡ Some running
  pub turn_is : t ≡ turn.Done (record { answer = answer; heard = heard_of running.task })
  pub jobs : new.jobs.items ≡ remove old.jobs.items place
  pub flight : new.flight ≡ old.flight
  pub fed : IsFed old.core job reply new.core
  pub keeps : KeepsAll old new
