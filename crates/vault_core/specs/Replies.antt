-- Replies to the actions of a job, and what came of them in the machine.
--
--   IsEndAnswer answer                   == a job that ended by its End has this answer
--   Tells number reply outcome new       == a reply tells what came of a step of this job: Done that it goes
--                                           on or came to its end; the others why it ended; a verdict has the
--                                           sums of all that the audit heard
--   IsReplyTo c number reply outcome new == the same, and a record that the step put in flight is the one
--                                           that the core gave
use Rattle.std.specs.Prelude.{◌≡◌, ℕ, Some}
use Rattle.machine_defs.specs.Jobs.{Job, job_of}
use Rattle.machine_defs.specs.Answers.{Answer, Put, Got, Dropped, Audited, Repaired, Upgraded, Lost, ProviderFault, DiskFault, Memory}
use Rattle.machine_defs.specs.Events.{Outcome, More, Ended}
use Rattle.machine_defs.specs.States.{State, Append, setup_in}
use Rattle.machine_defs.specs.Audits.{HasSums}
use Rattle.record_codec.specs.Entries.{counted}
use Rattle.vault_core.specs.declared.reply.Reply.{Reply}
use Rattle.vault_core.specs.declared.reply.Reply.TheVariants as reply
use Rattle.vault_core.specs.View.{CoreView}
use Rattle.vault_core.specs.Coming.{entry_in}

-- a job that ended by its End has this answer
abbrev pub IsEndAnswer : Answer → Type 0
IsEndAnswer Put = Unit {0}
IsEndAnswer (Got bytes) = Unit {0}
IsEndAnswer Dropped = Unit {0}
IsEndAnswer (Audited number undecided counts) = Unit {0}
IsEndAnswer (Repaired number) = Unit {0}
IsEndAnswer Upgraded = Unit {0}
IsEndAnswer answer = ⊥

-- a reply tells what came of a step
abbrev pub Tells : ℕ → Reply → Outcome → State → Type 0
Tells number reply.Done More new = Unit {0}
Tells number reply.Done (Ended answer) new = IsEndAnswer answer
Tells number reply.Failed (Ended DiskFault) new = Unit {0}
Tells number reply.Failed (Ended (ProviderFault j)) new = Unit {0}
Tells number reply.Memory (Ended Memory) new = Unit {0}
Tells number (reply.Lost row) (Ended (Lost stripe lost)) new = lost ≡ row
Tells number (reply.Verdict undecided counts) More new =
    (job : Job) → job_of new.jobs number ≡ Some job
    → HasSums (setup_in new) job (record { counts = counted counts; undecided = undecided })
Tells number r outcome new = ⊥

-- a reply tells what came of a step, and a record that the step put in flight is the one that the core gave
pub record IsReplyTo (c : CoreView) (number : ℕ) (r : Reply) (outcome : Outcome) (new : State) : Type 0 where
  pub tells : Tells number r outcome new
  pub entry : (a : Append) → new.append ≡ Some a → a.job ≡ number → entry_in c number ≡ Some a.entry
