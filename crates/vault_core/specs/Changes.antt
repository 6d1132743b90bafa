-- What the calls of a core change: a record a call, a field a fact.
--
--   BeginsAs old kinds own r new == a begin of a job of one of these kinds, of a put perhaps with a profile of
--                                   its own, and its answer
--   IsPutUnder name kind         == a put of this name, of at most 2^22 bytes
--   IsMoreOf old job l last new  == a stream was told how many bytes its file has so far, or how many it has
--   GoesOnBy old number r new    == a core was told by a reply what came of a step of a job
use Rattle.std.specs.Prelude.{◌≡◌, ◌≢◌, ℕ, ◌+◌, ◌<◌, ◌≤◌, Bool, true, false, List, length, Option, None, Some, Result, OnOk, OnErr, IfOk, IfErr}
use Rattle.record_defs.specs.Records.{largest_file}
use Rattle.machine_defs.specs.Jobs.{Kind, PutJob, job_of}
use Rattle.machine_defs.specs.Begins.{refusal_of_begin}
use Rattle.machine_defs.specs.Events.{Outcome, Step, IsSpelledKind}
use Rattle.machine_defs.specs.States.{State}
use Rattle.machine_defs.specs.Machine.{Happens}
use Rattle.vault_core.specs.declared.reply.Reply.{Reply}
use Rattle.vault_core.specs.declared.wish.BeginFault.{BeginFault}
use Rattle.vault_core.specs.declared.wish.BeginFault.TheVariants as fault
use Rattle.vault_core.specs.Carried.{CoreIs, refusal_of, job_begun}
use Rattle.vault_core.specs.Coming.{core_left}
use Rattle.vault_core.specs.Replies.{IsReplyTo}
use Rattle.vault_core.specs.Streams.{FitsGiven}
use Rattle.vault_core.specs.View.{CoreJob, CoreView, job_in, told_in, wants_in, HasNoStream}

-- A begin: an Ok has the job run in the machine, which accepts it, under the number that was next; an Err
-- tells the machine's refusal, or that memory ran out, and nothing changed.
pub record BeginsAs (old : CoreView) (kinds : Kind → Type 0) (own : Option ℕ) (result : Result ℕ BeginFault)
    (new : CoreView) : Type 0 where
  pub begun : (w : State) (kind : Kind) (moment : ℕ) → CoreIs old w → kinds kind → IsSpelledKind kind →
      OnOk result (CoreIs new (job_begun w moment kind own))
  pub accepted : (w : State) (kind : Kind) → CoreIs old w → kinds kind →
      OnOk result (refusal_of_begin 8 w kind own ≡ None)
  pub number : IfOk result (λ job. job ≡ old.next_job)
  pub refused : (w : State) (kind : Kind) → CoreIs old w → kinds kind →
      IfErr result (λ why. why ≢ fault.Memory → refusal_of_begin 8 w kind own ≡ Some (refusal_of why))
  pub unchanged : OnErr result (new ≡ old)
  pub setup : new.setup ≡ old.setup

-- a put of this name, of at most 2^22 bytes
abbrev pub IsPutUnder : List ℕ → Kind → Type 0
IsPutUnder name (PutJob own bytes) = (own ≡ name) × (length bytes ≤ largest_file)
IsPutUnder name kind = ⊥

-- A stream was told how many bytes its file has with a whole stripe more, or with its last piece: it stands
-- for the puts of so many bytes or more, or of so many, and waits for no stripe.
pub record IsMoreOf (old : CoreView) (number length : ℕ) (last : Bool) (new : CoreView) : Type 0 where
  pub stands : (w : State) → CoreIs old w → FitsGiven last length (job_of w.jobs number) → CoreIs new w
  pub more : (stripes : ℕ) → wants_in old number ≡ Some stripes → last ≡ false →
      told_in new.jobs number ≡ Some (stripes + 1)
  pub closed : last ≡ true → told_in new.jobs number ≡ None
  pub wants : wants_in new number ≡ None
  pub left : core_left new number ≤ core_left old number
  pub others : (other : ℕ) → other ≢ number → job_in new.jobs other ≡ job_in old.jobs other
  pub kept : new ≡ record old { jobs = new.jobs }

-- A core was told what came of a step of a job: it stands for the state that the step left, the job has fewer
-- steps left, and each stream was given as many stripes as before.
pub record GoesOnBy (old : CoreView) (number : ℕ) (r : Reply) (new : CoreView) : Type 0 where
  pub step : (w after : State) (outcome : Outcome) (moment : ℕ) → CoreIs old w →
      Happens 8 moment w (Step number) outcome after → IsReplyTo old number r outcome after → CoreIs new after
  pub falls : core_left new number < core_left old number
  pub setup : new.setup ≡ old.setup
  pub streams : HasNoStream old → HasNoStream new
  pub told : (other : ℕ) (j : CoreJob) → job_in new.jobs other ≡ Some j → j.told ≡ told_in old.jobs other
