-- Jobs that are given by their turns, from states whose vault was just opened over four providers.
--
--   each p                         == of four providers, by their numbers
--   over ps p q r s                == these four, and others behind them
--   formed area rs bytes p q r s w == a state with its vault just opened over these records and providers, and
--                                     with these bytes of the files, spelled out
--   placed                         == the same with a history of its own
--   spelled area rs bytes held w   == the first one, over the first four providers of a list
--   after_turns w n kind own turns == the state after these turns of a job that begins in this one
--   Left                           == what a state and its job tell in the end
--   left_by last job               == that of a state, with the record in doubt
--   seen_as area after new heard handed
--                                  == that of what is seen, and was heard
--   MayBegin area rs kind own old  == a job may begin: no fault of the disk is counted, and four providers are
--                                     handed in
--   GoesSo .. after turns final Follows
--                                  == this follows where the job goes by these turns and the last one from
--                                     every such state, and leaves these records and what is seen
--   a_named                        == a name of one byte
--   plain_setup rounds picks       == a setup of four providers, one of them primary, of which one may be wrong
--   given_stripes s p bytes j t    == a provider that was given its blocks of the first stripes of these bytes,
--                                     for object 1
--
-- see gives the bytes of the files as far as they are known of every state just opened.
use Rattle.std.specs.Prelude.{◌≡◌, ℕ, zero, suc, true, false, List, [], ◌∷◌, replicate, Option, Some, None}
use Rattle.column_defs.specs.Columns.{columns}
use Rattle.device_defs.specs.Providers.{Provider}
use Rattle.record_defs.specs.Records.{Setup, Record}
use Rattle.record_defs.specs.Areas.{Area}
use Rattle.machine_defs.specs.Answers.{Answer}
use Rattle.machine_defs.specs.Events.{IsSpelledKind}
use Rattle.machine_defs.specs.Heard.{Entry, heard_by}
use Rattle.machine_defs.specs.Jobs.{Kind, Job, job_of}
use Rattle.machine_defs.specs.Runs.{now}
use Rattle.machine_defs.specs.Setups.{object_of}
use Rattle.machine_defs.specs.States.{State, Doubt, with_provider}
use Rattle.lone_laws.specs.Walked.{MayName}
use Rattle.command_defs.specs.Jobs.{SameOutside}
use Rattle.command_defs.specs.Refusals.{refusal_over}
use Rattle.command_defs.specs.Seen.{Seen, provider_at}
use Rattle.made_runs.specs.Steps.{stored}
use Rattle.made_runs.specs.Turns.{Turn, FitsStep, AreFitTurns, after_step, job_run}
use Rattle.made_runs.specs.Instructions.{with_new}

-- of four providers
abbrev pub each : {X : Type 0} → (ℕ → X) → List X
each p = p 0 ∷ p 1 ∷ p 2 ∷ p 3 ∷ []

-- these four, and others behind them
abbrev pub over : (ℕ → Provider) → Provider → Provider → Provider → Provider → ℕ → Provider
over ps p q r s = with_provider (with_provider (with_provider (with_provider ps 3 s) 2 r) 1 q) 0 p

-- a state just opened, spelled out
abbrev pub formed : Area → List Record → (ℕ → List ℕ) → Provider → Provider → Provider → Provider → State →
    State
formed area rs bytes p q r s w = record w {
  records = rs;
  journal = rs;
  area = area;
  is_switching = false;
  bytes = bytes;
  jobs = [];
  next_job = 1;
  alone = None;
  append = None;
  doubt = None;
  providers = over w.providers p q r s;
  is_open = true;
  is_barred = false;
  disk_faults = 0;
}

-- the same with a history of its own
abbrev pub placed : Area → List Record → (ℕ → List ℕ) → Provider → Provider → Provider → Provider → State →
    State
placed area rs bytes p q r s w = record (formed area rs bytes p q r s w) { records = w.records }

-- over the first four providers of a list
abbrev pub spelled : Area → List Record → (ℕ → List ℕ) → List Provider → State → State
spelled area rs bytes held w = formed area rs bytes (provider_at held 0) (provider_at held 1)
    (provider_at held 2) (provider_at held 3) w

-- the state after the turns of a job that begins in this one
abbrev pub after_turns : State → ℕ → Kind → Option ℕ → List Turn → State
after_turns w n kind own turns =
    now (with_new w n kind own) (job_run (with_new w n kind own) [] w.next_job turns)

-- ---- what is left

-- records with the one in doubt
abbrev pub with_doubt : Option Doubt → List Record → List Record
with_doubt None rs = rs
with_doubt (Some doubt) rs = doubt.entry ∷ rs

-- what a state and its job tell in the end
pub record Left : Type 0 where
  pub area : Area
  pub records : List Record
  pub faults : ℕ
  pub handed : ℕ
  pub providers : List Provider
  pub heard : List Entry

-- of a state, with the record in doubt
abbrev pub left_by : State → Option Job → Left
left_by last job = record {
  area = last.area;
  records = with_doubt last.doubt last.journal;
  faults = last.disk_faults;
  handed = last.handed;
  providers = each last.providers;
  heard = heard_by job;
}

-- what is seen of the devices, and was heard
abbrev pub seen_as : Area → List Record → Seen → List Entry → ℕ → Left
seen_as area after new heard handed = record {
  area = area;
  records = after;
  faults = new.disk_faults;
  handed = handed;
  providers = new.providers;
  heard = heard;
}

-- ---- a job by its turns

-- it may begin
abbrev pub MayBegin : Area → List Record → Kind → Option ℕ → Seen → Type 0
MayBegin area rs kind own old = (old.disk_faults ≡ 0) × (old.providers ≡ each (provider_at old.providers))
    × (refusal_over area rs kind own ≡ None) × IsSpelledKind kind × MayName kind own

-- the state before, with what is seen of the bytes of the files
abbrev pub starting : Area → List Record → Seen → ((ℕ → List ℕ) → ℕ → List ℕ) → State → State
starting area rs old see w = spelled area rs (see w.bytes) old.providers w

module _ (area : Area) (rs : List Record) (kind : Kind) (own : Option ℕ) (answer : Answer) (old new : Seen)
    (heard : List Entry) (see : (ℕ → List ℕ) → ℕ → List ℕ) where
  -- the one after turns of the job
  abbrev pub at_end : List Turn → State → ℕ → State
  at_end turns w n = after_turns (starting area rs old see w) n kind own turns

  -- what follows where it goes by these turns and the last one, and leaves this
  abbrev pub GoesSo : List Record → List Turn → Turn → Type 0 → Type 0
  GoesSo after turns final Follows =
      ((w : State) (n : ℕ) → AreFitTurns (with_new (starting area rs old see w) n kind own) [] 1 turns) →
      ((w : State) (n : ℕ) → FitsStep (at_end turns w n) 1 final) →
      ((w : State) (n : ℕ) → left_by (after_step (at_end turns w n) 1 final)
      (job_of (at_end turns w n).jobs 1) ≡ seen_as area after new heard w.handed) →
      ((w : State) (n : ℕ) → SameOutside area kind own answer rs
      (after_step (at_end turns w n) 1 final).journal old.disk new.disk) → Follows

-- ---- a put stripe by stripe

-- a name
abbrev pub a_named : List ℕ
a_named = 97 ∷ []

-- four providers, one of them primary, of which one may be wrong
abbrev pub plain_setup : ℕ → ℕ → Setup
plain_setup rounds picks = record {
  n = 4;
  l = 1;
  b = 1;
  profile = 0;
  rounds = rounds;
  picks = picks;
  tolerance = 0;
  master = replicate 32 0;
}

-- a provider with its blocks of the first stripes
abbrev pub given_stripes : Setup → Provider → List ℕ → ℕ → ℕ → Provider
given_stripes s p bytes j zero = p
given_stripes s p bytes j (suc t) =
    stored 1 t (columns (object_of s 1) bytes j t) (given_stripes s p bytes j t)
