-- Why a line of a schedule is refused.
--
--   Refusal              == the refusals of inits, reopenings, begins and steps
--   Cause                == a refusal, and whether it applies
--   first_refusal causes == the first refusal in order that applies; None where none does
use Rattle.std.specs.Prelude.{ℕ, Bool, Option, None, Some, List, [], ◌∷◌, if◌then◌else◌}

-- the refusals of an init, of a reopening, of begins and of steps
pub data Refusal : Type 0 where
  MustReopen : Refusal
  Busy : Refusal
  BadName : Refusal
  TooLong : Refusal
  NoSuchName : Refusal
  TooManyFiles : Refusal
  RepairDue : Refusal
  NothingDue : Refusal
  JournalFull : Refusal
  Memory : Refusal
  BadSetup : Refusal
  DiskFault : Refusal
  BadJournal : (at : ℕ) → Refusal
  Already : Refusal
  NotSetUp : Refusal
  TooFewProviders : Refusal
  NoSuchJob : Refusal
  BadProfile : Refusal
  OldVersion : Refusal
  NewVersion : Refusal
  PackTooLong : Refusal

-- a refusal where its cause applies
pub record Cause : Type 0 where
  pub applies : Bool
  pub refusal : Refusal

-- the first refusal in order whose cause applies
abbrev pub first_refusal : List Cause → Option Refusal
first_refusal [] = None
first_refusal (c ∷ cs) = if c.applies then Some c.refusal else first_refusal cs
