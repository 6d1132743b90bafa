-- What a start and an init do to their disk. A disk is seen by what it tells that it holds, and by its count
-- of faults.
--
--   CallsDisk old new before now fault
--                           == a disk was called, and a fault of it came where this holds
--   ReadsDisk old new before now read fault
--                           == a disk was synced and read, and all went well where it was read
--   IsJudged result         == a start has judged what its disk reads
--   StartsOver old new before now result
--                           == a start was made of a disk, with this answer
--   SetsUp s old new result == an init of a setup was made of a disk, with this answer
use Rattle.std.specs.Prelude.{◌≡◌, ◌↔◌, ℕ, false, Option, Result, Ok, Err, IfSome, IfErr, OnOk, OnErr, IsErrOf, is_some}
use Rattle.std.specs.Option.{option_map}
use Rattle.device_defs.specs.Cells.{Cells}
use Rattle.device_defs.specs.Disks.{synced}
use Rattle.device_defs.specs.Faults.{HasCause}
use Rattle.device_defs.specs.Images.{EachImage}
use Rattle.device_defs.specs.Told.{Goes}
use Rattle.record_defs.specs.Records.{Setup, is_setup}
use Rattle.opening_defs.specs.Journals.{journal_read, IsResynced, IsSetUpOn, MayBeLeft}
use Rattle.vault_open.specs.declared.fault.InitFault.{InitFault}
use Rattle.vault_open.specs.declared.fault.InitFault.TheVariants as init_fault
use Rattle.vault_open.specs.declared.fault.StartFault.{StartFault}
use Rattle.vault_open.specs.declared.fault.StartFault.TheVariants as start_fault
use Rattle.vault_open.specs.Causes.{IsInitFault, IsNoWrite, IsStartFault, LiesInJournal}

-- a disk was called, and a fault of it came where this holds
pub record CallsDisk (old new : Option Cells) (before now : ℕ) (fault : Type 0) : Type 0 where
  -- it tells what it holds, or does not, as before
  pub tells : is_some new ≡ is_some old
  -- nothing but a fault is counted: want of memory is none
  pub no_fault : (fault → ⊥) → now ≡ before
  -- a fault is counted
  pub cause : HasCause before now fault

-- a disk was synced and read
pub record ReadsDisk (old new : Option Cells) (before now : ℕ) (read fault : Type 0) : Type 0 where
  -- it was synced, or is as before
  pub resynced : Goes IsResynced old new
  -- where it was read it was synced
  pub synced : read → new ≡ option_map synced old
  pub called : CallsDisk old new before now fault

-- a start has judged what its disk reads: it has read a store, or refuses it for what it reads
abbrev pub IsJudged : {T : Type 0} → Result T StartFault → Type 0
IsJudged (Ok store) = Unit {0}
IsJudged (Err why) = LiesInJournal why

-- a start was made of a disk, with this answer
pub record StartsOver {T : Type 0} (old new : Option Cells) (before now : ℕ) (result : Result T StartFault)
    : Type 0 where
  -- it is refused for a cause that the disk has
  pub refused : IfErr result (λ why. IfSome old (λ cells. IsStartFault (journal_read cells) why))
  pub disk : ReadsDisk old new before now (IsJudged result) (IsErrOf result start_fault.DiskFault)

-- an init of a setup was made of a disk, with this answer
pub record SetsUp (s : Setup) (old new : Option Cells) (result : Result Unit InitFault) : Type 0 where
  -- the disk has the setup for its one record
  pub ok : OnOk result (Goes (IsSetUpOn s) old new)
  -- a setup beyond its limits is refused for that cause, and no other setup
  pub bad_setup : IsErrOf result init_fault.BadSetup ↔ (is_setup s ≡ false)
  -- it is refused for a cause that the disk has
  pub refused : IfErr result (λ why. IfSome old (λ cells. IsInitFault (journal_read cells) s why))
  -- what was only looked at was synced, or is as before
  pub looked : IfErr result (λ why. IsNoWrite why → Goes IsResynced old new)
  -- and what a fault leaves is one of these images
  pub left : OnErr result (IfSome old (λ cells. EachImage new (MayBeLeft s cells)))
