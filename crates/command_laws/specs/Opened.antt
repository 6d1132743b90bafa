-- What `init` and `list` have done, and when an init comes to its disk.
--
--   IsKeyed numbers key old    == the numbers are a setup, enough providers are handed in, and the source
--                                 tells the key
--   IsInit numbers old new end == an init that is done: its source held a key, and a store is set up with it
--   IsListed old new end       == a list that is done: the lines of the files in effect
use Rattle.std.specs.Prelude.{◌≡◌, ℕ, ◌≤◌, true, List, [], length, Some, IfSome}
use Rattle.device_defs.specs.Told.{Goes}
use Rattle.record_defs.specs.Records.{Record, is_setup}
use Rattle.record_defs.specs.Table.{files_of}
use Rattle.command_defs.specs.Forms.{Numbers}
use Rattle.command_defs.specs.Keys.{IsKeyForm, longest_key}
use Rattle.command_defs.specs.Seen.{Seen, Ending, ReadsUpTo, IsSynced}
use Rattle.opening_defs.specs.Journals.{IsSetUpOn}
use Rattle.command_defs.specs.Opens.{IsOpened}
use Rattle.command_defs.specs.Inits.{setup_with}
use Rattle.command_defs.specs.Lines.{ready_line, list_lines}
use Rattle.command_defs.specs.Jobs.{IsTold}

-- the numbers are a setup, enough providers are handed in, and the source tells the key
pub record IsKeyed (numbers : Numbers) (key : List ℕ) (old : Seen) : Type 0 where
  pub bytes : List ℕ
  pub good : is_setup (setup_with numbers []) ≡ true
  pub enough : numbers.n ≤ length old.providers
  pub source : old.source ≡ Some bytes
  pub form : IsKeyForm bytes key

-- an init that is done: the whole source is a key, and a store is set up with it on a disk that read no
-- records
pub record IsInit (numbers : Numbers) (old new : Seen) (end : Ending) : Type 0 where
  pub bytes : List ℕ
  pub key : List ℕ
  pub good : is_setup (setup_with numbers []) ≡ true
  pub enough : numbers.n ≤ length old.providers
  pub read : ReadsUpTo longest_key old.source new.source bytes
  pub whole : IfSome new.source (λ left. left ≡ [])
  pub form : IsKeyForm bytes key
  pub told : IsTold ready_line old new end
  pub disk : Goes (IsSetUpOn (setup_with numbers key)) old.disk new.disk
  pub providers : new.providers ≡ old.providers

-- a list that is done: the lines of the files in effect
pub record IsListed (old new : Seen) (end : Ending) : Type 0 where
  pub records : List Record
  pub opened : IsOpened old records
  pub told : IsTold (list_lines (files_of records)) old new end
  pub disk : IsSynced old new
  pub providers : new.providers ≡ old.providers
