-- What a start reads of a disk.
--
--   IsStoreOf store area rs told == the fold of these records, where their area begins and their text ends,
--                                   and the setup that they begin with; a disk that tells has that text in
--                                   that area, and nothing of both is loose
use Rattle.std.specs.Prelude.{◌≡◌, IsTrue, IfSome, List, Option, Some}
use Rattle.device_defs.specs.Cells.{Cells}
use Rattle.record_defs.specs.Records.{Record, is_setup}
use Rattle.record_defs.specs.Areas.{Area, base_of, end_in}
use Rattle.record_codec.specs.Entries.{with_master}
use Rattle.journal_core.specs.Texts.{StandsFirm}
use Rattle.vault_table.specs.Values.{IsFoldOf}
use Rattle.vault_open.specs.declared.store.Store.{Store}

-- the fold of records, with their setup and where their area and their text are, on a disk that has that text
pub record IsStoreOf (store : Store) (area : Area) (rs : List Record) (told : Option Cells) : Type 0 where
  pub folds : IsFoldOf rs store.table
  pub setup : store.table.setup ≡ Some (with_master store.setup store.master.0)
  pub limits : IsTrue (is_setup (with_master store.setup store.master.0))
  pub base : store.base ≡ base_of area
  pub end : store.end ≡ end_in area rs
  pub stands : IfSome told (StandsFirm area rs)
