-- Wishes: what a job of a wish is for, and what a begin asks of it.
--
--   aim_of_wish w   == what the machine's job of this wish is for
--   profile_named w == the profile that a put names; None where there is none
--   file_named t w  == the file in effect under the name of a get or a drop; None of any other wish
--   is_opener w     == a job of this wish has a first append: a put, a drop, an audit
--   is_closer w     == it has a last append: a put, an audit, a repair, an upgrade
--   HasName w       == the name of a wish is a name
--   IsShort w       == a put has at most 2^22 bytes
use Rattle.std.specs.Prelude.{ℕ, ◌≤◌, Bool, true, false, Option, None, IsTrue}
use Rattle.record_defs.specs.Records.{is_name, largest_file}
use Rattle.record_defs.specs.Table.{File, find_file}
use Rattle.machine_defs.specs.Jobs.{Aim, ToPut, ToGet, ToDrop, ToAudit, ToRepair, ToUpgrade}
use Rattle.vault_table.specs.Values.{Kept}
use Rattle.vault_core.specs.declared.wish.Wish.{Wish}
use Rattle.vault_core.specs.declared.wish.Wish.TheVariants as wish

-- what the machine's job of a wish is for
abbrev pub aim_of_wish : Wish → Aim
aim_of_wish (wish.Put name size own) = ToPut name size
aim_of_wish (wish.Get name) = ToGet name
aim_of_wish (wish.Drop name) = ToDrop name
aim_of_wish wish.Audit = ToAudit
aim_of_wish wish.Repair = ToRepair
aim_of_wish wish.Upgrade = ToUpgrade

-- the profile that a put names, if it names one
abbrev pub profile_named : Wish → Option ℕ
profile_named (wish.Put name size own) = own
profile_named w = None

-- the file in effect under the name of a get or a drop
abbrev pub file_named : Kept → Wish → Option File
file_named t (wish.Get name) = find_file t.files name
file_named t (wish.Drop name) = find_file t.files name
file_named t w = None

-- a wish that has a first append
abbrev pub is_opener : Wish → Bool
is_opener (wish.Put name size own) = true
is_opener (wish.Drop name) = true
is_opener wish.Audit = true
is_opener w = false

-- a wish that has a last append
abbrev pub is_closer : Wish → Bool
is_closer (wish.Put name size own) = true
is_closer wish.Audit = true
is_closer wish.Repair = true
is_closer wish.Upgrade = true
is_closer w = false

-- the name of a wish is a name
abbrev pub HasName : Wish → Type 0
HasName (wish.Put name size own) = IsTrue (is_name name)
HasName (wish.Get name) = IsTrue (is_name name)
HasName (wish.Drop name) = IsTrue (is_name name)
HasName w = Unit {0}

-- a put has at most 2^22 bytes
abbrev pub IsShort : Wish → Type 0
IsShort (wish.Put name size own) = size ≤ largest_file
IsShort w = Unit {0}
