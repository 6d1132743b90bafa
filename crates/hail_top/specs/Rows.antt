-- The symbols of a row.
--
--   HasItsSymbols command == a row has as many symbols as it says
use Rattle.std.specs.Prelude.{◌≡◌, length}
use Rattle.command_defs.specs.Forms.{Command, RowOf}

-- a row has as many symbols as it says
abbrev pub HasItsSymbols : Command → Type 0
HasItsSymbols (RowOf n l b seen) = length seen ≡ n
HasItsSymbols command = Unit {0}
