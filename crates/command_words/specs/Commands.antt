-- The plain data of a command that was read.
--
--   numbers_of numbers == the seven numbers of the definitions
--   command_of command == the command of the definitions
--   BeginWithRow words == the first word is `row`
use Rattle.std.specs.Prelude.{◌≡◌, List, [], ◌∷◌, codes, None, Some, String}
use Rattle.std.specs.String.{string_bytes}
use Rattle.std.specs.declared.alloc.Global.{Global}
use Rattle.command_defs.specs.Forms.{RowOf, InitWith, PutUnder, PutAt, GetOf, DropOf, ListAll, AuditAll, RepairAll, UpgradeJournal, ScrubAll, PackJournal}
use Rattle.command_defs.specs.Forms.{Numbers as SevenNumbers, Command as Spelled}
use Rattle.command_words.specs.declared.init.Numbers.{Numbers}
use Rattle.command_words.specs.declared.command.Command.{Command}
use Rattle.command_words.specs.declared.command.Command.TheVariants as kind

-- the seven numbers of `init`
abbrev pub numbers_of : Numbers → SevenNumbers
numbers_of numbers = record {
  n = numbers.n;
  l = numbers.l;
  b = numbers.b;
  profile = numbers.profile;
  rounds = numbers.rounds;
  picks = numbers.picks;
  tolerance = numbers.tolerance;
}

-- the command as plain data
abbrev pub command_of : Command → Spelled
command_of (kind.Row row) = RowOf row.n row.l row.b row.seen.items
command_of (kind.Init numbers) = InitWith (numbers_of numbers)
command_of (kind.Put name None) = PutUnder name.now
command_of (kind.Put name (Some profile)) = PutAt name.now profile
command_of (kind.Get name) = GetOf name.now
command_of (kind.Drop name) = DropOf name.now
command_of kind.List = ListAll
command_of kind.Audit = AuditAll
command_of kind.Repair = RepairAll
command_of kind.Upgrade = UpgradeJournal
command_of kind.Scrub = ScrubAll
command_of kind.Pack = PackJournal

-- the first word is `row`
abbrev pub BeginWithRow : List (String Global) → Type 0
BeginWithRow [] = ⊥
BeginWithRow (word ∷ words) = string_bytes word ≡ codes "row"
