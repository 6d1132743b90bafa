-- What a step of a pack does to the cells of the disk, where it runs alone beside a client's vault.
--
--   client_pack c              == the moves of the pack that runs alone, if one does
--   IfPackStep result P        == P holds of what came of the step, where it was one of a pack
--   StepsPackCells p step old new
--                              == the cells after a step of this pack, by what came of it
use Rattle.std.specs.Prelude.{◌≡◌, Option, Some, None}
use Rattle.std.specs.Option.{option_map}
use Rattle.device_defs.specs.Cells.{Cells}
use Rattle.journal_pack.specs.declared.pack.Pack.{Pack}
use Rattle.vault.specs.Calls.{packed_on, EndsPackCells}
use Rattle.hail_client.specs.declared.alone.Alone.{Alone}
use Rattle.hail_client.specs.declared.alone.Alone.TheVariants as alone
use Rattle.hail_client.specs.declared.client.Client.{Client}
use Rattle.hail_client.specs.declared.turn.ClientTurn.{ClientTurn}
use Rattle.hail_client.specs.declared.turn.ClientTurn.TheVariants as client_turn
use Rattle.hail_client.specs.declared.turn.PackStep.{PackStep}
use Rattle.hail_client.specs.declared.turn.PackStep.TheVariants as pack_step

-- the moves of a pack, where it is one that runs alone
abbrev pub pack_alone : Option Alone → Option Pack
pack_alone (Some (alone.Pack job)) = Some job.pack
pack_alone x = None

-- the moves of the pack that runs alone
abbrev pub client_pack : Client → Option Pack
client_pack c = pack_alone c.alone

-- a fact of what came of a step, where it was one of a pack
abbrev pub IfPackStep : Option ClientTurn → (PackStep → Type 0) → Type 0
IfPackStep (Some (client_turn.Pack step)) P = P step
IfPackStep result P = Unit {0}

-- the cells after a step of a pack
abbrev pub StepsPackCells : Pack → PackStep → Option Cells → Option Cells → Type 0
StepsPackCells p pack_step.More old new = new ≡ option_map (packed_on p) old
StepsPackCells p (pack_step.Done a) old new = EndsPackCells p a old new
