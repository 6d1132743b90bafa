use Rattle.std.proofs.Common.{◌∙◌}
use Rattle.vault.proofs.Pins.{told_none, told_some}
use Rattle.vault.proofs.desk.Desk.pin_in.Goals as goal

pub returns-in-Some : goal.returns-in-Some
returns-in-Some c = told_some _ _ c.args.object c.in-Some.ensures ∙ c.pin_of.ensures

pub returns-in-None : goal.returns-in-None
returns-in-None c = told_none _ c.args.object c.in-None.ensures
