use Rattle.std.proofs.Common.{◌∙◌, ap, sym}
use Rattle.std.specs.Prelude.{not}
use Rattle.vault_core.proofs.Gates.{idle_is, map_none}
use Rattle.vault_core.proofs.job.Job.is_idle.Goals as goal

pub returns-then-is_none : goal.returns-then-is_none
returns-then-is_none c = idle_is c.args.self.now c.args.table.now c.in-Drop.name c.in-Drop.is
    (sym c.find.ensures ∙ map_none _ c.find.result (c.is_none.ensures ∙ ap not c.if-is_none.true))
