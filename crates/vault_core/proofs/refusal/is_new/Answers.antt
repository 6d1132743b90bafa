use Rattle.vault_core.specs.Refusing.{aims_kept}
use Rattle.vault_core.proofs.Refusals.{more-put, more-other}
use Rattle.vault_core.proofs.refusal.is_new.Goals as goal

pub returns-in-Put : goal.returns-in-Put
returns-in-Put c = more-put c.args.table.now.files (aims_kept c.args.jobs.now)
    c.in-Put.name c.in-Put.length c.in-Put.profile c.in-Put.is c.is_taken.ensures

pub returns-in_default : goal.returns-in_default
returns-in_default c =
    more-other c.args.table.now.files (aims_kept c.args.jobs.now) c.args.job.now.wish c.in_default.not-Put
