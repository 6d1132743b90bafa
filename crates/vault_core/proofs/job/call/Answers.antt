use Rattle.vault_core.proofs.Words.{ap, sym, call_of}
use Rattle.vault_core.proofs.job.call.Goals as goal

pub returns-in-Audit : goal.returns-in-Audit
returns-in-Audit c =
    ap (λ w. call_of w c.args.spot.now.object c.args.spot.now.turn c.args.provider) (sym c.in-Audit.is)
