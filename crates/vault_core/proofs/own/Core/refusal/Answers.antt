use Rattle.vault_core.proofs.Words.{◌∙◌, ap, first_refusal}
use Rattle.vault_core.proofs.Refusals.{causes-same}
use Rattle.vault_core.proofs.own.Core.refusal.Goals as goal

pub returns-clause-sight : goal.returns-clause-sight
returns-clause-sight c = c.first_refusal.ensures c.read_name.ensures

pub returns-clause-machine : goal.returns-clause-machine
returns-clause-machine c = λ told w kind is of short small. returns-clause-sight c short
    ∙ ap first_refusal (causes-same c.args.self.now w told c.args.wish.now kind is of small)
