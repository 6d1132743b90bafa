use Rattle.vault.proofs.Words.{◌*◌, ap, ◌∙◌, profile_of}
use Rattle.vault.proofs.vault.Vault.stripe_size.Goals as goal

pub returns : goal.returns
returns c = λ i. 16 * (c.from.ensures i
    * ((c.profile_at-keep.ensures ∙ ap profile_of (c.profile_of_put.ensures c.args.self.now.desk.master.0)) i).keep)
