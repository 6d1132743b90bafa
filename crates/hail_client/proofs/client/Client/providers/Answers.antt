use Rattle.hail_client.proofs.Words.{◌∙◌, ap, sym, uses_by}
use Rattle.record_codec.specs.declared.setup.Setup.{Setup}
use Rattle.hail_client.proofs.client.Client.providers.Goals as goal

pub returns-in-Some : goal.returns-in-Some
returns-in-Some c = c.from.ensures ∙ (ap (λ (s : Setup). s.n) c.setup.ensures ∙ ap uses_by (sym c.in-Some.is))
