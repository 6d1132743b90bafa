use Rattle.std.proofs.Common.{length, ap, sym, ◌∙◌}
use Rattle.vault_table.specs.Starts.{Starts}
use Rattle.vault_table.proofs.KeptNames.{length-names}
use Rattle.vault_table.proofs.starts.Starts.len.Goals as goal

pub returns : goal.returns
returns c = c.len.ensures
    ∙ (c.self.inside.sizes.ok.0
    ∙ (sym (length-names c.self.inside.sizes.items c.self.inside.letters.items)
    ∙ ap (λ (s : Starts). length s.names) c.self.view_is))
