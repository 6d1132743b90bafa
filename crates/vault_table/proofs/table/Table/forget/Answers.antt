use Rattle.vault_table.proofs.Words.{◌∙◌, ap, Starts, forgotten}
use Rattle.std.proofs.Common.{ℕ, ◌+◌, None}
use Rattle.vault_table.specs.Parts.{kept_of}
use Rattle.vault_table.proofs.table.Table.forget.Goals as goal

pub returns : goal.returns
returns c = ap (λ (n : ℕ). record (kept_of c.self.inside) {
  passed = c.self.inside.passed + n;
  started = c.clear.new.self.names;
  running = None;
  spare = c.clear.new.self.spare;
}) c.len.ensures
    ∙ (ap (λ (s : Starts). record (forgotten (kept_of c.self.inside)) { started = s.names; spare = s.spare })
    c.clear.ensures
    ∙ ap forgotten c.self.view_is)
