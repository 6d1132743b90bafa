use Rattle.std.proofs.Common.{arith}
use Rattle.vault.proofs.HeardAt.{length-answered_entries}
use Rattle.vault.proofs.heard.Answers.count.Goals as goal

pub returns : goal.returns
returns c =
    let a = c.args.self.now in
    omega (arith, length-answered_entries a.job a.asks.items a.symbols.items)
