use Rattle.vault.proofs.Words.{arith, length-present_blocks, blocks_in}
use Rattle.vault.proofs.HeardAt.{length-fetched_entries}
use Rattle.vault.proofs.heard.Fetches.count.Goals as goal

pub returns : goal.returns
returns c =
    let f = c.args.self.now in
    let b = f.blocks in
    let entries = length-fetched_entries f.job f.object f.n 0 (blocks_in b) in
    let blocks = length-present_blocks b.size b.present.items b.symbols.items in
    omega (arith, entries, blocks)
