use Rattle.std.proofs.Common.{arith}
use Rattle.file_parts.proofs.ByteLemmas.{read_more}
use Rattle.file_parts.proofs.block_bytes.take_symbols.Goals as goal

pub loop-k-preserved : goal.loop-k-preserved
loop-k-preserved c = read_more _ _ c.loop-k.k _ c.symbol_of.result (omega arith)
    (omega arith) c.symbol_of.ensures c.loop-k.invariant
