use Rattle.provider_wire.proofs.Words.{arith, refl, symbols_read}
use Rattle.provider_wire.proofs.Symbols.{took_more}
use Rattle.provider_wire.proofs.symbol_bytes.take_symbols.Goals as goal

pub loop-k-init : goal.loop-k-init
unfolding symbols_read
loop-k-init c = refl

pub loop-k-preserved : goal.loop-k-preserved
loop-k-preserved c = took_more _ _ c.loop-k.k _ c.symbol_of.result (omega arith)
    (omega arith) c.symbol_of.ensures c.loop-k.invariant
