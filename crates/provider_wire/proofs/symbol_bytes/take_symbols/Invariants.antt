use Rattle.provider_wire.proofs.Words.{◌≡◌, take, symbols_read}
use Rattle.provider_wire.proofs.symbol_bytes.take_symbols.Given as goal

abbrev pub invariant-loop-k : goal.invariant-loop-k
invariant-loop-k l = take l.k l.out ≡ symbols_read l.k l.bytes
