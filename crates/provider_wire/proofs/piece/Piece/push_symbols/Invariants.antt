use Rattle.provider_wire.proofs.Words.{◌≡◌, ◌++◌, take, bytes_of_symbols}
use Rattle.provider_wire.proofs.piece.Piece.push_symbols.Given as goal

abbrev pub invariant-loop-symbol : goal.invariant-loop-symbol
invariant-loop-symbol l = l.self ≡ l.initial.self ++ bytes_of_symbols (take l.symbol-index l.symbols)
