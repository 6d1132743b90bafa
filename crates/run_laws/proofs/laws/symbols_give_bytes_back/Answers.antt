use Rattle.run_laws.proofs.SymbolBytes.{bytes_back}
use Rattle.run_laws.proofs.laws.symbols_give_bytes_back.Goals as goal

pub returns : goal.returns
returns c = bytes_back
