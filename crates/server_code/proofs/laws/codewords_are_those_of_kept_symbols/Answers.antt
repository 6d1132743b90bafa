use Rattle.server_code.proofs.Linear.{codeword_is, codeword_of_front}
use Rattle.server_code.proofs.laws.codewords_are_those_of_kept_symbols.Goals as goal

pub returns : goal.returns
returns c = record { made = codeword_is; front = codeword_of_front }
