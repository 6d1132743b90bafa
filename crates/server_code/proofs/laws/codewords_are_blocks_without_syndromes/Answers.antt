use Rattle.server_code.proofs.Clean.{codeword_zero, zero_codeword}
use Rattle.server_code.proofs.laws.codewords_are_blocks_without_syndromes.Goals as goal

pub returns : goal.returns
returns c profile block long le = (codeword_zero profile block long le, zero_codeword profile block long le)
