use Rattle.server_code.proofs.Linear.{zeros_are_codeword, sum_of_codewords, multiple_of_codeword}
use Rattle.server_code.proofs.laws.codewords_are_linear.Goals as goal

pub returns : goal.returns
returns c = record { zero = zeros_are_codeword; sum = sum_of_codewords; multiple = multiple_of_codeword }
