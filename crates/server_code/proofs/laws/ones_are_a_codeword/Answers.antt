use Rattle.server_code.proofs.Words.{refl, arith, ◌∷◌, [], value_over, product, nim_mul, nim_add, profile_of, IsCodeword}
use Rattle.server_code.proofs.Clean.{codeword_zero}
use Rattle.server_code.proofs.laws.ones_are_a_codeword.Goals as goal

-- the values of 1 are a codeword
is_codeword : IsCodeword (profile_of 0) (1 ∷ 1 ∷ 1 ∷ 1 ∷ 1 ∷ 1 ∷ [])
unfolding value_over nim_mul nim_add product
is_codeword = record { polynomial = 1 ∷ []; degree = omega arith; values = refl }

pub returns-clause-codeword : goal.returns-clause-codeword
returns-clause-codeword c = is_codeword

pub returns-clause-zero : goal.returns-clause-zero
returns-clause-zero c =
    codeword_zero (profile_of 0) (1 ∷ 1 ∷ 1 ∷ 1 ∷ 1 ∷ 1 ∷ []) refl (omega arith) is_codeword
