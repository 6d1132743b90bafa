use Rattle.dispersal_code.proofs.Words.{◌≡◌, ◌+◌, arith, refl, ◌∷◌, [], Some, None, length, present_symbols}
use Rattle.code_defs.proofs.Worked.{ones_accepted, worked_decodes}
use Rattle.dispersal_code.proofs.Erasures.{few_present}
use Rattle.dispersal_code.proofs.laws.one_is_accepted_of_four.Goals as goal

-- two symbols are present
two : length (present_symbols (None ∷ None ∷ Some 1 ∷ Some 1 ∷ [])) ≡ 2
unfolding present_symbols
two = refl

pub returns-clause-shape : goal.returns-clause-shape
returns-clause-shape c = (omega arith, omega arith, omega arith, omega arith, omega arith)

pub returns-clause-accepted : goal.returns-clause-accepted
returns-clause-accepted c = ones_accepted

pub returns-clause-decoded : goal.returns-clause-decoded
returns-clause-decoded c = worked_decodes

pub returns-clause-few : goal.returns-clause-few
returns-clause-few c =
    few_present 4 1 1 (0 ∷ 1 ∷ 2 ∷ 3 ∷ []) (None ∷ None ∷ Some 1 ∷ Some 1 ∷ []) refl (omega (arith, two))
