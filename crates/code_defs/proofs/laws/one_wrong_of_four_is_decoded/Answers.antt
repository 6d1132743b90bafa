use Rattle.code_defs.proofs.Words.{arith, refl, nim, nim_laws, nim_endless}
use Rattle.std.proofs.Common.{◌∷◌, []}
use Rattle.algebra_laws.proofs.Headlines.{key_equation}
use Rattle.algebra_laws.proofs.Decode.{decode_exact}
use Rattle.code_defs.proofs.Worked.{four, word, four_apart, worked_decodes, worked_agree, worked_row}
use Rattle.code_defs.proofs.laws.one_wrong_of_four_is_decoded.Goals as goal

pub returns-clause-bounds : goal.returns-clause-bounds
returns-clause-bounds c = (omega arith, omega arith, (λ h. omega arith), omega arith)

pub returns-clause-apart : goal.returns-clause-apart
returns-clause-apart c = four_apart

pub returns-clause-decodes : goal.returns-clause-decodes
returns-clause-decodes c = worked_decodes

pub returns-clause-near : goal.returns-clause-near
returns-clause-near c = worked_agree

pub returns-clause-row : goal.returns-clause-row
returns-clause-row c = worked_row

pub returns-clause-key : goal.returns-clause-key
returns-clause-key c = key_equation nim nim_laws nim_endless four word (1 ∷ 2 ∷ []) (1 ∷ 2 ∷ []) 2 four_apart
    refl (omega arith) worked_row

pub returns-clause-divides : goal.returns-clause-divides
returns-clause-divides c = (decode_exact nim nim_laws nim_endless four word 1 1 2 nim_laws.one_not_zero refl
    four_apart worked_row (omega arith) (omega arith) (omega arith) (1 ∷ []) worked_decodes).0
