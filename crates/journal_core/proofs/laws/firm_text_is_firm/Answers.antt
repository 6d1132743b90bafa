use Rattle.journal_core.proofs.Words.{refl, sym, subst, arith, text, A, StandsActive, text-active, reads-firm}
use Rattle.std.proofs.Common.{suc}
use Rattle.record_defs.specs.Examples.{four_set_up}
use Rattle.journal_core.proofs.AreaStands.{read-firm}
use Rattle.journal_core.proofs.FirmCells.{all-firm}
use Rattle.journal_core.proofs.laws.firm_text_is_firm.Goals as goal

pub returns-clause-active : goal.returns-clause-active
returns-clause-active c = subst (λ bytes. StandsActive bytes A four_set_up)
    (sym (reads-firm (text four_set_up))) (text-active four_set_up refl)

pub returns-clause-front : goal.returns-clause-front
returns-clause-front c = all-firm (text four_set_up) 0 8

pub returns-clause-text : goal.returns-clause-text
returns-clause-text c = λ k below. all-firm (text four_set_up) 8 (suc k) k (omega arith)

pub returns-clause-stands : goal.returns-clause-stands
returns-clause-stands c = read-firm (text four_set_up) A four_set_up (text-active four_set_up refl)
