use Rattle.column_laws.proofs.Words.{[], ◌∷◌, refl, symbols_in, row_polynomial, example, three_seen, three_opened}
use Rattle.column_laws.proofs.OtherRows.{forgery-of_other}
use Rattle.column_laws.proofs.Worked.{three-open, example-shape, three-accepted, rows-differ, row-in}
use Rattle.column_laws.proofs.laws.another_file_is_a_forgery.Goals as goal

pub returns-clause-row : goal.returns-clause-row
returns-clause-row c = row-in

pub returns-clause-accepted : goal.returns-clause-accepted
returns-clause-accepted c = λ master. three-accepted master (8 ∷ [])

pub returns-clause-other : goal.returns-clause-other
returns-clause-other c = rows-differ

pub returns-clause-forgery : goal.returns-clause-forgery
returns-clause-forgery c = λ master. forgery-of_other (example master) (7 ∷ []) 0
    (λ stripe. three_seen (example master) (8 ∷ [])) 0 0 (three_opened (example master) (8 ∷ []))
    (row_polynomial (example master) (symbols_in (example master) (8 ∷ []) 0) 0) refl example-shape
    (row-in master) (three-open (example master) (8 ∷ [])) (three-accepted master (8 ∷ []))
    (rows-differ master)
