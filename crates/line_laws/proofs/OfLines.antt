-- What outcomes and runs write is of whole lines.
use Rattle.line_laws.proofs.Words.{ℕ, List, [], ◌∷◌, ◌++◌, refl, sym, ap, subst, ◌∙◌, inl, inr, append_assoc, append-nil, codes, flat_map, File, Outcome, Listed, Continued, line, then_number, file_line, lines_of, Moment, Instruction, Once, RunJob, CarriesOut, IsOfLines}
use Rattle.std.specs.Prelude.{length}
use Rattle.line_laws.proofs.OneLine.{one-line}

-- lines behind lines
pub joined : (x y : List ℕ) → IsOfLines x → IsOfLines y → IsOfLines (x ++ y)
joined x y before (inl none) = subst IsOfLines (sym (append-nil x) ∙ ap (λ l. x ++ l) (sym none)) before
joined x y before (inr some) =
    inr (x ++ some.0, ap (λ l. x ++ l) some.1 ∙ sym (append_assoc x some.0 (10 ∷ [])))

files : (fs : List File) → IsOfLines (flat_map file_line fs)
files [] = inl refl
files (f ∷ fs) =
    joined (file_line f) (flat_map file_line fs) (inr (f.name ++ then_number f.size, refl)) (files fs)

-- an outcome
pub outcome-lines : (r : Outcome) → IsOfLines (lines_of r)
outcome-lines (Listed fs) = joined (line (codes "names" ++ then_number (length fs))) (flat_map file_line fs)
    (inr (codes "names" ++ then_number (length fs), refl)) (files fs)
outcome-lines Continued = inl refl
outcome-lines r = let text = one-line r tt in inr (text.0, text.2)

-- a run of commands
pub run-lines : (commands : List Instruction) (ms : List Moment) (bytes : List ℕ) →
    CarriesOut commands ms bytes → IsOfLines bytes
run-lines [] ms bytes C = inl C.1
run-lines (Once event ∷ commands) ms bytes C = subst IsOfLines (sym C.6)
    (joined C.2 (lines_of C.0.outcome) (run-lines commands C.1 C.2 C.5) (outcome-lines C.0.outcome))
run-lines (RunJob job ∷ commands) ms bytes C = subst IsOfLines (sym C.7)
    (joined C.3 (lines_of C.0.outcome) (run-lines commands C.2 C.3 C.6) (outcome-lines C.0.outcome))
