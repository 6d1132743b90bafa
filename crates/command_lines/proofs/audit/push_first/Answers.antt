use Rattle.command_lines.proofs.Words.{codes, ◌∷◌, [], ◌++◌, ℕ, ap, ◌∙◌, line, then_number}
use Rattle.command_lines.proofs.Pushed.{then_last, told_as, behind_two}
use Rattle.command_lines.proofs.audit.push_first.Goals as goal

pub returns : goal.returns
returns c =
    let front = codes "audit" ++ then_number c.args.number in
    told_as c.push_line.result _ _ _ _
    (ap (λ (undecided : ℕ). front ++ line (codes " undecided" ++ then_number undecided)) c.from.ensures
    ∙ behind_two front (codes " undecided") (then_number c.args.undecided) (10 ∷ []))
    (then_last c.push_line.result _ _ _ _ _ c.in_ok-push_counted.ensures c.push_line.ensures)
