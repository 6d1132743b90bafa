use Rattle.hail_top.proofs.Words.{List, ℕ, length, ap, ◌∙◌, sym, subst, length-range_with_len, Apart-range}
use Rattle.algebra_laws.specs.Field.{Apart}
use Rattle.hail_top.proofs.row.open.Goals as goal

pub open_row-requires-clause-apart : goal.open_row-requires-clause-apart
open_row-requires-clause-apart c = subst (λ (points : List ℕ). Apart points)
    (sym (c.deref.ensures.value ∙ c.in_ok-all.ensures)) (Apart-range 0 c.args.shape.n)

pub open_row-requires-clause-even : goal.open_row-requires-clause-even
open_row-requires-clause-even c =
    ap length (c.deref.ensures.value ∙ c.in_ok-all.ensures) ∙ length-range_with_len 0 c.args.shape.n
    ∙ sym c.requires
