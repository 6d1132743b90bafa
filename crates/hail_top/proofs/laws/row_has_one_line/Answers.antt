use Rattle.hail_top.proofs.Words.{List, ℕ, ap, sym, ◌∙◌, length-range_with_len, upto, values_at-same, values_line, Apart-range}
use Rattle.hail_top.proofs.laws.row_has_one_line.Goals as goal

pub returns : goal.returns
returns c n l b seen p q shape whole first second = ap (λ (xs : List ℕ). values_line xs)
    (values_at-same (upto l) p q (c.accepted_polynomial_is_unique.ensures.values n l b (upto n) seen p q shape
    (Apart-range 0 n) (length-range_with_len 0 n ∙ sym whole) whole first second))
