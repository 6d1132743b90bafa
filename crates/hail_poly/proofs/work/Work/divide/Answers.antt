use Rattle.hail_poly.proofs.Words.{◌≡◌, [], ◌∙◌, ap, arith, trim, RowState}
use Rattle.hail_poly.proofs.WorkSteps.{quotient_is, no_quotient, begun}
use Rattle.hail_poly.proofs.work.Work.divide.Goals as goal

pub returns-then-rest_len-gt0-clause-none : goal.returns-then-rest_len-gt0-clause-none
returns-then-rest_len-gt0-clause-none c =
    let row = c.self.inside.row in
    let left = c.divide_by.new.self in
    let is_rest : c.clear_factor.new.self.rest ≡ trim row.rest =
    ap (λ (r : RowState). r.rest) c.clear_factor.ensures ∙ ap (λ (r : RowState). r.rest) c.set_rest.ensures
    ∙ ap trim c.rest.ensures.is in
    let is_factor : c.clear_factor.new.self.factor ≡ [] =
    ap (λ (r : RowState). r.factor) c.clear_factor.ensures in
    rw (← c.self.view_is) (no_quotient row.rest row.factor left.rest left.factor
    (begun row.rest row.factor c.clear_factor.new.self.rest c.clear_factor.new.self.factor c.factor.result.now
    left.rest left.factor c.divide_by.ensures.rows is_rest is_factor c.factor.ensures.is)
    c.divide_by.ensures.rest_trimmed (omega arith) (rw c.factor.ensures.is at c.divide_by.ensures.less)
    (rw c.factor.ensures.is at c.factor.ensures.trimmed))

pub returns-clause-quotient : goal.returns-clause-quotient
returns-clause-quotient c =
    let row = c.self.inside.row in
    let left = c.divide_by.new.self in
    let is_rest : c.clear_factor.new.self.rest ≡ trim row.rest =
    ap (λ (r : RowState). r.rest) c.clear_factor.ensures ∙ ap (λ (r : RowState). r.rest) c.set_rest.ensures
    ∙ ap trim c.rest.ensures.is in
    let is_factor : c.clear_factor.new.self.factor ≡ [] =
    ap (λ (r : RowState). r.factor) c.clear_factor.ensures in
    let made : c.start_factor.new.self.rest ≡ trim left.factor =
    ap (λ (r : RowState). r.rest) c.start_factor.ensures ∙ ap (λ (r : RowState). r.rest) c.set_rest-2.ensures
    ∙ ap trim c.factor-2.ensures.is in
    rw (← c.self.view_is, made) (quotient_is row.rest row.factor left.rest left.factor
    (begun row.rest row.factor c.clear_factor.new.self.rest c.clear_factor.new.self.factor c.factor.result.now
    left.rest left.factor c.divide_by.ensures.rows is_rest is_factor c.factor.ensures.is)
    (omega arith))
