use Rattle.audit_verdict.proofs.Words.{subst, sym, arith, Apart-points, shaped_object}
use Rattle.std.proofs.Common.{List, ℕ, length}
use Rattle.algebra_laws.specs.Field.{Apart}
use Rattle.audit_verdict.proofs.Places.{counts-grow}
use Rattle.audit_verdict.proofs.judge.judge_round.Goals as goal

pub open_row-requires-clause-apart : goal.open_row-requires-clause-apart
open_row-requires-clause-apart c =
    let file = c.args.file.now in
    subst (λ (xs : List ℕ). Apart xs) (sym c.points_into.ensures)
    (Apart-points (shaped_object c.args.master.now.0 file) (omega (arith, file.shape.fits.1)))

pub returns-in-Some-clause-counts : goal.returns-in-Some-clause-counts
returns-in-Some-clause-counts c = λ j.
    counts-grow c.open_row.new.work.rest c.points_into.new.out c.bare_answers_into.new.out
    c.args.counts.now.by c.count_wrong.new.counts (length c.args.heard.now) j c.count_wrong.ensures
