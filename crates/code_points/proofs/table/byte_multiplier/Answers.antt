use Rattle.code_points.proofs.Words.{◌≡◌, ◌∙◌, sym, ap, arith, upto, multiplier_of}
use Rattle.code_points.proofs.Multipliers.{first_is, other_is}
use Rattle.code_points.proofs.table.byte_multiplier.Goals as goal

pub returns-then-profile-eq0 : goal.returns-then-profile-eq0
returns-then-profile-eq0 c =
    let e : c.args.profile.size ≡ 6 = rw c.if-profile-eq0.true at c.args.profile.size_is in
    first_is c.args.place (omega arith) ∙ ap (λ n. multiplier_of c.args.place (upto n)) (sym e)

pub returns-else-profile-eq0 : goal.returns-else-profile-eq0
returns-else-profile-eq0 c = other_is c.args.profile.number c.args.place c.if-profile-eq0.false (omega arith)
    ∙ ap (λ n. multiplier_of c.args.place (upto n)) (sym c.args.profile.size_is)
