use Rattle.code_points.proofs.Words.{ℕ, List, sym, subst, length, IsGeneratorRow, kept_row, plain_profile}
use Rattle.code_points.proofs.Coefficients.{kept-lt}
use Rattle.code_points.proofs.generator.generator_row.Goals as goal

pub returns-then-place-profile-clause-row : goal.returns-then-place-profile-clause-row
returns-then-place-profile-clause-row c = subst (λ (row : List ℕ). IsGeneratorRow
    (plain_profile c.args.profile) c.args.place row) (sym c.kept_row.ensures)
    (kept_row (plain_profile c.args.profile) c.args.place (length c.args.out.now) c.requires.out
    c.if-place-profile.true c.requires.place)

pub returns-then-place-profile-clause-bytes : goal.returns-then-place-profile-clause-bytes
returns-then-place-profile-clause-bytes c =
    λ k h. rw c.kept_row.ensures (kept-lt (length c.args.out.now) c.args.place k)
