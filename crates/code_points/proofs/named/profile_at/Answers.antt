use Rattle.code_points.proofs.Words.{ap, ◌∙◌, profile_of}
use Rattle.code_points.proofs.Rows.{plain-own, profile_capped}
use Rattle.code_points.proofs.named.profile_at.Goals as goal

pub returns : goal.returns
returns c = plain-own c.in-Some.profile
    ∙ (ap profile_of (c.in-Some.ensures.numbered ∙ c.min.ensures) ∙ profile_capped c.args.number)
