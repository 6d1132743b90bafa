use Rattle.vault_core.proofs.Words.{◌∙◌, ap, profile_of}
use Rattle.code_points.proofs.Rows.{profile_capped}
use Rattle.vault_core.proofs.made.profile_at.Goals as goal

pub returns : goal.returns
returns c = c.in-Some.profile.keep_is
    ∙ (ap (λ n. (profile_of n).keep) (c.in-Some.ensures.numbered ∙ c.min.ensures)
    ∙ ap (λ p. p.keep) (profile_capped c.args.number))
