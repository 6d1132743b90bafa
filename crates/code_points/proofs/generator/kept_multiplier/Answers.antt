use Rattle.code_defs.proofs.Generators.{kept_multiplier}
use Rattle.code_points.proofs.Steps.{keep_below}
use Rattle.code_points.proofs.generator.kept_multiplier.Goals as goal

pub returns : goal.returns
returns c = cc (kept_multiplier c.args.profile.keep c.args.profile.size c.args.place
    (keep_below c.args.profile.number c.args.profile.size c.args.profile.keep c.args.profile.size_is
    c.args.profile.keep_is) c.requires)
