use Rattle.std.proofs.Common.{arith}
use Rattle.file_layout.proofs.Rounding.{rounded, stripe_some}
use Rattle.file_layout.proofs.file.FileShape.stripes.Goals as goal

pub returns-clause-bound : goal.returns-clause-bound
returns-clause-bound c =
    let file = c.args.self.now in
    rounded file.length _
    (stripe_some c.from.result file.profile.number file.profile.keep
    (omega (arith, c.from.ensures, file.shape.fits.2)) file.profile.keep_is)
