use Rattle.column_codec.proofs.Words.{arith, shaped_object}
use Rattle.column_codec.proofs.RowLemmas.{secondary-outside}
use Rattle.column_codec.proofs.keys.ObjectKeys.new.Goals as goal

pub all_weights-requires : goal.all_weights-requires
all_weights-requires c =
    let file = c.args.file.now in
    secondary-outside (shaped_object c.args.master.now.0 file) c.points-points.result c.points-points.ensures
    (omega (arith, file.shape.fits.1))
