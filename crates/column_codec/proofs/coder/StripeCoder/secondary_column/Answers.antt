use Rattle.column_codec.proofs.Words.{ap, ◌∙◌, arith, plain_profile, keep_below, code_profile, shaped_object}
use Rattle.column_codec.proofs.RowLemmas.{secondary-final}
use Rattle.column_codec.proofs.coder.StripeCoder.secondary_column.Goals as goal

pub returns : goal.returns
returns c =
    let keys = c.args.self.now.keys.now in
    let file = keys.file in
    c.add_masks.ensures
    ∙ secondary-final (shaped_object keys.master.0 file) c.args.symbols.now c.encode_into.new.out
    c.kept_into.new.kept c.args.provider c.args.self.now.stripe
    (plain_profile (code_profile c.args.self.now.code.now)) c.requires.symbols
    (keep_below file.profile.number file.profile.size file.profile.keep file.profile.size_is
    file.profile.keep_is)
    c.requires.secondary (omega (arith, c.requires.provider, file.shape.fits.1))
    (ap plain_profile c.args.self.now.code_fits) c.encode_into.ensures c.kept_into.ensures
