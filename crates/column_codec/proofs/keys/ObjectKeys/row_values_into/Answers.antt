use Rattle.column_codec.proofs.Words.{◌∙◌, arith, keep_below, shaped_object}
use Rattle.column_codec.proofs.PresentLemmas.{part-is}
use Rattle.column_codec.proofs.AgreementLemmas.{primary-values}
use Rattle.column_codec.proofs.keys.ObjectKeys.row_values_into.Goals as goal

pub returns-then-provider-from : goal.returns-then-provider-from
returns-then-provider-from c =
    let file = c.args.self.now.file in
    primary-values (shaped_object c.args.self.now.master.0 file) c.args.symbols.now c.copy_from_slice.new.self
    c.args.provider c.requires.symbols
    (keep_below file.profile.number file.profile.size file.profile.keep file.profile.size_is
    file.profile.keep_is)
    (omega (arith, c.if-provider-from.true, c.from.ensures)) (c.copy_from_slice.ensures.len ∙ c.requires.out)
    (c.copy_from_slice.ensures.after
    ∙ part-is c.args.symbols.now c.args.provider _ file.profile.keep c.requires.out)
