use Rattle.column_codec.proofs.Words.{ap, ◌∙◌, arith, get_or_default, masks_from, shaped_object}
use Rattle.std.proofs.Common.{[], length, ◌*◌}
use Rattle.column_codec.proofs.RowLemmas.{masked-each, masks_front}
use Rattle.column_codec.proofs.keys.ObjectKeys.add_long.Goals as goal

pub returns : goal.returns
returns c =
    let keys = c.args.self.now in
    let file = keys.file in
    let block = c.args.block.now in
    let o = shaped_object keys.master.0 file in
    masked-each o c.args.provider (c.args.stripe * length block) block c.add_each.new.out _ (omega arith)
    (masks_front c.mask_block.new.out _ _ _ (length block) c.args.stripe
    (omega (arith, c.requires.block)) c.mask_block.ensures
    ∙ ap (λ key. masks_from key (c.args.stripe * length block) (length block))
    (get_or_default keys.mask_keys c.args.provider _ []
    (omega (arith, c.requires.provider, file.shape.fits.1))
    ∙ keys.mask_keys_are c.args.provider c.requires.provider))
    c.add_each.ensures
