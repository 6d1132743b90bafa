use Rattle.std.proofs.Common.{◌≡◌, ◌*◌, length, ap, sym, ◌∙◌}
use Rattle.hail_scrub.proofs.Blocks.{present_size, even}
use Rattle.hail_scrub.proofs.compare.provider_off.Goals as goal

pub off_by-requires-clause-even : goal.off_by-requires-clause-even
off_by-requires-clause-even c =
    let b = c.args.blocks.now in
    let has = c.requires.blocks in
    let size : b.size ≡ length c.deref.result.now =
    has.size ∙ sym (ap length c.deref.ensures.value ∙ c.make_column.new.self.column_fits
    ∙ ap (λ keys. keys.file.profile.size) c.make_column.ensures.keys) in
    even c.block_of.result _ (length c.deref.result.now) c.block_of.ensures
    (λ block is. present_size b.size b.present.items b.symbols.items c.args.provider block
    (has.symbols ∙ (λ i. (sym has.present) i * (sym has.size) i)) is ∙ size)
