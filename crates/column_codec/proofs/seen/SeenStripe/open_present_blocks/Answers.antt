use Rattle.column_codec.proofs.Words.{◌∙◌, arith, ap, get_or, refl, length-set, get_or_default, shaped_object, present_blocks}
use Rattle.std.proofs.Common.{◌≡◌, ◌<◌, length, None, []}
use Rattle.column_codec.proofs.PresentLemmas.{length-present_blocks}
use Rattle.column_codec.proofs.Places.{rewritten}
use Rattle.column_codec.proofs.OpenLemmas.{opened_more, all_sizes, AllOpen-each}
use Rattle.column_codec.proofs.seen.SeenStripe.open_present_blocks.Goals as goal

pub loop-j-preserved : goal.loop-j-preserved
loop-j-preserved c =
    let keys = c.args.self.now.coder.keys.now in
    let o = shaped_object keys.master.0 keys.file in
    let seen = present_blocks keys.file.profile.size c.args.self.now.present.now c.args.self.now.symbols.now in
    let j = c.loop-j.j in
    let new = c.open_present_block.new.out in
    let inside : j < length c.loop-j.out = omega arith in
    let size : length new ≡ keys.file.profile.size = omega (
      arith,
      c.open_present_block.auto.out,
      ap length (c.deref_mut.ensures.value ∙ c.block.view_is
          ∙ get_or_default c.loop-j.out j c.index-out-j.result [] inside),
      c.loop-j.invariant.sizes j inside,
    ) in
    let len : c.block.inside.symbols.len ≡ length new =
    omega (arith, c.deref_mut.ensures.len, c.open_present_block.auto.out) in
    record {
      each = opened_more o c.args.self.now.coder.stripe seen c.loop-j.marks c.loop-j.out j
          (get_or seen j None) c.open_present_block.result _ new
          (omega (arith, c.loop-j.invariant.many, keys.file.shape.fits.1)) inside refl
          (rewritten new _ c.block.inside.symbols.len len) c.open_present_block.ensures.yes
          c.open_present_block.ensures.no c.loop-j.invariant.each;
      sizes = all_sizes c.loop-j.out keys.file.profile.size j _ new inside
          (rewritten new _ c.block.inside.symbols.len len) size c.loop-j.invariant.sizes;
      many = length-set c.loop-j.marks j c.open_present_block.result ∙ c.loop-j.invariant.many;
      room = c.open_present_block.ensures.room ∙ c.loop-j.invariant.room;
    }

pub returns-clause-opens : goal.returns-clause-opens
returns-clause-opens c =
    let keys = c.args.self.now.coder.keys.now in
    AllOpen-each (shaped_object keys.master.0 keys.file) c.args.self.now.coder.stripe keys.file.shape.n
    (present_blocks keys.file.profile.size c.args.self.now.present.now c.args.self.now.symbols.now) c.loop-j.marks c.loop-j.out
    (length-present_blocks keys.file.profile.size c.args.self.now.present.now c.args.self.now.symbols.now ∙ c.args.self.now.present_fits)
    (λ k below. c.loop-j.invariant.each k (omega (arith, below)))
