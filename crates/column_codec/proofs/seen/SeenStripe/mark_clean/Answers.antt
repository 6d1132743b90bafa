use Rattle.column_codec.proofs.Words.{◌∙◌, ap, sym, subst, arith, get_or, OnTrue_from, get_or_default, OpensTo, shaped_object, present_blocks}
use Rattle.std.proofs.Common.{◌≡◌, ◌<◌, length, List, ℕ, [], Some, None}
use Rattle.column_codec.proofs.Places.{rewritten}
use Rattle.column_codec.proofs.OpenLemmas.{marked_more, all_sizes}
use Rattle.column_codec.proofs.seen.SeenStripe.mark_clean.Goals as goal

-- the block in question is the one that was marked
pub look_present-requires-clause-mark : goal.look_present-requires-clause-mark
look_present-requires-clause-mark c =
    let keys = c.args.self.now.coder.keys.now in
    let seen = present_blocks keys.file.profile.size c.args.self.now.present.now c.args.self.now.symbols.now in
    let j = c.loop-j.j in
    let is = c.deref_mut.ensures.value ∙ c.block.view_is
    ∙ get_or_default c.loop-j.out j c.index-out-j.result [] (omega arith) in
    OnTrue_from _ _ (λ marked. subst
    (λ (b : List ℕ). OpensTo (shaped_object keys.master.0 keys.file) j c.args.self.now.coder.stripe (get_or seen j None)
    (Some b)) (sym is)
    (c.loop-j.invariant.opened j (omega arith) marked))

-- one block more was looked at
pub loop-j-preserved : goal.loop-j-preserved
loop-j-preserved c =
    let keys = c.args.self.now.coder.keys.now in
    let seen = present_blocks keys.file.profile.size c.args.self.now.present.now c.args.self.now.symbols.now in
    let j = c.loop-j.j in
    let new = c.look_present.new.out in
    let inside : j < length c.loop-j.out = omega arith in
    let size : length new ≡ keys.file.profile.size = omega (
      arith,
      c.look_present.auto.out,
      ap length (c.deref_mut.ensures.value ∙ c.block.view_is
          ∙ get_or_default c.loop-j.out j c.index-out-j.result [] inside),
      c.loop-j.invariant.sizes j inside,
    ) in
    let len : c.block.inside.symbols.len ≡ length new =
    omega (arith, c.deref_mut.ensures.len, c.look_present.auto.out) in
    record {
      opened = marked_more (shaped_object keys.master.0 keys.file) c.args.self.now.coder.stripe seen c.loop-j.marks
          c.loop-j.out j c.look_present.result _ new (omega arith) inside
          (rewritten new _ c.block.inside.symbols.len len) c.look_present.ensures c.loop-j.invariant.opened;
      sizes = all_sizes c.loop-j.out keys.file.profile.size j _ new inside
          (rewritten new _ c.block.inside.symbols.len len) size c.loop-j.invariant.sizes;
      few = grind arith;
    }
