use Rattle.column_codec.proofs.Words.{◌∙◌, ap, arith, get_or, get_or_default, shaped_object, agreed}
use Rattle.std.proofs.Common.{◌≡◌, ◌<◌, length, [], false, Some, None}
use Rattle.std.specs.Bool.{if◌then◌else◌}
use Rattle.column_codec.proofs.AgreementLemmas.{agreed_more, agreed_none}
use Rattle.column_codec.proofs.opened.Opened.count_all.Goals as goal

pub loop-j-init : goal.loop-j-init
loop-j-init c = record {
  counted = λ place below. c.requires.zeros place
      ∙ agreed_none (shaped_object c.args.self.now.keys.now.master.0 c.args.self.now.keys.now.file) c.args.rows.now
      c.args.self.now.marks.now c.args.self.now.blocks.now place;
  few = λ place. omega (arith, c.requires.zeros place);
}

pub loop-j-preserved : goal.loop-j-preserved
loop-j-preserved c =
    let keys = c.args.self.now.keys.now in
    let j = c.loop-j.j in
    let inside : j < length c.args.self.now.blocks.now = c.loop-j-test.true in
    record {
      counted = λ place below. agreed_more (shaped_object keys.master.0 keys.file) c.args.rows.now
          c.args.self.now.marks.now c.args.self.now.blocks.now place j (get_or c.loop-j.counts place 0)
          (get_or c.count_provider.new.counts place 0) _ (λ i. if get_or c.args.self.now.marks.now j false
          then Some ((c.symbols.ensures ∙ c.index-blocks-j.is
          ∙ get_or_default c.args.self.now.blocks.now j c.index-blocks-j.result [] inside) i) else None)
          (c.loop-j.invariant.counted place below) (c.count_provider.ensures.counts place below);
      few = c.count_provider.ensures.few;
    }

pub returns-clause-counts : goal.returns-clause-counts
returns-clause-counts c = λ place below.
    let keys = c.args.self.now.keys.now in
    let end : c.loop-j.j ≡ keys.file.shape.n = omega
    (arith, c.loop-j-test.false, c.loop-j.auto, c.args.self.now.blocks_fit) in
    c.loop-j.invariant.counted place below
    ∙ ap (agreed (shaped_object keys.master.0 keys.file) c.args.rows.now c.args.self.now.marks.now c.args.self.now.blocks.now
    place) end
