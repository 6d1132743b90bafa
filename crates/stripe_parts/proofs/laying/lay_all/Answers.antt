use Rattle.std.specs.Prelude.{None}
use Rattle.std.proofs.Common.{◌≡◌, ◌<◌, ap, ◌∙◌, arith, length}
use Rattle.std.proofs.lemmas.List.{get_or_default, length-set}
use Rattle.stripe_parts.proofs.SeenLaws.{flag_next, long_next}
use Rattle.stripe_parts.proofs.laying.lay_all.Goals as goal

pub loop-j-preserved : goal.loop-j-preserved
loop-j-preserved c =
    let i = c.loop-j.invariant in
    let seen = c.args.seen.now in
    let j = c.loop-j.j in
    let zeros = c.deref.result.now in
    let size : length zeros ≡ c.args.size = ap length c.deref.ensures.value ∙ i.zeros in
    let s = c.index-seen-j.result in
    let there = c.in_ok-present-2.field-0 in
    let within : j < length seen = omega (arith, c.loop-j-test.true) in
    let laid = c.in_ok-present-2.ensures in
    record {
      zeros = i.zeros;
      flags = length-set c.loop-j.present.items j there ∙ i.flags;
      blocks = flag_next c.args.size zeros seen j c.loop-j.present.items c.loop-j.symbols.items
          c.lay.new.symbols.items s there size within i.flags
          (c.index-seen-j.is ∙ get_or_default seen j s None within) i.symbols i.blocks laid.symbols laid.there;
      symbols = long_next c.args.size zeros s c.loop-j.symbols.items c.lay.new.symbols.items j size i.symbols
          laid.symbols;
    }
