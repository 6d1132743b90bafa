use Rattle.std.proofs.Common.{ℕ, sym, ap, ◌∙◌, arith}
use Rattle.trial_maker.specs.Draws.{next_draw}
use Rattle.trial_maker.proofs.Drawn.{no-bytes, no-draw, draw_more, filled_more}
use Rattle.trial_maker.proofs.draws.Draws.fill.Goals as goal

pub loop-place-init : goal.loop-place-init
loop-place-init c = record {
  filled = sym (no-bytes c.args.self.now.last 0);
  last = sym (no-draw c.args.self.now.last);
}

pub loop-place-preserved : goal.loop-place-preserved
loop-place-preserved c = record {
  filled = filled_more c.args.self.now.last c.loop-place.place c.loop-place.self.last c.next_byte.result
      c.loop-place.bytes (omega arith)
      c.loop-place.invariant.filled c.loop-place.invariant.last c.next_byte.ensures.value;
  last = c.next_byte.ensures.last ∙ ap (λ (x : ℕ). next_draw x) c.loop-place.invariant.last
      ∙ sym (draw_more c.args.self.now.last c.loop-place.place);
}
