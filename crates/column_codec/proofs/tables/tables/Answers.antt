use Rattle.column_codec.proofs.Words.{◌∙◌, weight_at}
use Rattle.column_codec.proofs.Places.{appended_more}
use Rattle.column_codec.proofs.tables.tables.Goals as goal

pub loop-place-preserved : goal.loop-place-preserved
loop-place-preserved c = c.in_ok-push.ensures.items
    ∙ appended_more c.loop-place.tables.items (weight_at c.args.shape.l c.args.weights.now) c.loop-place.place
    c.new.result
    c.loop-place.invariant (c.new.ensures ∙ c.weight_of.ensures)
