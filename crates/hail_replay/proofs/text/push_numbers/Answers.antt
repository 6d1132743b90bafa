use Rattle.hail_replay.proofs.Words.{◌++◌, ℕ, ap, ◌∙◌, then_number}
use Rattle.hail_replay.proofs.Numbers.{numbered_more}
use Rattle.hail_replay.proofs.text.push_numbers.Goals as goal

pub loop-place-preserved : goal.loop-place-preserved
loop-place-preserved c = c.in_ok-push_number.ensures
    ∙ ap (λ (number : ℕ). c.loop-place.text.items ++ then_number number) c.from.ensures
    ∙ numbered_more c.args.numbers.now c.args.text.now.items c.loop-place.text.items c.loop-place.place
    c.loop-place-test.true c.loop-place.invariant
