use Rattle.hail_replay.proofs.Words.{◌<◌, ◌≤◌, ◌++◌, ◌∷◌, [], List, ℕ, get_or, take, sym, ap, ◌∙◌, arith, append-nil, flagged_from}
use Rattle.hail_replay.proofs.Flags.{flagged_more, flagged_one, flagged_none}
use Rattle.hail_replay.proofs.seen.flagged_of.Goals as goal
use Rattle.hail_replay.proofs.seen.flagged_of.Goals.{then-counts-place+in_ok-push, else-counts-place}

pub loop-place-preserved : goal.loop-place-preserved
loop-place-preserved c =
    let counts = c.args.counts.now in
    let place = c.loop-place.place in
    let more = flagged_more c.args.tolerance counts place 0 c.loop-place-test.true in
    elim c.if-counts-place.branch [
      | then-counts-place+in_ok-push w ↦
          let above : c.args.tolerance < get_or counts place 0 = omega (arith, w.if-counts-place.true, c.from.ensures) in
          rw w.flagged-is (w.in_ok-push.ensures.items
          ∙ ap (λ (front : List ℕ). front ++ place ∷ []) c.loop-place.invariant
          ∙ ap (λ (end : List ℕ). flagged_from c.args.tolerance 0 (take place counts) ++ end)
          (sym (flagged_one c.args.tolerance place (get_or counts place 0) above))
          ∙ sym more)
      | else-counts-place w ↦
          let below : get_or counts place 0 ≤ c.args.tolerance = omega (arith, w.if-counts-place.false, c.from.ensures) in
          rw w.flagged-is (c.loop-place.invariant
          ∙ sym (append-nil (flagged_from c.args.tolerance 0 (take place counts)))
          ∙ ap (λ (end : List ℕ). flagged_from c.args.tolerance 0 (take place counts) ++ end)
          (sym (flagged_none c.args.tolerance place (get_or counts place 0) below))
          ∙ sym more)
    ]
