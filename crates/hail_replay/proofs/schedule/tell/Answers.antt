use Rattle.hail_replay.proofs.Words.{inr, refl, subst, ◌∙◌, List, ℕ, WritesLine, sinking_of}
use Rattle.hail_replay.proofs.Wrote.{nothing-taken, ok-is}
use Rattle.hail_replay.proofs.schedule.tell.Goals as goal

pub returns-in-Ok-clause-writes : goal.returns-in-Ok-clause-writes
returns-in-Ok-clause-writes g c = λ lines is. subst (λ (text : List ℕ). WritesLine text c.write_text.result
    (sinking_of g.K.Sink c.args.sink.now c.write_text.new.sink)) (c.as_slice.ensures ∙
    ok-is c.args.text c.in-Ok.text lines c.in-Ok.is is) c.write_text.ensures.writes

pub returns-in-Err-clause-writes : goal.returns-in-Err-clause-writes
returns-in-Err-clause-writes g c =
    λ lines is. inr (inr (refl, nothing-taken (g.K.Sink.written c.args.sink.now) lines))
