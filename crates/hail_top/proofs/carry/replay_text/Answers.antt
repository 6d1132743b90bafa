use Rattle.std.proofs.Common.{refl, arith}
use Rattle.schedule_text.specs.Events.{commands_of}
use Rattle.hail_replay.specs.Answers as answers
use Rattle.hail_top.proofs.Carried.{undone, carried-place, carried-status, carried-heard}
use Rattle.hail_top.proofs.carry.replay_text.Goals as goal

pub returns-then-text-gt-LONGEST-clause-answers : goal.returns-then-text-gt-LONGEST-clause-answers
returns-then-text-gt-LONGEST-clause-answers g c = λ left rest faults later R.
    answers.too_long c.args.text.now R (let a = c.if-text-gt-LONGEST.true in omega (arith, a))
    (undone 16 0 _ _ _ c.of.ensures refl refl refl refl)

pub returns-in-Ok-clause-answers : goal.returns-in-Ok-clause-answers
returns-in-Ok-clause-answers g c = λ left rest faults later R.
    answers.done c.args.text.now R (let a = c.if-text-gt-LONGEST.false in omega (arith, a)) (record {
      commands = commands_of c.in-Ok.events.items;
      schedule = c.in-Ok.ensures.ok;
      ends = carried-status c.replayed.ensures c.replay.ensures.ends;
      place = carried-place c.replayed.ensures;
      runs = λ start before told L. carried-heard c.replayed.ensures
          (c.replay.ensures.runs start before told L);
    })

pub returns-in-Err-BadLine-clause-answers : goal.returns-in-Err-BadLine-clause-answers
returns-in-Err-BadLine-clause-answers g c = λ left rest faults later R. answers.bad_line c.args.text.now
    c.in-Err-BadLine.number R (let a = c.if-text-gt-LONGEST.false in omega (arith, a))
    (rw c.in-Err-BadLine.field-0-is at c.in-Err-BadLine.ensures.bad) (undone 19 c.in-Err-BadLine.number _ _ _
    (rw c.in-Err-BadLine.field-0-is at c.at.ensures) refl refl refl refl)
