use Rattle.hail_replay.proofs.Words.{ap, ◌++◌, List, ◌∙◌, Entry, lines_of, event_command, entries_heard}
use Rattle.hail_replay.proofs.Course.{done-on}
use Rattle.hail_replay.proofs.Wrote.{ends-of}
use Rattle.hail_replay.proofs.schedule.replay_event.Goals as goal

pub returns-clause-goes_on : goal.returns-clause-goes_on
returns-clause-goes_on g c = λ start base done first before told low H. done-on start base
    (event_command c.args.event) c.perform-came.result done first _ _ before _ _ c.tell-status.result _ _ _ _
    _ _ _ low c.tell-status.ensures.count H (λ run ms R. c.perform-came.ensures.performed.machine run ms told
    R) (ap lines_of c.named-came.ensures.outcome) (c.tell-status.ensures.writes _ c.came_lines.ensures)
    (c.push.ensures ∙ ap (λ (x : List Entry). entries_heard c.args.heard.now ++ x)
    (c.heard_of.ensures ∙ c.named-came.ensures.heard))

pub returns-clause-kept : goal.returns-clause-kept
returns-clause-kept g c = c.perform-came.ensures.performed.kept

pub returns-clause-ends : goal.returns-clause-ends
returns-clause-ends g c = ends-of _ _ _ (c.tell-status.ensures.writes _ c.came_lines.ensures)
