use Rattle.hail_replay.proofs.Words.{List, ◌++◌, ap, subst, ◌∙◌, Outcome, Entry, event_command, SeesOne, entries_heard}
use Rattle.hail_replay.proofs.Course.{counted-on, run-on, on-ok, on-err}
use Rattle.hail_replay.proofs.counted.trial_event.Goals as goal

pub returns-clause-ok : goal.returns-clause-ok
returns-clause-ok g c = on-ok c.see-seen.result c.see-seen.ensures.run (λ sees start base done told H.
    counted-on start base c.args.expected.now c.tolerance_of-tolerance.result (event_command c.args.event)
    c.perform-came.result done _ _ _ _ _ _ _ _ H
    (λ run ms R. c.perform-came.ensures.performed.machine run ms told R)
    (subst (λ (o : Outcome). SeesOne c.args.expected.now c.tolerance_of-tolerance.result o c.args.tally.now c.see-seen.new.self)
    c.named-came.ensures.outcome sees) c.tolerance_of-tolerance.ensures
    (c.push.ensures ∙ ap (λ (x : List Entry). entries_heard c.args.heard.now ++ x)
    (c.heard_of.ensures ∙ c.named-came.ensures.heard)))

pub returns-clause-err : goal.returns-clause-err
returns-clause-err g c = on-err c.see-seen.result (λ start base done told H.
    run-on start base (event_command c.args.event) c.perform-came.result done _ _ _ _ _ _ H
    (λ run ms R. c.perform-came.ensures.performed.machine run ms told R)
    (c.push.ensures ∙ ap (λ (x : List Entry). entries_heard c.args.heard.now ++ x)
    (c.heard_of.ensures ∙ c.named-came.ensures.heard)))
