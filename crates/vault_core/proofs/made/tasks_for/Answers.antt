use Rattle.vault_core.proofs.Words.{◌∙◌, ap, arith, take_all, with_master, turns_for, tasks_made}
use Rattle.vault_core.proofs.Pins.{tasks_more}
use Rattle.vault_core.proofs.made.tasks_for.Goals as goal

pub loop-file-preserved : goal.loop-file-preserved
loop-file-preserved c = λ key. tasks_more (turns_for (with_master c.args.setup.now key) c.args.wish.now)
    c.args.files.now c.loop-file.file-index (record { id = 0; length = 0; profile = 0 }) (omega arith)
    (c.loop-file.invariant key) (c.in_ok-add_task.ensures key)

pub returns : goal.returns
returns c = λ key. c.loop-file.invariant key
    ∙ ap (tasks_made (turns_for (with_master c.args.setup.now key) c.args.wish.now))
    (take_all c.loop-file.file-index c.args.files.now (omega arith))
