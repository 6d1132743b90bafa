use Rattle.vault_core.proofs.Words.{◌≡◌, take, ℕ, List, with_master, turns_for, tasks_made}
use Rattle.vault_core.proofs.made.tasks_for.Given as goal

abbrev pub invariant-loop-file : goal.invariant-loop-file
invariant-loop-file l = (key : List ℕ) → l.tasks.items
    ≡ tasks_made (turns_for (with_master l.setup key) l.wish) (take l.file-index l.files)
