use Rattle.vault_core.proofs.Words.{◌≡◌, ◌∙◌, ◌+◌, ap, sum_by, size_of_turn, most_at}
use Rattle.std.proofs.Common.{◌*◌}
use Rattle.vault_core.proofs.made.most_actions.Goals as goal
use Rattle.vault_core.proofs.made.most_actions.Goals.{After-add_other}

-- the sum that is made is of all actions
sum_is : (c : After-add_other) → c.in-Some.on_files + c.other_size.result
    ≡ most_at c.args.providers c.args.wish.now c.args.flagged.now c.args.tasks.now
sum_is c = ap (λ k. k + c.other_size.result) (c.in-Some.ensures.count
    ∙ ap (λ k. sum_by (λ t. t.turns * k) c.args.tasks.now) c.turn_size-size.ensures.size)
    ∙ ap (λ k. sum_by
    (λ t. t.turns * size_of_turn c.args.providers c.args.wish.now c.args.flagged.now)
    c.args.tasks.now + k) c.other_size.ensures

pub returns-in-Some-clause-most : goal.returns-in-Some-clause-most
returns-in-Some-clause-most c = rw (sum_is c) at c.add_other.ensures.sum

pub returns-in-Some-clause-none : goal.returns-in-Some-clause-none
returns-in-Some-clause-none c = rw (sum_is c) at c.add_other.ensures.none
