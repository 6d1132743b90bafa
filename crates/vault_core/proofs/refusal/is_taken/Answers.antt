use Rattle.vault_core.proofs.Words.{◌∙◌, ap, sym, is_some, find_file, aim_of_wish, aims_kept, puts_name}
use Rattle.std.proofs.Common.{◌||◌}
use Rattle.vault_core.proofs.Places.{any-map}
use Rattle.vault_core.proofs.Refusals.{taken-by, found-some}
use Rattle.vault_core.proofs.refusal.is_taken.Goals as goal

pub returns-then-some_puts : goal.returns-then-some_puts
returns-then-some_puts c =
    c.if-some_puts.true ∙ sym (taken-by c.args.table.now.files (aims_kept c.args.jobs.now) c.args.name.now
    ∙ ap (λ b. b || is_some (find_file c.args.table.now.files c.args.name.now))
    (sym (sym c.if-some_puts.true
    ∙ (c.some_puts.ensures
    ∙ any-map (λ j. aim_of_wish j.wish) (puts_name c.args.name.now) c.args.jobs.now))))

pub returns-else-some_puts : goal.returns-else-some_puts
returns-else-some_puts c = c.is_some.ensures ∙ (found-some _ c.find.result c.find.ensures
    ∙ sym (taken-by c.args.table.now.files (aims_kept c.args.jobs.now) c.args.name.now
    ∙ ap (λ b. b || is_some (find_file c.args.table.now.files c.args.name.now))
    (sym (sym c.if-some_puts.false
    ∙ (c.some_puts.ensures
    ∙ any-map (λ j. aim_of_wish j.wish) (puts_name c.args.name.now) c.args.jobs.now)))))
