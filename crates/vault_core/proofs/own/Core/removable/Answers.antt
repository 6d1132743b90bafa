use Rattle.vault_core.proofs.Words.{◌∙◌, ap, sym, [], ◌∷◌, option_map, if◌then◌else◌, file_of_entry, removable_in}
use Rattle.vault_core.proofs.own.Core.removable.Goals as goal

pub returns-then-is_pinned : goal.returns-then-is_pinned
returns-then-is_pinned c =
    ap (λ b. if b then [] else c.in-Some.file.id ∷ []) (sym (sym c.is_pinned.ensures ∙ c.if-is_pinned.true))
    ∙ ap (λ o. removable_in c.args.self.now.jobs (option_map file_of_entry o))
    (sym c.in-Some.is)
