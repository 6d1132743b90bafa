use Rattle.vault_core.proofs.Words.{◌∙◌, ap, sym, refl, arith, le-leb, is_name_among, aims_kept, taken_names}
use Rattle.std.proofs.Common.{◌&&◌, not}
use Rattle.vault_core.proofs.Refusals.{crowded, names-along, few_false}
use Rattle.vault_core.proofs.own.Core.is_crowded.Goals as goal

pub returns-then-saturating_add-ge-MOST_FILES : goal.returns-then-saturating_add-ge-MOST_FILES
returns-then-saturating_add-ge-MOST_FILES c =
    sym (ap (λ b. b && not c.is_taken.result) (le-leb 1024 c.saturating_add.result (omega arith))) ∙ crowded
    c.self.inside c.args.self.now c.args.name.now c.is_taken.result c.saturating_add.result c.self.view_is
    (c.is_taken.ensures ∙ ap (λ js. is_name_among (taken_names c.self.inside.table.files (aims_kept js))
    c.args.name.now) c.deref-then-saturating_add-ge-MOST_FILES.ensures.value) (names-along c.self.inside
    c.names_beside-beside.result c.saturating_add.ensures c.count.ensures c.names_beside-beside.ensures.value
    c.deref.ensures.value)

pub returns-else-saturating_add-ge-MOST_FILES : goal.returns-else-saturating_add-ge-MOST_FILES
returns-else-saturating_add-ge-MOST_FILES c = few_false c.saturating_add.result
    (is_name_among (taken_names c.self.inside.table.files (aims_kept c.self.inside.jobs.items))
    c.args.name.now) (omega arith) ∙ crowded c.self.inside c.args.self.now c.args.name.now _
    c.saturating_add.result c.self.view_is refl (names-along c.self.inside c.names_beside-beside.result
    c.saturating_add.ensures c.count.ensures c.names_beside-beside.ensures.value c.deref.ensures.value)
