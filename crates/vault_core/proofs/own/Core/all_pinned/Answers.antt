use Rattle.vault_core.proofs.Words.{◌∙◌, refl, AuditJob, view_of}
use Rattle.std.proofs.lemmas.Result.{IfOk-weaker}
use Rattle.vault_core.specs.declared.wish.Wish.TheVariants as wish
use Rattle.vault_core.proofs.Alike.{table-like}
use Rattle.vault_core.proofs.Joins.{pins-are}
use Rattle.vault_core.proofs.own.Core.all_pinned.Goals as goal

pub returns : goal.returns
returns c = λ w is.
    let here =
    rw (← c.before.self.view_is) at is in
    IfOk-weaker c.pin_all.result _ _
    (λ pinned e. e ∙ pins-are c.before.self.inside.table w wish.Audit AuditJob
    (table-like (view_of c.before.self.inside) w here) here.sound.files refl)
    c.pin_all.ensures
