use Rattle.vault.proofs.Words.{ap, sym, ◌∙◌, ◌∷◌, ◌≡◌, Some, None, GetJob, find_file, file_of_entry, err-is}
use Rattle.vault_core.specs.declared.wish.BeginFault.TheVariants as fault
use Rattle.vault.proofs.Begun.{causes_of_name, aims-counted, turned_down}
use Rattle.vault.proofs.Puts.{name_cause}
use Rattle.vault.proofs.GetBegins.{found-in, no-such-name, get-begun}
use Rattle.vault.proofs.desk.Desk.begin_get.Goals as goal

pub returns-in_err-name-clause-machine : goal.returns-in_err-name-clause-machine
returns-in_err-name-clause-machine c = λ w d moment stands.
    let v = c.args.self.now in
    let kind = GetJob c.args.name.now in
    let why = c.in_err-name.field-0.0 in
    (rw (← (err-is c.from_residual.result why c.from_residual.ensures.1)) at
    (turned_down v v d w moment kind None stands why
    (aims-counted w (name_cause c.args.name.now ∷ causes_of_name w kind c.args.name.now)
    ∙ c.in_err-name.ensures.refused w (causes_of_name w kind c.args.name.now) stands.core)))

pub returns-in_default-clause-machine : goal.returns-in_default-clause-machine
returns-in_default-clause-machine c = λ w d moment stands.
    let v = c.args.self.now in
    let name = c.args.name.now in
    let kind = GetJob name in
    turned_down v v d w moment kind None stands fault.NoSuchName
    (aims-counted w (name_cause name ∷ causes_of_name w kind name)
    ∙ (c.in_ok-name.ensures.free w (name_cause name ∷ causes_of_name w kind name) stands.core
    ∙ no-such-name w name c.in_ok-name.ensures.is_name (sym (found-in v d w name stands) ∙
    (sym (c.in_default.ensures ∙ ap (find_file v.core.table.files) c.in_ok-name.ensures.named)))))

pub returns-in-Ok-clause-machine : goal.returns-in-Ok-clause-machine
returns-in-Ok-clause-machine c =
    let v = c.args.self.now in
    let name = c.args.name.now in
    let file = file_of_entry c.in-Some.file in
    let some : find_file v.core.table.files name ≡ Some file =
    sym (c.in-Some.ensures ∙ ap (find_file v.core.table.files) c.in_ok-name.ensures.named) in
    λ w d moment stands.
    get-begun v c.admit.new.self name c.in_ok-name.name file c.in_ok-bench.bench c.in-Ok.task c.admit.result
    c.min-length.result c.next_job.result c.in_ok-name.ensures.named c.in_ok-name.ensures.bytes some c.min-length.ensures
    c.in_ok-bench.ensures.ok c.next_job.ensures c.in-Ok.ensures c.admit.ensures.machine w d moment stands
