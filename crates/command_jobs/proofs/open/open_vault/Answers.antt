use Rattle.command_jobs.proofs.Words.{◌<◌, ◌≤◌, ap, arith, setup_in_effect, IsUnopened, unopened_of}
use Rattle.record_codec.specs.declared.setup.Setup.{Setup}
use Rattle.vault_open.proofs.Answers.{err-is, ok-no-err}
use Rattle.vault_open.proofs.Stores.{reads-as}
use Rattle.command_jobs.proofs.Readings.{fault-seen, unopened-reads, reads-resynced, told-by}
use Rattle.command_jobs.proofs.Fresh.{fresh-vault}
use Rattle.command_jobs.proofs.open.open_vault.Goals as goal

pub returns-in_err-vault-clause-refused : goal.returns-in_err-vault-clause-refused
returns-in_err-vault-clause-refused g c = told-by c.from_residual.result
    (unopened_of c.in_err-vault.field-0.0) (IsUnopened (g.D.Disk.holds c.args.disk.now) c.args.handed)
    c.from_residual.ensures.1 (fault-seen (g.D.Disk.holds c.args.disk.now) c.args.handed
    c.in_err-vault.field-0.0 c.in_err-vault.ensures.start.refused)

pub returns-in_err-vault-clause-reads : goal.returns-in_err-vault-clause-reads
returns-in_err-vault-clause-reads g c = reads-resynced _ _ c.start.ensures.start.disk.resynced

pub returns-in_err-vault-clause-disk : goal.returns-in_err-vault-clause-disk
returns-in_err-vault-clause-disk g c = rw (err-is c.from_residual.result _ c.from_residual.ensures.1)
    (unopened-reads c.in_err-vault.field-0.0 c.in_err-vault.ensures.start)

pub returns-then-handed-from-clause-refused : goal.returns-then-handed-from-clause-refused
returns-then-handed-from-clause-refused g c =
    let o = c.in_ok-vault.ensures.opened in
    let f = fresh-vault c.opened_states.ensures o in
    let few : c.args.handed < (setup_in_effect o.records).n =
    (let e = f.providers in let l = c.if-handed-from.true in let m = c.from.ensures in
    let n = ap (λ (s : Setup). s.n) c.setup.ensures in omega (arith, e, l, m, n)) in
    (o.area, o.records, o.is_read, few)

pub returns-then-handed-from-clause-reads : goal.returns-then-handed-from-clause-reads
returns-then-handed-from-clause-reads g c = reads-resynced _ _ c.start.ensures.start.disk.resynced

pub returns-then-handed-from-clause-disk : goal.returns-then-handed-from-clause-disk
returns-then-handed-from-clause-disk g c =
    reads-as (λ j. tt) (λ e. absurd (ok-no-err _ _ e)) (λ e. absurd cc) c.in_ok-vault.ensures.start.disk

pub returns-clause-opened : goal.returns-clause-opened
returns-clause-opened g c =
    let o = c.in_ok-vault.ensures.opened in
    let f = fresh-vault c.opened_states.ensures o in
    let enough : (setup_in_effect o.records).n ≤ c.args.handed =
    (let e = f.providers in let l = c.if-handed-from.false in let m = c.from.ensures in
    let n = ap (λ (s : Setup). s.n) c.setup.ensures in omega (arith, e, l, m, n)) in
    (o.area, o.records, record { read = o.is_read; enough = enough }, f)

pub returns-clause-ready : goal.returns-clause-ready
returns-clause-ready g c =
    let o = returns-clause-opened g c in record { area = o.0; records = o.1; fresh = o.3; enough = o.2.enough }

pub returns-clause-reads : goal.returns-clause-reads
returns-clause-reads g c = reads-resynced _ _ c.start.ensures.start.disk.resynced

pub returns-clause-disk : goal.returns-clause-disk
returns-clause-disk g c = reads-as (λ j. tt) (λ e. absurd (ok-no-err _ _ e)) (λ e. absurd (ok-no-err _ _ e))
    c.in_ok-vault.ensures.start.disk
