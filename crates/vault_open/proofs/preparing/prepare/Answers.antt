use Rattle.vault_open.proofs.Words.{List, ℕ, refl, sym, subst, IfSome, A, on_err, journal_read, IsInitFault, InitFault}
use Rattle.vault_open.proofs.Answers.{err-from, unjudged, disk-unjudged, text-unjudged}
use Rattle.vault_open.proofs.Stores.{IsLookedAt}
use Rattle.vault_open.proofs.Prepared.{half-empty, half-resynced, text_fault, readied-empty, readied-read}
use Rattle.vault_open.proofs.preparing.prepare.Goals as goal

pub returns-in_err-make_empty-in-None-clause-left : goal.returns-in_err-make_empty-in-None-clause-left
returns-in_err-make_empty-in-None-clause-left g c = on_err c.from_residual-in_err-make_empty-in-None.result _
    (half-empty (g.D.Disk.holds c.args.disk.now) (g.D.Disk.holds c.read_disk.new.disk)
    (g.D.Disk.holds c.make_empty.new.disk) (c.in_ok-read_disk.ensures.disk.synced refl)
    (rw c.in-None.is at c.in_ok-read_disk.ensures.empty) c.in_err-make_empty-in-None.ensures.left)

pub returns-in_err-base-in-Some-clause-refused : goal.returns-in_err-base-in-Some-clause-refused
returns-in_err-base-in-Some-clause-refused g c = λ s.
    let told = g.D.Disk.holds c.args.disk.now in
    let looked : IsLookedAt told c.in-Some.bytes.items = rw c.in-Some.is at c.in_ok-read_disk.ensures.bytes in
    let looked_at = subst (λ (l : List ℕ). IsLookedAt told l) (sym c.deref.ensures.value) looked in
    err-from c.from_residual-in_err-base-in-Some.result _ _
    (λ why is. subst (λ (f : InitFault). IfSome told (λ cells. IsInitFault (journal_read cells) s f)) (sym is)
    (text_fault told c.deref.result.now c.in_err-base-in-Some.field-0.0 s looked_at
    c.in_err-base-in-Some.ensures.refused))
    c.from_residual-in_err-base-in-Some.ensures.1

pub returns-in_ok-make_empty-in-None-clause-ok : goal.returns-in_ok-make_empty-in-None-clause-ok
returns-in_ok-make_empty-in-None-clause-ok g c = (
  A,
  refl,
  readied-empty (g.D.Disk.holds c.args.disk.now) (g.D.Disk.holds c.read_disk.new.disk)
      (g.D.Disk.holds c.make_empty.new.disk) (c.in_ok-read_disk.ensures.disk.synced refl)
      c.in_ok-make_empty-in-None.ensures.ok (rw c.in-None.is at c.in_ok-read_disk.ensures.empty),
)

pub returns-in_ok-base-in-Some-clause-ok : goal.returns-in_ok-base-in-Some-clause-ok
returns-in_ok-base-in-Some-clause-ok g c =
    let told = g.D.Disk.holds c.args.disk.now in
    let looked : IsLookedAt told c.in-Some.bytes.items = rw c.in-Some.is at c.in_ok-read_disk.ensures.bytes in
    let looked_at = subst (λ (l : List ℕ). IsLookedAt told l) (sym c.deref.ensures.value) looked in
    let none = c.in_ok-base-in-Some.ensures.ok in (
      none.0,
      none.1,
      readied-read told (g.D.Disk.holds c.read_disk.new.disk) c.deref.result.now none.0
          (c.in_ok-read_disk.ensures.disk.synced refl) looked_at none.2,
    )

pub returns-in_err-read_disk-clause-left : goal.returns-in_err-read_disk-clause-left
returns-in_err-read_disk-clause-left g c =
    on_err c.from_residual.result _ (half-resynced (g.D.Disk.holds c.args.disk.now)
    (g.D.Disk.holds c.read_disk.new.disk) c.read_disk.ensures.disk.resynced)

pub returns-in_err-base-in-Some-clause-left : goal.returns-in_err-base-in-Some-clause-left
returns-in_err-base-in-Some-clause-left g c =
    on_err c.from_residual-in_err-base-in-Some.result _ (half-resynced (g.D.Disk.holds c.args.disk.now)
    (g.D.Disk.holds c.read_disk.new.disk) c.read_disk.ensures.disk.resynced)

pub returns-in_err-read_disk-clause-unjudged : goal.returns-in_err-read_disk-clause-unjudged
returns-in_err-read_disk-clause-unjudged g c =
    unjudged c.from_residual.result _ c.from_residual.ensures.1 (disk-unjudged c.in_err-read_disk.field-0.0)

pub returns-in_err-make_empty-in-None-clause-unjudged : goal.returns-in_err-make_empty-in-None-clause-unjudged
returns-in_err-make_empty-in-None-clause-unjudged g c =
    unjudged c.from_residual-in_err-make_empty-in-None.result _
    c.from_residual-in_err-make_empty-in-None.ensures.1 (disk-unjudged c.in_err-make_empty-in-None.field-0.0)

pub returns-in_err-base-in-Some-clause-unjudged : goal.returns-in_err-base-in-Some-clause-unjudged
returns-in_err-base-in-Some-clause-unjudged g c =
    unjudged c.from_residual-in_err-base-in-Some.result _ c.from_residual-in_err-base-in-Some.ensures.1
    (text-unjudged c.deref.result.now c.in_err-base-in-Some.field-0.0 c.in_err-base-in-Some.ensures.refused)
