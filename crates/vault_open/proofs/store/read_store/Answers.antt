use Rattle.vault_open.proofs.Words.{List, ℕ, sym, subst, refl, IfSome, journal_read, IsStartFault, StartFault}
use Rattle.std.proofs.Common.{rules}
use Rattle.vault_open.proofs.Answers.{err-from}
use Rattle.vault_open.proofs.Stores.{IsLookedAt, short_fault, fold_fault, none_fault, read, stored}
use Rattle.vault_open.proofs.store.read_store.Goals as goal

pub returns-in_default-clause-start : goal.returns-in_default-clause-start
returns-in_default-clause-start g c = record {
  refused = short_fault (g.D.Disk.holds c.args.disk.now) (rw c.in_default.is at c.in_ok-bytes.ensures.empty);
  disk = search rules;
}

pub returns-in_err-table-clause-start : goal.returns-in_err-table-clause-start
returns-in_err-table-clause-start g c =
    let told = g.D.Disk.holds c.args.disk.now in
    let looked : IsLookedAt told c.in-Some.bytes.items = rw c.in-Some.is at c.in_ok-bytes.ensures.bytes in
    let looked_at = subst (λ (l : List ℕ). IsLookedAt told l) (sym c.deref.ensures.value) looked in
    record {
      refused = err-from c.from_residual-in_err-table.result _ _ (λ why is. subst
          (λ (f : StartFault). IfSome told (λ cells. IsStartFault (journal_read cells) f)) (sym is)
          (fold_fault told c.deref.result.now c.in_err-table.field-0.0 looked_at
          c.in_err-table.ensures.refused)) c.from_residual-in_err-table.ensures.1;
      disk = search rules;
    }

pub returns-in_default-setup-clause-start : goal.returns-in_default-setup-clause-start
returns-in_default-setup-clause-start g c =
    let told = g.D.Disk.holds c.args.disk.now in
    let looked : IsLookedAt told c.in-Some.bytes.items = rw c.in-Some.is at c.in_ok-bytes.ensures.bytes in
    let looked_at = subst (λ (l : List ℕ). IsLookedAt told l) (sym c.deref.ensures.value) looked in
    let folded = c.in_ok-table.ensures.ok in
    record {
      refused = none_fault c.deref.result.now folded.0 folded.1 c.in_ok-table.table c.in_ok-table.base
          c.in_ok-table.end folded.2 told looked_at (sym c.in_default-setup.ensures);
      disk = search rules;
    }

pub returns-clause-read : goal.returns-clause-read
returns-clause-read g c =
    let told = g.D.Disk.holds c.args.disk.now in
    let looked : IsLookedAt told c.in-Some.bytes.items = rw c.in-Some.is at c.in_ok-bytes.ensures.bytes in
    let looked_at = subst (λ (l : List ℕ). IsLookedAt told l) (sym c.deref.ensures.value) looked in
    let folded = c.in_ok-table.ensures.ok in
    let found = sym c.in-Some-setup.ensures in (
      folded.0,
      folded.1,
      read c.deref.result.now folded.0 folded.1 c.in_ok-table.table c.in_ok-table.base c.in_ok-table.end
          folded.2 _ found told looked_at,
      stored c.deref.result.now folded.0 folded.1 c.in_ok-table.table c.in_ok-table.base c.in_ok-table.end
          folded.2 _ told _ refl refl refl found (c.in_ok-bytes.ensures.disk.synced refl) looked_at,
    )
