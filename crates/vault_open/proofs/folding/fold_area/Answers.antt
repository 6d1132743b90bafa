use Rattle.vault_open.proofs.Words.{◌∷◌, [], arith, err_from_is_err_and, entry_of}
use Rattle.vault_open.proofs.ActiveFolds.{closed-in, stopped-in, taken-in, refusal-in}
use Rattle.vault_open.proofs.folding.fold_area.Goals as goal

pub loop-table-init : goal.loop-table-init
loop-table-init c =
    let first = c.requires.first in
    let g = first.2.gate_is in (
      first.0,
      [],
      omega (arith, g),
      record { active = first.1; read = first.2; accepted = tt; folds = c.in_ok-table.ensures.fold },
    )

pub loop-table-smaller : goal.loop-table-smaller
loop-table-smaller c =
    let i = c.loop-table.invariant in
    let more = rw c.in-Some.is at (c.in_ok-entry.ensures.taken i.0 i.1 i.3.read) in
    omega (arith, more.0, more.1)

pub loop-table-preserved : goal.loop-table-preserved
loop-table-preserved c =
    let i = c.loop-table.invariant in
    let more = rw c.in-Some.is at (c.in_ok-entry.ensures.taken i.0 i.1 i.3.read) in (
      i.0,
      entry_of c.in-Some.entry ∷ i.1,
      i.2,
      taken-in c.args.bytes.now i.0 i.1 c.loop-table.table c.loop-table.gate i.3
          (entry_of c.in-Some.entry) c.in-Some.next more.3 c.apply.new.self
          (c.in_default-apply.ensures.accepted i.1 i.3.folds) (c.in_default-apply.ensures.ok i.1 i.3.folds),
    )

pub returns-in_err-entry-clause-refused : goal.returns-in_err-entry-clause-refused
returns-in_err-entry-clause-refused c =
    let i = c.loop-table.invariant in
    let p = err_from_is_err_and c.from_residual-in_err-entry.result c.from_residual-in_err-entry.ensures.1 in
    rw (p.1, p.2) (stopped-in c.args.bytes.now i.0 i.1 c.loop-table.table c.loop-table.gate i.3 _
    (c.in_err-entry.ensures.bad i.0 i.1 i.3.read))

pub returns-in-Err-clause-refused : goal.returns-in-Err-clause-refused
returns-in-Err-clause-refused c =
    let i = c.loop-table.invariant in
    let more = rw c.in-Some.is at (c.in_ok-entry.ensures.taken i.0 i.1 i.3.read) in
    rw c.answer_to.ensures
    (refusal-in c.args.bytes.now i.0 i.1 c.loop-table.table c.loop-table.gate i.3
    (entry_of c.in-Some.entry) c.in-Some.next more.3 c.in-Err.why
    (c.in-Err.ensures.refused i.1 i.3.folds))

pub returns-clause-ok : goal.returns-clause-ok
returns-clause-ok c =
    let i = c.loop-table.invariant in
    let ended = rw c.in_default.is at (c.in_ok-entry.ensures.taken i.0 i.1 i.3.read) in (
      i.0,
      i.1,
      closed-in c.args.bytes.now i.0 i.1 c.loop-table.table c.loop-table.gate i.3 c.args.base i.2
          c.requires.short ended.0 ended.1,
    )

pub apply-requires : goal.apply-requires
apply-requires c =
    let i = c.loop-table.invariant in
    let more = rw c.in-Some.is at (c.in_ok-entry.ensures.taken i.0 i.1 i.3.read) in
    more.2.padded

pub overflow_add-gate : goal.overflow_add-gate
overflow_add-gate c =
    let i = c.loop-table.invariant in
    let more = rw c.in-Some.is at (c.in_ok-entry.ensures.taken i.0 i.1 i.3.read) in
    record { fits = omega (arith, more.0, more.1, c.requires.short) }

pub overflow_add-result : goal.overflow_add-result
overflow_add-result c =
    let i = c.loop-table.invariant in
    let ended = rw c.in_default.is at (c.in_ok-entry.ensures.taken i.0 i.1 i.3.read) in
    record { fits = omega (arith, ended.0, c.requires.short) }
