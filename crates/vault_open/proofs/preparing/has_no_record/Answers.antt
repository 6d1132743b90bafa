use Rattle.vault_open.proofs.Words.{◌∷◌, sym, subst, arith, err_from_is_err_and, entry_of, InitFault, IsTextFault}
use Rattle.vault_open.proofs.Answers.{err-from}
use Rattle.vault_open.proofs.FirstRecord.{stops-bad, none-stands, text-refused}
use Rattle.vault_open.proofs.preparing.has_no_record.Goals as goal

pub returns-in_err-entry-clause-refused : goal.returns-in_err-entry-clause-refused
returns-in_err-entry-clause-refused c =
    let i = c.loop-entry.invariant in
    let p = err_from_is_err_and c.from_residual-in_err-entry.result c.from_residual-in_err-entry.ensures.1 in
    rw (p.1, p.2) (stops-bad c.args.bytes.now i.0 i.1 _ i.3 (c.in_err-entry.ensures.bad i.0 i.1 i.4))

pub loop-entry-smaller : goal.loop-entry-smaller
loop-entry-smaller c =
    let i = c.loop-entry.invariant in
    let more = rw c.in-Some.is at (c.in_ok-entry.ensures.taken i.0 i.1 i.4) in
    omega (arith, more.0, more.1)

pub loop-entry-preserved : goal.loop-entry-preserved
loop-entry-preserved c =
    let i = c.loop-entry.invariant in
    let more = rw c.in-Some.is at (c.in_ok-entry.ensures.taken i.0 i.1 i.4) in
    (i.0, entry_of c.in-Some.entry ∷ i.1, i.2, i.3, more.3, c.answer_with-answer.ensures i.1 i.5)

pub returns-in_err-answer-clause-refused : goal.returns-in_err-answer-clause-refused
returns-in_err-answer-clause-refused c =
    let i = c.loop-entry.invariant in
    let ended = rw c.in_default.is at (c.in_ok-entry.ensures.taken i.0 i.1 i.4) in
    let refused = rw c.in_err-answer.was at (text-refused c.args.bytes.now i.0 i.1
    (record { active = i.3; holds = ended.1 }) c.in_ok-base.base i.2 c.loop-entry.answer i.5) in
    err-from c.from_residual-in_err-answer.result _ _
    (λ why is. subst (λ (f : InitFault). IsTextFault c.args.bytes.now f) (sym is) refused)
    c.from_residual-in_err-answer.ensures.1

pub returns-clause-ok : goal.returns-clause-ok
returns-clause-ok c =
    let i = c.loop-entry.invariant in
    let ended = rw c.in_default.is at (c.in_ok-entry.ensures.taken i.0 i.1 i.4) in
    let none = rw c.in_ok-answer.was at (none-stands c.args.bytes.now i.0 i.1
    (record { active = i.3; holds = ended.1 }) c.in_ok-base.base i.2 c.loop-entry.answer i.5) in
    (i.0, i.2, none)
