use Rattle.journal_pack.proofs.Words.{arith, IsInGrammar, newest_first, All-push, err_from_is_err_and}
use Rattle.journal_core.proofs.JournalLemmas.{newest_push}
use Rattle.journal_pack.proofs.Reading.{stops-bad, end-is}
use Rattle.journal_pack.proofs.active.read_active.Goals as goal

pub returns-in_err-entry-clause-fault : goal.returns-in_err-entry-clause-fault
returns-in_err-entry-clause-fault c =
    let i = c.loop-records.invariant in
    let p = err_from_is_err_and c.from_residual-in_err-entry.result c.from_residual-in_err-entry.ensures.1 in
    rw (p.1, p.2) (stops-bad c.args.bytes.now i.0 (newest_first c.loop-records.records.items) _ i.1
    (c.in_err-entry.ensures.bad i.0 (newest_first c.loop-records.records.items) i.3))

pub loop-records-smaller : goal.loop-records-smaller
loop-records-smaller c =
    let i = c.loop-records.invariant in
    let more = rw c.in-Some.is at
    (c.in_ok-entry.ensures.taken i.0 (newest_first c.loop-records.records.items) i.3) in
    omega (arith, more.0, more.1)

pub loop-records-preserved : goal.loop-records-preserved
loop-records-preserved c =
    let i = c.loop-records.invariant in
    let items = c.loop-records.records.items in
    let entry = c.in-Some.entry in
    let more = rw c.in-Some.is at (c.in_ok-entry.ensures.taken i.0 (newest_first items) i.3) in (
      i.0,
      i.1,
      i.2,
      rw (c.in_ok-push.ensures.items, newest_push items entry) more.3,
      rw c.in_ok-push.ensures.items (All-push IsInGrammar items entry i.4 more.2),
    )

pub prove-unreachable-requires : goal.prove-unreachable-requires
prove-unreachable-requires c =
    let i = c.loop-records.invariant in
    let ended = rw c.in_default.is at
    (c.in_ok-entry.ensures.taken i.0 (newest_first c.loop-records.records.items) i.3) in
    omega (arith, ended.0, c.if-prove.true)

pub returns-clause-active : goal.returns-clause-active
returns-clause-active c =
    let i = c.loop-records.invariant in
    let rs = newest_first c.loop-records.records.items in
    let ended = rw c.in_default.is at (c.in_ok-entry.ensures.taken i.0 rs i.3) in
    record {
      area = i.0;
      stands = record { active = i.1; holds = ended.1 };
      base = i.2;
      end = end-is c.args.bytes.now i.0 rs c.loop-records.gate i.3;
    }
