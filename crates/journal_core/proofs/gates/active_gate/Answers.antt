use Rattle.record_defs.specs.Areas.{A, B}
use Rattle.journal_core.proofs.AreaGates.{switched, second-named, first-named, none-read}
use Rattle.journal_core.proofs.gates.active_gate.Goals as goal

pub returns-then-bytes-eq-SECOND-clause-ok : goal.returns-then-bytes-eq-SECOND-clause-ok
returns-then-bytes-eq-SECOND-clause-ok c =
    let bytes = c.args.bytes.now in
    let front = c.has_front.ensures.0 c.if-not-has_front.false in
    (B, switched bytes B front.0 front.1 (second-named _ c.if-bytes-eq-SECOND.true), none-read bytes B)

pub returns-else-bytes-eq-SECOND-clause-ok : goal.returns-else-bytes-eq-SECOND-clause-ok
returns-else-bytes-eq-SECOND-clause-ok c =
    let bytes = c.args.bytes.now in
    let front = c.has_front.ensures.0 c.if-not-has_front.false in
    (A, switched bytes A front.0 front.1 (first-named _ c.if-bytes-eq-SECOND.false), none-read bytes A)
