use Rattle.journal_core.proofs.Words.{◌+◌, arith, length-drop, take_rest, entry_of}
use Rattle.journal_core.proofs.AreaGates.{ends-in, holds-in, breaks-in, more-in}
use Rattle.journal_core.proofs.gates.next_record.Goals as goal

pub returns-then-gate-bytes-clause-bad : goal.returns-then-gate-bytes-clause-bad
returns-then-gate-bytes-clause-bad c =
    λ area rs is. ends-in c.args.bytes.now area rs c.args.gate is c.if-gate-bytes.true

pub returns-then-bytes-gate-ne1-clause-taken : goal.returns-then-bytes-gate-ne1-clause-taken
returns-then-bytes-gate-ne1-clause-taken c = λ area rs is. (
  c.if-gate-bytes.false,
  holds-in c.args.bytes.now area rs c.args.gate is c.if-gate-bytes.false c.if-bytes-gate-ne1.true,
)

pub returns-in-Some-clause-taken : goal.returns-in-Some-clause-taken
returns-in-Some-clause-taken c = λ area rs is.
    let size_le = rw (take_rest c.args.bytes.now (c.args.gate + 1)) at c.in-Some.ensures.size in
    let found = rw (take_rest c.args.bytes.now (c.args.gate + 1)) at c.in-Some.ensures.found in
    let inside = c.if-gate-bytes.false in (
      omega arith,
      omega (arith, size_le, length-drop (c.args.gate + 1) c.args.bytes.now, inside),
      c.in-Some.ensures.in_grammar,
      more-in c.args.bytes.now area rs c.args.gate is c.if-gate-bytes.false
          (entry_of c.in-Some.entry) c.in-Some.size c.if-bytes-gate-ne1.false size_le found,
    )

pub returns-in-None-clause-bad : goal.returns-in-None-clause-bad
returns-in-None-clause-bad c = λ area rs is.
    let none = rw (take_rest c.args.bytes.now (c.args.gate + 1)) at c.in-None.ensures.none in
    breaks-in c.args.bytes.now area rs c.args.gate is c.if-gate-bytes.false c.if-bytes-gate-ne1.false none
