use Rattle.std.proofs.Common.{refl, arith}
use Rattle.vault.proofs.tasks.AuditTask.ask.Goals as goal

pub returns-then-from-clause-asked : goal.returns-then-from-clause-asked
returns-then-from-clause-asked g c =
    let h = c.hear.ensures.heard in (
      h.0,
      record {
        mid = c.hear.new.self;
        hears = h.1;
        judged = λ e. absurd (omega (arith, e, c.if-from.true, c.from.ensures, c.from-2.ensures));
        kept = λ other. refl;
      },
      h.2,
    )

pub returns-clause-asked : goal.returns-clause-asked
returns-clause-asked g c =
    let h = c.hear.ensures.heard in (
      h.0,
      record {
        mid = c.hear.new.self;
        hears = h.1;
        judged = λ e. c.judge.ensures.judged;
        kept = λ other. absurd (other (omega (arith, c.if-from.false, c.from.ensures, c.from-2.ensures)));
      },
      h.2,
    )
