use Rattle.vault.proofs.Words.{◌<◌, ap, sym, ◌∙◌, arith, AllZip-long, IsJobOf}
use Rattle.std.proofs.Common.{length}
use mathlib.Core.Bool.{Bool-set}
use Rattle.vault.proofs.Alone.{unbarred, busy_pack}
use Rattle.vault.proofs.AtWork.{by_work}
use Rattle.vault.proofs.PackBegins.{none-flight, second-version, none-there}
use Rattle.vault.proofs.desk.Desk.pack_fault.Goals as goal

pub returns-then-running-gt0-clause-refusal : goal.returns-then-running-gt0-clause-refusal
returns-then-running-gt0-clause-refusal c = λ w d stands.
    let core = stands.core in
    let count = AllZip-long (IsJobOf c.args.self.now.core.setup) c.args.self.now.core.jobs w.jobs core.jobs in
    let some : 0 < length w.jobs = omega (arith, count, c.running.ensures.value, c.if-running-gt0.true) in
    sym (busy_pack w core.none_alone (unbarred w core.none_alone (c.in_default.ensures w core)) some)

pub returns-clause-free : goal.returns-clause-free
returns-clause-free c = λ none.
    let v = c.args.self.now in
    let idle = none-there v.core.jobs (omega (arith, c.running.ensures.value, c.if-running-gt0.false)) in
    let free = by_work (Bool-set _ _) v (λ w faults ps S.
    S.core.barred ∙ unbarred w S.core.none_alone (c.in_default.ensures w S.core)) c.requires in (
      idle,
      free,
      none-flight v c.requires idle free,
      second-version v c.requires
          (λ one. c.if-version-eq1.false (c.version.ensures ∙ ap (λ t. t.version) c.table.ensures ∙ one)),
    )
