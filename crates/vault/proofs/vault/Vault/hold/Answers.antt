use Rattle.vault.proofs.Words.{◌<◌, ◌≤◌, ◌∙◌, refl, arith, sym, subst, AllZip-long, IsJobOf, Desk, HasNoStream}
use Rattle.std.proofs.Common.{length}
use Rattle.vault.proofs.Free.{not_free, none_run}
use Rattle.vault.proofs.Alone.{barred_alone, unbarred, busy_alone, free_alone, drawn_stands, drawn_works}
use Rattle.vault.proofs.vault.Vault.hold.Goals as goal

pub returns-in_err-unheld-clause-holds : goal.returns-in_err-unheld-clause-holds
returns-in_err-unheld-clause-holds c = λ w d stands.
    absurd (not_free c.args.self.now.held c.in_err-unheld.ensures.held stands.free)

pub returns-in-Some-clause-holds : goal.returns-in-Some-clause-holds
returns-in-Some-clause-holds c = λ w d stands. (
  barred_alone w stands.desk.core.none_alone c.in-Some.fault (c.in-Some.ensures w stands.desk.core),
  stands,
)

pub returns-then-running-gt0-clause-holds : goal.returns-then-running-gt0-clause-holds
returns-then-running-gt0-clause-holds c = λ w d stands.
    let core = stands.desk.core in
    let count = AllZip-long (IsJobOf c.args.self.now.desk.core.setup) c.args.self.now.desk.core.jobs w.jobs
    core.jobs in
    let some : 0 < length w.jobs = omega (arith, count, c.running.ensures.value, c.if-running-gt0.true) in (
      busy_alone w core.none_alone (unbarred w core.none_alone (c.in_default.ensures w core)) some,
      stands,
    )

pub invariant_of-self : goal.invariant_of-self
invariant_of-self c =
    let v : Desk = c.args.self.now.desk in
    let few : length v.core.jobs ≤ 0 = omega (arith, c.running.ensures.value, c.if-running-gt0.false) in
    record {
      at_work = drawn_works v (record v { core = c.draw-number.new.self }) few
          c.draw-number.ensures.drawn (record { setup = refl; master = refl; shape = refl; base = refl }) refl refl
          c.args.self.now.at_work;
    }

pub returns-clause-holds : goal.returns-clause-holds
returns-clause-holds c = λ w d stands.
    let v : Desk = c.args.self.now.desk in
    let core = stands.desk.core in
    let few : length v.core.jobs ≤ 0 = omega (arith, c.running.ensures.value, c.if-running-gt0.false) in
    let idle = none_run v.core.setup v.core.jobs w.jobs core.jobs few in
    let free = unbarred w core.none_alone (c.in_default.ensures w core) in (
      free_alone w core.none_alone free idle,
      c.draw-number.ensures.number ∙ core.next_job,
      record {
        held = refl;
        desk = drawn_stands v (record v { core = c.draw-number.new.self }) d w idle
            c.draw-number.ensures.drawn (record { setup = refl; master = refl; shape = refl; base = refl }) refl refl
            stands.desk;
        idle = idle;
        unbarred = free;
      },
    )

pub returns-clause-streams : goal.returns-clause-streams
returns-clause-streams c = λ none. subst (λ core. HasNoStream core) (sym c.draw-number.ensures.drawn) none
