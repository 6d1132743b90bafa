use Rattle.vault_core.proofs.Words.{◌∙◌, ap, sym, refl, counted, drawn, judged, number_drawn, seen_action, stepped_job, wanted_by, with_at}
use Rattle.std.specs.Prelude.{Some}
use Rattle.vault_core.specs.declared.action.Action.TheVariants as act
use Rattle.vault_core.proofs.Places.{found_at}
use Rattle.vault_core.proofs.Falls.{step_here, step_first, step_plain, step_runs, plain_by, verdict_plain}
use Rattle.vault_core.proofs.Steps.{fed, fed_off, fed_on, other_store, begins_done, gates_done, ends_done, plain_done, stops_failed, bars_failed, stops_memory, stops_lost, judges_verdict}
use Rattle.vault_core.proofs.own.Core.feed.Goals as goal

pub returns-in_default : goal.returns-in_default
returns-in_default c =
    absurd (step_runs c.args.self.now c.args.job c.args.reply c.requires.reply c.in_default.ensures)

pub begin_append-requires-clause-begins : goal.begin_append-requires-clause-begins
begin_append-requires-clause-begins c = step_first (step_here c.args.job c.args.reply act.WriteBody
    c.self.view_is c.self.invariant c.requires.reply c.in-Some.ensures c.index.ensures
    c.in-WriteBody.ensures.value) (λ e. cc)

pub end_append-requires-clause-gate : goal.end_append-requires-clause-gate
end_append-requires-clause-gate c = step_first (step_here c.args.job c.args.reply act.SyncGate c.self.view_is
    c.self.invariant c.requires.reply c.in-Some.ensures c.index.ensures c.in-SyncGate.ensures.value) (λ e. cc)

pub advance-requires-clause-plain : goal.advance-requires-clause-plain
advance-requires-clause-plain c = step_plain (step_here c.args.job c.args.reply c.action_over-action.result
    c.self.view_is c.self.invariant c.requires.reply c.in-Some.ensures c.index.ensures
    c.action_over-action.ensures.value) (plain_by c.action_over-action.result
    c.in_default-action.not-WriteBody c.in_default-action.not-SyncGate c.in_default-action.not-End)

pub judge-requires-clause-plain : goal.judge-requires-clause-plain
judge-requires-clause-plain c =
    let here = step_here c.args.job c.args.reply c.action_over-action.result c.self.view_is c.self.invariant
    c.requires.reply c.in-Some.ensures c.index.ensures c.action_over-action.ensures.value in
    step_plain here (verdict_plain c.args.self.now c.args.job c.action_over-action.result
    c.in-Verdict.undecided c.in-Verdict.counts (rw c.in-Verdict.is at here.replies))

pub begin_append-requires-clause-given : goal.begin_append-requires-clause-given
begin_append-requires-clause-given c = ap (wanted_by c.args.self.now.setup)
    (sym (found_at c.args.self.now.jobs c.args.job (sym c.in-Some.ensures))) ∙ c.requires.given

pub end_append-requires-clause-given : goal.end_append-requires-clause-given
end_append-requires-clause-given c = ap (wanted_by c.args.self.now.setup)
    (sym (found_at c.args.self.now.jobs c.args.job (sym c.in-Some.ensures))) ∙ c.requires.given

pub advance-requires-clause-given : goal.advance-requires-clause-given
advance-requires-clause-given c = ap (wanted_by c.args.self.now.setup)
    (sym (found_at c.args.self.now.jobs c.args.job (sym c.in-Some.ensures))) ∙ c.requires.given

pub judge-requires-clause-given : goal.judge-requires-clause-given
judge-requires-clause-given c = ap (wanted_by c.args.self.now.setup)
    (sym (found_at c.args.self.now.jobs c.args.job (sym c.in-Some.ensures))) ∙ c.requires.given

pub returns-in-WriteBody : goal.returns-in-WriteBody
returns-in-WriteBody c = fed_on act.WriteBody c.self.view_is c.self.invariant c.requires.reply
    c.in-Some.ensures c.index.ensures c.in-WriteBody.ensures.value c.requires.given c.ranges.job.fits
    c.in-Done.is (λ j. record (with_at c.args.self.now c.in-Some.place
    (drawn j (number_drawn c.args.self.now.setup c.args.self.now.table j))) { append = Some j.number })
    (λ j. drawn j (number_drawn c.args.self.now.setup c.args.self.now.table j))
    c.begin_append.ensures.moved c.begin_append.ensures.falls refl refl refl refl
    (λ j w s outcome on replies tells told. begins_done outcome on tells told)

pub returns-in-SyncGate : goal.returns-in-SyncGate
returns-in-SyncGate c = fed act.SyncGate c.self.view_is c.self.invariant c.requires.reply c.in-Some.ensures
    c.index.ensures c.in-SyncGate.ensures.value c.requires.given c.ranges.job.fits c.in-Done.is (λ j.
    c.end_append.new.self) (λ j here. refl) c.end_append.ensures.falls c.end_append.ensures.setup
    (record { streams = c.end_append.ensures.streams; told = c.end_append.ensures.told })
    (λ j w s outcome on replies tells told. gates_done
    c.end_append.new.self outcome on tells (λ entry rs. c.end_append.ensures.gated j entry rs on.here))

pub returns-in-End : goal.returns-in-End
returns-in-End c = fed_off act.End c.self.view_is c.self.invariant c.requires.reply c.in-Some.ensures
    c.index.ensures c.in-End.ensures.value c.requires.given c.ranges.job.fits c.in-Done.is _ c.stop.ensures
    refl refl (λ j w s outcome on replies tells told. ends_done outcome on tells)

pub returns-in_default-action : goal.returns-in_default-action
returns-in_default-action c = fed_on c.action_over-action.result c.self.view_is c.self.invariant
    c.requires.reply c.in-Some.ensures c.index.ensures c.action_over-action.ensures.value c.requires.given
    c.ranges.job.fits c.in-Done.is (λ j. with_at c.args.self.now c.in-Some.place (stepped_job j)) stepped_job
    c.advance.ensures.moved c.advance.ensures.falls refl refl refl refl (λ j w s outcome on replies tells
    told. plain_done _ outcome on tells (plain_by c.action_over-action.result
    c.in_default-action.not-WriteBody c.in_default-action.not-SyncGate c.in_default-action.not-End) replies)

pub returns-in-Store : goal.returns-in-Store
returns-in-Store c = fed_off c.action_over-action.result c.self.view_is c.self.invariant c.requires.reply
    c.in-Some.ensures c.index.ensures c.action_over-action.ensures.value c.requires.given c.ranges.job.fits
    c.in-Failed.is _ c.stop-in-Store.ensures refl refl (λ j w s outcome on replies tells told. stops_failed _
    c.in-Store.provider c.in-Store.object c.in-Store.stripe outcome on (ap seen_action c.in-Store.is) tells)

pub returns-in_default-action-2 : goal.returns-in_default-action-2
returns-in_default-action-2 c = fed_off c.action_over-action.result c.self.view_is c.self.invariant
    c.requires.reply c.in-Some.ensures c.index.ensures c.action_over-action.ensures.value c.requires.given
    c.ranges.job.fits c.in-Failed.is _ c.fail.ensures refl refl (λ j w s outcome on replies tells told.
    bars_failed _ outcome on (other_store c.action_over-action.result c.in_default-action-2.not-Store) replies
    tells)

pub returns-in-Memory : goal.returns-in-Memory
returns-in-Memory c = fed_off c.action_over-action.result c.self.view_is c.self.invariant c.requires.reply
    c.in-Some.ensures c.index.ensures c.action_over-action.ensures.value c.requires.given c.ranges.job.fits
    c.in-Memory.is _ c.stop-in-Memory.ensures refl refl (λ j w s outcome on replies tells told. stops_memory _
    outcome on replies tells)

pub returns-in-Lost : goal.returns-in-Lost
returns-in-Lost c = fed_off c.action_over-action.result c.self.view_is c.self.invariant c.requires.reply
    c.in-Some.ensures c.index.ensures c.action_over-action.ensures.value c.requires.given c.ranges.job.fits
    c.in-Lost.is _ c.stop-in-Lost.ensures refl refl (λ j w s outcome on replies tells told. stops_lost _
    c.in-Lost.row outcome on replies tells)

pub returns-in-Verdict : goal.returns-in-Verdict
returns-in-Verdict c = fed_on c.action_over-action.result c.self.view_is c.self.invariant c.requires.reply
    c.in-Some.ensures c.index.ensures c.action_over-action.ensures.value c.requires.given c.ranges.job.fits
    c.in-Verdict.is (λ j. with_at c.args.self.now c.in-Some.place
    (judged j (record { counts = counted c.in-Verdict.counts; undecided = c.in-Verdict.undecided })))
    (λ j. judged j
    (record { counts = counted c.in-Verdict.counts; undecided = c.in-Verdict.undecided }))
    c.judge.ensures.moved c.judge.ensures.falls refl refl refl refl (λ j w s outcome on replies tells told.
    judges_verdict _ c.in-Verdict.undecided c.in-Verdict.counts outcome on replies tells)
