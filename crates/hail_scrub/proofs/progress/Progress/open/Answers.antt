use Rattle.hail_scrub.proofs.Words.{sym, subst, scrub_view, MakesNext}
use Rattle.hail_scrub.proofs.Placed.{falls_by}
use Rattle.hail_scrub.proofs.Openings.{open_stays, open_whole, open_step, open_loses}
use Rattle.hail_scrub.proofs.progress.Progress.open.Goals as goal

pub stop-requires : goal.stop-requires
stop-requires c =
    let turned_to = c.turn_to.ensures in
    open_stays c.args.self.now c.requires.whole c.args.spot c.requires.here c.turn_to.new.self
    c.index_mut-bench.result.now turned_to.present turned_to.symbols turned_to.size
    c.index_mut-bench.ensures.value c.survey.new.bench c.survey.ensures.object c.survey.new.codec

pub returns-in-Ok-clause-whole : goal.returns-in-Ok-clause-whole
returns-in-Ok-clause-whole c =
    let turned_to = c.turn_to.ensures in
    open_whole c.args.self.now c.requires.whole c.args.spot c.requires.here c.turn_to.new.self
    c.index_mut-bench.result.now turned_to.present turned_to.symbols turned_to.size
    c.index_mut-bench.ensures.value c.survey.new.bench c.survey.ensures.object c.survey.new.codec c.in-Ok.off
    c.in-Ok.ensures.surveyed c.take.new.self c.take.ensures

pub returns-in-Ok-clause-step : goal.returns-in-Ok-clause-step
returns-in-Ok-clause-step c =
    let turned_to = c.turn_to.ensures in
    open_step c.args.self.now c.requires.whole c.args.spot c.requires.here c.turn_to.new.self
    c.index_mut-bench.result.now turned_to.present turned_to.symbols turned_to.size
    c.index_mut-bench.ensures.value c.survey.new.bench c.survey.ensures.object c.survey.new.codec c.in-Ok.off
    c.in-Ok.ensures.surveyed c.take.new.self c.take.ensures

pub returns-in-Ok-clause-left : goal.returns-in-Ok-clause-left
returns-in-Ok-clause-left c = falls_by c.args.self.now c.take.new.self c.requires.whole
    (returns-in-Ok-clause-whole c) c.take.ensures.falls

pub returns-in-Err-clause-step : goal.returns-in-Err-clause-step
returns-in-Err-clause-step c = λ ps.
    let turned_to = c.turn_to.ensures in
    subst (λ t. MakesNext (scrub_view c.args.self.now) ps t (scrub_view c.stop.new.self) ps)
    (sym c.stop.ensures.answer)
    (open_loses c.args.self.now c.requires.whole c.args.spot c.requires.here c.turn_to.new.self
    c.index_mut-bench.result.now turned_to.present turned_to.symbols turned_to.size
    c.index_mut-bench.ensures.value c.in-Err.field-0.row (scrub_view c.stop.new.self) ps c.stop.ensures.over
    c.in-Err.ensures.lost)
