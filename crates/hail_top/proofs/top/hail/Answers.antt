use Rattle.hail_top.proofs.Words.{arith, IsForm, take_at, AnswersWords, seen_of, ending_of, PacksOn}
use Rattle.command_defs.specs.Forms.{Command}
use Rattle.hail_top.proofs.Carried.{over-lists}
use Rattle.hail_top.proofs.top.hail.Goals as goal

pub returns-clause-answered : goal.returns-clause-answered
returns-clause-answered g c = over-lists (λ old new. AnswersWords c.args.words.now
    (seen_of g.D.Disk g.P.Provider g.S.Source g.K.Sink c.args.disk.now old c.args.source.now c.args.sink.now)
    (seen_of g.D.Disk g.P.Provider g.S.Source g.K.Sink c.answer_words.new.disk new c.answer_words.new.source
    c.answer_words.new.sink) (ending_of c.answer_words.result)) c.deref_mut.result.now
    c.args.providers.now.items _ c.answer_words.new.providers c.deref_mut.ensures.value
    (take_at c.answer_words.new.providers _ c.args.providers.now.len
    (omega (arith, c.answer_words.auto.providers, c.deref_mut.ensures.len))) c.answer_words.ensures.answered

pub returns-clause-packs : goal.returns-clause-packs
returns-clause-packs g c = over-lists (λ old new. (command : Command) → IsForm c.args.words.now command →
    PacksOn command (seen_of g.D.Disk g.P.Provider g.S.Source g.K.Sink c.args.disk.now old c.args.source.now
    c.args.sink.now) (seen_of g.D.Disk g.P.Provider g.S.Source g.K.Sink c.answer_words.new.disk new
    c.answer_words.new.source c.answer_words.new.sink) (ending_of c.answer_words.result))
    c.deref_mut.result.now c.args.providers.now.items _ c.answer_words.new.providers c.deref_mut.ensures.value
    (take_at c.answer_words.new.providers _ c.args.providers.now.len
    (omega (arith, c.answer_words.auto.providers, c.deref_mut.ensures.len))) c.answer_words.ensures.packs
