use Rattle.command_words.specs.Commands.{command_of}
use Rattle.hail_top.proofs.PackRuns.{packs-same, packs-words}
use Rattle.hail_top.proofs.RowWords.{HasItsSymbols-IsForm}
use Rattle.hail_top.proofs.Spelled.{command-words, unread-words}
use Rattle.hail_top.proofs.top.answer_words.Goals as goal

pub answer-requires : goal.answer-requires
answer-requires g c = HasItsSymbols-IsForm c.args.words.now (command_of c.in-Ok-Some.command)
    (rw c.in-Ok-Some.field-0-is at c.in-Ok-Some.ensures.found)

pub returns-in-Ok-Some-clause-answered : goal.returns-in-Ok-Some-clause-answered
returns-in-Ok-Some-clause-answered g c =
    let is = rw c.in-Ok-Some.field-0-is at c.in-Ok-Some.ensures.found in
    command-words c.args.words.now (command_of c.in-Ok-Some.command) _ _ _ is
    (λ other spelled. c.words_spell_one_command.ensures c.args.words.now _ other is spelled)
    c.answer.ensures.answers c.answer.ensures.inits c.answer.ensures.counts

pub returns-in-Ok-None-clause-answered : goal.returns-in-Ok-None-clause-answered
returns-in-Ok-None-clause-answered g c = c.carry_words.ensures.answered

pub returns-in-Err-clause-answered : goal.returns-in-Err-clause-answered
returns-in-Err-clause-answered g c = unread-words c.args.words.now _ _ c.of.ensures

pub returns-in-Ok-Some-clause-packs : goal.returns-in-Ok-Some-clause-packs
returns-in-Ok-Some-clause-packs g c =
    let is = rw c.in-Ok-Some.field-0-is at c.in-Ok-Some.ensures.found in
    packs-words c.args.words.now (command_of c.in-Ok-Some.command) _ _ _
    (λ other spelled. c.words_spell_one_command.ensures c.args.words.now _ other is spelled)
    c.answer.ensures.packs

pub returns-in-Ok-None-clause-packs : goal.returns-in-Ok-None-clause-packs
returns-in-Ok-None-clause-packs g c = λ command spelled. absurd
    ((rw c.in-Ok-None.field-0-is at c.in-Ok-None.ensures.found) command spelled)

pub returns-in-Err-clause-packs : goal.returns-in-Err-clause-packs
returns-in-Err-clause-packs g c = λ command spelled. packs-same command _ _
