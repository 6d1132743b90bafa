use Rattle.hail_top.proofs.Spelled.{form-words, other-words}
use Rattle.hail_top.proofs.top.carry_words.Goals as goal

pub returns-in-Some-clause-answered : goal.returns-in-Some-clause-answered
returns-in-Some-clause-answered g c = form-words c.args.words.now _ _ _ _ c.requires.none c.in-Some.ensures
    c.carry.ensures.answers c.carry.ensures.counts

pub returns-in-None-clause-answered : goal.returns-in-None-clause-answered
returns-in-None-clause-answered g c =
    let disk = g.D.Disk.holds c.args.disk.now in
    let faults = g.D.Disk.faults c.args.disk.now in
    other-words c.args.words.now _ _ _ c.requires.none c.in-None.ensures
    (c.serve_words.ensures.usage disk faults) (c.serve_words.ensures.serves disk faults)
    (c.serve_words.ensures.counts disk faults)
