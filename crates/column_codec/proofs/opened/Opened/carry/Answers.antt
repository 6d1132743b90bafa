use Rattle.column_codec.proofs.Words.{◌∙◌, keep_below, shaped_object, opened_of}
use Rattle.column_codec.proofs.AgreementLemmas.{has-row}
use Rattle.column_codec.proofs.opened.Opened.carry.Goals as goal

pub returns-in-None-clause-carried : goal.returns-in-None-clause-carried
returns-in-None-clause-carried c = λ place below.
    let file = c.args.self.now.keys.now.file in
    has-row (shaped_object c.args.self.now.keys.now.master.0 file)
    (opened_of c.args.self.now.marks.now c.args.self.now.blocks.now file.shape.n) c.guess.new.rows place
    (c.guess.auto.rows ∙ c.loop-left.auto.rows ∙ c.requires.rows) below
    (keep_below file.profile.number file.profile.size file.profile.keep file.profile.size_is
    file.profile.keep_is)
    (c.in-None.ensures.none place below)
