use Rattle.column_codec.proofs.Words.{◌∙◌, GivesSymbols, shaped_object, present_blocks}
use Rattle.column_codec.proofs.PresentLemmas.{length-present_blocks, on_true}
use Rattle.column_codec.proofs.RowLemmas.{profile_room}
use Rattle.column_codec.proofs.Openings.{marked-give}
use Rattle.column_codec.proofs.seen.SeenStripe.carry_marked.Goals as goal

pub returns-clause-given : goal.returns-clause-given
returns-clause-given c =
    let keys = c.args.self.now.coder.keys.now in
    let file = keys.file in
    let o = shaped_object keys.master.0 file in
    let seen = present_blocks file.profile.size c.args.self.now.present.now c.args.self.now.symbols.now in
    on_true _ (GivesSymbols o c.args.self.now.coder.stripe seen c.carry.new.rows) c.carry.result
    (marked-give o c.args.self.now.coder.stripe seen c.mark_clean-count.new.marks c.mark_clean-count.new.out
    (profile_room file.profile.number file.profile.size file.profile.keep file.profile.fix
    file.profile.size_is file.profile.keep_is file.profile.fix_is)
    (length-present_blocks file.profile.size c.args.self.now.present.now c.args.self.now.symbols.now
    ∙ c.args.self.now.present_fits) c.mark_clean-count.ensures.opened c.carry.new.rows
    (c.carry.auto.rows ∙ c.requires.rows))
    c.carry.ensures.carried
