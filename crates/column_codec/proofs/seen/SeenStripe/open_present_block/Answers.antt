use Rattle.column_codec.proofs.Words.{arith, get_or, OpensTo, shaped_object, present_blocks}
use Rattle.std.proofs.Common.{Some, None}
use Rattle.column_codec.proofs.PresentLemmas.{opens-absent, opens-present, part-is, on_true, on_false}
use Rattle.column_codec.proofs.seen.SeenStripe.open_present_block.Goals as goal

pub returns-then-not-present-provider-clause-no : goal.returns-then-not-present-provider-clause-no
returns-then-not-present-provider-clause-no c =
    let keys = c.args.self.now.coder.keys.now in
    opens-absent (shaped_object keys.master.0 keys.file) c.args.self.now.coder.stripe keys.file.profile.size
    c.args.self.now.present.now c.args.self.now.symbols.now c.args.provider
    (omega (arith, c.args.self.now.present_fits, c.requires.provider)) c.if-not-present-provider.true

pub returns-clause-yes : goal.returns-clause-yes
returns-clause-yes c =
    let keys = c.args.self.now.coder.keys.now in
    let size = keys.file.profile.size in
    let o = shaped_object keys.master.0 keys.file in
    on_true _ (OpensTo o c.args.provider c.args.self.now.coder.stripe
    (get_or (present_blocks size c.args.self.now.present.now c.args.self.now.symbols.now) c.args.provider None)
    (Some c.open_whole.new.out)) c.open_whole.result
    (opens-present o c.args.self.now.coder.stripe size c.args.self.now.present.now c.args.self.now.symbols.now _ c.args.provider
    (Some c.open_whole.new.out) (omega (arith, c.args.self.now.present_fits, c.requires.provider))
    c.if-not-present-provider.false (part-is c.args.self.now.symbols.now c.args.provider _ size c.requires.out))
    c.open_whole.ensures.yes

pub returns-clause-no : goal.returns-clause-no
returns-clause-no c =
    let keys = c.args.self.now.coder.keys.now in
    let size = keys.file.profile.size in
    let o = shaped_object keys.master.0 keys.file in
    on_false _ (OpensTo o c.args.provider c.args.self.now.coder.stripe
    (get_or (present_blocks size c.args.self.now.present.now c.args.self.now.symbols.now) c.args.provider None) None)
    c.open_whole.result
    (opens-present o c.args.self.now.coder.stripe size c.args.self.now.present.now c.args.self.now.symbols.now _ c.args.provider None
    (omega (arith, c.args.self.now.present_fits, c.requires.provider))
    c.if-not-present-provider.false (part-is c.args.self.now.symbols.now c.args.provider _ size c.requires.out))
    c.open_whole.ensures.no
