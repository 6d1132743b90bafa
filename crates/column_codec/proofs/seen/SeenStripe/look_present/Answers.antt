use Rattle.column_codec.proofs.Words.{arith, get_or, OpensTo, shaped_object, present_blocks}
use Rattle.std.proofs.Common.{Some, None}
use Rattle.column_codec.proofs.PresentLemmas.{opens-present, part-is, on_true}
use Rattle.column_codec.proofs.seen.SeenStripe.look_present.Goals as goal

pub returns : goal.returns
returns c =
    let keys = c.args.self.now.coder.keys.now in
    let size = keys.file.profile.size in
    let o = shaped_object keys.master.0 keys.file in
    on_true _ (OpensTo o c.args.provider c.args.self.now.coder.stripe
    (get_or (present_blocks size c.args.self.now.present.now c.args.self.now.symbols.now) c.args.provider None)
    (Some c.look_whole.new.out)) c.look_whole.result
    (opens-present o c.args.self.now.coder.stripe size c.args.self.now.present.now c.args.self.now.symbols.now _ c.args.provider
    (Some c.look_whole.new.out) (omega (arith, c.args.self.now.present_fits, c.requires.provider))
    c.if-not-present-provider.false (part-is c.args.self.now.symbols.now c.args.provider _ size c.requires.out))
    c.look_whole.ensures
