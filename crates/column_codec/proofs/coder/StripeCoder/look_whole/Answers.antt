use Rattle.column_codec.proofs.Words.{◌∙◌, ap, subst, OnTrue_from, plain_profile, Opens, bare, shaped_object}
use Rattle.std.proofs.Common.{List, ℕ}
use Rattle.server_code.proofs.Checks.{codeword_opens}
use Rattle.column_codec.proofs.coder.StripeCoder.look_whole.Goals as goal

pub returns : goal.returns
returns c =
    let keys = c.args.self.now.keys.now in
    let profile = plain_profile keys.file.profile in
    let out = c.take_masks_off.new.block in
    let o = shaped_object keys.master.0 keys.file in
    OnTrue_from c.is_codeword.result
    (Opens profile (bare o c.args.provider c.args.self.now.stripe c.args.seen.now) out)
    (λ e. subst (λ (b : List ℕ). Opens profile b out)
    (c.take_masks_off.ensures ∙ ap (bare o c.args.provider c.args.self.now.stripe) c.copy_from_slice.ensures.after)
    (codeword_opens profile out (rw c.args.self.now.code_fits at (c.is_codeword.ensures.0 e))))
