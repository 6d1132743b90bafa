use Rattle.column_codec.proofs.Words.{ap, arith, plain_profile, code_profile, shaped_object}
use Rattle.std.proofs.Common.{◌≡◌, ◌+◌, ◌-◌, ◌*◌, take, drop}
use Rattle.column_codec.proofs.RowLemmas.{primary-final}
use Rattle.column_codec.proofs.coder.StripeCoder.primary_column.Goals as goal

pub returns : goal.returns
returns c =
    let keys = c.args.self.now.keys.now in
    let start = c.args.provider * keys.file.profile.keep in
    let e : start + keys.file.profile.keep - start ≡ keys.file.profile.keep = omega arith in
    primary-final (shaped_object keys.master.0 keys.file) c.args.symbols.now c.encode_into.new.out
    (take (start + keys.file.profile.keep - start) (drop start c.args.symbols.now))
    c.args.provider c.args.self.now.stripe (plain_profile (code_profile c.args.self.now.code.now)) c.requires.provider
    (ap plain_profile c.args.self.now.code_fits) c.encode_into.ensures
    (ap (λ n. take n (drop start c.args.symbols.now)) e)
