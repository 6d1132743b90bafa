use Rattle.column_codec.proofs.Words.{◌∙◌, ap, sym, arith, get_or, SeenBlock, keep_below, shaped_object, agreeing_at}
use Rattle.std.proofs.Common.{◌≡◌, ◌+◌, Some, None}
use Rattle.std.specs.Bool.{if◌then◌else◌}
use Rattle.column_codec.proofs.AgreementLemmas.{agreeing-seen, agreeing-none}
use Rattle.column_codec.proofs.keys.ObjectKeys.count_provider.Goals as goal

pub returns-then-mark-clause-counts : goal.returns-then-mark-clause-counts
returns-then-mark-clause-counts c = λ place below.
    let keys = c.args.self.now in
    let file = keys.file in
    let o = shaped_object keys.master.0 file in
    let fits = keep_below file.profile.number file.profile.size file.profile.keep file.profile.size_is
    file.profile.keep_is in
    c.count_same.ensures place (omega (arith, below, c.requires.counts))
    ∙ ap (λ n. get_or c.args.counts.now place 0 + n)
    (agreeing-seen o c.args.rows.now c.args.block.now c.row_values_into.new.out c.args.provider place
    (omega (arith, below, fits, c.requires.block)) below c.row_values_into.ensures
    ∙ ap (λ (b : SeenBlock). agreeing_at o c.args.rows.now place c.args.provider b)
    (sym (ap (λ t. if t then Some c.args.block.now else None) c.if-mark.true)))

pub returns-else-mark-clause-counts : goal.returns-else-mark-clause-counts
returns-else-mark-clause-counts c = λ place below.
    let o = shaped_object c.args.self.now.master.0 c.args.self.now.file in
    let none : agreeing_at o c.args.rows.now place c.args.provider
    (if c.args.mark then Some c.args.block.now else None) ≡ 0 =
    ap (λ (b : SeenBlock). agreeing_at o c.args.rows.now place c.args.provider b)
    (ap (λ t. if t then Some c.args.block.now else None) c.if-mark.false)
    ∙ agreeing-none o c.args.rows.now place c.args.provider in
    omega (arith, none)
