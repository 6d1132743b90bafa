use Rattle.column_codec.proofs.Words.{◌∙◌, ap, arith, refl, get_or, get_or-take, fill_by_all, shaped_object, row_value, nim_add, dot, keep_below}
use Rattle.std.proofs.Common.{◌≡◌, [], take, List, ℕ}
use Rattle.column_codec.proofs.PresentLemmas.{part-is}
use Rattle.column_codec.proofs.WeightLemmas.{sum_first, differences_at}
use Rattle.column_codec.proofs.KeptLemmas.{kept_more, kept_whole}
use Rattle.column_codec.proofs.keys.ObjectKeys.kept_into.Goals as goal

pub loop-j-init : goal.loop-j-init
loop-j-init c = λ place below.
    let keys = c.args.self.now in
    ap (λ (xs : List ℕ). get_or xs place 0) c.copy_from_slice.ensures.after
    ∙ get_or-take _ c.args.symbols.now place 0 (omega (arith, below, c.requires.kept))
    ∙ sum_first (get_or keys.weights c.args.provider []) c.args.symbols.now keys.file.profile.keep place
    (get_or c.args.symbols.now place 0) refl

pub loop-j-preserved : goal.loop-j-preserved
loop-j-preserved c = λ place below.
    let keys = c.args.self.now in
    let weights = keys.has_weights c.args.provider c.requires.secondary c.requires.provider in
    let long = c.loop-j.auto.kept ∙ c.copy_from_slice.ensures.len ∙ c.requires.kept in
    kept_more c.args.symbols.now (get_or keys.weights c.args.provider []) c.loop-j.kept _ _
    c.add_weighted.new.out keys.file.profile.keep c.loop-j.j place
    (part-is c.args.symbols.now c.loop-j.j _ keys.file.profile.keep c.requires.kept)
    (ap (λ k. take k c.args.symbols.now) c.requires.kept) below
    (omega (arith, weights.enough, c.loop-j-test.true, c.from-j-end.ensures))
    (c.add_weighted.ensures place (omega (arith, below, long)))
    (c.loop-j.invariant place below)

pub returns : goal.returns
returns c =
    let keys = c.args.self.now in
    let file = keys.file in
    let o = shaped_object keys.master.0 file in
    let end : c.loop-j.j ≡ file.shape.l =
    omega (arith, c.loop-j-test.false, c.loop-j.auto, c.from-j-end.ensures, file.shape.fits) in
    fill_by_all (row_value o c.args.symbols.now c.args.provider) c.loop-j.kept file.profile.keep 0
    (c.loop-j.auto.kept ∙ c.copy_from_slice.ensures.len ∙ c.requires.kept)
    (λ place below.
    c.loop-j.invariant place below
    ∙ ap (λ j. nim_add (get_or c.args.symbols.now place 0)
    (dot (get_or keys.weights c.args.provider [])
    (differences_at j file.profile.keep place c.args.symbols.now
    (get_or c.args.symbols.now place 0)))) end
    ∙ kept_whole o c.args.symbols.now (get_or keys.weights c.args.provider []) place _ c.args.provider
    c.requires.symbols below
    (keep_below file.profile.number file.profile.size file.profile.keep file.profile.size_is
    file.profile.keep_is) file.shape.fits.2
    (keys.has_weights c.args.provider c.requires.secondary c.requires.provider)
    (keys.points_are c.args.provider c.requires.provider))
