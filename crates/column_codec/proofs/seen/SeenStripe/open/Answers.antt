use Rattle.column_codec.proofs.Words.{◌∙◌, GivesSymbols, LosesRow, shaped_object, opened_of, HasRow, LosesPlace, present_blocks}
use Rattle.std.proofs.Common.{◌<◌, ℕ, []}
use Rattle.std.proofs.lemmas.Result.{IfErr-weaker}
use Rattle.column_codec.proofs.OpenLemmas.{gives, loses, on_ok, all-blocks}
use Rattle.column_codec.proofs.seen.SeenStripe.open.Goals as goal

pub returns-clause-ok : goal.returns-clause-ok
returns-clause-ok c =
    let keys = c.args.self.now.coder.keys.now in
    let seen = present_blocks keys.file.profile.size c.args.self.now.present.now c.args.self.now.symbols.now in
    let o = shaped_object keys.master.0 keys.file in
    let opened = opened_of c.open_present_blocks-marks.result c.open_present_blocks-marks.new.out
    keys.file.shape.n in
    on_ok ((place : ℕ) → place < keys.file.profile.keep → HasRow o opened place c.open_rows.new.rows)
    (GivesSymbols o c.args.self.now.coder.stripe seen c.open_rows.new.rows) c.open_rows.result
    (gives o c.args.self.now.coder.stripe seen opened c.open_rows.new.rows c.open_present_blocks-marks.ensures.opens
    (c.open_rows.auto.rows ∙ c.carry_clean.auto.rows ∙ c.requires.rows))
    c.open_rows.ensures.ok

pub returns-clause-lost : goal.returns-clause-lost
returns-clause-lost c =
    let keys = c.args.self.now.coder.keys.now in
    let seen = present_blocks keys.file.profile.size c.args.self.now.present.now c.args.self.now.symbols.now in
    let o = shaped_object keys.master.0 keys.file in
    let opened = opened_of c.open_present_blocks-marks.result c.open_present_blocks-marks.new.out
    keys.file.shape.n in
    IfErr-weaker c.open_rows.result (λ lost. LosesPlace o opened c.args.self.now.coder.stripe lost.row)
    (λ lost. LosesRow o c.args.self.now.coder.stripe seen lost.row)
    (λ lost. loses o c.args.self.now.coder.stripe lost.row seen opened c.open_present_blocks-marks.ensures.opens)
    c.open_rows.ensures.err

-- each block keeps its size
pub carry_clean-requires-clause-sizes : goal.carry_clean-requires-clause-sizes
carry_clean-requires-clause-sizes c = λ j below. c.requires.blocks j [] below

pub returns-then-carry_clean-clause-blocks : goal.returns-then-carry_clean-clause-blocks
returns-then-carry_clean-clause-blocks c =
    all-blocks c.carry_clean.new.scratch c.args.self.now.coder.keys.now.file.profile.size c.carry_clean.ensures.sizes

pub open_present_blocks-marks-requires-clause-blocks : goal.open_present_blocks-marks-requires-clause-blocks
open_present_blocks-marks-requires-clause-blocks c =
    all-blocks c.carry_clean.new.scratch c.args.self.now.coder.keys.now.file.profile.size c.carry_clean.ensures.sizes

pub returns-clause-blocks : goal.returns-clause-blocks
returns-clause-blocks c = all-blocks c.open_present_blocks-marks.new.out
    c.args.self.now.coder.keys.now.file.profile.size c.open_present_blocks-marks.ensures.sizes
