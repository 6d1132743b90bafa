use Rattle.column_codec.proofs.Words.{arith, get_or, subst, shaped_object, row_polynomial, AcceptsRow, opened_of}
use Rattle.std.proofs.Common.{◌<◌, ◌≤◌, ◌-◌, length, ℕ}
use Rattle.column_codec.proofs.AgreementLemmas.{agreed_accepts, zeros-front, none-gives}
use Rattle.column_codec.proofs.opened.Opened.uncarried.Goals as goal

pub count_all-requires-clause-zeros : goal.count_all-requires-clause-zeros
count_all-requires-clause-zeros c = λ i. zeros-front c.args.self.now.keys.now.file.profile.keep 96 i

pub returns-clause-none : goal.returns-clause-none
returns-clause-none c =
    let keys = c.args.self.now.keys.now in
    let file = keys.file in
    let o = shaped_object keys.master.0 file in
    let counts = c.count_all.new.counts in
    none-gives ((i : ℕ) → i < length counts → file.shape.n - file.shape.b ≤ get_or counts i 0)
    ((place : ℕ) → place < file.profile.keep →
    AcceptsRow o (opened_of c.args.self.now.marks.now c.args.self.now.blocks.now file.shape.n) place
    (row_polynomial o c.args.rows.now place)) c.first_below.result
    (λ each place below.
    agreed_accepts o c.args.rows.now c.args.self.now.marks.now c.args.self.now.blocks.now place file.shape.n
    (file.shape.n - file.shape.b) (λ i. file.shape.n) (omega arith)
    (subst (λ (m : ℕ). file.shape.n - file.shape.b ≤ m) (c.count_all.ensures.counts place below)
    (each place (omega (arith, below, c.count_all.ensures.size)))))
    c.first_below.ensures.none
