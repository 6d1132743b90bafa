use Rattle.column_codec.proofs.Words.{ap, sym, subst, ◌∙◌, OnOk, OnErr, IfErr, present_blocks, Object, SeenBlock, GivesSymbols, LosesRow, bench_object, OpensAs}
use Rattle.std.proofs.Common.{◌≡◌, List, ℕ, Result, Ok, Err, length}
use Rattle.std.specs.Prelude.{All, replicate}
use Rattle.column_codec.specs.declared.opening.RowLost.{RowLost}
use Rattle.column_codec.proofs.Places.{written_whole}
use Rattle.column_codec.proofs.bench.Bench.open.Goals as goal

-- blocks are opened, or a row of them is lost
opens : (o : Object) (stripe : ℕ) (seen : List SeenBlock) (r : Result Unit RowLost) (rows : List ℕ)
    → OnOk r (GivesSymbols o stripe seen rows) → IfErr r (λ lost. LosesRow o stripe seen lost.row)
    → OpensAs o stripe seen r rows
opens o stripe seen (Ok done) rows gives loses = gives
opens o stripe seen (Err lost) rows gives loses = loses

pub open-requires-clause-rows : goal.open-requires-clause-rows
open-requires-clause-rows c = ap length c.deref_mut.ensures.value ∙ c.args.self.now.rows_fit

pub open-requires-clause-scratch : goal.open-requires-clause-scratch
open-requires-clause-scratch c = ap length c.deref_mut-2.ensures.value ∙ c.args.self.now.scratch_fits

pub open-requires-clause-blocks : goal.open-requires-clause-blocks
open-requires-clause-blocks c =
    let v = c.args.self.now in
    subst (λ (blocks : List (List ℕ)). All (λ block. length block ≡ v.keys.file.profile.size) blocks)
    (sym c.deref_mut-2.ensures.value) v.blocks_fit

pub invariant_of-self : goal.invariant_of-self
invariant_of-self c =
    let v = c.args.self.now in
    let made = c.open in
    let rows =
    written_whole v.rows.items c.deref_mut.result.now made.new.rows v.rows.len made.auto.rows
    c.deref_mut.ensures.len in
    let scratch =
    written_whole v.scratch.items c.deref_mut-2.result.now made.new.scratch v.scratch.len
    made.auto.scratch c.deref_mut-2.ensures.len in
    record {
      code_fits = v.code_fits;
      rows_fit = ap length rows ∙ made.auto.rows ∙ ap length c.deref_mut.ensures.value ∙ v.rows_fit;
      column_fits = v.column_fits;
      scratch_fits =
          ap length scratch ∙ made.auto.scratch ∙ ap length c.deref_mut-2.ensures.value ∙ v.scratch_fits;
      blocks_fit =
          subst (λ (blocks : List (List ℕ)). All (λ block. length block ≡ v.keys.file.profile.size) blocks)
          (sym scratch) made.ensures.blocks;
    }

pub returns-clause-opened : goal.returns-clause-opened
returns-clause-opened c =
    let v = c.args.self.now in
    let made = c.open in
    let o = bench_object v in
    let seen = present_blocks v.keys.file.profile.size c.args.present.now c.args.seen.now in
    subst (λ (rows : List ℕ). OpensAs o c.args.stripe seen made.result rows)
    (sym
    (written_whole v.rows.items c.deref_mut.result.now made.new.rows v.rows.len made.auto.rows
    c.deref_mut.ensures.len))
    (opens o c.args.stripe seen made.result made.new.rows made.ensures.ok made.ensures.lost)

pub returns-clause-zeros : goal.returns-clause-zeros
returns-clause-zeros c =
    let v = c.args.self.now in
    let made = c.open in
    subst (λ (rows : List ℕ). OnErr made.result (rows ≡ replicate (length v.rows.items) 0))
    (sym
    (written_whole v.rows.items c.deref_mut.result.now made.new.rows v.rows.len made.auto.rows
    c.deref_mut.ensures.len))
    (subst (λ (rows : List ℕ). OnErr made.result (made.new.rows ≡ replicate (length rows) 0))
    c.deref_mut.ensures.value made.ensures.zeros)
