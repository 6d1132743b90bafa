use Rattle.vault.proofs.Words.{◌+◌, ◌/◌, ◌<◌, ◌^◌, sym, ap, ◌∙◌, zero-add, arith, option_map, div-le_self, slice_get_within, length-present_blocks, blocks_in, fetched_entry}
use Rattle.std.proofs.Math.Facts.{Fits-of_lt}
use Rattle.vault.proofs.HeardAt.{slice_get-fetched_entries}
use Rattle.vault.proofs.heard.Fetches.at.Goals as goal

pub returns-in_err-block : goal.returns-in_err-block
returns-in_err-block c =
    let f = c.args.self.now in
    let blocks = blocks_in f.blocks in
    rw c.from_residual.ensures
    (sym (slice_get-fetched_entries f.job f.object f.n 0 blocks c.args.place
    ∙ ap (option_map (fetched_entry f.job f.object f.n (0 + c.args.place))) (sym c.in_err-block.ensures)))

pub overflow_cast-result-2 : goal.overflow_cast-result-2
overflow_cast-result-2 c =
    let f = c.args.self.now in
    let b = f.blocks in
    let less : c.args.place / c.from-n.result < 2 ^ 32 = omega (
      arith,
      slice_get_within (blocks_in b) c.args.place _ (sym c.in_ok-block.ensures),
      length-present_blocks b.size b.present.items b.symbols.items,
      f.few,
      div-le_self c.args.place c.from-n.result,
    ) in
    Fits-of_lt less

pub returns : goal.returns
returns c =
    let f = c.args.self.now in
    let blocks = blocks_in f.blocks in
    sym (slice_get-fetched_entries f.job f.object f.n 0 blocks c.args.place
    ∙ (λ i. option_map (fetched_entry f.job f.object ((sym c.from-n.ensures) i) (zero-add c.args.place i))
    ((sym c.in_ok-block.ensures) i)))
