use Rattle.vault.proofs.Words.{◌≡◌, ℕ, ◌+◌, List, ◌++◌, take, ap, sym, ◌∙◌, append_assoc, arith, length-append, w128, to_le_bytes, bytes_of_symbols, length-symbol, bytes_of_symbols-more}
use Rattle.std.proofs.Common.{length}
use Rattle.vault.proofs.work.push_symbols.Goals as goal

pub loop-symbol-preserved : goal.loop-symbol-preserved
loop-symbol-preserved c =
    let i = c.loop-symbol.invariant in
    let e = c.push_bytes.ensures in
    let old = c.args.bytes.now.items in
    let part = bytes_of_symbols (take c.loop-symbol.symbol-index c.args.symbols.now) in
    let more = bytes_of_symbols-more c.args.symbols.now c.loop-symbol.symbol-index c.symbol-item.result
    c.loop-symbol-test.true c.symbol-item.is in
    let long : length c.to_bytes.result ≡ 16 = ap length c.to_bytes.ensures
    ∙ length-symbol c.symbol-item.result in
    let grown : length c.push_bytes.new.bytes.items
    ≡ length c.loop-symbol.bytes.items + length c.to_bytes.result = ap length e.pushed
    ∙ length-append c.loop-symbol.bytes.items c.to_bytes.result in
    record {
      so_far = e.pushed ∙ (λ k. i.so_far k ++ c.to_bytes.ensures k)
          ∙ append_assoc old part (to_le_bytes w128 c.symbol-item.result)
          ∙ ap (λ (l : List ℕ). old ++ l) (sym more);
      size = omega (arith, i.size, long, grown, c.push_bytes.new.bytes.ok.0, c.loop-symbol.bytes.ok.0);
      grown = omega (arith, i.grown, e.capacity);
    }
