use Rattle.provider_wire.proofs.Words.{◌≡◌, ◌+◌, ◌*◌, length, take, ap, ◌∙◌, arith, length-append, bytes_of_symbols, length-symbol}
use Rattle.provider_wire.proofs.Symbols.{length-front, pushed_more}
use Rattle.provider_wire.proofs.piece.Piece.push_symbols.Goals as goal

pub push-requires : goal.push-requires
push-requires c =
    let symbols = c.args.symbols.now in
    let i = c.loop-symbol.symbol-index in
    let front = bytes_of_symbols (take i symbols) in
    let size : length front ≡ 16 * i = length-front symbols i (omega arith) in
    let now : length c.loop-symbol.self ≡ length c.args.self.now + length front =
    ap length c.loop-symbol.invariant ∙ length-append c.args.self.now front in
    let more : length c.to_bytes.result ≡ 16 = ap length c.to_bytes.ensures
    ∙ length-symbol c.symbol-item.result in
    omega (arith, size, now, more)

pub loop-symbol-preserved : goal.loop-symbol-preserved
loop-symbol-preserved c = pushed_more c.args.self.now c.loop-symbol.self c.push.new.self c.args.symbols.now
    c.to_bytes.result c.loop-symbol.symbol-index c.symbol-item.result c.loop-symbol-test.true c.symbol-item.is
    c.to_bytes.ensures c.loop-symbol.invariant c.push.ensures
