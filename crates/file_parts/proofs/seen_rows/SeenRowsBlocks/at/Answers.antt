use Rattle.std.proofs.Common.{ℕ, ◌≡◌, arith, sym, ap, ◌∙◌, ◌+◌, ◌*◌, Some}
use Rattle.column_defs.specs.Challenges.{symbol_at}
use Rattle.file_parts.specs.SeenRows.{seen_symbol, seen_blocks}
use Rattle.file_parts.proofs.SeenLemmas.{symbol_at-map, symbol_at-other}
use Rattle.file_parts.proofs.seen_rows.SeenRowsBlocks.at.Goals as goal

pub returns-then-size-self : goal.returns-then-size-self
returns-then-size-self c = sym (symbol_at-other (λ place. seen_symbol c.args.self.now.rows.now
    (c.args.stripe * c.args.self.now.size + place)) c.args.self.now.size c.args.size c.args.place
    c.if-size-self.true)

pub returns : goal.returns
returns c =
    let read : ℕ → ℕ = seen_symbol c.args.self.now.rows.now in
    let size = c.args.self.now.size in
    let row : c.from.result * c.from-2.result + c.from-3.result ≡ c.args.stripe * size + c.args.place =
    cc (c.from.ensures, c.from-2.ensures, c.from-3.ensures, c.if-size-self.false) in
    ap (λ (x : ℕ). Some x) (c.symbol_in.ensures ∙ ap read row)
    ∙ sym (symbol_at-map (λ place. read (c.args.stripe * size + place)) size c.args.place (omega arith))
    ∙ ap (λ (n : ℕ). symbol_at n c.args.place (seen_blocks size c.args.self.now.rows.now c.args.stripe))
    (sym c.if-size-self.false)
