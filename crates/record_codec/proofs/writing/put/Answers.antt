use Rattle.std.proofs.Common.{ℕ, List, ◌+◌, ◌-◌, ◌++◌, ◌∙◌, ap, arith, length, take}
use Rattle.std.proofs.lemmas.Slice.{take-put_mid}
use Rattle.record_codec.proofs.writing.put.Goals as goal

-- the piece stands behind what was written
pub returns-clause-front : goal.returns-clause-front
returns-clause-front c =
    let at = c.args.at in
    let out = c.args.out.now in
    take-put_mid at (at + length c.args.piece.now - at) out c.copy_from_slice.new.self
    (at + length c.args.piece.now)
    (omega (arith, ap length c.copy_from_slice.ensures.after)) (omega arith)
    ∙ ap (λ (piece : List ℕ). take at out ++ piece) c.copy_from_slice.ensures.after
