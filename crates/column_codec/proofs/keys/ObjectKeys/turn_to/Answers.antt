use Rattle.std.proofs.Common.{◌≡◌, ◌-◌, ◌*◌, IfSome, List, ℕ, Option, length, subst, sym}
use Rattle.column_codec.proofs.KeptLemmas.{tabled-long}
use Rattle.column_codec.proofs.keys.ObjectKeys.turn_to.Goals as goal

pub turned-requires : goal.turned-requires
turned-requires c =
    let keys = c.args.self.now in
    let shape = keys.file.shape in
    subst (λ (tables : Option (List ℕ)). IfSome tables
    (λ all. length all ≡ (shape.n - shape.l) * (shape.l - 1))) (sym c.take.ensures.value)
    (tabled-long shape.n shape.l keys.weights keys.tables keys.are_tabled)
