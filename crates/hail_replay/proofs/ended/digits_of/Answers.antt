use Rattle.std.proofs.Common.{◌≡◌, IfOk, ℕ, List, subst, arith}
use Rattle.std.specs.String.{string_bytes}
use Rattle.hail_replay.proofs.Digits.{hex-is}
use Rattle.hail_replay.proofs.ended.digits_of.Goals as goal

pub returns : goal.returns
returns c = subst (λ (digits : List ℕ). IfOk c.encode.result (λ text. string_bytes text ≡ digits))
    (hex-is c.args.bytes.now (λ i. omega (arith, c.type_inv.bytes i))) c.encode.ensures
