use Rattle.std.proofs.Common.{arith}
use Rattle.file_parts.proofs.LeftLemmas.{is_what_is_left}
use Rattle.file_parts.proofs.transfer.given_into.Goals as goal

pub returns : goal.returns
returns g c = is_what_is_left _ _ c.fill.new.out c.args.bytes.now c.in_ok-n.n c.are_same.result
    (omega (arith, c.in_ok-n.ensures.at_most, c.fill.auto.out)) (omega (arith, c.fill.auto.out, c.requires))
    c.in_ok-n.ensures.given (λ less. c.in_ok-n.ensures.as_many (omega (arith, less, c.fill.auto.out)))
    c.are_same.ensures
