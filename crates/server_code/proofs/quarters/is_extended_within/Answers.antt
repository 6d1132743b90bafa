use Rattle.std.proofs.Common.{◌∙◌, sym, ap, replicate}
use Rattle.server_code.proofs.quarters.is_extended_within.Goals as goal

pub returns : goal.returns
returns c =
    let zeros = ap (λ n. replicate n 0) (c.sum_quarters.auto.sum ∙ c.requires.sum) in (
      (λ yes. sym c.sum_quarters.ensures ∙ c.are_zero.ensures.0 yes ∙ zeros),
      (λ is. c.are_zero.ensures.1 (c.sum_quarters.ensures ∙ is ∙ sym zeros)),
    )
