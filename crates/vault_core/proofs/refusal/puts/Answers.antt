use Rattle.vault_core.proofs.Words.{◌∙◌, ap, sym, nat_eq, pointwise, puts_name, aim_of_wish}
use Rattle.vault_core.proofs.Refusals.{same-pointwise}
use Rattle.vault_core.proofs.refusal.puts.Goals as goal

pub returns-in-Put : goal.returns-in-Put
returns-in-Put c = c.eq.ensures
    ∙ (ap (λ xs. pointwise nat_eq xs c.as_bytes-in-Put.result.now) c.as_bytes.ensures.value
    ∙ (ap (pointwise nat_eq c.in-Put.own) c.as_bytes-in-Put.ensures.value
    ∙ (same-pointwise c.in-Put.own c.args.name.now
    ∙ ap (λ w. puts_name c.args.name.now (aim_of_wish w)) (sym c.in-Put.is))))
