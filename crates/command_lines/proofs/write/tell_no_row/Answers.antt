use Rattle.std.proofs.Common.{inl, inr, refl, rules}
use Rattle.command_lines.proofs.write.tell_no_row.Goals as goal

pub returns-in-Ok-clause-tells : goal.returns-in-Ok-clause-tells
returns-in-Ok-clause-tells g c = inl (refl, search rules)

pub returns-in-Ok-2-clause-tells : goal.returns-in-Ok-2-clause-tells
returns-in-Ok-2-clause-tells g c =
    inr (inl (refl, c.in-Ok.ensures.cause.rose (search rules), c.in-Ok.ensures.err))
