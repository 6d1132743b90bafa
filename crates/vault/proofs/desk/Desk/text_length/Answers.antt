use Rattle.std.proofs.Common.{arith}
use Rattle.vault.proofs.PackBegins.{base-within}
use Rattle.vault.proofs.desk.Desk.text_length.Goals as goal

pub overflow_sub-result : goal.overflow_sub-result
overflow_sub-result c = omega (
  arith,
  base-within c.args.self.now c.requires,
  c.end-else-self-eq-FIRST_BASE.ensures.value,
)
