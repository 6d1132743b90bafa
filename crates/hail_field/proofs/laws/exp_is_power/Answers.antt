use Rattle.std.proofs.Common.{◌∙◌, sym}
use Rattle.hail_field.proofs.AllNumbers.{nim_pow_at}
use Rattle.hail_field.proofs.Table.{exp_at, generator-lt}
use Rattle.hail_field.proofs.laws.exp_is_power.Goals as goal

pub returns : goal.returns
returns c = exp_at c.args.exponent c.requires ∙ sym (nim_pow_at 3 18 c.args.exponent generator-lt)
