use Rattle.code_defs.specs.Points.{upto}
use Rattle.effect_laws.proofs.Named.{one_of, either_of, list_of}
use Rattle.effect_laws.proofs.counts.named_providers_are_few.Goals as goal

pub returns : goal.returns
returns c = record {
  one = λ n j. one_of j 0 n;
  list = λ n ps. list_of ps 0 n;
  either = λ n p q. either_of p q (upto n);
}
