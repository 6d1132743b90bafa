use Rattle.vault.proofs.Carried.{carried}
use Rattle.vault.proofs.laws.what_stands_is_carried.Goals as goal

pub returns : goal.returns
returns c = λ v d w stands. carried v.desk d w stands.desk
