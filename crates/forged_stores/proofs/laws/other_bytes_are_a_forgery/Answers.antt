use Rattle.forged_stores.proofs.Forged.{other-forged}
use Rattle.forged_stores.proofs.laws.other_bytes_are_a_forgery.Goals as goal

pub returns : goal.returns
returns c s old new end cells written =
    other-forged s old new end cells written c.gets_give_the_file.ensures.forged
