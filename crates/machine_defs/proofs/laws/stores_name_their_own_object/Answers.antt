use Rattle.machine_defs.proofs.Uses.{stored_once}
use Rattle.machine_defs.proofs.laws.stores_name_their_own_object.Goals as goal

pub returns : goal.returns
returns c limit start ms begun other object clean run g h =
    stored_once limit start ms clean run begun other object g h
