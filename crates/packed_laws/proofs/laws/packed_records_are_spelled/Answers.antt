use Rattle.packed_laws.proofs.Spelled.{packed-spelled, packed-size, packed-room}
use Rattle.packed_laws.proofs.laws.packed_records_are_spelled.Goals as goal

pub returns-clause-spelled : goal.returns-clause-spelled
returns-clause-spelled c = packed-spelled

pub returns-clause-short : goal.returns-clause-short
returns-clause-short c = packed-size

pub returns-clause-room : goal.returns-clause-room
returns-clause-room c = λ area rs a g. packed-room rs a g area
