use Rattle.command_laws.proofs.PackEnds.{pack-done, pack-well, pack-order}
use Rattle.command_laws.proofs.Begun.{pack-begins}
use Rattle.command_laws.proofs.ends.packs_end_well.Goals as goal

pub returns-clause-done : goal.returns-clause-done
returns-clause-done c old new end A done = pack-done old new end A.0 done

pub returns-clause-ends_well : goal.returns-clause-ends_well
returns-clause-ends_well c records old new end A K begins disk sink =
    pack-well records old new end A.0 K begins disk sink

pub returns-clause-ends : goal.returns-clause-ends
returns-clause-ends c old new end A disk sink = pack-order old new end A.0 disk sink

pub returns-clause-begins : goal.returns-clause-begins
returns-clause-begins c = pack-begins
