use Rattle.hail_scrub.proofs.Starts.{hold_begins, new_begun, held_stands, held_beside}
use Rattle.hail_scrub.proofs.laws.scrubs_begin.Goals as goal

pub returns-clause-happens : goal.returns-clause-happens
returns-clause-happens c = hold_begins

pub returns-clause-begun : goal.returns-clause-begun
returns-clause-begun c = new_begun

pub returns-clause-stands : goal.returns-clause-stands
returns-clause-stands c = held_stands

pub returns-clause-beside : goal.returns-clause-beside
returns-clause-beside c = held_beside
