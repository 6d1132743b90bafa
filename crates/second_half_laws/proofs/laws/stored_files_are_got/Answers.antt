use Rattle.second_half_laws.proofs.GetsByEvents.{stored_got, stored_begins}
use Rattle.second_half_laws.proofs.laws.stored_files_are_got.Goals as goal

pub returns-clause-ends : goal.returns-clause-ends
returns-clause-ends c limit mark start ms gaps b g get name bytes how h stored ends =
    stored_got limit mark start ms gaps b g get name bytes how h stored ends

pub returns-clause-begins : goal.returns-clause-begins
returns-clause-begins c limit start ms b name bytes why clean run stored event outcome =
    stored_begins limit start ms b name bytes why clean run stored event outcome
