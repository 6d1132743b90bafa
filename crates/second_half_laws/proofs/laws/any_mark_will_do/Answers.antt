use Rattle.second_half_laws.proofs.SecondHalf.{half_by_mark}
use Rattle.second_half_laws.proofs.laws.any_mark_will_do.Goals as goal

pub returns : goal.returns
returns c limit mark start ms h = half_by_mark limit mark start h.clean h.tell ms h.run h.calm h.marks
