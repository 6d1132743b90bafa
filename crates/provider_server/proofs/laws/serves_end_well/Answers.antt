use Rattle.provider_server.proofs.EndsWell.{ends-well}
use Rattle.provider_server.proofs.laws.serves_end_well.Goals as goal

pub returns : goal.returns
returns c = λ number bytes requests old new end answers handed source frames few reads writes.
    ends-well c.ends_are_of_all_bytes.ensures c.bytes_have_one_end.ensures number bytes requests old new end
    handed source frames few reads writes answers
