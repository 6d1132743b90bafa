use Rattle.provider_wire.proofs.OneEnd.{of_all_bytes}
use Rattle.provider_wire.proofs.laws.ends_are_of_all_bytes.Goals as goal

pub returns : goal.returns
returns c = λ bytes end left was now old new served is. of_all_bytes bytes left was now old new end served is
