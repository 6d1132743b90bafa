use Rattle.machine_defs.proofs.Words.{refl, inl}
use Rattle.std.specs.Prelude.{None}
use Rattle.machine_defs.proofs.runs.openings_find_no_memory.Goals as goal

pub returns : goal.returns
returns c = record { reopening = refl; init = (None, inl refl, refl) }
