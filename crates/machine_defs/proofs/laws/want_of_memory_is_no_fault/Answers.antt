use Rattle.machine_defs.proofs.Uncounted.{memory_counts_none, reopenings_count_none, inits_count_none}
use Rattle.machine_defs.proofs.laws.want_of_memory_is_no_fault.Goals as goal

pub returns : goal.returns
returns c = record {
  steps = λ limit moment old new number count h. memory_counts_none limit moment old new number h count;
  reopenings = λ limit moment old new count h. reopenings_count_none limit moment old new h count;
  inits = λ limit moment old new s count h. inits_count_none limit moment old new s h count;
}
