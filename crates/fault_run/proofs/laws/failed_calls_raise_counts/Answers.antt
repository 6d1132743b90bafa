use Rattle.fault_run.proofs.Points.{counted}
use Rattle.fault_run.proofs.laws.failed_calls_raise_counts.Goals as goal

pub returns : goal.returns
returns c = let law = c.failed_calls_are_counted.ensures in record {
  fetch = λ ms f h. counted law ms f h.fetch_fails;
  store = λ ms f h. counted law ms f h.store_fails;
  sync = λ ms f h. counted law ms f h.sync_fails;
  reopening = λ ms f h. counted law ms f h.reopening_fails;
  ask = λ ms f h. counted law ms f h.ask_fails;
  removal = λ ms f h. counted law ms f h.removal_fails;
}
