-- A vault was opened for a command.
use Rattle.hail_top.proofs.Words.{◌≡◌, ℕ, ◌≤◌, List, length, subst, arith, Record, Area, Seen, NoCountFalls, setup_in_effect, IsOpened, IsReadFor, NoFaultUndone}

-- the records are read, and enough providers are handed in
abbrev pub opened-read : (old : Seen) (area : Area) (records : List Record) (handed : ℕ) →
    handed ≡ length old.providers → IsReadFor old.disk area records handed → IsOpened old records
opened-read old area records handed as_many for = record {
  area = area;
  read = for.read;
  enough = subst (λ (n : ℕ). (setup_in_effect records).n ≤ n) as_many for.enough;
}

-- no count falls where none of the disk or of a provider does, nor of the streams
pub no_count_falls : (old new : Seen) → NoFaultUndone old new → old.source_faults ≤ new.source_faults →
    old.sink_faults ≤ new.sink_faults → NoCountFalls old new
no_count_falls old new counts source sink = record {
  disk = counts.disk;
  handed = counts.handed;
  stores = counts.stores;
  others = counts.others;
  source = source;
  sink = sink;
}

-- a count that stands still
pub still : (n : ℕ) → n ≤ n
still n = omega arith
