-- How jobs end: Put, Got with the bytes, Dropped, Audited with the sums, Repaired, Upgraded, Lost at the
-- lowest row that was not accepted, a scrub with what it found, a pack with the two lengths of the text, or a
-- fault of a provider's store or of the disk, or want of memory.
use Rattle.std.specs.Prelude.{ℕ, List}

-- the answer of a job that ended
pub data Answer : Type 0 where
  Put : Answer
  Got : (bytes : List ℕ) → Answer
  Dropped : Answer
  Audited : (number undecided : ℕ) (counts : List ℕ) → Answer
  Repaired : (number : ℕ) → Answer
  Lost : (stripe row : ℕ) → Answer
  ProviderFault : (provider : ℕ) → Answer
  DiskFault : Answer
  Memory : Answer
  Upgraded : Answer
  Scrubbed : (stripes : ℕ) (symbols blocks : List ℕ) → Answer
  Packed : (before after : ℕ) → Answer
