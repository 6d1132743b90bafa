-- How much of a source was taken, also where no more came.
use Rattle.hail_top.proofs.Words.{◌≡◌, ℕ, ◌+◌, ◌≤◌, List, ◌++◌, length, take, arith, length-append, length-take, then_told, ReadsAtMost, told-on}
use Rattle.std.proofs.Common.{Option}
use Rattle.std.proofs.Math.Nat.{min-le_left}

-- these bytes were taken before, and so many came now
pub more-taken : (most count : ℕ) (old mid new : Option (List ℕ)) (bytes out : List ℕ) →
    old ≡ then_told bytes mid → mid ≡ then_told (take count out) new → length bytes + count ≤ most →
    ReadsAtMost most old new
more-taken most count old mid new bytes out before now few = record {
  bytes = bytes ++ take count out;
  front = told-on old mid new bytes (take count out) before now;
  few = (let a = length-append bytes (take count out) in let b = length-take count out in
      let c = min-le_left count (length out) in omega (arith, a, b, c, few));
}
