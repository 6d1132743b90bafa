-- A list that is filled from the front by what is read.
use Rattle.std.specs.Prelude.{ℕ, ◌+◌, ◌≤◌, List, ◌++◌, length, take, Option}
use Rattle.std.specs.Io.KnownBytes.{Consumes}
use Rattle.std.proofs.Common.{arith, sym, subst, length-append, length-take-le}
use Rattle.std.proofs.KnownBytes.{Consumes-trans}
use Rattle.algebra_laws.proofs.Lists.{take-put_mid_behind}
use borrow.Rule.Slice.PartMut.{put_mid, post_of}

-- there is room for both
pub filled_within : (out part : List ℕ) (at k n : ℕ) → at ≤ length out →
    n ≤ length part → at + n ≤ length (put_mid at k out part)
filled_within out part at k n within fits = omega (
  arith,
  length-append (take at out) (part ++ post_of at k out),
  length-append part (post_of at k out),
  length-take-le at out within,
)

-- what was read behind a front that was read
pub Consumes-filled : (a b c : Option (List ℕ)) (out part : List ℕ) (at k n : ℕ) → at ≤ length out →
    n ≤ length part → Consumes a b (take at out) → Consumes b c (take n part) →
    Consumes a c (take (at + n) (put_mid at k out part))
Consumes-filled a b c out part at k n within fits first second =
    subst (Consumes a c) (sym (take-put_mid_behind out part at k n within fits))
    (Consumes-trans a b c (take at out) (take n part) first second)
