-- What bytes stand for, up to what a pack leaves out.
--
--   StandsAlike rs bytes == the bytes stand, in one of the two areas, for accepted records whose table is
--                           alike to that of these
use Rattle.std.specs.Prelude.{ℕ, List}
use Rattle.record_defs.specs.Records.{Record}
use Rattle.record_defs.specs.Acceptance.{AreAccepted}
use Rattle.record_defs.specs.Packed.{AreAlike}
use Rattle.record_defs.specs.Areas.{Area, StandsActive}

-- bytes stand for accepted records whose table is alike to that of these
pub record StandsAlike (rs : List Record) (bytes : List ℕ) : Type 0 where
  pub area : Area
  pub records : List Record
  pub stands : StandsActive bytes area records
  pub accepted : AreAccepted records
  pub alike : AreAlike records rs
