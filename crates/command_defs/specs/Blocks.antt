-- How what a provider holds goes in the commands.
--
--   GoesAway object rose old new          == an object's blocks are gone; where the count of faults rose,
--                                            some may still be there
--   StoredOn o bytes older rose j old new == provider j holds its column of a file in every stripe, the older
--                                            object's blocks are gone, and all else is as before
--   PartlyStored o bytes j old new        == some blocks of a file were stored, and all else is as before
--   DroppedFrom object rose old new       == an object's blocks are gone, and all else is as before
use Rattle.std.specs.Prelude.{◌≡◌, ◌≢◌, ◌⊎◌, ℕ, ◌<◌, ◌≤◌, List, length, Option, None, Some, IfSome}
use Rattle.column_defs.specs.Objects.{Object, stripes}
use Rattle.column_defs.specs.Columns.{columns}
use Rattle.device_defs.specs.Providers.{Held}
use Rattle.record_defs.specs.Table.{File}

-- an object's blocks are gone, or, where the count of faults rose, some of them still there
abbrev pub GoesAway : ℕ → Type 0 → Held → Held → Type 0
GoesAway object rose old new =
    (stripe : ℕ) → (new object stripe ≡ None) ⊎ (rose × (new object stripe ≡ old object stripe))

-- an object is none of a file's, and not that of an older file
pub record IsElsewhere (object stripe id count : ℕ) (older : Option File) : Type 0 where
  pub stored : object ≡ id → count ≤ stripe
  pub removed : IfSome older (λ f. object ≢ f.id)

-- a file was stored on a provider, and an older one taken away
pub record StoredOn (o : Object) (bytes : List ℕ) (older : Option File) (rose : Type 0) (j : ℕ)
    (old new : Held) : Type 0 where
  pub stored : (stripe : ℕ) → stripe < stripes o (length bytes)
      → new o.id stripe ≡ Some (columns o bytes j stripe)
  pub removed : IfSome older (λ f. GoesAway f.id rose old new)
  pub others : (object stripe : ℕ) → IsElsewhere object stripe o.id (stripes o (length bytes)) older
      → new object stripe ≡ old object stripe

-- some blocks of a file were stored on a provider
pub record PartlyStored (o : Object) (bytes : List ℕ) (j : ℕ) (old new : Held) : Type 0 where
  pub stored : (stripe : ℕ) → (new o.id stripe ≡ old o.id stripe)
      ⊎ (new o.id stripe ≡ Some (columns o bytes j stripe))
  pub others : (object stripe : ℕ) → object ≢ o.id → new object stripe ≡ old object stripe

-- a file was taken away from a provider
pub record DroppedFrom (object : ℕ) (rose : Type 0) (old new : Held) : Type 0 where
  pub gone : GoesAway object rose old new
  pub others : (other stripe : ℕ) → other ≢ object → new other stripe ≡ old other stripe
