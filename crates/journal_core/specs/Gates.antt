-- The text of an area read gate by gate. Lists of records have the newest first.
--
--   IsReadIn bytes area rs gate     == from where an area begins, the bytes up to a gate are the text of these
--                                      records
--   TakesIn bytes area rs gate next == at a gate the area's text ends, or one more record stands, and the next
--                                      gate is here
--   StopsIn bytes area rs at        == behind these records of an area the bytes end at a gate, or no record
--                                      stands
use Rattle.std.specs.Prelude.{◌≡◌, ◌⊎◌, ℕ, ◌+◌, ◌<◌, ◌≤◌, IsTrue, List, ◌∷◌, ◌++◌, length, drop, Option, None, Some}
use Rattle.std.specs.List.{list_all}
use Rattle.record_defs.specs.Records.{Record as Entry, is_in_grammar}
use Rattle.record_defs.specs.Areas.{Area, base_of, entries, HoldsIn, EndsIn, BreaksIn}
use Rattle.record_codec.specs.declared.records.Record.{Record}
use Rattle.record_codec.specs.Entries.{entry_of, IsInGrammar}

-- from where an area begins, the bytes up to a gate are the text of records
pub record IsReadIn (bytes : List ℕ) (area : Area) (rs : List Entry) (gate : ℕ) : Type 0 where
  pub in_grammar : IsTrue (list_all is_in_grammar rs)
  pub behind : List ℕ
  pub bytes_are : drop (base_of area) bytes ≡ entries rs ++ behind
  pub gate_is : gate ≡ base_of area + length (entries rs)

-- an area's text ends at a gate, or one more record stands behind it, and then the next gate
abbrev pub TakesIn : List ℕ → Area → List Entry → ℕ → Option (Record × ℕ) → Type 0
TakesIn bytes area rs gate None = (gate < length bytes) × HoldsIn bytes area rs
TakesIn bytes area rs gate (Some found) =
    (gate < found.1) × (found.1 ≤ length bytes) × IsInGrammar found.0
    × IsReadIn bytes area (entry_of found.0 ∷ rs) found.1

-- behind records of an area the bytes end at a gate, or no record stands
abbrev pub StopsIn : List ℕ → Area → List Entry → ℕ → Type 0
StopsIn bytes area rs at =
    ((e : EndsIn bytes area at) × (e.records ≡ rs)) ⊎ ((b : BreaksIn bytes area at) × (b.records ≡ rs))
