-- Texts with scrubs: the line of a scrub that ended well tells the stripes and the symbols that it found, and
-- leaves its blocks out.
--
--   IsToldButBlocks outcome   == the lines of an outcome tell it, but for what a list leaves out, and a scrub
--   IsButBlocks outcome told  == an outcome is this one, but for the blocks of a scrub
--   AreButBlocks outcomes told  == so is each of some
use Rattle.std.specs.Prelude.{◌≡◌, ℕ, ◌<◌, ◌^◌, List, [], ◌∷◌}
use Rattle.std.specs.List.{AllByRecursion}
use Rattle.machine_defs.specs.Answers.{Scrubbed}
use Rattle.machine_defs.specs.Events.{Outcome, Ended}
use Rattle.effect_laws.specs.Lists.{IsToldByLines}

-- the lines of an outcome tell it, but for what a list leaves out, and a scrub
abbrev pub IsToldButBlocks : Outcome → Type 0
IsToldButBlocks (Ended (Scrubbed stripes symbols blocks)) =
    (stripes < 2 ^ 64) × AllByRecursion (λ n. n < 2 ^ 64) symbols
IsToldButBlocks outcome = IsToldByLines outcome

-- an outcome is this one, but for the blocks of a scrub
abbrev pub IsButBlocks : Outcome → Outcome → Type 0
IsButBlocks r (Ended (Scrubbed stripes symbols blocks)) =
    (own : List ℕ) × (r ≡ Ended (Scrubbed stripes symbols own))
IsButBlocks r told = r ≡ told

-- so is each of some
abbrev pub AreButBlocks : List Outcome → List Outcome → Type 0
AreButBlocks [] [] = Unit {0}
AreButBlocks (r ∷ rs) (s ∷ ss) = IsButBlocks r s × AreButBlocks rs ss
AreButBlocks rs ss = ⊥
