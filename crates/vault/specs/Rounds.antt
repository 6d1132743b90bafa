-- The rounds of an audit, one after the other.
--
--   Round                           == a round of a file
--   rounds_in s fs                  == the rounds of these files, in order
--   JudgesEach s job rounds old new == these rounds, judged one after the other, turn the old sums into the
--                                      new ones
--   rounds_after n x xs c           == the rounds that still have asks behind that of provider c in round x
--   asked_after n c                 == the provider that is asked after provider c
--   AsksOn n rounds c rest          == the asks that are left are those of these rounds, from provider c on
--                                      in the first of them
use Rattle.std.specs.Prelude.{◌≡◌, ℕ, ◌+◌, ◌==◌, List, [], ◌∷◌, length, map, if◌then◌else◌}
use Rattle.std.specs.List.{flat_map}
use Rattle.column_defs.specs.Verdicts.{Sums}
use Rattle.record_defs.specs.Records.{Setup}
use Rattle.machine_defs.specs.Jobs.{Pinned, Job}
use Rattle.machine_defs.specs.Setups.{profiled}
use Rattle.machine_defs.specs.Actions.{Action, Ask, End, rounds_of}
use Rattle.machine_defs.specs.Audits.{JudgesRound}

-- a round of a file
pub record Round : Type 0 where
  pub file : Pinned
  pub number : ℕ

-- the rounds of files, in order
abbrev pub rounds_in : Setup → List Pinned → List Round
rounds_in s fs =
    flat_map (λ (f : Pinned). map (λ r. record { file = f; number = r })
    (rounds_of (profiled s f.profile) (length f.bytes))) fs

-- rounds are judged one after the other
abbrev pub JudgesEach : Setup → Job → List Round → Sums → Sums → Type 0
JudgesEach s job [] old new = new ≡ old
JudgesEach s job (x ∷ xs) old new =
    (mid : Sums) × JudgesRound s job x.file x.number old mid × JudgesEach s job xs mid new

-- the rounds behind an ask of provider c in the first of these
abbrev pub rounds_after : ℕ → Round → List Round → ℕ → List Round
rounds_after n x xs c = if c + 1 == n then xs else x ∷ xs

-- the provider that is asked after provider c
abbrev pub asked_after : ℕ → ℕ → ℕ
asked_after n c = if c + 1 == n then 0 else c + 1

-- the asks that are left are those of these rounds, from provider c on in the first of them
abbrev pub AsksOn : ℕ → List Round → ℕ → List Action → Type 0
AsksOn n xs c [] = Unit {0}
AsksOn n [] c (Ask j o r ∷ rest) = ⊥
AsksOn n (x ∷ xs) c (Ask j o r ∷ rest) =
    (j ≡ c) × (o ≡ x.file.id) × (r ≡ x.number) × AsksOn n (rounds_after n x xs c) (asked_after n c) rest
AsksOn n xs c (End ∷ rest) = (xs ≡ []) × AsksOn n xs c rest
AsksOn n xs c (a ∷ rest) = AsksOn n xs c rest
