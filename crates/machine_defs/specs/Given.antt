-- What the steps of a job gave, looked up by what they were for. Lists of what was given have the newest
-- first.
--
--   block_given given object stripe j        == what the newest such fetch gave; None also where there was
--                                          none
--   blocks_given given n object stripe       == the same of the n providers, in order
--   answer_given, answers_given              == the same of the asks in a round
--   symbols_given given object stripe        == what the newest work on a stripe gave; no symbols where
--                                          there was none
--   file_given s given f                     == the bytes of a file that the work on all its stripes gave
--   pinned_profile other pinned id           == the profile of the file of a number among those that a job
--                                          works on; the other one where it works on none of that number
--   pinned_size pinned id                    == the length of the file of a number among those that a job
--                                          works on
use Rattle.std.specs.Prelude.{ℕ, ◌==◌, ◌&&◌, List, [], ◌∷◌, length, map, take, Option, None, if◌then◌else◌}
use Rattle.std.specs.List.{flat_map}
use Rattle.code_defs.specs.Points.{upto}
use Rattle.column_defs.specs.Objects.{bytes_of_symbols}
use Rattle.record_defs.specs.Records.{Setup}
use Rattle.machine_defs.specs.Jobs.{Pinned, Given, Fetched, Answered, Worked}
use Rattle.machine_defs.specs.Setups.{pinned_stripes}

-- the block that a fetch from a provider gave
abbrev pub block_given : List Given → ℕ → ℕ → ℕ → Option (List ℕ)
block_given [] object stripe j = None
block_given (Fetched k o s block ∷ more) object stripe j =
    if (k == j) && (o == object) && (s == stripe) then block else block_given more object stripe j
block_given (other ∷ more) object stripe j = block_given more object stripe j

-- the blocks that all n providers gave of a stripe
abbrev pub blocks_given : List Given → ℕ → ℕ → ℕ → List (Option (List ℕ))
blocks_given given n object stripe = map (block_given given object stripe) (upto n)

-- the answer that an ask of a provider gave
abbrev pub answer_given : List Given → ℕ → ℕ → ℕ → Option ℕ
answer_given [] object round j = None
answer_given (Answered k o r symbol ∷ more) object round j =
    if (k == j) && (o == object) && (r == round) then symbol else answer_given more object round j
answer_given (other ∷ more) object round j = answer_given more object round j

-- the answers that all n providers gave in a round
abbrev pub answers_given : List Given → ℕ → ℕ → ℕ → List (Option ℕ)
answers_given given n object round = map (answer_given given object round) (upto n)

-- the symbols that the work on a stripe gave
abbrev pub symbols_given : List Given → ℕ → ℕ → List ℕ
symbols_given [] object stripe = []
symbols_given (Worked o s symbols ∷ more) object stripe =
    if (o == object) && (s == stripe) then symbols else symbols_given more object stripe
symbols_given (other ∷ more) object stripe = symbols_given more object stripe

-- the bytes of a file that the work on all its stripes gave
abbrev pub file_given : Setup → List Given → Pinned → List ℕ
file_given s given f =
    take (length f.bytes) (flat_map (λ stripe. bytes_of_symbols (symbols_given given f.id stripe))
    (upto (pinned_stripes s f)))

-- the length of the file of a number among those that a job works on
abbrev pub pinned_size : List Pinned → ℕ → ℕ
pinned_size [] id = 0
pinned_size (f ∷ fs) id = if f.id == id then length f.bytes else pinned_size fs id

-- the profile of the file of a number among those that a job works on
abbrev pub pinned_profile : ℕ → List Pinned → ℕ → ℕ
pinned_profile other [] id = other
pinned_profile other (f ∷ fs) id = if f.id == id then f.profile else pinned_profile other fs id
