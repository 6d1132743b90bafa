-- What providers gave, beside what they hold.
--
--   missing given held asked               == to how many of these questions nothing was given though
--                                             something was held
--   IsTruthful given held asked before now == to each question what is held was given, or nothing; and
--                                             nothing, though something was held, at most as often as the
--                                             count of faults rose, where it ends below its last value
use Rattle.std.specs.Prelude.{◌≡◌, ◌⊎◌, ℕ, ◌+◌, ◌<◌, ◌≤◌, ◌&&◌, List, [], ◌∷◌, All, Option, None, is_some, is_none, if◌then◌else◌}
use Rattle.device_defs.specs.Faults.{last_count}

-- to how many questions nothing was given though something was held
abbrev pub missing : {A B : Type 0} → (A → Option B) → (A → Option B) → List A → ℕ
missing given held [] = 0
missing given held (x ∷ xs) = (if is_none (given x) && is_some (held x) then 1 else 0) + missing given held xs

-- what was given is what is held, or nothing; this where something is held at most as often as the count rose
pub record IsTruthful {A B : Type 0} (given held : A → Option B) (asked : List A)
    (before now : ℕ) : Type 0 where
  pub each : All (λ x. (given x ≡ held x) ⊎ (given x ≡ None)) asked
  pub few : now < last_count → before + missing given held asked ≤ now
