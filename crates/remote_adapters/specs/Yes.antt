-- Answers of stores, read over a link that tells what is behind it.
--
--   HearsYes n old new == the first n bytes that were due were read, and each was a yes
--   HearsEach n        == the same of a link that may tell nothing
use Rattle.std.specs.Prelude.{◌≡◌, ℕ, List, ◌++◌, length, Option}
use Rattle.std.specs.List.{All}
use Rattle.device_defs.specs.Told.{Goes}
use Rattle.wire_defs.specs.Links.{Behind, provider_behind}

-- the first n bytes that were due were read, and each was a yes
pub record HearsYes (n : ℕ) (old new : Behind) : Type 0 where
  pub said : List ℕ
  pub as_many : length said ≡ n
  pub yes : All (λ answer. answer ≡ 1) said
  pub due : old.due ≡ said ++ new.due
  pub provider : provider_behind new ≡ provider_behind old

-- the same of a link that may tell nothing
abbrev pub HearsEach : ℕ → Option Behind → Option Behind → Type 0
HearsEach n old new = Goes (HearsYes n) old new
