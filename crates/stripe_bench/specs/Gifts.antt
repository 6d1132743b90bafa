-- What fetches gave of the stripe in work, as the machine keeps it.
--
--   fetched_gifts o s c blocks older == what was given, after what is older, once fetches from provider c on
--                                       gave these blocks of a stripe
use Rattle.std.specs.Prelude.{ℕ, ◌+◌, List, [], ◌∷◌, Option}
use Rattle.machine_defs.specs.Jobs.{Given, Fetched}

-- what was given, once fetches from provider c on gave these blocks of a stripe
abbrev pub fetched_gifts : ℕ → ℕ → ℕ → List (Option (List ℕ)) → List Given → List Given
fetched_gifts o s c [] older = older
fetched_gifts o s c (block ∷ blocks) older = fetched_gifts o s (c + 1) blocks (Fetched c o s block ∷ older)
