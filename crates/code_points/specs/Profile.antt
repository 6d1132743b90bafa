use Rattle.std.specs.Prelude.{◌≡◌, ◌<◌, ℕ, List, length, slice_index}
use Rattle.code_defs.specs.Points.{upto, multiplier}
use Rattle.code_defs.specs.Profiles.{Profile as Plain}
use Rattle.code_points.specs.declared.profile.Profile.{Profile}

-- a profile as the definitions of the codes see it
abbrev pub plain_profile : Profile → Plain
plain_profile profile = record { size = profile.size; keep = profile.keep; fix = profile.fix }

-- the numbers are the multipliers of the first `keep` points among these, in order
pub record AreKeptMultipliers (keep : ℕ) (numbers : List ℕ) : Type 0 where
  pub full : length numbers ≡ keep
  pub each : (k : ℕ) → k < keep → slice_index numbers k ≡ multiplier k (upto keep)
