-- What is read of a source for a stripe.
--
--   ReadsPiece before stripe count old new
--                                  == of a source of which so many bytes were read before, the next ones lie
--                                     at the front of a stripe: they fill it, or the source is at its end, or
--                                     they are more than a file may have
use Rattle.std.specs.Prelude.{◌≡◌, ℕ, ◌+◌, ◌<◌, ◌≤◌, List, [], length, take, Option, IfSome}
use Rattle.record_defs.specs.Records.{largest_file}
use Rattle.command_defs.specs.Seen.{ReadsFront}

-- so many next bytes lie at the front of a stripe
pub record ReadsPiece (before : ℕ) (stripe : List ℕ) (count : ℕ) (old new : Option (List ℕ)) : Type 0 where
  pub few : count ≤ length stripe
  pub limit : before + count ≤ largest_file + 1
  pub read : ReadsFront old new (take count stripe)
  pub end : count < length stripe → before + count ≤ largest_file → IfSome new (λ left. left ≡ [])
