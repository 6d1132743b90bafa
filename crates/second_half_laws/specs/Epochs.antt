-- Marks that move.
--
--   moved_mark k from mark  == the mark that was one up to so many moments, and from then on is this moment
use Rattle.std.specs.Prelude.{ℕ, length, nat_le, if◌then◌else◌}
use Rattle.machine_defs.specs.Calm.{Mark}

-- a mark up to so many moments, and from then on this moment
abbrev pub moved_mark : ℕ → ℕ → Mark → Mark
moved_mark k from mark ms = if nat_le k (length ms) then from else mark ms
