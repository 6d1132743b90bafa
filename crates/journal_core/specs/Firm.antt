-- Which bytes of a disk are firm.
use Rattle.std.specs.Prelude.{◌≡◌, ◌<◌, ℕ, false, drop}
use Rattle.device_defs.specs.Cells.{Cells, is_loose_at}

-- no byte from an offset on, so many, is loose
abbrev pub AreFirm : ℕ → ℕ → Cells → Type 0
AreFirm at n cells = (k : ℕ) → k < n → is_loose_at (drop at cells) k ≡ false
