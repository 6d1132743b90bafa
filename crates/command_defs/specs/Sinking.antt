-- How a command ended, with what it left in its sink. The statuses are those of the program.
--
--   Sinking                        == what a sink told and counted, before and after
--   Refuses due status sink        == nothing was written, and the status is the one due, or that of no
--                                     memory
--   WritesLine line status sink    == the line was written at status 0; a counted fault of the sink, where it
--                                     is not empty, or want of memory cut it off
--   TellsLine due line status sink == the line was written at the status due, unless a counted fault, or want
--                                     of memory, cut it off
use Rattle.std.specs.Prelude.{◌≡◌, ◌≢◌, ◌⊎◌, ℕ, List, [], Option}
use Rattle.device_defs.specs.Faults.{Rose}
use Rattle.device_defs.specs.Told.{told_then, TakesFront}

-- what a sink told and counted, before and after
pub record Sinking : Type 0 where
  pub old : Option (List ℕ)
  pub new : Option (List ℕ)
  pub before : ℕ
  pub now : ℕ

-- nothing was written, and the status is the one due, or that of no memory
abbrev pub Refuses : ℕ → ℕ → Sinking → Type 0
Refuses due status sink = ((status ≡ due) ⊎ (status ≡ 70)) × (sink.new ≡ sink.old)

-- the line was written; or a counted fault of the sink, or want of memory, cut it off
abbrev pub WritesLine : List ℕ → ℕ → Sinking → Type 0
WritesLine line status sink =
    ((status ≡ 0) × (sink.new ≡ told_then sink.old line))
    ⊎ ((line ≢ []) × (status ≡ 15) × Rose sink.before sink.now × TakesFront sink.old sink.new line)
    ⊎ ((status ≡ 70) × TakesFront sink.old sink.new line)

-- the line was written, unless a counted fault of the sink, or want of memory, cut it off; a fault leaves
-- the status due
abbrev pub TellsLine : ℕ → List ℕ → ℕ → Sinking → Type 0
TellsLine due line status sink =
    ((status ≡ due) × (sink.new ≡ told_then sink.old line))
    ⊎ ((status ≡ due) × Rose sink.before sink.now × TakesFront sink.old sink.new line)
    ⊎ ((status ≡ 70) × TakesFront sink.old sink.new line)
