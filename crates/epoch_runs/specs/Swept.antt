-- A run in which a scrub ended well, and another provider is damaged behind it.
--
--   altered, robbed  == provider 0, of which a symbol is altered, and provider 1, which loses its block
--   HasSwept ms  == these moments are a run; its front ends with a scrub that ended well, up to whose end provider 0
--                   alone was damaged, and since whose begin provider 1 alone is; so they are calm, counted from
--                   finished scrubs, the scrub's begin was the mark at its end, and each provider but 1 holds its own
--                   blocks exactly
use Rattle.std.specs.Prelude.{◌≡◌, ◌≤◌, ℕ, List, [], ◌∷◌, ◌++◌, length}
use Rattle.machine_defs.specs.Damaged.{DamagesOnly}
use Rattle.machine_defs.specs.Examples.{set_up}
use Rattle.machine_defs.specs.Halves.{AllTell}
use Rattle.machine_defs.specs.Runs.{Moment, IsRun, now}
use Rattle.machine_defs.specs.Scrubs.{IsScrubCalm, scrubbed}
use Rattle.machine_defs.specs.States.{IsStart, setup_in}
use Rattle.epoch_laws.specs.Epochs.{IsSwept, AreExactBut}

-- who is damaged before the scrub, and who behind it
abbrev pub altered : List ℕ
altered = 0 ∷ []

abbrev pub robbed : List ℕ
robbed = 1 ∷ []

-- a scrub ended well among these moments, and another provider is damaged behind it
pub record HasSwept (ms : List Moment) : Type 0 where
  pub clean : IsStart set_up × AllTell set_up
  pub run : IsRun 8 set_up ms
  pub later : List Moment
  pub recent : List Moment
  pub older : List Moment
  pub split : ms ≡ later ++ (recent ++ older)
  pub swept : IsSwept older (recent ++ older)
  pub before : DamagesOnly altered (recent ++ older)
      × (length altered ≤ (setup_in (now set_up (recent ++ older))).b)
  pub since : DamagesOnly robbed (later ++ recent) × (length robbed ≤ (setup_in (now set_up ms)).b)
  pub mark : scrubbed set_up (recent ++ older) ≡ length older
  pub calm : IsScrubCalm set_up ms
  pub exact : AreExactBut robbed (now set_up ms)
