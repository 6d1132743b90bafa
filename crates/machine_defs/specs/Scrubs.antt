-- Finished scrubs as marks, and runs that are calm counted from them.
--
--   scrubbed start ms     == the begin of the last scrub that ended Ok, or 0, the start of the run
--   IsScrubCalm start ms  == calm from finished scrubs, for gets, repairs and scrubs
use Rattle.std.specs.Prelude.{◌≡◌, ℕ, ◌≤◌, List, [], ◌∷◌, Option, None, Some}
use Rattle.machine_defs.specs.Answers.{Scrubbed}
use Rattle.machine_defs.specs.Events.{Outcome, Ended}
use Rattle.machine_defs.specs.States.{State, Scrub, Alone, Scrubbing, Packing, setup_in}
use Rattle.machine_defs.specs.Runs.{Moment, now, first_moments}
use Rattle.machine_defs.specs.Calm.{Mark, replaced_count, relies, IsCalm}

-- the begin of a scrub that runs, or else the mark before
abbrev pub scrub_begun : Option Alone → ℕ → ℕ
scrub_begun (Some (Scrubbing scrub)) before = scrub.begun
scrub_begun (Some (Packing pack)) before = before
scrub_begun None before = before

-- the mark after an event: the begin of the scrub that it ended Ok
abbrev pub mark_scrubbed : Option Alone → Outcome → ℕ → ℕ
mark_scrubbed alone (Ended (Scrubbed stripes symbols blocks)) before = scrub_begun alone before
mark_scrubbed alone outcome before = before

-- the begin of the last scrub that ended Ok
abbrev pub scrubbed : State → Mark
scrubbed start [] = 0
scrubbed start (m ∷ ms) = mark_scrubbed (now start ms).alone m.outcome (scrubbed start ms)

-- of a scrub that runs now, at most b providers were replaced since the mark as it stood at its begin
abbrev pub IsScrubCalmNow : Mark → List Moment → State → Type 0
IsScrubCalmNow mark ms w =
    (scrub : Scrub) → w.alone ≡ Some (Scrubbing scrub) →
    replaced_count w (mark (first_moments scrub.begun ms)) ms ≤ (setup_in w).b

-- so it is at each moment
abbrev pub AreScrubsCalm : Mark → List Moment → Type 0
AreScrubsCalm mark [] = Unit {0}
AreScrubsCalm mark (m ∷ ms) = IsScrubCalmNow mark (m ∷ ms) m.state × AreScrubsCalm mark ms

-- a run that is calm counted from finished scrubs
pub record IsScrubCalm (start : State) (ms : List Moment) : Type 0 where
  pub jobs : IsCalm relies (scrubbed start) ms
  pub scrubs : AreScrubsCalm (scrubbed start) ms
