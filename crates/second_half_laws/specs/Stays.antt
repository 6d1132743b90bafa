-- How blocks of files that are kept change.
--
--   IsRewritten old m j object stripe  == a running repair stored the block that its work on the stripe
--                                         gave on provider j
--   IsScrubbed old m j object stripe   == a scrub stored the block of the symbols that it opened the stripe
--                                         to on provider j
--   Stays old m j object stripe        == a moment after this state left provider j's block as it was, or
--                                         is a replacement of j, or a repair rewrote it
use Rattle.std.specs.Prelude.{◌≡◌, ◌⊎◌, ℕ, true, List, ◌∷◌, Some}
use Rattle.std.specs.Option.{option_map}
use Rattle.machine_defs.specs.Jobs.{RepairJob, Job, job_of}
use Rattle.machine_defs.specs.Actions.{Action, Store}
use Rattle.machine_defs.specs.States.{State, Scrub, Scrubbing}
use Rattle.machine_defs.specs.Alone.{block_to_scrub}
use Rattle.machine_defs.specs.Steps.{next_action, block_to_store}
use Rattle.machine_defs.specs.Runs.{Moment, is_replacement}
use Rattle.machine_defs.specs.Deeds.{told_block}

-- a running repair stored a block that its work gave
pub record IsRewritten (old : State) (m : Moment) (j object stripe : ℕ) : Type 0 where
  pub job : Job
  pub runs : job_of old.jobs job.number ≡ Some job
  pub repairs : job.kind ≡ RepairJob
  pub next : next_action old job ≡ Some (Store j object stripe)
  pub told : told_block m.state j object stripe
      ≡ option_map (λ held. Some (block_to_store old job RepairJob j object stripe)) (old.providers j).held

-- a scrub stored a block of the symbols that its opening gave
pub record IsScrubbed (old : State) (m : Moment) (j object stripe : ℕ) : Type 0 where
  pub scrub : Scrub
  pub runs : old.alone ≡ Some (Scrubbing scrub)
  pub rest : List Action
  pub next : scrub.todo ≡ Store j object stripe ∷ rest
  pub told : told_block m.state j object stripe
      ≡ option_map (λ held. Some (block_to_scrub old scrub j object stripe)) (old.providers j).held

-- a block stays as it is told, or its provider is replaced, or a repair rewrites it
abbrev pub Stays : State → Moment → ℕ → ℕ → ℕ → Type 0
Stays old m j object stripe = (told_block m.state j object stripe ≡ told_block old j object stripe)
    ⊎ ((is_replacement m.event m.outcome j ≡ true) ⊎ IsRewritten old m j object stripe)
