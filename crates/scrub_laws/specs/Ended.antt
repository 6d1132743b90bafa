-- How a scrub ends that ran alone.
--
--   IsPastScrub w new == providers may hold and count otherwise, and a job number is used; all else of the
--                        state is as at its begin
--   IsOfScrub answer  == an answer that ends a scrub
use Rattle.std.specs.Prelude.{◌≡◌, ◌+◌, None}
use Rattle.machine_defs.specs.Answers.{Answer, Scrubbed, Lost, ProviderFault, Memory}
use Rattle.machine_defs.specs.States.{State}

-- providers may be otherwise, and a job number is used; nothing runs alone any more
abbrev pub IsPastScrub : State → State → Type 0
IsPastScrub w new =
    new ≡ record w { alone = None; next_job = w.next_job + 1; providers = new.providers }

-- an answer that ends a scrub
abbrev pub IsOfScrub : Answer → Type 0
IsOfScrub (Scrubbed stripes symbols blocks) = Unit {0}
IsOfScrub (Lost stripe row) = Unit {0}
IsOfScrub (ProviderFault provider) = Unit {0}
IsOfScrub Memory = Unit {0}
IsOfScrub answer = ⊥
