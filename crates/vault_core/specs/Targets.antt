-- The tasks of a job, by its plan.
--
--   targets_of w profile subject pins == the files on whose stripes a job of this wish works: a put on its
--                                        own, under its number
--   turns_for s w f                   == how often it works on a file: at each stripe, or in each round where
--                                        there is a stripe
--   tasks_made f pins                 == the tasks of files: those with something to do
use Rattle.std.specs.Prelude.{ℕ, ◌==◌, List, [], ◌∷◌, nat_lt, if◌then◌else◌}
use Rattle.record_defs.specs.Records.{Setup}
use Rattle.machine_defs.specs.Setups.{profiled, stripes_of}
use Rattle.vault_core.specs.declared.pinned.Pinned.{Pinned}
use Rattle.vault_core.specs.declared.wish.Wish.{Wish}
use Rattle.vault_core.specs.declared.wish.Wish.TheVariants as wish
use Rattle.vault_core.specs.declared.job.Task.{Task}

-- the files on whose stripes a job works
abbrev pub targets_of : Wish → ℕ → ℕ → List Pinned → List Pinned
targets_of (wish.Put name size own) profile subject pins =
    record { id = subject; length = size; profile = profile } ∷ []
targets_of w profile subject pins = pins

-- how many stripes a file has
abbrev pub stripes_in : Setup → Pinned → ℕ
stripes_in s f = stripes_of (profiled s f.profile) f.length

-- how often it works on a file
abbrev pub turns_for : Setup → Wish → Pinned → ℕ
turns_for s wish.Audit f = if stripes_in s f == 0 then 0 else s.rounds
turns_for s w f = stripes_in s f

-- the tasks of files with something to do
abbrev pub tasks_made : (Pinned → ℕ) → List Pinned → List Task
tasks_made f [] = []
tasks_made f (p ∷ ps) =
    if nat_lt 0 (f p) then record { object = p.id; turns = f p } ∷ tasks_made f ps else tasks_made f ps
