-- How jobs as they are kept go on.
--
--   aimed object task                    == a task of this object
--   is_taker wish                        == a job of this wish takes an older object away, where there is one
--   decides job                          == the last append of such a job has ended, which decides on the
--                                           older object
--   decides_on job                       == the append that it makes is its last one
--   drawn_tasks k w ts                   == the tasks of a job that has taken this number
--   removals_of n object                 == the removals of an object that a job takes away, if there is one,
--                                           and the end
--   LeavesBehind n older decided old new == what the last move of an append leaves before a job
--   listed_older o                       == the object that a job takes away, as a list
use Rattle.std.specs.Prelude.{◌≡◌, ℕ, ◌-◌, ◌==◌, ◌&&◌, Bool, true, false, List, [], ◌∷◌, ◌++◌, length, map, drop, Option, None, Some}
use Rattle.machine_defs.specs.Actions.{Action, Remove, End}
use Rattle.vault_core.specs.Rest.{numbers, rest_of}
use Rattle.vault_core.specs.declared.wish.Wish.{Wish}
use Rattle.vault_core.specs.declared.wish.Wish.TheVariants as wish
use Rattle.vault_core.specs.declared.job.Task.{Task}
use Rattle.vault_core.specs.declared.job.Job.{Job}

-- a task of this object
abbrev pub aimed : ℕ → Task → Task
aimed object task = record task { object = object }

-- a job of this wish takes an older object away, where there is one
abbrev pub is_taker : Wish → Bool
is_taker (wish.Put name size own) = true
is_taker (wish.Drop name) = true
is_taker w = false

-- the last append of such a job has ended
abbrev pub decides : Job → Bool
decides job = (job.appends == 0) && is_taker job.wish

-- the append that a job makes is its last one, which decides on the older object
abbrev pub decides_on : Job → Bool
decides_on job = (job.appends - 1 == 0) && is_taker job.wish

-- the tasks of a job that has taken this number: a put names its own file by it
abbrev pub drawn_tasks : ℕ → Wish → List Task → List Task
drawn_tasks number (wish.Put name size own) tasks = map (aimed number) tasks
drawn_tasks number w tasks = tasks

-- the object that a job takes away, as a list
abbrev pub listed_older : Option ℕ → List ℕ
listed_older None = []
listed_older (Some object) = object ∷ []

-- the removals of an object that a job takes away, if there is one, and the end
abbrev pub removals_of : ℕ → Option ℕ → List Action
removals_of n None = End ∷ []
removals_of n (Some object) = map (λ j. Remove j object) (numbers 0 n) ++ End ∷ []

-- what the last move of an append leaves before a job: what its decision leaves, or all behind the move
abbrev pub LeavesBehind : ℕ → Option ℕ → Bool → Job → Job → Type 0
LeavesBehind n older true old new =
    (rest_of n new ≡ removals_of n older) × (new.left ≡ length (removals_of n older))
LeavesBehind n older false old new = (rest_of n new ≡ drop 1 (rest_of n old)) × (new.left ≡ old.left - 1)
