-- What a task can do holds in one way.
use Rattle.vault.proofs.Words.{ℕ, props, Task, IsStreaming, MayAsk, MayTell, HasRoomFor, CanWork, IsStorer}
use Rattle.vault.specs.declared.tasks.Task.TheVariants as task

-- there is room for a fetch
pub room_prop : (t : Task) → IsProp (HasRoomFor t)
room_prop (task.Get t) = hlevel props
room_prop (task.Repair t) = hlevel props
room_prop t = hlevel props

-- it stores on this provider
pub storer_prop : (t : Task) (j : ℕ) → IsProp (IsStorer t j)
storer_prop (task.Put t) j = hlevel props
storer_prop (task.Stream t) j = hlevel props
storer_prop (task.Repair t) j = hlevel props
storer_prop t j = hlevel props

-- it has a stripe to open
pub work_prop : (t : Task) → IsProp (CanWork t)
work_prop (task.Get t) = hlevel props
work_prop (task.Repair t) = hlevel props
work_prop t = hlevel props

-- it can ask
pub ask_prop : (n k : ℕ) (t : Task) → IsProp (MayAsk n k t)
ask_prop n k (task.Audit t) = hlevel props
ask_prop n k t = hlevel props

-- it has a verdict
pub tell_prop : (n : ℕ) (t : Task) → IsProp (MayTell n t)
tell_prop n (task.Audit t) = hlevel props
tell_prop n t = hlevel props

-- it is that of a stream
pub streaming_prop : (t : Task) → IsProp (IsStreaming t)
streaming_prop (task.Stream t) = hlevel props
streaming_prop t = hlevel props
