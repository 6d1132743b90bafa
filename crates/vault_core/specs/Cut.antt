-- How a job as it is kept is told the length of a stream's file.
--
--   of_length length wish         == a put of so many bytes
--   of_turns stripes task         == a task of so many stripes
--   cut_tasks stripes tasks       == the one task of a put, of so many stripes; none where there is no stripe
--   cursor_behind o given stripes == where a put of so many stripes is behind the first ones
--   steps_behind n given stripes  == how many steps remain of it there
use Rattle.std.specs.Prelude.{ℕ, ◌+◌, ◌*◌, ◌-◌, ◌==◌, List, [], map, nat_lt, if◌then◌else◌}
use Rattle.vault_core.specs.declared.wish.Wish.{Wish}
use Rattle.vault_core.specs.declared.wish.Wish.TheVariants as wish
use Rattle.vault_core.specs.declared.cursor.Move.TheVariants as move
use Rattle.vault_core.specs.declared.cursor.Cursor.{Cursor}
use Rattle.vault_core.specs.declared.cursor.Cursor.TheVariants as at
use Rattle.vault_core.specs.declared.job.Task.{Task}

-- a put of so many bytes
abbrev pub of_length : ℕ → Wish → Wish
of_length length (wish.Put name size own) = wish.Put name length own
of_length length w = w

-- a task of so many stripes
abbrev pub of_turns : ℕ → Task → Task
of_turns stripes task = record task { turns = stripes }

-- the one task of a put
abbrev pub cut_tasks : ℕ → List Task → List Task
cut_tasks stripes tasks = if stripes == 0 then [] else map (of_turns stripes) tasks

-- where a put is behind its first stripes
abbrev pub cursor_behind : ℕ → ℕ → ℕ → Cursor
cursor_behind object given stripes =
    if nat_lt given stripes
    then at.Calling (record { object = object; turn = given; turns = stripes; behind = 1 }) 0
    else at.Closing move.Body

-- how many steps remain of it there
abbrev pub steps_behind : ℕ → ℕ → ℕ → ℕ
steps_behind n given stripes = (stripes - given) * n + 5 + n
