-- The answers that are due over a link over which requests go out ahead of them.
--
--   stores_due waiting   == how many stores have no answer yet
--   due_beside waiting b == how many answers of blocks are due where others are waited for
use Rattle.std.specs.Prelude.{ℕ}
use Rattle.remote_adapters.specs.BlocksAhead.{BlocksAhead, due_of}
use Rattle.remote_adapters.specs.declared.ahead.Waiting.{Waiting}
use Rattle.remote_adapters.specs.declared.ahead.Waiting.TheVariants as waiting

-- how many stores have no answer yet
abbrev pub stores_due : Waiting → ℕ
stores_due waiting.Nothing = 0
stores_due (waiting.Stores due) = due
stores_due (waiting.Removals due) = 0
stores_due waiting.Blocks = 0
stores_due waiting.Question = 0

-- how many answers of blocks are due where others, or none, are waited for
abbrev pub due_beside : Waiting → BlocksAhead → ℕ
due_beside waiting.Nothing b = due_of b
due_beside (waiting.Stores due) b = due_of b
due_beside (waiting.Removals due) b = due_of b
due_beside waiting.Blocks b = 0
due_beside waiting.Question b = due_of b
