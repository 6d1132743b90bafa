-- The end of a job.
--
--   answer_at_end task number undecided counts == what a job answers that made all its actions, by what it
--                             works with, its number and its sums: a get the bytes of its file, an audit
--                             and a repair their number
use Rattle.std.specs.Prelude.{ℕ, take}
use Rattle.record_codec.specs.declared.counts.Counts.{Counts}
use Rattle.vault.specs.declared.tasks.Task.{Task}
use Rattle.vault.specs.declared.tasks.Task.TheVariants as task
use Rattle.vault.specs.declared.turn.Answer.{Answer}
use Rattle.vault.specs.declared.turn.Answer.TheVariants as answer

-- what a job answers that made all its actions
abbrev pub answer_at_end : Task → ℕ → ℕ → Counts → Answer
answer_at_end (task.Put t) number undecided counts = answer.Put
answer_at_end (task.Stream t) number undecided counts = answer.Put
answer_at_end (task.Get t) number undecided counts = answer.Got (take t.length t.bytes.items)
answer_at_end task.Drop number undecided counts = answer.Dropped
answer_at_end (task.Audit t) number undecided counts = answer.Audited number undecided counts
answer_at_end (task.Repair t) number undecided counts = answer.Repaired number
answer_at_end task.Upgrade number undecided counts = answer.Upgraded
