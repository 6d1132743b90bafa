-- What came of an event, as an outcome of the machine.
--
--   came_outcome came  == the outcome of what the call for an event answered
use Rattle.std.specs.Prelude.{option_copied}
use Rattle.machine_defs.specs.Events.{Outcome}
use Rattle.machine_defs.specs.Events as events
use Rattle.vault_open.specs.Inits.{init_outcome}
use Rattle.hail_client.specs.Outcomes.{client_begin_outcome, step_outcome, reopen_outcome, replace_outcome, names_outcome}
use Rattle.hail_replay.specs.declared.came.Came.{Came}
use Rattle.hail_replay.specs.declared.came.Came.TheVariants as came

-- the outcome of what the call for an event answered
abbrev pub came_outcome : Came → Outcome
came_outcome (came.Inited answer) = init_outcome answer
came_outcome (came.Reopened answer) = reopen_outcome answer
came_outcome (came.Begun answer) = client_begin_outcome answer
came_outcome (came.Stepped answer) = step_outcome answer
came_outcome (came.Replaced answer) = replace_outcome answer
came_outcome came.Stopped = events.Stopped
came_outcome (came.Named table) = names_outcome (option_copied table)
