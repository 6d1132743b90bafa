-- A job, and a scrub, that runs alone from some state.
--
--   RunsSomewhere kind own answer heard == from some state whose vault was just opened a job of this kind,
--                                          of a put also with a profile of its own, runs to this answer and
--                                          hears this
--   ScrubsSomewhere answer              == from some state whose vault was just opened a scrub runs to this
--                                          answer
use Rattle.std.specs.Prelude.{ℕ, List, Option}
use Rattle.command_runs.specs.Words.{Kind, Answer, Entry, State, RunsJob, RunsScrub, IsOpenAtRest}

-- from some state just opened a job runs to its end
pub record RunsSomewhere (kind : Kind) (own : Option ℕ) (answer : Answer) (heard : List Entry) : Type 0 where
  pub start : State
  pub last : State
  pub opened : IsOpenAtRest start 1
  pub runs : RunsJob start 0 kind own answer heard last

-- from some state just opened a scrub runs to its end
pub record ScrubsSomewhere (answer : Answer) : Type 0 where
  pub start : State
  pub last : State
  pub opened : IsOpenAtRest start 1
  pub runs : RunsScrub start 0 answer last
