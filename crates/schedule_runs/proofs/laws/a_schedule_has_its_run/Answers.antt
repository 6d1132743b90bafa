use Rattle.std.proofs.Common.{[], ◌∷◌, refl, inr, codes, reverse}
use Rattle.schedule_text.proofs.Again.{line-none}
use Rattle.schedule_runs.specs.Words.{Reopen, actions_of, setup_in, set_up, Once, words, lines, name}
use Rattle.schedule_runs.specs.Schedule.{stopped_schedule, stopped_text}
use Rattle.schedule_runs.proofs.Going.{left-of, keeps}
use Rattle.schedule_runs.proofs.Read.{read, are-lines}
use Rattle.schedule_runs.proofs.Runs.{stopped_moments, is_stopped}
use Rattle.schedule_runs.proofs.laws.a_schedule_has_its_run.Goals as goal

pub returns-clause-spells : goal.returns-clause-spells
unfolding read
returns-clause-spells c = are-lines (lines stopped_text) (reverse stopped_schedule) refl

pub returns-clause-bad_line : goal.returns-clause-bad_line
unfolding read
returns-clause-bad_line c = record {
  before = codes "reopen" ∷ [];
  line = codes "lose 2 1 0 2 1 0";
  behind = [] ∷ [];
  lines_are = refl;
  number_is = refl;
  good = (inr (Once Reopen, refl), tt);
  bad = line-none (words (codes "lose 2 1 0 2 1 0")) refl;
}

pub returns-clause-run : goal.returns-clause-run
returns-clause-run c =
    (stopped_moments, is_stopped, left-of set_up stopped_moments is_stopped.clean is_stopped.run)

pub returns-clause-used : goal.returns-clause-used
unfolding setup_in actions_of
returns-clause-used c = (
  stopped_moments,
  is_stopped,
  keeps stopped_moments 52 13 name (record { name = name; id = 1; size = 1; profile = 0 }) is_stopped.clean
      is_stopped.run refl
      (record { version = 1; done = refl; profiled = λ second. refl; started = refl; named = refl }) refl
      (λ d e. cc),
)
