use Rattle.std.proofs.Common.{refl, reverse}
use Rattle.schedule_runs.specs.Words.{actions_of, setup_in, set_up, lines, name}
use Rattle.schedule_runs.specs.Schedule.{upgraded_file, upgraded_schedule, upgraded_text}
use Rattle.schedule_runs.proofs.Going.{left-of, keeps}
use Rattle.schedule_runs.proofs.Read.{read, are-lines}
use Rattle.schedule_runs.proofs.Runs.{upgraded_moments, is_upgraded}
use Rattle.schedule_runs.proofs.laws.an_upgrade_has_its_run.Goals as goal

pub returns-clause-spells : goal.returns-clause-spells
unfolding read
returns-clause-spells c = are-lines (lines upgraded_text) (reverse upgraded_schedule) refl

pub returns-clause-run : goal.returns-clause-run
returns-clause-run c = (
  upgraded_moments,
  is_upgraded,
  left-of set_up upgraded_moments is_upgraded.goes.clean is_upgraded.goes.run,
)

pub returns-clause-used : goal.returns-clause-used
unfolding setup_in actions_of
returns-clause-used c = (
  upgraded_moments,
  is_upgraded,
  keeps upgraded_moments 8 19 name upgraded_file is_upgraded.goes.clean is_upgraded.goes.run refl
      (record { version = 2; done = refl; profiled = λ e. absurd (cc e); started = refl; named = refl }) refl
      (λ d e. cc),
)
