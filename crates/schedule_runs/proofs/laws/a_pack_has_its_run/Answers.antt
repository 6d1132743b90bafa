use Rattle.std.proofs.Common.{refl, reverse}
use Rattle.schedule_runs.specs.Words.{actions_of, setup_in, set_up, lines, name}
use Rattle.schedule_runs.specs.Schedule.{upgraded_file, packed_schedule, packed_text}
use Rattle.schedule_runs.proofs.Going.{left-of, keeps}
use Rattle.schedule_runs.proofs.Read.{read, are-lines}
use Rattle.schedule_runs.proofs.Runs.{packed_moments, is_packed}
use Rattle.schedule_runs.proofs.laws.a_pack_has_its_run.Goals as goal

pub returns-clause-spells : goal.returns-clause-spells
unfolding read
returns-clause-spells c = are-lines (lines packed_text) (reverse packed_schedule) refl

pub returns-clause-run : goal.returns-clause-run
returns-clause-run c =
    (packed_moments, is_packed, left-of set_up packed_moments is_packed.goes.clean is_packed.goes.run)

pub returns-clause-used : goal.returns-clause-used
unfolding setup_in actions_of
returns-clause-used c = (
  packed_moments,
  is_packed,
  keeps packed_moments 14 19 name upgraded_file is_packed.goes.clean is_packed.goes.run refl
      (record { version = 2; done = refl; profiled = λ e. absurd (cc e); started = refl; named = refl }) refl
      (λ d e. cc),
)
