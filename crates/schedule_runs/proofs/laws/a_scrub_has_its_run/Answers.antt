use Rattle.std.proofs.Common.{[], refl, reverse}
use Rattle.headline.specs.Headline.{Headline}
use Rattle.headline.proofs.Parts.{headline}
use Rattle.schedule_runs.specs.Words.{set_up, lines}
use Rattle.schedule_runs.specs.Schedule.{scrubbed_schedule, scrubbed_text}
use Rattle.schedule_runs.proofs.Going.{left-of, goes-with, keeps-half}
use Rattle.schedule_runs.proofs.Read.{read, are-lines}
use Rattle.schedule_runs.proofs.Runs.{scrubbed_moments, is_scrubbed}
use Rattle.schedule_runs.proofs.laws.a_scrub_has_its_run.Goals as goal

pub returns-clause-spells : goal.returns-clause-spells
unfolding read
returns-clause-spells c = are-lines (lines scrubbed_text) (reverse scrubbed_schedule) refl

pub returns-clause-run : goal.returns-clause-run
returns-clause-run c = (
  scrubbed_moments,
  is_scrubbed,
  left-of set_up scrubbed_moments is_scrubbed.goes.clean is_scrubbed.goes.run,
)

pub returns-clause-half : goal.returns-clause-half
returns-clause-half c = (let all : Headline set_up scrubbed_moments = headline 8 set_up scrubbed_moments
    is_scrubbed.goes.clean is_scrubbed.goes.run in (
      scrubbed_moments,
      is_scrubbed,
      all.scrub_calm_gets_end_well (λ j. refl) is_scrubbed.calm,
      all.scrubbed_providers_are_exact (λ j. refl) is_scrubbed.calm [] scrubbed_moments refl,
    ))

pub returns-clause-used : goal.returns-clause-used
returns-clause-used c = (
  scrubbed_moments,
  is_scrubbed,
  λ form old new end is keeps. keeps-half set_up scrubbed_moments old new end (λ j. refl)
      (goes-with set_up scrubbed_moments form old new end is_scrubbed.goes.clean is_scrubbed.goes.run is keeps),
)
