use Rattle.schedule_runs.proofs.Idle.{idle}
use Rattle.schedule_runs.proofs.laws.idle_replays_break_the_headline.Goals as goal

pub returns : goal.returns
returns c = idle c.events_write_one_line.ensures c.schedule_has_one_reading.ensures
