-- How a scrub goes to its end that runs alone, as it is seen of the devices. Records have the newest first.
--
--   SweepsToEnd w job moment answer ps   == the scrub of this number goes on from a state, after so many
--                                           events, to this end; then nothing runs alone any more, these
--                                           providers are handed in, and all else of the state is as before
--   ScrubEndsOver area records answer old new
--                                        == a scrub ran to this end, as a run of the machine and by what it
--                                           left
use Rattle.std.specs.Prelude.{◌≡◌, ℕ, List, [], None}
use Rattle.device_defs.specs.Providers.{Provider}
use Rattle.record_defs.specs.Records.{Record}
use Rattle.record_defs.specs.Areas.{Area}
use Rattle.machine_defs.specs.States.{State, setup_in}
use Rattle.opening_defs.specs.Opened.{AreHanded}
use Rattle.command_defs.specs.Seen.{Seen}
use Rattle.command_defs.specs.Opens.{setup_in_effect}
use Rattle.command_defs.specs.JobRuns.{GoesOnTo}
use Rattle.command_defs.specs.Scrubs.{ScrubsAlone, ScrubbedAlone}
use Rattle.hail_scrub.specs.declared.turn.ScrubAnswer.{ScrubAnswer}
use Rattle.hail_scrub.specs.Stands.{scrub_answer}
use Rattle.command_jobs.specs.Ends.{NoFaultUndone}

-- the scrub goes on to this end
pub record SweepsToEnd (w : State) (job moment : ℕ) (answer : ScrubAnswer)
    (providers : List Provider) : Type 0 where
  pub last : State
  pub goes : GoesOnTo w moment job (scrub_answer (setup_in w).n answer) [] last
  pub beside : last ≡ record w { alone = last.alone; providers = last.providers }
  pub ended : last.alone ≡ None
  pub handed : AreHanded providers last

-- a scrub ran to this end
pub record ScrubEndsOver (area : Area) (records : List Record) (answer : ScrubAnswer)
    (old new : Seen) : Type 0 where
  pub runs : ScrubsAlone area records (scrub_answer (setup_in_effect records).n answer) old new
  pub left : ScrubbedAlone records (scrub_answer (setup_in_effect records).n answer) old new
  pub counts : NoFaultUndone old new
