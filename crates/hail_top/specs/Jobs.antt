-- What came of a command over a vault that was just opened, with what is seen of all devices.
--
--   AnswersOver kind own area records old new end
--                                 == the command ends as one does whose begin comes over these records, and
--                                    no count of faults fell
--   PutsOver name own old new end == the same of a put, which reads its source first
--   ScrubsOver old new end        == the same of a scrub
--   PacksOver old new end         == the same of a pack
--
-- own is the profile that a put names; None where it has the setup's, and of every other job.
use Rattle.std.specs.Prelude.{ℕ, List, Option}
use Rattle.record_defs.specs.Records.{Record}
use Rattle.record_defs.specs.Areas.{Area}
use Rattle.machine_defs.specs.Jobs.{Kind}
use Rattle.command_defs.specs.Seen.{Seen, Ending}
use Rattle.command_defs.specs.Jobs.{AnswersJob}
use Rattle.command_defs.specs.Commands.{AnswersPut}
use Rattle.command_defs.specs.Scrubs.{AnswersScrub}
use Rattle.command_defs.specs.Packs.{AnswersPack}
use Rattle.command_jobs.specs.Ends.{NoFaultUndone}

-- a job was refused over these records, or ended, and no count of faults fell
pub record AnswersOver (kind : Kind) (own : Option ℕ) (area : Area) (records : List Record) (old new : Seen)
    (end : Ending) : Type 0 where
  pub answers : AnswersJob kind own area records old new end
  pub counts : NoFaultUndone old new

-- a put ended, and no count of faults fell
pub record PutsOver (name : List ℕ) (own : Option ℕ) (old new : Seen) (end : Ending) : Type 0 where
  pub answers : AnswersPut name own old new end
  pub counts : NoFaultUndone old new

-- a scrub ended, and no count of faults fell
pub record ScrubsOver (old new : Seen) (end : Ending) : Type 0 where
  pub answers : AnswersScrub old new end
  pub counts : NoFaultUndone old new

-- a pack ended, and no count of faults fell
pub record PacksOver (old new : Seen) (end : Ending) : Type 0 where
  pub answers : AnswersPack old new end
  pub counts : NoFaultUndone old new
