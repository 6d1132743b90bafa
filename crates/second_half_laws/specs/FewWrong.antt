-- Which blocks count as wrong of those that a job was given.
--
--   is_wrong_given begin_state file job stripe j == provider j gave the job a wrong block of a stripe of the
--                                                   file, or none
--   is_wrong_seen o bytes j stripe seen          == a block is there and is wrong
--   IsFewWrong begin_state file job stripe       == at most b of the n providers did
use Rattle.std.specs.Prelude.{ℕ, ◌≤◌, ◌&&◌, Bool, List, is_some}
use Rattle.column_defs.specs.Objects.{Object}
use Rattle.column_defs.specs.Opened.{SeenBlock}
use Rattle.code_defs.specs.Points.{upto}
use Rattle.column_defs.specs.Columns.{is_wrong_block}
use Rattle.column_defs.specs.Forgeries.{count_of}
use Rattle.record_defs.specs.Table.{File}
use Rattle.machine_defs.specs.Jobs.{Job}
use Rattle.machine_defs.specs.States.{State, setup_in, file_object}
use Rattle.machine_defs.specs.Given.{block_given}

-- a block of a provider is there and is wrong
abbrev pub is_wrong_seen : Object → List ℕ → ℕ → ℕ → SeenBlock → Bool
is_wrong_seen o bytes j stripe seen = is_some seen && is_wrong_block o bytes j stripe seen

-- a provider gave a wrong block of a stripe of a file, or none
abbrev pub is_wrong_given : State → File → Job → ℕ → ℕ → Bool
is_wrong_given begin_state file job stripe j =
    is_wrong_block (file_object begin_state file) (begin_state.bytes file.id) j stripe
    (block_given job.given file.id stripe j)

-- at most b of the n providers gave a wrong block of a stripe of a file, or none
abbrev pub IsFewWrong : State → File → Job → ℕ → Type 0
IsFewWrong begin_state file job stripe =
    count_of (is_wrong_given begin_state file job stripe) (upto (setup_in begin_state).n)
    ≤ (setup_in begin_state).b
