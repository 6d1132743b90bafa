-- How gets end in a run that is calm by a mark, whatever counts rose.
--
--   GivesOrIsLost begin_state end_state name answer  == a get gave the bytes in effect under its name at
--                                         its begin; or it is lost, and of some provider the count of
--                                         failed fetches, asks and removals rose since that begin
use Rattle.std.specs.Prelude.{◌≡◌, ◌⊎◌, ℕ, ◌<◌, List, Some}
use Rattle.record_defs.specs.Table.{File}
use Rattle.machine_defs.specs.Answers.{Answer, Got, Lost}
use Rattle.machine_defs.specs.States.{State, setup_in, file_in}
use Rattle.second_half_laws.specs.Damage.{RoseSince}

-- a get is lost, and some provider's count rose since its begin
pub record IsLostByFaults (begin_state end_state : State) (answer : Answer) : Type 0 where
  pub stripe : ℕ
  pub row : ℕ
  pub lost : answer ≡ Lost stripe row
  pub provider : ℕ
  pub provider_in : provider < (setup_in begin_state).n
  pub rose : RoseSince begin_state end_state provider

-- a get gave the bytes that were in effect under its name at its begin, or is lost by faults
pub record GivesOrIsLost (begin_state end_state : State) (name : List ℕ) (answer : Answer) : Type 0 where
  pub file : File
  pub in_effect : file_in begin_state name ≡ Some file
  pub gives : (answer ≡ Got (begin_state.bytes file.id)) ⊎ IsLostByFaults begin_state end_state answer
