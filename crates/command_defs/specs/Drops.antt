-- What a drop leaves whose job was the only one.
--
--   DropLeaves x name answer   == what it leaves where it ended with this answer
use Rattle.std.specs.Prelude.{◌≡◌, ℕ, List, [], ◌∷◌, Some}
use Rattle.device_defs.specs.Faults.{Rose}
use Rattle.record_defs.specs.Records.{Drop}
use Rattle.record_defs.specs.Table.{File, file_of}
use Rattle.machine_defs.specs.Answers.{Answer, Dropped, DiskFault, Memory}
use Rattle.command_defs.specs.Ran.{Ran, EachHeldGoes, SameHeld, IsWhole, IsCut, IsCutInDoubt}
use Rattle.command_defs.specs.Blocks.{DroppedFrom}

-- the file that the name had is taken away from each provider
pub record DropsFile (x : Ran) (name : List ℕ) : Type 0 where
  pub file : File
  pub in_effect : file_of x.records name ≡ Some file
  pub held : EachHeldGoes x (λ j. DroppedFrom file.id (Rose (x.old j).other_faults (x.new j).other_faults))

-- what a drop leaves
abbrev pub DropLeaves : Ran → List ℕ → Answer → Type 0
DropLeaves x name Dropped = IsWhole x (Drop name ∷ []) × DropsFile x name
DropLeaves x name DiskFault = Rose x.disk_before x.disk_after × IsCutInDoubt x (Drop name ∷ []) × SameHeld x
DropLeaves x name Memory = IsCut x (Drop name ∷ []) × SameHeld x
DropLeaves x name answer = ⊥
