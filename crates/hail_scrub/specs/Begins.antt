-- How a scrub begins.
--
--   HaveOneCount files          == the files have all the same number of providers
--   AreApart files              == no two of them have one object number
--   IsFileOf s master f p       == a file of these numbers is a file that the machine works on
--   AreFilesOf s master fs ps   == so are these, in order
--   IsNewScrub s master files m == a scrub of the machine that has done nothing yet, over these files
--   held w moment               == the state behind the begin of a scrub: it runs alone, its number is drawn
use Rattle.std.specs.Prelude.{◌≡◌, ℕ, ◌+◌, ◌≤◌, List, [], ◌∷◌, length, Some, slice_get}
use Rattle.file_layout.specs.Files.{shaped_object}
use Rattle.file_layout.specs.declared.file.FileShape.{FileShape}
use Rattle.record_defs.specs.Records.{Setup}
use Rattle.machine_defs.specs.Jobs.{Pinned}
use Rattle.machine_defs.specs.Setups.{profiled, object_of}
use Rattle.machine_defs.specs.States.{State, Scrub, Scrubbing}
use Rattle.machine_defs.specs.Alone.{scrub_actions, new_scrub}

-- the files have all the same number of providers
abbrev pub HaveOneCount : List FileShape → Type 0
HaveOneCount files =
    (i k : ℕ) (f g : FileShape) → slice_get files i ≡ Some f → slice_get files k ≡ Some g
    → f.shape.n ≡ g.shape.n

-- no two of them have one object number
abbrev pub AreApart : List FileShape → Type 0
AreApart files =
    (i k : ℕ) (f g : FileShape) → slice_get files i ≡ Some f → slice_get files k ≡ Some g → f.id ≡ g.id
    → i ≡ k

-- a file of these numbers is a file that the machine works on
pub record IsFileOf (s : Setup) (master : List ℕ) (f : FileShape) (p : Pinned) : Type 0 where
  pub id_is : f.id ≡ p.id
  pub length_is : f.length ≡ length p.bytes
  pub object_is : shaped_object master f ≡ object_of (profiled s p.profile) p.id

-- so are these, in order
abbrev pub AreFilesOf : Setup → List ℕ → List FileShape → List Pinned → Type 0
AreFilesOf s master [] [] = Unit {0}
AreFilesOf s master (f ∷ fs) (p ∷ ps) = IsFileOf s master f p × AreFilesOf s master fs ps
AreFilesOf s master [] (p ∷ ps) = ⊥
AreFilesOf s master (f ∷ fs) [] = ⊥

-- a scrub of the machine that has done nothing yet, over these files
pub record IsNewScrub (s : Setup) (master : List ℕ) (files : List FileShape) (m : Scrub) : Type 0 where
  pub few : s.n ≤ 16
  pub files_are : AreFilesOf s master files m.files
  pub todo_is : m.todo ≡ scrub_actions s m.files
  pub given_is : m.given ≡ []
  pub stripes_are : m.found.stripes ≡ 0
  pub symbols_are : (j : ℕ) → m.found.symbols j ≡ 0
  pub blocks_are : (j : ℕ) → m.found.blocks j ≡ 0

-- the state behind the begin of a scrub
abbrev pub held : State → ℕ → State
held w moment = record w { alone = Some (Scrubbing (new_scrub w moment)); next_job = w.next_job + 1 }
