-- A put and a later get, told by events and outcomes alone.
--
--   Stored ms name bytes    == among these moments a put of the bytes under the name began and ended well,
--                              and no other put or drop of the name began since its begin; none was under way
--                              at its begin
--   IsKeptAs w name bytes   == the file under the name is in effect, also with the record in doubt added, and
--                              its number stands for these bytes
--   GetEnds c gaps g get name how  == a get of the name began at moment c with the number, and ended at g
--                              with this answer; these moments were between
--   GotRight start ms all get name bytes got  == the bytes that were got are those of the put, or the report
--                              holds a forgery against these, among what this get fetched of the file in
--                              effect under the name at its begin
use Rattle.std.specs.Prelude.{◌≡◌, ◌⊎◌, ℕ, List, ◌∷◌, ◌++◌, Some, length}
use Rattle.record_defs.specs.Table.{File}
use Rattle.machine_defs.specs.Jobs.{GetJob}
use Rattle.machine_defs.specs.Answers.{Answer, Put}
use Rattle.machine_defs.specs.Events.{Begin, Step, Begun, Ended}
use Rattle.machine_defs.specs.States.{State, file_object, file_in}
use Rattle.machine_defs.specs.Runs.{Moment, now}
use Rattle.machine_defs.specs.Heard.{heard_in, HoldsForgery}
use Rattle.machine_defs.specs.Survival.{IsKept}
use Rattle.machine_defs.specs.Began.{NoneBegan, IsPutBegin}
use Rattle.machine_defs.specs.Untouched.{NoneBeganOn, IsFree}

-- a put of the bytes under the name began and ended well, and no other put or drop of it began since
pub record Stored (ms : List Moment) (name bytes : List ℕ) : Type 0 where
  pub later : List Moment
  pub end : Moment
  pub between : List Moment
  pub begin : Moment
  pub older : List Moment
  pub number : ℕ
  pub split : ms ≡ later ++ end ∷ (between ++ begin ∷ older)
  pub free : IsFree name older
  pub begin_event : IsPutBegin begin.event name bytes
  pub begun : begin.outcome ≡ Begun number
  pub none : NoneBegan number between
  pub none_between : NoneBeganOn name between
  pub end_event : end.event ≡ Step number
  pub ended : end.outcome ≡ Ended Put
  pub none_since : NoneBeganOn name later

-- the file under a name is kept, and its number stands for these bytes
pub record IsKeptAs (w : State) (name bytes : List ℕ) : Type 0 where
  pub file : File
  pub kept : IsKept w name file
  pub size : file.size ≡ length bytes
  pub bytes_are : w.bytes file.id ≡ bytes

-- a get of the name began, and ended with an answer
pub record GetEnds (c : Moment) (gaps : List Moment) (g : Moment) (get : ℕ) (name : List ℕ)
    (how : Answer) : Type 0 where
  pub begin_event : c.event ≡ Begin (GetJob name)
  pub begun : c.outcome ≡ Begun get
  pub none : NoneBegan get gaps
  pub end_event : g.event ≡ Step get
  pub ended : g.outcome ≡ Ended how

-- the bytes that were got are those that were put, or the report holds a forgery
abbrev pub GotRight : State → List Moment → List Moment → ℕ → List ℕ → List ℕ → List ℕ → Type 0
GotRight start ms all get name bytes got =
    (got ≡ bytes) ⊎ ((file : File) × (file_in (now start ms) name ≡ Some file)
    × HoldsForgery (file_object (now start ms) file) bytes get (heard_in start all))
