-- A file that is put, kept and got, over a replay. Commands and moments have the newest first.
--
--   put_of front name bytes own p
--                              == commands that put a file by the job of this number, with a profile of its own
--                                 where one is named, behind any others
--   got_behind commands name g == a get of the file by the job of this number, behind commands
--   PutsFile front middle own ms base lines p name bytes
--                              == these moments carry out such commands, behind those of `base`, and write these
--                                 lines: the event of the put, the steps of its job, and those of the commands
--                                 before and behind it. Where the put came to `job` and `put`, the file is
--                                 stored; it did where the lines say so
--   IsGot front middle own start base old new end p g name bytes
--                              == the put, and behind it the event of a get and the steps of its job, whose
--                                 lines are written last; where all four moments came to what they should, the
--                                 bytes that were got are those that were put, or the report holds a forgery
--                                 against them; they did where what was written says so
--   IsGotWhole front middle own start base old new end p g ps name bytes
--                              == and where these providers are at most b, the get gave the bytes that were
--                                 put, whatever its answer, or is lost by calls that failed
--   Survives front middle own start base old new p name bytes
--                              == where the put came to `job` and `put`, each image of the disk has a file of
--                                 so many bytes under the name; and it did where what was written says so
use Rattle.std.specs.Prelude.{◌≡◌, ◌⊎◌, ◌≤◌, ℕ, List, ◌∷◌, ◌++◌, Option, Some, length}
use Rattle.schedule_text.specs.Events.{put_command}
use Rattle.stories.specs.Words.{EachImage, told_then, File, Answer, Put, Got, Begin, Begun, Ended, HoldsForgery, GetJob, put_event, lines_of, Moment, now, State, setup_in, file_in, file_object, Instruction, Once, RunJob, CarriesOut, RunsToEnd, Stored, GetEnds, IsLostByFaults, Seen, Ending, ImageHasFile, devices_of_seen, AreLeft}
use Rattle.stories.specs.Said.{SaysPut, SaysGot}

-- a file is put, behind any commands
abbrev pub put_of : List Instruction → List ℕ → List ℕ → Option ℕ → ℕ → List Instruction
put_of front name bytes own p = RunJob p ∷ put_command name bytes own ∷ front

-- a file is got behind commands
abbrev pub got_behind : List Instruction → List ℕ → ℕ → List Instruction
got_behind commands name g = RunJob g ∷ Once (Begin (GetJob name)) ∷ commands

-- moments and lines of a put, and of the commands before and behind it
pub record PutsFile (front middle : List Instruction) (own : Option ℕ) (ms base : List Moment)
    (lines : List ℕ) (p : ℕ) (name bytes : List ℕ) : Type 0 where
  pub later : List Moment
  pub end : Moment
  pub steps : List Moment
  pub begin : Moment
  pub older : List Moment
  pub before : List ℕ
  pub rest : List ℕ
  pub moments : ms ≡ later ++ end ∷ (steps ++ begin ∷ older)
  pub lines_are : lines ≡ ((before ++ lines_of begin.outcome) ++ lines_of end.outcome) ++ rest
  pub begins : begin.event ≡ put_event own name bytes
  pub ends : RunsToEnd p end steps
  pub behind : CarriesOut middle later rest
  pub ahead : CarriesOut front older before
  pub stored : begin.outcome ≡ Begun p → end.outcome ≡ Ended Put → Stored (ms ++ base) name bytes
  pub said : SaysPut lines front p middle → (begin.outcome ≡ Begun p) × (end.outcome ≡ Ended Put)

-- a get began and ended behind the put, with their lines written last, and gave the bytes that were put
pub record IsGot (front middle : List Instruction) (own : Option ℕ) (start : State) (base : List Moment)
    (old new : Seen) (end : Ending) (p g : ℕ) (name bytes : List ℕ) : Type 0 where
  pub before : List Moment  -- the begin of the get, in this replay
  pub begin : Moment
  pub gaps : List Moment
  pub last : Moment
  pub lines : List ℕ
  pub put : PutsFile front middle own before base lines p name bytes
  pub begins : begin.event ≡ Begin (GetJob name)
  pub run_ends : RunsToEnd g last gaps
  pub left : AreLeft start (last ∷ (gaps ++ begin ∷ (before ++ base))) (devices_of_seen new)
  pub written : new.sink ≡ told_then old.sink ((lines ++ lines_of begin.outcome) ++ lines_of last.outcome)
  pub ends : (how : Answer) → begin.outcome ≡ Begun g → last.outcome ≡ Ended how
      → GetEnds begin gaps last g name how
  pub right : (got : List ℕ) → put.begin.outcome ≡ Begun p → put.end.outcome ≡ Ended Put
      → begin.outcome ≡ Begun g → last.outcome ≡ Ended (Got got)
      → (got ≡ bytes) ⊎ ((file : File) × (file_in (now start (before ++ base)) name ≡ Some file)
      × HoldsForgery (file_object (now start (before ++ base)) file) bytes g end.heard)
  pub said : (taken text : List ℕ) (how : Answer) → old.sink ≡ Some taken → new.sink ≡ Some (taken ++ text)
      → SaysGot text front p g middle how → (put.begin.outcome ≡ Begun p) × (put.end.outcome ≡ Ended Put)
      × (begin.outcome ≡ Begun g) × (last.outcome ≡ Ended how)

-- a get behind the put gave its bytes, where so many providers are at most b, or is lost by failed calls
pub record IsGotWhole (front middle : List Instruction) (own : Option ℕ) (start : State) (base : List Moment)
    (old new : Seen) (end : Ending) (p g : ℕ) (ps : List ℕ) (name bytes : List ℕ) : Type 0 where
  pub got : IsGot front middle own start base old new end p g name bytes
  pub whole : (how : Answer)
      → length ps
      ≤ (setup_in (now start (got.last ∷ (got.gaps ++ got.begin ∷ (got.before ++ base))))).b
      → got.put.begin.outcome ≡ Begun p → got.put.end.outcome ≡ Ended Put
      → got.begin.outcome ≡ Begun g → got.last.outcome ≡ Ended how
      → (how ≡ Got bytes) ⊎ IsLostByFaults (now start (got.before ++ base)) got.last.state how

-- the put is on each image of the disk
pub record Survives (front middle : List Instruction) (own : Option ℕ) (start : State) (base : List Moment)
    (old new : Seen) (p : ℕ) (name bytes : List ℕ) : Type 0 where
  pub ms : List Moment
  pub lines : List ℕ
  pub put : PutsFile front middle own ms base lines p name bytes
  pub left : AreLeft start (ms ++ base) (devices_of_seen new)
  pub written : new.sink ≡ told_then old.sink lines
  pub kept : put.begin.outcome ≡ Begun p → put.end.outcome ≡ Ended Put
      → (file : File) × (file.size ≡ length bytes) × ((now start (ms ++ base)).bytes file.id ≡ bytes)
      × EachImage new.disk (ImageHasFile name file)
  pub said : (taken text : List ℕ) → old.sink ≡ Some taken → new.sink ≡ Some (taken ++ text)
      → SaysPut text front p middle → (put.begin.outcome ≡ Begun p) × (put.end.outcome ≡ Ended Put)
