-- What commands ask for, and where among the moments that carry them out each of them stands. Commands,
-- moments and outcomes have the newest first.
--
--   NoneAsksFor Meant commands   == none of these commands is the begin of a job of a kind that is meant
--   NonePuts, NoneDrops name commands  == none is the begin of a put of the name, of a drop of it
--   AsksPutsOnly name bytes commands   == each begin of a put of the name is of these bytes
--   LeavesFree name commands     == none is the begin of a put or a drop of the name, but before one that gives
--                                   up all jobs: a stop, a reopening, a later call
--   AreOverFor Meant ran commands outcomes  == each job of a kind that is meant, begun by these commands, was run to
--                                   its end by a later one before another began, or given up by a later one; `ran`
--                                   are the jobs that commands behind them have run to their end since
--   AreOver commands outcomes    == it is so of gets and repairs
--   AreOverOn name commands outcomes  == it is so of puts and drops of the name
--   NoneIsBegun number outcomes  == none of these outcomes is the begin of the job of this number
--   CarriesApart own others ms lines  == moments and lines of these commands stand behind those of the others
--   EndsApart own others ms outcomes before  == moments of these commands, with these outcomes, stand behind
--                                   those of the others, with theirs
--   job_behind middle between event number front  == commands in which the event asks for the begin of a job,
--                                   and a later one runs the job of this number to its end
--   TellsJob middle between front event number how ms rs us
--                                == the event came to the begin of that job, and its run to this answer, among
--                                   these moments; those of the commands behind and before them have these
--                                   outcomes
use Rattle.std.specs.Prelude.{◌≡◌, ◌≢◌, ◌⊎◌, ℕ, List, [], ◌∷◌, ◌++◌}
use Rattle.algebra_laws.specs.Lists.{In}
use Rattle.machine_defs.specs.Jobs.{Kind}
use Rattle.machine_defs.specs.Answers.{Answer}
use Rattle.machine_defs.specs.Events.{Event, Step, Outcome, Begun, Ended}
use Rattle.machine_defs.specs.Runs.{Moment}
use Rattle.machine_defs.specs.Began.{NoneBegan, GivesUp, IsPutBegin}
use Rattle.machine_defs.specs.Transcripts.{Instruction, Once, RunJob, CarriesOut}
use Rattle.machine_defs.specs.Untouched.{Touches, Relies, IsBeginFor, IsBeginOn, NoneBeganOn, NoneAsksOn}
use Rattle.effect_laws.specs.Lists.{ReadsAs}
use Rattle.effect_laws.specs.Puts.{PutsUnder, Drops}

-- none of these commands is the begin of a job of a kind that is meant
abbrev pub NoneAsksFor : (Kind → Type 0) → List Instruction → Type 0
NoneAsksFor Meant [] = Unit {0}
NoneAsksFor Meant (Once event ∷ cs) = (IsBeginFor Meant event → ⊥) × NoneAsksFor Meant cs
NoneAsksFor Meant (RunJob job ∷ cs) = NoneAsksFor Meant cs

-- none of these commands is the begin of a put of the name
abbrev pub NonePuts : List ℕ → List Instruction → Type 0
NonePuts name commands = NoneAsksFor (PutsUnder name) commands

-- none of these commands is the begin of a drop of the name
abbrev pub NoneDrops : List ℕ → List Instruction → Type 0
NoneDrops name commands = NoneAsksFor (Drops name) commands

-- each of these commands that is the begin of a put of the name is of these bytes
abbrev pub AsksPutsOnly : List ℕ → List ℕ → List Instruction → Type 0
AsksPutsOnly name bytes [] = Unit {0}
AsksPutsOnly name bytes (Once event ∷ cs) =
    ((other : List ℕ) → IsPutBegin event name other → other ≡ bytes) × AsksPutsOnly name bytes cs
AsksPutsOnly name bytes (RunJob job ∷ cs) = AsksPutsOnly name bytes cs

-- no put or drop of the name that one of these commands began runs behind them
abbrev pub LeavesFree : List ℕ → List Instruction → Type 0
LeavesFree name [] = Unit {0}
LeavesFree name (Once event ∷ cs) = GivesUp event ⊎ ((IsBeginOn name event → ⊥) × LeavesFree name cs)
LeavesFree name (RunJob job ∷ cs) = LeavesFree name cs

-- each job of a kind that is meant, begun by these commands, is over
abbrev pub AreOverFor : (Kind → Type 0) → List ℕ → List Instruction → List Outcome → Type 0
AreOverFor Meant ran [] [] = Unit {0}
AreOverFor Meant ran (Once event ∷ cs) (r ∷ rs) =
    GivesUp event ⊎ ((IsBeginFor Meant event → ⊥) × AreOverFor Meant ran cs rs)
    ⊎ ((n : ℕ) × In n ran × (r ≡ Begun n) × AreOverFor Meant [] cs rs)
AreOverFor Meant ran (RunJob job ∷ cs) (Ended how ∷ rs) = AreOverFor Meant (job ∷ ran) cs rs
AreOverFor Meant ran (RunJob job ∷ cs) (r ∷ rs) = AreOverFor Meant ran cs rs
AreOverFor Meant ran cs rs = ⊥

-- each get and each repair that these commands began is over
abbrev pub AreOver : List Instruction → List Outcome → Type 0
AreOver commands outcomes = AreOverFor Relies [] commands outcomes

-- each put and each drop of the name that these commands began is over
abbrev pub AreOverOn : List ℕ → List Instruction → List Outcome → Type 0
AreOverOn name commands outcomes = AreOverFor (Touches name) [] commands outcomes

-- none of these outcomes is the begin of the job of this number
abbrev pub NoneIsBegun : ℕ → List Outcome → Type 0
NoneIsBegun number [] = Unit {0}
NoneIsBegun number (r ∷ rs) = (r ≢ Begun number) × NoneIsBegun number rs

-- moments and lines of these commands stand behind those of the others
pub record CarriesApart (own others : List Instruction) (ms : List Moment) (lines : List ℕ) : Type 0 where
  pub later : List Moment
  pub older : List Moment
  pub before : List ℕ
  pub more : List ℕ
  pub moments : ms ≡ later ++ older
  pub lines_are : lines ≡ before ++ more
  pub owns : CarriesOut own later more
  pub rest : CarriesOut others older before

-- moments of these commands, with these outcomes, stand behind those of the others, with theirs
pub record EndsApart (own others : List Instruction) (ms : List Moment) (outcomes before : List Outcome) :
    Type 0 where
  pub later : List Moment
  pub older : List Moment
  pub moments : ms ≡ later ++ older
  pub owns : ReadsAs own later outcomes
  pub rest : ReadsAs others older before

-- commands in which an event asks for the begin of a job, and a later one runs the job to its end
abbrev pub job_behind : List Instruction → List Instruction → Event → ℕ → List Instruction → List Instruction
job_behind middle between event number front = middle ++ RunJob number ∷ (between ++ Once event ∷ front)

-- the job was begun and ended so, among these moments
pub record TellsJob (middle between front : List Instruction) (event : Event) (number : ℕ) (how : Answer)
    (ms : List Moment) (rs us : List Outcome) : Type 0 where
  pub later : List Moment
  pub end : Moment
  pub gap : List Moment
  pub begin : Moment
  pub older : List Moment
  pub moments : ms ≡ later ++ end ∷ (gap ++ begin ∷ older)
  pub begin_event : begin.event ≡ event
  pub begun : begin.outcome ≡ Begun number
  pub none : NoneBegan number gap
  pub none_between : (name : List ℕ) → NoneAsksOn name between → NoneBeganOn name gap
  pub end_event : end.event ≡ Step number
  pub ended : end.outcome ≡ Ended how
  pub behind : ReadsAs middle later rs
  pub before : ReadsAs front older us
