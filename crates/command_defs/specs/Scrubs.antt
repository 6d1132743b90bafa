-- What a scrub leaves and says that ran alone, over a store that was just opened.
--
--   off_at x gave symbols j place       == how many symbols of the block that provider j gave of a place
--                                          differ from its column of these symbols; all of them where it gave
--                                          none
--   symbols_off, blocks_off x gave symbols places j
--                                       == the sum of these over places, and in how many one differs at all
--   SweepsAll x stripes symbols blocks  == every row of every place is accepted, of what the providers gave;
--                                          the numbers are the places, and what differed in them; each provider
--                                          holds its columns in all of them, and all else is as before
--   ScrubLeaves x answer                == what a scrub leaves where it ended with this answer
--   RunsScrub w moment answer new       == a scrub begins in the state, after so many events, and its steps
--                                          come to this answer and leave the new state
--   ScrubsAlone area records answer old new
--                                       == a scrub ran alone over these records, in this area, and devices,
--                                          as a run of the machine
--   ScrubbedAlone records answer old new
--                                       == the same without its run: what is left
--   AnswersScrub old new end            == how the command ends: it opens the store and scrubs all files
use Rattle.std.specs.Prelude.{◌≡◌, ℕ, ◌<◌, ◌≤◌, ◌+◌, ◌==◌, Bool, true, List, [], length, map, All, sum_by, None, if◌then◌else◌}
use Rattle.code_defs.specs.Points.{upto}
use Rattle.column_defs.specs.Columns.{column_of_symbols}
use Rattle.device_defs.specs.Faults.{Rose}
use Rattle.record_defs.specs.Records.{Record}
use Rattle.record_defs.specs.Areas.{Area}
use Rattle.machine_defs.specs.Alone.{differs}
use Rattle.machine_defs.specs.Answers.{Answer, Scrubbed, Lost, ProviderFault, Memory}
use Rattle.machine_defs.specs.Events.{BeginScrub, Begun}
use Rattle.machine_defs.specs.Machine.{Happens}
use Rattle.machine_defs.specs.Stands.{StandsForState}
use Rattle.machine_defs.specs.States.{State}
use Rattle.opening_defs.specs.Opened.{AreHanded, IsJustOpened}
use Rattle.command_defs.specs.JobRuns.{GoesOnTo}
use Rattle.command_defs.specs.Jobs.{EndsByAnswer}
use Rattle.command_defs.specs.Lines.{scrub_text}
use Rattle.command_defs.specs.Opens.{IsOpened, Unstarted}
use Rattle.command_defs.specs.Ran.{Ran, ran_alone, setup_at_begin, object_numbered, CountsRise, EachHeldGoes, IsWhole}
use Rattle.command_defs.specs.Repairs.{Place, Gave, places_of, IsTruth, GivesPlace, RewrittenOn, RewritesSome, LosesAtPlace}
use Rattle.command_defs.specs.Seen.{Seen, Ending, IsRefused, IsSynced}

-- how many symbols of a provider's block of a place differ from its column
abbrev pub off_at : Ran → Gave → (Place → List ℕ) → ℕ → Place → ℕ
off_at x gave symbols j place =
    differs (gave j place)
    (column_of_symbols (object_numbered x place.object) (symbols place) j place.stripe)

-- how many do in all these places
abbrev pub symbols_off : Ran → Gave → (Place → List ℕ) → List Place → ℕ → ℕ
symbols_off x gave symbols places j = sum_by (off_at x gave symbols j) places

-- in how many of these places one does
abbrev pub blocks_off : Ran → Gave → (Place → List ℕ) → List Place → ℕ → ℕ
blocks_off x gave symbols places j =
    sum_by (λ place. if off_at x gave symbols j place == 0 then 0 else 1) places

-- all places are accepted, counted and right on every provider
pub record SweepsAll (x : Ran) (stripes : ℕ) (symbols blocks : List ℕ) : Type 0 where
  pub gave : Gave
  pub rows : Place → List ℕ
  pub truth : IsTruth x gave (places_of x)
  pub gives : All (GivesPlace x gave rows) (places_of x)
  pub stripes_are : stripes ≡ length (places_of x)
  pub symbols_are : symbols ≡ map (symbols_off x gave rows (places_of x)) (upto (setup_at_begin x).n)
  pub blocks_are : blocks ≡ map (blocks_off x gave rows (places_of x)) (upto (setup_at_begin x).n)
  pub held : EachHeldGoes x (RewrittenOn (object_numbered x) rows (places_of x))

-- every provider is looked at, as a repair looks at those that are flagged
abbrev pub everyone : ℕ → Bool
everyone j = true

-- what a scrub gives
abbrev pub ScrubGives : Ran → Answer → Type 0
ScrubGives x (Scrubbed stripes symbols blocks) = SweepsAll x stripes symbols blocks
ScrubGives x (Lost stripe row) = LosesAtPlace x everyone stripe row
ScrubGives x (ProviderFault j) =
    (j < (setup_at_begin x).n) × Rose (x.old j).store_faults (x.new j).store_faults × RewritesSome x everyone
ScrubGives x Memory = RewritesSome x everyone
ScrubGives x answer = ⊥

-- what a scrub leaves: no record came in, and providers that it does not use stay as they are
pub record ScrubLeaves (x : Ran) (answer : Answer) : Type 0 where
  pub gives : ScrubGives x answer
  pub records : IsWhole x []
  pub heard : x.heard ≡ []
  pub counts : CountsRise x
  pub others : (j : ℕ) → (setup_at_begin x).n ≤ j → x.new j ≡ x.old j

-- a scrub begins in a state, after so many events, and goes on to its end
pub record RunsScrub (w : State) (moment : ℕ) (answer : Answer) (new : State) : Type 0 where
  pub begun : State
  pub job : ℕ
  pub begins : Happens 8 moment w BeginScrub (Begun job) begun
  pub goes_on : GoesOnTo begun (moment + 1) job answer [] new

-- a scrub that ran alone: it is a run of the machine from any state just opened over these records and
-- devices, after any number of events, and the devices are those of its last state
pub record RanScrub (records : List Record) (answer : Answer) (old new : Seen) (faults : ℕ) (w : State)
    (moment : ℕ) : Type 0 where
  pub last : State
  pub runs : RunsScrub w moment answer last
  pub images : StandsForState new.disk last
  pub faults_are : last.disk_faults ≡ new.disk_faults
  pub handed : AreHanded new.providers last

-- so it is from every such state and moment, with what the disk's count of faults was once it was opened
pub record ScrubsAlone (area : Area) (records : List Record) (answer : Answer) (old new : Seen) : Type 0 where
  pub faults : ℕ
  pub before : old.disk_faults ≤ faults
  pub ran : (w : State) (moment : ℕ) → IsJustOpened w area records 1 faults old.providers
      → RanScrub records answer old new faults w moment

-- what a scrub left that ran alone over these records, without its run
pub record ScrubbedAlone (records : List Record) (answer : Answer) (old new : Seen) : Type 0 where
  pub faults : ℕ
  pub before : old.disk_faults ≤ faults
  pub leaves : ScrubLeaves (ran_alone records old new [] faults records None) answer

-- a `scrub`
pub data AnswersScrub (old new : Seen) (end : Ending) : Type 0 where
  unstarted : Unstarted old new end → AnswersScrub old new end
  no_memory : (records : List Record) → IsOpened old records → IsSynced old new → IsRefused 70 0 old new end
      → AnswersScrub old new end
  ended : (records : List Record) (answer : Answer) → (opened : IsOpened old records) → IsSynced old new
      → end.heard ≡ [] → ScrubsAlone opened.area records answer old new → ScrubbedAlone records answer old new
      → EndsByAnswer (scrub_text answer) answer old new end → AnswersScrub old new end
