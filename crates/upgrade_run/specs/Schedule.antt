-- The run, and what it comes to.
--
--   thing           == the object of the file, at profile 1; the setup's profile is 0
--   stored_records  == the records of an upgrade and of the put, the newest first
--   HasAll ms       == these moments are a run from a start of four providers, at limit 8, in which all that
--                      the second version brings happens
use Rattle.std.specs.Prelude.{◌≡◌, true, List, [], ◌∷◌, length, Some}
use Rattle.damage_run.specs.Words.{Record, SetUp, PutStart, PutDoneIn, Version, version_of, four, Object, columns, object_of, profiled, Put, Got, Upgraded, Scrubbed, BeginAt, Step, Alter, Stop, Begun, Ended, Replaced, Stopped, State, IsStart, file_in, setup_in, Moment, IsRun, told_block, set_up, Packing, A, B, packed}
use Rattle.damage_run.specs.Points.{name, byte, at, IsEvent}

-- the object of the file, at a profile of its own
abbrev pub thing : Object
thing = object_of (profiled four 1) 1

-- the records of an upgrade and of the put, the newest first
abbrev pub stored_records : List Record
stored_records = PutDoneIn 1 1 1 ∷ PutStart 1 name ∷ Version ∷ SetUp four ∷ []

-- a pack has made its third move, and not its fourth: the byte that names the area may name either
pub record IsInThirdMove (w : State) : Type 0 where
  pub alone : w.alone ≡ Some (Packing (record { number = 4; moves = 3; before = 81 }))
  pub switching : w.is_switching ≡ true
  pub area : w.area ≡ A
  pub journal : w.journal ≡ stored_records

-- a run in which all that the second version brings happens: an upgrade; a put of a file with a profile of
-- its own; damage below the correction limit; a scrub that finds and mends it; a pack; a stop in the pack's
-- third move, which leaves the packed journal in effect; and a get
pub record HasAll (ms : List Moment) : Type 0 where
  pub clean : IsStart set_up
  pub run : IsRun 8 set_up ms
  pub events : length ms ≡ 43
  pub upgraded : IsEvent ms 6 (Step 1) (Ended Upgraded)
  pub version : version_of (at 7 ms).records ≡ 2
  pub named : IsEvent ms 7 (BeginAt 1 name byte) (Begun 2)
  pub put : IsEvent ms 20 (Step 2) (Ended Put)
  pub own_profile : file_in (at 21 ms) name ≡ Some (record { name = name; id = 1; size = 1; profile = 1 })
  pub other_profile : (setup_in (at 21 ms)).profile ≡ 0
  pub damaged : IsEvent ms 21 (Alter 0 1 0 0 5) Replaced
  pub scrubbed : IsEvent ms 29 (Step 3) (Ended (Scrubbed 1 (1 ∷ 0 ∷ 0 ∷ 0 ∷ []) (1 ∷ 0 ∷ 0 ∷ 0 ∷ [])))
  pub mended : told_block (at 30 ms) 0 1 0 ≡ Some (Some (columns thing byte 0 0))
  pub third_move : IsInThirdMove (at 34 ms)
  pub stopped : IsEvent ms 34 (Stop []) Stopped
  pub packed_is : (at 35 ms).journal ≡ packed stored_records
  pub area : (at 35 ms).area ≡ B
  pub history : (at 35 ms).records ≡ stored_records
  pub got : IsEvent ms 42 (Step 5) (Ended (Got byte))
