-- Schedules as texts, and what carries them out: one with damage, an audit, a repair, a stop and gets; one
-- with an upgrade, a put with a profile of its own, and a get; one in which a scrub comes before the get; and
-- one in which a pack does. Commands have the newest first.
--
--   IsRunOf schedule written k job ms
--                     == these moments carry out a schedule and write these bytes, from a start of four
--                        providers; event k is the last, and ends a get with the file
--   stopped_schedule  == the commands of the run with damage, and then a stop, a reopening and a get
--   stopped_written   == all that they write
--   stopped_text      == the text that spells them
--   bad_text          == a text whose second line has too many words
--   IsStoppedRun ms   == these moments carry it out
--   upgraded_schedule, upgraded_written, upgraded_text
--                     == the same of an upgrade, of which one step is told apart, a put at profile 1, and
--                        a get
--   upgraded_file     == the file of that put
--   IsUpgradedRun ms  == the same of these; the setup's profile is 0
--   scrubbed_schedule, scrubbed_written, scrubbed_text
--                     == the same, with a symbol that is altered behind the put, and a scrub, of which one
--                        step is told apart
--   IsScrubbedRun ms  == these moments carry it out; they are calm, counted from the scrub's begin
--   packed_schedule, packed_written, packed_text
--                     == the upgrade and the put, and a pack, of which one step is told apart, and the get
--   IsPackedRun ms    == these moments carry it out; at their end the packed journal stands in the second
--                        area
use Rattle.std.specs.Prelude.{◌≡◌, ℕ, true, false, List, [], ◌∷◌, ◌++◌, codes, Some}
use Rattle.std.specs.List.{flat_map}
use Rattle.machine_defs.specs.Jobs.{GetJob, UpgradeJob}
use Rattle.machine_defs.specs.Lines.{line}
use Rattle.damage_run.specs.Points.{EndsBy}
use Rattle.schedule_runs.specs.Words.{Got, Begin, BeginAt, BeginScrub, BeginPack, Step, Alter, Stop, Reopen, B, packed, File, version_of, set_up, Moment, IsRun, now, is_replaced_since, scrubbed, IsScrubCalm, IsStart, setup_in, file_in, Instruction, Once, RunJob, CarriesOut, name, byte, schedule, written_lines}

-- these moments carry out a schedule, and the last of them gives the file
pub record IsRunOf (schedule : List Instruction) (written : List ℕ) (k job : ℕ)
    (ms : List Moment) : Type 0 where
  pub clean : IsStart set_up
  pub run : IsRun 8 set_up ms
  pub carried_out : CarriesOut schedule ms written
  pub last : EndsBy ms k job (Got byte)

-- the commands with the stop
abbrev pub stopped_schedule : List Instruction
stopped_schedule = RunJob 6 ∷ Once (Begin (GetJob name)) ∷ Once Reopen ∷ Once (Stop []) ∷ schedule

-- all that they write
abbrev pub stopped_written : List ℕ
stopped_written =
    written_lines ++ flat_map line (codes "stopped" ∷ codes "opened" ∷ codes "job 6" ∷ codes "got 6f" ∷ [])

-- the text that spells them, in their order
abbrev pub stopped_text : List ℕ
stopped_text = flat_map line (codes "reopen" ∷ codes "begin put a 6f" ∷ codes "run 1"
    ∷ codes "begin get a" ∷ codes "step 2" ∷ codes "step 2" ∷ codes "step 2" ∷ codes "step 2"
    ∷ codes "lose 2 1 0" ∷ codes "begin audit" ∷ codes "step 3" ∷ codes "run 2" ∷ codes "run 3"
    ∷ codes "begin repair" ∷ codes "run 4" ∷ codes "lose 0 1 0" ∷ codes "begin get a" ∷ codes "run 5"
    ∷ codes "stop -" ∷ codes "reopen" ∷ codes "begin get a" ∷ codes "run 6" ∷ [])

-- a text whose second line has too many words
abbrev pub bad_text : List ℕ
bad_text = flat_map line (codes "reopen" ∷ codes "lose 2 1 0 2 1 0" ∷ [])

-- these moments carry it out
abbrev pub IsStoppedRun : List Moment → Type 0
IsStoppedRun ms = IsRunOf stopped_schedule stopped_written 65 6 ms

-- the commands of the upgrade, the put and the get
abbrev pub upgraded_schedule : List Instruction
upgraded_schedule = RunJob 3 ∷ Once (Begin (GetJob name)) ∷ RunJob 2 ∷ Once (BeginAt 1 name byte)
    ∷ RunJob 1 ∷ Once (Step 1) ∷ Once (Begin UpgradeJob) ∷ Once Reopen ∷ []

-- all that they write
abbrev pub upgraded_written : List ℕ
upgraded_written = flat_map line (codes "opened" ∷ codes "job 1" ∷ codes "more" ∷ codes "upgraded"
    ∷ codes "job 2" ∷ codes "put" ∷ codes "job 3" ∷ codes "got 6f" ∷ [])

-- the text that spells them, in their order
abbrev pub upgraded_text : List ℕ
upgraded_text = flat_map line (codes "reopen" ∷ codes "begin upgrade" ∷ codes "step 1" ∷ codes "run 1"
    ∷ codes "begin put a 6f 1" ∷ codes "run 2" ∷ codes "begin get a" ∷ codes "run 3" ∷ [])

-- the file of the put
abbrev pub upgraded_file : File
upgraded_file = record { name = name; id = 1; size = 1; profile = 1 }

-- these moments carry it out; at their end the file has a profile of its own
pub record IsUpgradedRun (ms : List Moment) : Type 0 where
  pub goes : IsRunOf upgraded_schedule upgraded_written 27 3 ms
  pub version : version_of (now set_up ms).records ≡ 2
  pub own_profile : file_in (now set_up ms) name ≡ Some upgraded_file
  pub other_profile : (setup_in (now set_up ms)).profile ≡ 0

-- the commands of the upgrade, the put, the alteration, the scrub and the get
abbrev pub scrubbed_schedule : List Instruction
scrubbed_schedule = RunJob 4 ∷ Once (Begin (GetJob name)) ∷ RunJob 3 ∷ Once (Step 3) ∷ Once BeginScrub
    ∷ Once (Alter 0 1 0 0 5) ∷ RunJob 2 ∷ Once (BeginAt 1 name byte) ∷ RunJob 1 ∷ Once (Step 1)
    ∷ Once (Begin UpgradeJob) ∷ Once Reopen ∷ []

-- all that they write
abbrev pub scrubbed_written : List ℕ
scrubbed_written = flat_map line (codes "opened" ∷ codes "job 1" ∷ codes "more" ∷ codes "upgraded"
    ∷ codes "job 2" ∷ codes "put" ∷ codes "replaced" ∷ codes "job 3" ∷ codes "more"
    ∷ codes "scrubbed 1 symbols 1 0 0 0" ∷ codes "job 4" ∷ codes "got 6f" ∷ [])

-- the text that spells them, in their order
abbrev pub scrubbed_text : List ℕ
scrubbed_text = flat_map line (codes "reopen" ∷ codes "begin upgrade" ∷ codes "step 1" ∷ codes "run 1"
    ∷ codes "begin put a 6f 1" ∷ codes "run 2" ∷ codes "alter 0 1 0 0 5" ∷ codes "begin scrub"
    ∷ codes "step 3" ∷ codes "run 3" ∷ codes "begin get a" ∷ codes "run 4" ∷ [])

-- these moments carry it out; counted from the scrub's begin, at event 22, no provider was replaced
pub record IsScrubbedRun (ms : List Moment) : Type 0 where
  pub goes : IsRunOf scrubbed_schedule scrubbed_written 36 4 ms
  pub calm : IsScrubCalm set_up ms
  pub mark : scrubbed set_up ms ≡ 22
  pub altered : is_replaced_since 21 0 ms ≡ true
  pub unaltered : is_replaced_since 22 0 ms ≡ false

-- the commands of the upgrade, the put, the pack and the get
abbrev pub packed_schedule : List Instruction
packed_schedule = RunJob 4 ∷ Once (Begin (GetJob name)) ∷ RunJob 3 ∷ Once (Step 3) ∷ Once BeginPack
    ∷ RunJob 2 ∷ Once (BeginAt 1 name byte) ∷ RunJob 1 ∷ Once (Step 1) ∷ Once (Begin UpgradeJob)
    ∷ Once Reopen ∷ []

-- all that they write
abbrev pub packed_written : List ℕ
packed_written = flat_map line (codes "opened" ∷ codes "job 1" ∷ codes "more" ∷ codes "upgraded"
    ∷ codes "job 2" ∷ codes "put" ∷ codes "job 3" ∷ codes "more" ∷ codes "packed 81 81" ∷ codes "job 4"
    ∷ codes "got 6f" ∷ [])

-- the text that spells them, in their order
abbrev pub packed_text : List ℕ
packed_text = flat_map line (codes "reopen" ∷ codes "begin upgrade" ∷ codes "step 1" ∷ codes "run 1"
    ∷ codes "begin put a 6f 1" ∷ codes "run 2" ∷ codes "begin pack" ∷ codes "step 3" ∷ codes "run 3"
    ∷ codes "begin get a" ∷ codes "run 4" ∷ [])

-- these moments carry it out; the packed records stand in the second area, and the history is as before
pub record IsPackedRun (ms : List Moment) : Type 0 where
  pub goes : IsRunOf packed_schedule packed_written 33 4 ms
  pub area : (now set_up ms).area ≡ B
  pub journal : (now set_up ms).journal ≡ packed (now set_up ms).records
