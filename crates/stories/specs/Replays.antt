-- Replays over a store that was set up, in which a file of one byte is put and got, and kept up in between. Of each
-- there are, by the same words: its text, its lines, its commands and how they end, the newest first, what is seen
-- behind it, what its jobs heard, and how it ends.
--
--   IsToldSo words text commands outcomes new end
--                         == its text and what it wrote tell it
--   lost2, lost0          == the block of provider 2 is lost, or that of provider 0
--   damaged2, damaged0    == whom these damage
--   swept_text, ..        == provider 2 loses its block, a scrub mends it, and provider 0 loses its own
--   mended_text, ..       == provider 2 loses its block, an audit flags it, a repair mends it, and provider 0 loses its own
--   listed_text, ..       == a put of other bytes is begun, and is cut after a step by a stop; the first is got, the
--                            other bytes put under another name, the first dropped, and the names are listed
--   packed_text, ..       == the journal gets its second version, and is packed
--   cut_text, ..          == an audit begins, and is cut after a step by a stop; the store is opened again
use Rattle.std.specs.Prelude.{ℕ, List, [], ◌∷◌, ◌++◌, map, codes, String, Some, None}
use Rattle.std.specs.declared.alloc.Global.{Global}
use Rattle.std.specs.List.{flat_map}
use Rattle.std.specs.Option.{option_map}
use Rattle.column_defs.specs.Columns.{columns}
use Rattle.column_defs.specs.Challenges.{challenge_of, right_answer}
use Rattle.code_defs.specs.Points.{upto}
use Rattle.device_defs.specs.Providers.{Provider, without_block}
use Rattle.record_defs.specs.Examples.{four}
use Rattle.record_defs.specs.Records.{Record, Drop, PutDone, PutStart}
use Rattle.record_defs.specs.Table.{File}
use Rattle.made_runs.specs.Steps.{removed, stored}
use Rattle.machine_defs.specs.Answers.{Audited, Dropped, Repaired, Scrubbed, Packed, Upgraded}
use Rattle.machine_defs.specs.Events.{BeginScrub, BeginPack, Listed, Lose, More, Names, Replaced, Stop, Stopped, put_event}
use Rattle.machine_defs.specs.Jobs.{Answered, AuditJob, DropJob, RepairJob}
use Rattle.machine_defs.specs.Setups.{object_of}
use Rattle.damage_run.specs.Points.{counts}
use Rattle.epoch_laws.specs.Told.{done_by}
use Rattle.stories.specs.Files.{put_of, got_behind}
use Rattle.stories.specs.Words.{Put, Got, Opened, Begun, Ended, Outcome, Begin, Reopen, Entry, Given, GetJob, UpgradeJob, Fetched, line, Instruction, Once, RunJob, Step, Seen, Ending, with_sink, reading_devices, byte_records, byte_repaired_records, holds, given_block, fetched, named, own_block, ends_hearing, got_packed, byte}
use Rattle.stories.specs.Instances.{opening, other_byte, before_text, first_state}
use Rattle.stories.specs.Told.{IsToldReplay}

-- its text and what it wrote tell one of these
abbrev pub IsToldSo : List (String Global) → List ℕ → List Instruction → List Outcome → Seen → Ending → Type 0
IsToldSo words text commands outcomes new end =
    IsToldReplay words text commands outcomes first_state [] (before_text text) new end

-- a block of a provider is lost
abbrev pub lost2 : List Instruction
lost2 = Once (Lose 2 1 0) ∷ []

abbrev pub lost0 : List Instruction
lost0 = Once (Lose 0 1 0) ∷ []

-- and whom that damages
abbrev pub damaged2 : List ℕ
damaged2 = 2 ∷ []

abbrev pub damaged0 : List ℕ
damaged0 = 0 ∷ []

-- a provider that lost its block
abbrev pub without : Provider → Provider
without p = record p { held = option_map (without_block 1 0) p.held }

-- what a job heard
abbrev pub hears : ℕ → Given → Entry
hears job given = record { job = job; given = given }

-- a get of the file without the block of provider 0
abbrev pub three_given : ℕ → List Entry
three_given job = hears job (Fetched 0 1 0 None) ∷ map (λ j. hears job (Fetched j 1 0 (Some (own_block j))))
    (1 ∷ 2 ∷ 3 ∷ [])

-- the put, and the loss behind it
abbrev pub put_lost : List Instruction
put_lost = lost2 ++ put_of opening named byte None 1

abbrev pub put_lost_outcomes : List Outcome
put_lost_outcomes = Replaced ∷ Ended Put ∷ Begun 1 ∷ Opened ∷ []

-- ---- a scrub

abbrev pub swept_text : List ℕ
swept_text = flat_map line (codes "reopen" ∷ codes "begin put a 6f" ∷ codes "run 1" ∷ codes "lose 2 1 0"
    ∷ codes "begin scrub" ∷ codes "run 2" ∷ codes "lose 0 1 0" ∷ codes "begin get a" ∷ codes "run 3" ∷ [])

abbrev pub swept_lines : List ℕ
swept_lines = flat_map line (codes "opened" ∷ codes "job 1" ∷ codes "put" ∷ codes "replaced" ∷ codes "job 2"
    ∷ codes "scrubbed 1 symbols 0 0 6 0" ∷ codes "replaced" ∷ codes "job 3" ∷ codes "got 6f" ∷ [])

abbrev pub swept_commands : List Instruction
swept_commands = got_behind (lost0 ++ done_by BeginScrub 2 put_lost) named 3

-- the symbols that differed, and the blocks
abbrev pub symbols_off : List ℕ
symbols_off = 0 ∷ 0 ∷ 6 ∷ 0 ∷ []

abbrev pub blocks_off : List ℕ
blocks_off = 0 ∷ 0 ∷ 1 ∷ 0 ∷ []

abbrev pub swept_outcomes : List Outcome
swept_outcomes = Ended (Got byte) ∷ Begun 3 ∷ (Replaced ∷ []) ++ Ended (Scrubbed 1 symbols_off blocks_off) ∷ Begun 2
    ∷ put_lost_outcomes

abbrev pub behind_swept : Seen
behind_swept = with_sink (reading_devices byte_records (fetched (without (fetched (holds 0)))
    ∷ fetched (fetched (holds 1)) ∷ fetched (given_block 2 (fetched (without (holds 2))))
    ∷ fetched (fetched (holds 3)) ∷ [])) swept_lines

abbrev pub swept_end : Ending
swept_end = ends_hearing 0 (three_given 3)

-- ---- an audit and its repair

abbrev pub mended_text : List ℕ
mended_text = flat_map line (codes "reopen" ∷ codes "begin put a 6f" ∷ codes "run 1" ∷ codes "lose 2 1 0"
    ∷ codes "begin audit" ∷ codes "run 2" ∷ codes "begin repair" ∷ codes "run 3" ∷ codes "lose 0 1 0"
    ∷ codes "begin get a" ∷ codes "run 4" ∷ [])

abbrev pub mended_lines : List ℕ
mended_lines = flat_map line (codes "opened" ∷ codes "job 1" ∷ codes "put" ∷ codes "replaced" ∷ codes "job 2"
    ∷ codes "audited 1 undecided 0 counts 0 0 1 0" ∷ codes "job 3" ∷ codes "repaired 1" ∷ codes "replaced"
    ∷ codes "job 4" ∷ codes "got 6f" ∷ [])

abbrev pub audited_first : List Instruction
audited_first = done_by (Begin AuditJob) 2 put_lost

abbrev pub mended_commands : List Instruction
mended_commands = got_behind (lost0 ++ done_by (Begin RepairJob) 3 audited_first) named 4

abbrev pub audited_outcomes : List Outcome
audited_outcomes = Ended (Audited 1 0 counts) ∷ Begun 2 ∷ put_lost_outcomes

abbrev pub mended_outcomes : List Outcome
mended_outcomes =
    Ended (Got byte) ∷ Begun 4 ∷ (Replaced ∷ []) ++ Ended (Repaired 1) ∷ Begun 3 ∷ audited_outcomes

-- the answer of a provider that holds its block
abbrev pub right_symbol : ℕ → Entry
right_symbol j = hears 2 (Answered j 1 0 (right_answer (object_of four 1) byte j (challenge_of (object_of four 1) 1 1 1 0)))

abbrev pub mended_heard : List Entry
mended_heard = (right_symbol 0 ∷ right_symbol 1 ∷ hears 2 (Answered 2 1 0 None) ∷ right_symbol 3 ∷ []) ++ three_given 4

abbrev pub behind_mended : Seen
behind_mended = with_sink (reading_devices byte_repaired_records (fetched (without (fetched (holds 0)))
    ∷ fetched (fetched (holds 1)) ∷ fetched (given_block 2 (fetched (without (holds 2))))
    ∷ fetched (fetched (holds 3)) ∷ [])) mended_lines

abbrev pub mended_end : Ending
mended_end = ends_hearing 0 mended_heard

-- ---- an audit that is cut

abbrev pub cut_text : List ℕ
cut_text = flat_map line (codes "reopen" ∷ codes "begin put a 6f" ∷ codes "run 1" ∷ codes "begin audit"
    ∷ codes "step 2" ∷ codes "stop -" ∷ codes "reopen" ∷ codes "begin get a" ∷ codes "run 3" ∷ [])

abbrev pub cut_lines : List ℕ
cut_lines = flat_map line (codes "opened" ∷ codes "job 1" ∷ codes "put" ∷ codes "job 2" ∷ codes "more"
    ∷ codes "stopped" ∷ codes "opened" ∷ codes "job 3" ∷ codes "got 6f" ∷ [])

abbrev pub cut_steps : List Instruction
cut_steps = Once (Step 2) ∷ []

abbrev pub cut_front : List Instruction
cut_front = Once (Begin (GetJob named)) ∷ Once Reopen ∷ Once (Stop []) ∷ (cut_steps ++ Once (Begin AuditJob)
    ∷ put_of opening named byte None 1)

abbrev pub cut_commands : List Instruction
cut_commands = RunJob 3 ∷ cut_front

abbrev pub cut_outcomes : List Outcome
cut_outcomes = Ended (Got byte) ∷ Begun 3 ∷ (Opened ∷ Stopped ∷ More ∷ Begun 2 ∷ []) ++ Ended Put ∷ Begun 1
    ∷ Opened ∷ []

abbrev pub four_given : ℕ → List Entry
four_given job = map (λ j. hears job (Fetched j 1 0 (Some (own_block j)))) (upto 4)

abbrev pub behind_cut : Seen
behind_cut = with_sink (reading_devices byte_records
    (fetched (holds 0) ∷ fetched (holds 1) ∷ fetched (holds 2) ∷ fetched (holds 3) ∷ [])) cut_lines

abbrev pub cut_end : Ending
cut_end = ends_hearing 0 (four_given 3)

-- ---- an upgrade and a pack

abbrev pub packed_text : List ℕ
packed_text = flat_map line (codes "reopen" ∷ codes "begin put a 6f" ∷ codes "run 1" ∷ codes "begin upgrade"
    ∷ codes "run 2" ∷ codes "begin pack" ∷ codes "run 3" ∷ codes "begin get a" ∷ codes "run 4" ∷ [])

abbrev pub packed_lines : List ℕ
packed_lines = flat_map line (codes "opened" ∷ codes "job 1" ∷ codes "put" ∷ codes "job 2" ∷ codes "upgraded"
    ∷ codes "job 3" ∷ codes "packed 80 81" ∷ codes "job 4" ∷ codes "got 6f" ∷ [])

abbrev pub packed_front : List Instruction
packed_front = Once (Begin (GetJob named)) ∷ done_by BeginPack 3 (done_by (Begin UpgradeJob) 2
    (put_of opening named byte None 1))

abbrev pub packed_commands : List Instruction
packed_commands = RunJob 4 ∷ packed_front

abbrev pub packed_outcomes : List Outcome
packed_outcomes = Ended (Got byte) ∷ Begun 4 ∷ Ended (Packed 80 81) ∷ Begun 3 ∷ Ended Upgraded ∷ Begun 2 ∷ Ended Put
    ∷ Begun 1 ∷ Opened ∷ []

-- what lies between the areas of the disk may be any bytes
abbrev pub behind_packed : List ℕ → Seen
behind_packed filling = with_sink (got_packed filling) packed_lines

abbrev pub packed_end : Ending
packed_end = ends_hearing 0 (four_given 4)

-- ---- a put of other bytes that is cut, and lists

-- another name, that of nobody, and a file under the other
abbrev pub second : List ℕ
second = 98 ∷ []

abbrev pub third : List ℕ
third = 99 ∷ []

abbrev pub second_file : File
second_file = record { name = second; id = 2; size = 1; profile = 0 }

abbrev pub listed_text : List ℕ
listed_text = flat_map line (codes "reopen" ∷ codes "begin put a 6f" ∷ codes "run 1" ∷ codes "begin put a 70"
    ∷ codes "step 2" ∷ codes "stop -" ∷ codes "reopen" ∷ codes "begin get a" ∷ codes "run 3" ∷ codes "begin put b 70"
    ∷ codes "run 4" ∷ codes "begin drop a" ∷ codes "run 5" ∷ codes "list" ∷ [])

abbrev pub listed_lines : List ℕ
listed_lines = flat_map line (codes "opened" ∷ codes "job 1" ∷ codes "put" ∷ codes "job 2" ∷ codes "more"
    ∷ codes "stopped" ∷ codes "opened" ∷ codes "job 3" ∷ codes "got 6f" ∷ codes "job 4" ∷ codes "put" ∷ codes "job 5"
    ∷ codes "dropped" ∷ codes "names 1" ∷ codes "b 1" ∷ [])

-- between the put and the get, and behind the get
abbrev pub put_cut : List Instruction
put_cut = Once Reopen ∷ Once (Stop []) ∷ Once (Step 2) ∷ Once (put_event None named other_byte) ∷ []

abbrev pub put_cut_outcomes : List Outcome
put_cut_outcomes = Opened ∷ Stopped ∷ More ∷ Begun 2 ∷ []

abbrev pub got_cut : List Instruction
got_cut = got_behind (put_cut ++ put_of opening named byte None 1) named 3

abbrev pub got_cut_outcomes : List Outcome
got_cut_outcomes = Ended (Got byte) ∷ Begun 3 ∷ put_cut_outcomes ++ Ended Put ∷ Begun 1 ∷ Opened ∷ []

abbrev pub dropped_behind : List Instruction
dropped_behind = done_by (Begin (DropJob named)) 5 (put_of got_cut second other_byte None 4)

abbrev pub dropped_outcomes : List Outcome
dropped_outcomes = Ended Dropped ∷ Begun 5 ∷ Ended Put ∷ Begun 4 ∷ got_cut_outcomes

abbrev pub listed_commands : List Instruction
listed_commands = Once Names ∷ dropped_behind

abbrev pub listed_outcomes : List Outcome
listed_outcomes = Listed (second_file ∷ []) ∷ dropped_outcomes

abbrev pub listed_records : List Record
listed_records = Drop named ∷ PutDone 2 1 ∷ PutStart 2 second ∷ byte_records

-- a provider without the block of the first file, and with that of the other
abbrev pub emptied : ℕ → Provider
emptied j = removed 1 (stored 2 0 (columns (object_of four 2) other_byte j 0) (fetched (holds j)))

abbrev pub behind_listed : Seen
behind_listed = with_sink (reading_devices listed_records (emptied 0 ∷ emptied 1 ∷ emptied 2 ∷ emptied 3 ∷ []))
    listed_lines

abbrev pub listed_end : Ending
listed_end = ends_hearing 0 (four_given 3)
