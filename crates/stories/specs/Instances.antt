-- A replay over a store that was set up, which puts a file of one byte and gets it; and a get where one block
-- is lost.
--
--   opening               == the commands before the put: the store is opened
--   byte_text, byte_lines == the text of that schedule, and what it writes
--   before_text text      == what is seen before a replay of this text
--   byte_front, byte_commands, byte_outcomes == its commands before the run of the get, all of them, and how they end,
--                            the newest first
--   get_of_byte           == the commands of the get, the newest first
--   before_byte, behind_byte, byte_heard, byte_end
--                         == what is seen before and behind it, what its jobs heard, and how it ends
--   first_state           == the state before the first event over these devices
--   damaged_got           == what a get leaves over the store in which one block is lost
--   three_heard           == what it heard
--   other_byte            == another byte
use Rattle.std.specs.Prelude.{ℕ, List, [], ◌∷◌, ◌++◌, map, codes, Some, None}
use Rattle.std.specs.List.{flat_map}
use Rattle.code_defs.specs.Points.{upto}
use Rattle.stories.specs.Files.{put_of, got_behind}
use Rattle.stories.specs.Words.{Put, Got, Opened, Begun, Ended, Outcome, Begin, Reopen, empty_provider, Entry, GetJob, Fetched, line, State, Instruction, Once, RunJob, Seen, Ending, with_sink, with_source, reading_devices, four_records, byte_records, none_hold, holds, fetched, named, own_block, heard, ends_hearing, byte, start_of, devices_of_seen}

-- the commands before the put: the store is opened
abbrev pub opening : List Instruction
opening = Once Reopen ∷ []

-- the text: a file of one byte is put and got
abbrev pub byte_text : List ℕ
byte_text = flat_map line (codes "reopen" ∷ codes "begin put a 6f" ∷ codes "run 1" ∷ codes "begin get a"
    ∷ codes "run 2" ∷ [])

-- its commands
abbrev pub byte_front : List Instruction
byte_front = Once (Begin (GetJob named)) ∷ put_of opening named byte None 1

abbrev pub byte_commands : List Instruction
byte_commands = got_behind ([] ++ put_of opening named byte None 1) named 2

-- and how they end
abbrev pub byte_outcomes : List Outcome
byte_outcomes = Ended (Got byte) ∷ Begun 2 ∷ ([] ++ Ended Put ∷ Begun 1 ∷ Opened ∷ [])

-- the commands of the get, the newest first
abbrev pub get_of_byte : List Instruction
get_of_byte = RunJob 2 ∷ Once (Begin (GetJob named)) ∷ []

-- what the replay writes
abbrev pub byte_lines : List ℕ
byte_lines = flat_map line (codes "opened" ∷ codes "job 1" ∷ codes "put" ∷ codes "job 2"
    ∷ codes "got 6f" ∷ [])

-- what is seen before a replay
abbrev pub before_text : List ℕ → Seen
before_text text = with_source (reading_devices four_records none_hold) text

abbrev pub before_byte : Seen
before_byte = before_text byte_text

-- and behind it
abbrev pub behind_byte : Seen
behind_byte = with_sink (reading_devices byte_records
    (fetched (holds 0) ∷ fetched (holds 1) ∷ fetched (holds 2) ∷ fetched (holds 3) ∷ [])) byte_lines

-- job 2 heard each provider's own block
abbrev pub byte_heard : List Entry
byte_heard = map (λ j. record { job = 2; given = Fetched j 1 0 (Some (own_block j)) }) (upto 4)

-- how the replay ends
abbrev pub byte_end : Ending
byte_end = ends_hearing 0 byte_heard

-- the state before the first event
abbrev pub first_state : State
first_state = start_of (devices_of_seen before_byte) four_records

-- what a get heard where one block is lost
abbrev pub three_heard : List Entry
three_heard =
    heard (Fetched 0 1 0 (Some (own_block 0))) ∷ heard (Fetched 1 1 0 (Some (own_block 1)))
    ∷ heard (Fetched 2 1 0 None) ∷ heard (Fetched 3 1 0 (Some (own_block 3))) ∷ []

-- what it leaves
abbrev pub damaged_got : Seen
damaged_got = with_sink (reading_devices byte_records
    (fetched (holds 0) ∷ fetched (holds 1) ∷ fetched empty_provider ∷ fetched (holds 3) ∷ [])) byte

-- another byte
abbrev pub other_byte : List ℕ
other_byte = 112 ∷ []
