-- Reading the words of a line from left to right: what was read and the words behind it; None where no line
-- is so. The laws of `proofs/` say that this finds exactly what the grammar says.
use Rattle.std.specs.Prelude.{◌≡◌, ℕ, ◌^◌, ◌==◌, ◌&&◌, ◌||◌, not, Bool, List, [], ◌∷◌, length, slice_index, codes, nat_lt, Option, None, Some, Result, Ok, Err, if◌then◌else◌}
use Rattle.std.specs.Str.{bytes_eq, all_ascii_digits}
use Rattle.std.specs.Str.Parse.{digits_value}
use Rattle.hex.specs.Hex.{decode_of}
use Rattle.record_defs.specs.Records.{Setup}
use Rattle.record_codec.specs.Reading.{◌>>=◌}
use Rattle.machine_defs.specs.Jobs.{GetJob, DropJob, AuditJob, RepairJob, UpgradeJob}
use Rattle.machine_defs.specs.Events.{Init, Begin, BeginScrub, BeginPack, Step, Alter, Lose, Stop, Reopen, Names}
use Rattle.machine_defs.specs.Transcripts.{Instruction, Once, RunJob}
use Rattle.schedule_text.specs.declared.fault.LineFault.{LineFault}
use Rattle.schedule_text.specs.declared.fault.LineFault.TheVariants as faults
use Rattle.schedule_text.specs.Grammar.{Word}
use Rattle.schedule_text.specs.Events.{put_command}

-- what a reader answers is what reading gives, unless memory ran out
abbrev pub FailsToRead : {Y : Type 0} → LineFault → Option Y → Type 0
FailsToRead faults.Memory read = Unit {0}
FailsToRead faults.Bad read = read ≡ None

-- what a reader answers is what was read, seen in this way, or why there is none
abbrev pub Gives : {X Y : Type 0} → (X → Y) → Result X LineFault → Option Y → Type 0
Gives view (Ok x) read = read ≡ Some (view x)
Gives view (Err fault) read = FailsToRead fault read

-- a value where the test holds
abbrev pub only_if : {A : Type 0} → Bool → A → Option A
only_if test x = if test then Some x else None

-- the value of an Ok
abbrev pub found_in : {A E : Type 0} → Result A E → Option A
found_in (Ok x) = Some x
found_in (Err e) = None

-- the first word
abbrev pub word_at : List Word → Option (Word × List Word)
word_at [] = None
word_at (word ∷ ws) = Some (word, ws)

-- a command with no word behind it
abbrev pub only_command : Instruction → List Word → Option Instruction
only_command command [] = Some command
only_command command (word ∷ ws) = None

-- the word is a number word
abbrev pub is_number_word : Word → Bool
is_number_word word =
    all_ascii_digits word && nat_lt 0 (length word)
    && (not (slice_index word 0 == 48) || (length word == 1))
    && nat_lt (digits_value 10 word) (2 ^ 128)

-- the number of a word
abbrev pub number_in : Word → Option ℕ
number_in word = only_if (is_number_word word) (digits_value 10 word)

-- the bytes of a word
abbrev pub bytes_in : Word → Option (List ℕ)
bytes_in word = if bytes_eq word (codes "-") then Some [] else found_in (decode_of word)

-- the key of a word
abbrev pub key_in : Word → Option (List ℕ)
key_in word = if length word == 64 then found_in (decode_of word) else None

-- a number word
unfoldable pub numeral_at : List Word → Option (ℕ × List Word)
numeral_at ws = do
  word ← word_at ws
  number ← number_in word.0
  Some (number, word.1)

-- a number word of a number below 2 ^ bits
unfoldable pub number_word_at : ℕ → List Word → Option (ℕ × List Word)
number_word_at bits ws = do
  number ← numeral_at ws
  only_if (nat_lt number.0 (2 ^ bits)) number

-- the number of a profile, where there is a word for it
unfoldable pub profile_at : List Word → Option (Option ℕ × List Word)
profile_at [] = Some (None, [])
profile_at (word ∷ ws) = do
  number ← number_word_at 8 (word ∷ ws)
  Some (Some number.0, number.1)

-- the hexadecimal digits of bytes
unfoldable pub bytes_at : List Word → Option (List ℕ × List Word)
bytes_at ws = do
  word ← word_at ws
  bytes ← bytes_in word.0
  Some (bytes, word.1)

-- the hexadecimal digits of a key
unfoldable pub key_at : List Word → Option (List ℕ × List Word)
key_at ws = do
  word ← word_at ws
  key ← key_in word.0
  Some (key, word.1)

-- the seven numbers of a setup, without its key
unfoldable pub setup_words_at : List Word → Option (Setup × List Word)
setup_words_at ws = do
  n ← number_word_at 8 ws
  l ← number_word_at 8 n.1
  b ← number_word_at 8 l.1
  profile ← number_word_at 8 b.1
  rounds ← number_word_at 8 profile.1
  picks ← number_word_at 8 rounds.1
  tolerance ← number_word_at 16 picks.1
  Some (
    record {
      n = n.0;
      l = l.0;
      b = b.0;
      profile = profile.0;
      rounds = rounds.0;
      picks = picks.0;
      tolerance = tolerance.0;
      master = [];
    },
    tolerance.1,
  )

-- the words behind `init`: a setup and its key
unfoldable pub init_at : List Word → Option Instruction
init_at ws = do
  setup ← setup_words_at ws
  key ← key_at setup.1
  only_command (Once (Init (record setup.0 { master = key.0 }))) key.1

-- the words behind `put`: a name, the bytes of a file, and its profile where there is one
unfoldable pub put_at : List Word → Option Instruction
put_at ws = do
  name ← word_at ws
  bytes ← bytes_at name.1
  profile ← profile_at bytes.1
  only_command (put_command name.0 bytes.0 profile.0) profile.1

-- the words behind `get`: a name
unfoldable pub get_at : List Word → Option Instruction
get_at ws = do
  name ← word_at ws
  only_command (Once (Begin (GetJob name.0))) name.1

-- the words behind `drop`: a name
unfoldable pub drop_words_at : List Word → Option Instruction
drop_words_at ws = do
  name ← word_at ws
  only_command (Once (Begin (DropJob name.0))) name.1

-- what is behind the word that says what is begun
unfoldable pub begun_at : Word → List Word → Option Instruction
begun_at kind ws =
    if bytes_eq kind (codes "put") then put_at ws
    else if bytes_eq kind (codes "get") then get_at ws
    else if bytes_eq kind (codes "drop") then drop_words_at ws
    else if bytes_eq kind (codes "audit") then only_command (Once (Begin AuditJob)) ws
    else if bytes_eq kind (codes "repair") then only_command (Once (Begin RepairJob)) ws
    else if bytes_eq kind (codes "upgrade") then only_command (Once (Begin UpgradeJob)) ws
    else if bytes_eq kind (codes "scrub") then only_command (Once BeginScrub) ws
    else if bytes_eq kind (codes "pack") then only_command (Once BeginPack) ws
    else None

-- the words behind `begin`: what is begun, and its words
unfoldable pub begin_at : List Word → Option Instruction
begin_at ws = do
  kind ← word_at ws
  begun_at kind.0 kind.1

-- the words behind `step`: the number of a job
unfoldable pub step_at : List Word → Option Instruction
step_at ws = do
  job ← number_word_at 32 ws
  only_command (Once (Step job.0)) job.1

-- the words behind `run`: the number of a job
unfoldable pub run_at : List Word → Option Instruction
run_at ws = do
  job ← number_word_at 32 ws
  only_command (RunJob job.0) job.1

-- the words behind `alter`: where a symbol is replaced, and by which
unfoldable pub alter_at : List Word → Option Instruction
alter_at ws = do
  provider ← number_word_at 32 ws
  object ← number_word_at 64 provider.1
  stripe ← number_word_at 32 object.1
  place ← number_word_at 32 stripe.1
  symbol ← numeral_at place.1
  only_command (Once (Alter provider.0 object.0 stripe.0 place.0 symbol.0)) symbol.1

-- the words behind `lose`: which block is lost
unfoldable pub lose_at : List Word → Option Instruction
lose_at ws = do
  provider ← number_word_at 32 ws
  object ← number_word_at 64 provider.1
  stripe ← number_word_at 32 object.1
  only_command (Once (Lose provider.0 object.0 stripe.0)) stripe.1

-- the words behind `stop`: the bytes that are picked
unfoldable pub stop_at : List Word → Option Instruction
stop_at ws = do
  picks ← bytes_at ws
  only_command (Once (Stop picks.0)) picks.1

-- what is behind the first word of a line that speaks of no job and of no vault
unfoldable pub apart_at : Word → List Word → Option Instruction
apart_at first ws =
    if bytes_eq first (codes "alter") then alter_at ws
    else if bytes_eq first (codes "lose") then lose_at ws
    else if bytes_eq first (codes "stop") then stop_at ws
    else if bytes_eq first (codes "list") then only_command (Once Names) ws
    else None

-- what is behind the first word of a line
unfoldable pub behind_at : Word → List Word → Option Instruction
behind_at first ws =
    if bytes_eq first (codes "init") then init_at ws
    else if bytes_eq first (codes "reopen") then only_command (Once Reopen) ws
    else if bytes_eq first (codes "begin") then begin_at ws
    else if bytes_eq first (codes "step") then step_at ws
    else if bytes_eq first (codes "run") then run_at ws
    else apart_at first ws

-- a line: None in Some where it is skipped
unfoldable pub line_at : List Word → Option (Option Instruction)
line_at [] = Some None
line_at (first ∷ ws) = if slice_index first 0 == 35 then Some None else (do
  command ← behind_at first ws
  Some (Some command))
