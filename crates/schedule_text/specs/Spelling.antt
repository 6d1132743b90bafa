-- A spelling of each schedule that has one.
--
--   IsName name             == the bytes of a word: some bytes, and none of them a space or a newline
--   CanBeSpelled command    == its numbers fit their fields, its bytes are bytes, and its name is a word
--   words_of command        == the words of its line
--   schedule_bytes commands == the lines of the commands: each word with a space behind it, and a newline
use Rattle.std.specs.Prelude.{◌≢◌, ℕ, ◌^◌, ◌<◌, List, [], ◌∷◌, ◌++◌, length, codes}
use Rattle.std.specs.List.{AllByRecursion, flat_map}
use Rattle.std.specs.Fmt.{decimal}
use Rattle.hex.specs.Hex.{encode_lower}
use Rattle.record_defs.specs.Records.{Setup}
use Rattle.machine_defs.specs.Jobs.{Kind, PutJob, GetJob, DropJob, AuditJob, RepairJob, UpgradeJob}
use Rattle.machine_defs.specs.Events.{Init, Begin, BeginAt, BeginScrub, BeginPack, Step, Alter, Lose, Stop, Reopen, Names, Continue, IsSpelled}
use Rattle.machine_defs.specs.Transcripts.{Instruction, Once, RunJob}
use Rattle.schedule_text.specs.Grammar.{Word}

-- a byte that may stand in a word
abbrev pub IsInWord : ℕ → Type 0
IsInWord b = (b ≢ 32) × (b ≢ 10)

-- the bytes of a word
abbrev pub IsName : List ℕ → Type 0
IsName name = (0 < length name) × AllByRecursion IsInWord name

-- the name of a begin is a word
abbrev pub IsNamed : Kind → Type 0
IsNamed (PutJob name bytes) = IsName name
IsNamed (GetJob name) = IsName name
IsNamed (DropJob name) = IsName name
IsNamed AuditJob = Unit {0}
IsNamed RepairJob = Unit {0}
IsNamed UpgradeJob = Unit {0}

-- the command has a line
abbrev pub CanBeSpelled : Instruction → Type 0
CanBeSpelled (RunJob job) = job < 2 ^ 32
CanBeSpelled (Once (Begin kind)) = IsSpelled (Begin kind) × IsNamed kind
CanBeSpelled (Once Continue) = ⊥
CanBeSpelled (Once (BeginAt profile name bytes)) = IsSpelled (BeginAt profile name bytes) × IsName name
CanBeSpelled (Once event) = IsSpelled event

-- the digits of bytes, or `-` for none
abbrev pub hex_of : List ℕ → Word
hex_of [] = codes "-"
hex_of (b ∷ bytes) = encode_lower (b ∷ bytes)

-- the words of an `init`
abbrev pub init_words : Setup → List Word
init_words s =
    codes "init" ∷ decimal s.n ∷ decimal s.l ∷ decimal s.b ∷ decimal s.profile ∷ decimal s.rounds
    ∷ decimal s.picks ∷ decimal s.tolerance
    ∷ encode_lower s.master ∷ []

-- the words of a begin
abbrev pub begin_words : Kind → List Word
begin_words (PutJob name bytes) = codes "begin" ∷ codes "put" ∷ name ∷ hex_of bytes ∷ []
begin_words (GetJob name) = codes "begin" ∷ codes "get" ∷ name ∷ []
begin_words (DropJob name) = codes "begin" ∷ codes "drop" ∷ name ∷ []
begin_words AuditJob = codes "begin" ∷ codes "audit" ∷ []
begin_words RepairJob = codes "begin" ∷ codes "repair" ∷ []
begin_words UpgradeJob = codes "begin" ∷ codes "upgrade" ∷ []

-- the words of a command's line
abbrev pub words_of : Instruction → List Word
words_of (Once (Init setup)) = init_words setup
words_of (Once Reopen) = codes "reopen" ∷ []
words_of (Once (Begin kind)) = begin_words kind
words_of (Once (Step job)) = codes "step" ∷ decimal job ∷ []
words_of (RunJob job) = codes "run" ∷ decimal job ∷ []
words_of (Once (Alter provider object stripe place symbol)) =
    codes "alter" ∷ decimal provider ∷ decimal object ∷ decimal stripe ∷ decimal place ∷ decimal symbol ∷ []
words_of (Once (Lose provider object stripe)) =
    codes "lose" ∷ decimal provider ∷ decimal object ∷ decimal stripe ∷ []
words_of (Once (Stop picks)) = codes "stop" ∷ hex_of picks ∷ []
words_of (Once Names) = codes "list" ∷ []
words_of (Once Continue) = []
words_of (Once (BeginAt profile name bytes)) =
    codes "begin" ∷ codes "put" ∷ name ∷ hex_of bytes ∷ decimal profile ∷ []
words_of (Once BeginScrub) = codes "begin" ∷ codes "scrub" ∷ []
words_of (Once BeginPack) = codes "begin" ∷ codes "pack" ∷ []

-- a word with a space behind it
abbrev pub spaced : Word → List ℕ
spaced word = word ++ 32 ∷ []

-- the line of a command
abbrev pub line_of : Instruction → List ℕ
line_of command = flat_map spaced (words_of command) ++ 10 ∷ []

-- the lines of the commands
abbrev pub schedule_bytes : List Instruction → List ℕ
schedule_bytes commands = flat_map line_of commands
