-- The line or lines that each outcome writes.
--
--   decimal, hex              == a number in decimal, bytes in lower-case hexadecimal
--   refusal_text, answer_text == a refusal by its name, the answer of a job
--   lines_of outcome          == all that an outcome writes, each line with its newline; a later call of
--                                the program writes nothing
use Rattle.std.specs.Prelude.{ℕ, ◌+◌, ◌/◌, ◌%◌, List, [], ◌∷◌, ◌++◌, length, codes, nat_lt, if◌then◌else◌}
use Rattle.std.specs.List.{flat_map}
use Rattle.std.specs.Fmt.{decimal}
use Rattle.record_defs.specs.Table.{File}
use Rattle.machine_defs.specs.Refusals as refusal
use Rattle.machine_defs.specs.Refusals.{Refusal}
use Rattle.machine_defs.specs.Answers as answer
use Rattle.machine_defs.specs.Answers.{Answer}
use Rattle.machine_defs.specs.Events.{Outcome, Ready, Refused, Opened, Begun, More, Waiting, Ended, Replaced, NothingHeld, Stopped, Listed, Closed, Continued}

-- a text as a line
abbrev pub line : List ℕ → List ℕ
line bytes = bytes ++ 10 ∷ []

-- a number after a space
abbrev pub then_number : ℕ → List ℕ
then_number n = 32 ∷ decimal n

-- a hexadecimal digit in lower case
abbrev pub hex_digit : ℕ → ℕ
hex_digit d = if nat_lt d 10 then 48 + d else 87 + d

-- bytes in hexadecimal
abbrev pub hex : List ℕ → List ℕ
hex bytes = flat_map (λ b. hex_digit (b / 16) ∷ hex_digit (b % 16) ∷ []) bytes

-- bytes in hexadecimal, or a dash for none
abbrev pub hex_or_dash : List ℕ → List ℕ
hex_or_dash [] = codes "-"
hex_or_dash (b ∷ bs) = hex (b ∷ bs)

-- a refusal by its name
abbrev pub refusal_text : Refusal → List ℕ
refusal_text refusal.MustReopen = codes "MustReopen"
refusal_text refusal.Busy = codes "Busy"
refusal_text refusal.BadName = codes "BadName"
refusal_text refusal.TooLong = codes "TooLong"
refusal_text refusal.NoSuchName = codes "NoSuchName"
refusal_text refusal.TooManyFiles = codes "TooManyFiles"
refusal_text refusal.RepairDue = codes "RepairDue"
refusal_text refusal.NothingDue = codes "NothingDue"
refusal_text refusal.JournalFull = codes "JournalFull"
refusal_text refusal.Memory = codes "Memory"
refusal_text refusal.BadSetup = codes "BadSetup"
refusal_text refusal.DiskFault = codes "DiskFault"
refusal_text (refusal.BadJournal at) = codes "BadJournal" ++ then_number at
refusal_text refusal.Already = codes "Already"
refusal_text refusal.NotSetUp = codes "NotSetUp"
refusal_text refusal.TooFewProviders = codes "TooFewProviders"
refusal_text refusal.NoSuchJob = codes "NoSuchJob"
refusal_text refusal.BadProfile = codes "BadProfile"
refusal_text refusal.OldVersion = codes "OldVersion"
refusal_text refusal.NewVersion = codes "NewVersion"
refusal_text refusal.PackTooLong = codes "PackTooLong"

-- the answer of a job
abbrev pub answer_text : Answer → List ℕ
answer_text answer.Put = codes "put"
answer_text (answer.Got bytes) = codes "got " ++ hex_or_dash bytes
answer_text answer.Dropped = codes "dropped"
answer_text (answer.Audited number undecided counts) =
    codes "audited" ++ then_number number ++ codes " undecided" ++ then_number undecided ++ codes " counts"
    ++ flat_map then_number counts
answer_text (answer.Repaired number) = codes "repaired" ++ then_number number
answer_text (answer.Lost stripe row) = codes "lost" ++ then_number stripe ++ then_number row
answer_text (answer.ProviderFault provider) = codes "provider fault" ++ then_number provider
answer_text answer.DiskFault = codes "disk fault"
answer_text answer.Memory = codes "memory"
answer_text answer.Upgraded = codes "upgraded"
answer_text (answer.Scrubbed stripes symbols blocks) =
    codes "scrubbed" ++ then_number stripes ++ codes " symbols" ++ flat_map then_number symbols
answer_text (answer.Packed before after) =
    codes "packed" ++ then_number before ++ then_number after

-- a file in effect
abbrev pub file_line : File → List ℕ
file_line f = line (f.name ++ then_number f.size)

-- all that an outcome writes
abbrev pub lines_of : Outcome → List ℕ
lines_of Ready = line (codes "ready")
lines_of (Refused why) = line (codes "refused " ++ refusal_text why)
lines_of Opened = line (codes "opened")
lines_of (Begun job) = line (codes "job" ++ then_number job)
lines_of More = line (codes "more")
lines_of (Waiting holder) = line (codes "waiting" ++ then_number holder)
lines_of (Ended how) = line (answer_text how)
lines_of Replaced = line (codes "replaced")
lines_of NothingHeld = line (codes "nothing held")
lines_of Stopped = line (codes "stopped")
lines_of (Listed files) = line (codes "names" ++ then_number (length files)) ++ flat_map file_line files
lines_of Closed = line (codes "closed")
lines_of Continued = []
