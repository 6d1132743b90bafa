-- Which outcomes their lines tell, and what is one line.
--
--   IsToldAnswer answer    == its line tells it: numbers fit 64 bits; a scrub's line leaves its blocks out
--   IsToldByLine outcome   == its line tells it: neither a list of files nor a later call of the program
--   WritesOneLine outcome  == it writes one line
--   AsksForOneLine event   == neither a list of the names nor a later call of the program
--   HasNoNewline bytes     == none of the bytes is a newline
--   IsOfLines text         == a text is empty, or ends in a newline
use Rattle.std.specs.Prelude.{◌≡◌, ◌≢◌, ◌⊎◌, ℕ, ◌<◌, ◌^◌, List, []}
use Rattle.std.specs.List.{AllByRecursion}
use Rattle.machine_defs.specs.Refusals.{Refusal, BadJournal}
use Rattle.machine_defs.specs.Answers.{Answer, Audited, Repaired, Lost, ProviderFault, Scrubbed, Packed}
use Rattle.machine_defs.specs.Events.{Event, Names, Continue, Outcome, Refused, Begun, Waiting, Ended, Listed, Continued}
use Rattle.machine_defs.specs.Lines.{line}

-- a number fits 64 bits
abbrev pub IsShortNumber : ℕ → Type 0
IsShortNumber n = n < 2 ^ 64

-- the line of a refusal tells it
abbrev pub IsToldRefusal : Refusal → Type 0
IsToldRefusal (BadJournal at) = IsShortNumber at
IsToldRefusal why = Unit {0}

-- the line of an answer tells it
abbrev pub IsToldAnswer : Answer → Type 0
IsToldAnswer (Audited number undecided counts) =
    IsShortNumber number × IsShortNumber undecided × AllByRecursion IsShortNumber counts
IsToldAnswer (Repaired number) = IsShortNumber number
IsToldAnswer (Lost stripe row) = IsShortNumber stripe × IsShortNumber row
IsToldAnswer (ProviderFault provider) = IsShortNumber provider
IsToldAnswer (Scrubbed stripes symbols blocks) = ⊥
IsToldAnswer (Packed before after) = IsShortNumber before × IsShortNumber after
IsToldAnswer answer = Unit {0}

-- the line of an outcome tells it
abbrev pub IsToldByLine : Outcome → Type 0
IsToldByLine (Refused why) = IsToldRefusal why
IsToldByLine (Begun job) = IsShortNumber job
IsToldByLine (Waiting holder) = IsShortNumber holder
IsToldByLine (Ended how) = IsToldAnswer how
IsToldByLine (Listed files) = ⊥
IsToldByLine Continued = ⊥
IsToldByLine outcome = Unit {0}

-- an outcome writes one line
abbrev pub WritesOneLine : Outcome → Type 0
WritesOneLine (Listed files) = ⊥
WritesOneLine Continued = ⊥
WritesOneLine outcome = Unit {0}

-- an event that is neither a list of the names nor a later call of the program
abbrev pub AsksForOneLine : Event → Type 0
AsksForOneLine Names = ⊥
AsksForOneLine Continue = ⊥
AsksForOneLine event = Unit {0}

-- none of the bytes is a newline
abbrev pub HasNoNewline : List ℕ → Type 0
HasNoNewline bytes = AllByRecursion (λ b. b ≢ 10) bytes

-- a text is empty, or ends in a newline
abbrev pub IsOfLines : List ℕ → Type 0
IsOfLines text = (text ≡ []) ⊎ ((front : List ℕ) × (text ≡ line front))
