-- What commands ask for, as tests, which compute where the commands are spelled out.
--
--   touches, puts_under, drops  == a job of this kind puts or drops the name, puts it, drops it
--   asks meant event           == the event asks for the begin of a job of a kind that is meant
--   asks_none meant commands   == none of these commands does
--   puts_same name bytes event == where the event is the begin of a put of the name, it is of these bytes
--   asks_puts_only name bytes commands  == so it is of each of these commands
use Rattle.std.specs.Prelude.{◌&&◌, Bool, true, false, not, if◌then◌else◌, ℕ, List, [], ◌∷◌}
use Rattle.record_defs.specs.Table.{is_same_name}
use Rattle.machine_defs.specs.Jobs.{Kind, PutJob, DropJob}
use Rattle.machine_defs.specs.Events.{Event, Begin, BeginAt}
use Rattle.machine_defs.specs.Transcripts.{Instruction, Once, RunJob}

-- a job of this kind puts or drops the name
abbrev pub touches : List ℕ → Kind → Bool
touches name (PutJob n bytes) = is_same_name n name
touches name (DropJob n) = is_same_name n name
touches name kind = false

-- it puts the name
abbrev pub puts_under : List ℕ → Kind → Bool
puts_under name (PutJob n bytes) = is_same_name n name
puts_under name kind = false

-- it drops the name
abbrev pub drops : List ℕ → Kind → Bool
drops name (DropJob n) = is_same_name n name
drops name kind = false

-- an event asks for the begin of a job of a kind that is meant
abbrev pub asks : (Kind → Bool) → Event → Bool
asks meant (Begin kind) = meant kind
asks meant (BeginAt profile name bytes) = meant (PutJob name bytes)
asks meant event = false

-- none of these commands does
abbrev pub asks_none : (Kind → Bool) → List Instruction → Bool
asks_none meant [] = true
asks_none meant (Once event ∷ cs) = not (asks meant event) && asks_none meant cs
asks_none meant (RunJob job ∷ cs) = asks_none meant cs

-- where an event is the begin of a put of the name, it is of these bytes
abbrev pub puts_same : List ℕ → List ℕ → Event → Bool
puts_same name bytes (Begin (PutJob n own)) = if is_same_name n name then is_same_name own bytes else true
puts_same name bytes (BeginAt profile n own) = if is_same_name n name then is_same_name own bytes else true
puts_same name bytes event = true

-- so it is of each of these commands
abbrev pub asks_puts_only : List ℕ → List ℕ → List Instruction → Bool
asks_puts_only name bytes [] = true
asks_puts_only name bytes (Once event ∷ cs) = puts_same name bytes event && asks_puts_only name bytes cs
asks_puts_only name bytes (RunJob job ∷ cs) = asks_puts_only name bytes cs
