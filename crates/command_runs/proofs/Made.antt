-- Jobs over the file of one byte that are given by their turns, from every state that was just opened over
-- four providers. What proofs cite of turn_laws is passed on.
use Rattle.command_runs.proofs.Words.{◌≡◌, ℕ, ◌==◌, List, [], ◌∷◌, length, Some, None, refl, arith, if◌then◌else◌, EachImage, Provider, Record, Area, StandsActive, File, file_of, Kind, Answer, Ended, IsSpelledKind, State, IsJustOpened, Seen, Ending, SameSource, provider_at, text_of, IsOpened, setup_in_effect, refusal_over, EndsByAnswer, Turn, told, named, spelled, GoesSo, bytes_at-same, file-long, ran-over}
use Rattle.command_runs.specs.Words.{A}
use Rattle.turn_laws.specs.Turned.{each}
pub use Rattle.turn_laws.proofs.Turned.{Run, turn, next, behind}

-- ---- the byte of the file

abbrev pub first_of : List ℕ → ℕ
first_of [] = 0
first_of (x ∷ xs) = x

-- object number 1 stands for one byte
abbrev pub one_byte : (ℕ → List ℕ) → ℕ → List ℕ
one_byte bytes id = if id == 1 then first_of (bytes 1) ∷ [] else bytes id

one_long : (xs : List ℕ) → length xs ≡ 1 → first_of xs ∷ [] ≡ xs
one_long [] h = absurd (omega (arith, h))
one_long (x ∷ []) h = refl
one_long (x ∷ y ∷ ys) h = absurd (omega (arith, h))

-- the file
abbrev pub kept : File
kept = record { name = named; id = 1; size = 1; profile = 0 }

-- it has its byte in a state just opened
pub byte-held : (area : Area) (rs : List Record) (w : State) {ps : List Provider} →
    file_of rs named ≡ Some kept → IsJustOpened w area rs 1 0 ps → one_byte w.bytes ≡ w.bytes
byte-held area rs w file V = bytes_at-same w.bytes 1 (first_of (w.bytes 1) ∷ [])
    (one_long (w.bytes 1) (file-long area rs named kept w file V))

-- the state before, spelled out
abbrev pub before : List Record → Seen → State → State
before rs old w = spelled A rs (one_byte w.bytes) old.providers w

-- ---- a job over it

-- it is not refused, ends by this turn, and finds the file, and finds and leaves four providers, and the source
abbrev pub BeginsSo : Area → List Record → Kind → Turn → Answer → Seen → Seen → Type 0
BeginsSo area rs kind final answer old new = (told final ≡ Ended answer) × (old.disk_faults ≡ 0)
    × (old.providers ≡ each (provider_at old.providers)) × (length new.providers ≡ 4)
    × (file_of rs named ≡ Some kept) × (refusal_over area rs kind None ≡ None) × IsSpelledKind kind
    × SameSource old new

-- a job runs so that goes by these turns and the last one from each state over the store
pub ran : {rs : List Record} {kind : Kind} {answer : Answer} {old new : Seen} {end : Ending}
    (after : List Record) (turns : List Turn) (final : Turn) (opened : IsOpened old rs) →
    BeginsSo opened.area rs kind final answer old new →
    EachImage new.disk (λ image. StandsActive image opened.area after) →
    EndsByAnswer (text_of (setup_in_effect rs).tolerance kind answer) answer old new end →
    GoesSo opened.area rs kind None answer old new end.heard one_byte after turns final
    (Run opened.area rs kind answer old new end)
ran {rs} after turns final opened begins images ends = ran-over one_byte after turns final opened
    (begins.0, begins.1, begins.2, begins.3, begins.5, begins.6, begins.7)
    (λ w V. byte-held opened.area rs w begins.4 V) images ends
