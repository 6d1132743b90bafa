-- What a line of a schedule spells.
--
--   pieces c text               == what stands between the places of the byte c in a text; one piece more
--                                  than there are places
--   words line                  == the pieces between spaces, without those that are empty
--   IsNumber bits word number   == a number word of a number below 2 ^ bits
--   IsHex word bytes            == the hexadecimal digits of the bytes, two for each, of either case; or `-`
--                                  for no bytes
--   IsKey word key              == 64 hexadecimal digits of either case, of the 32 bytes of a master key
--   SpellsCommand words command == the words of a line are those of the command
--   IsSkipped words             == there are no words, or the first begins with `#`
--
-- A name is any word, whether or not a file can have it. A tab and a carriage return are bytes of a word as
-- others are.
use Rattle.std.specs.Prelude.{◌≡◌, ◌⊎◌, ℕ, ◌^◌, ◌<◌, ◌==◌, Bool, true, false, List, [], ◌∷◌, length, slice_index, codes, Ok, if◌then◌else◌}
use Rattle.std.specs.List.{filter}
use Rattle.hex.specs.Hex.{decode_of}
use Rattle.record_defs.specs.Records.{Setup}
use Rattle.machine_defs.specs.Jobs.{PutJob, GetJob, DropJob, AuditJob, RepairJob, UpgradeJob}
use Rattle.machine_defs.specs.Events.{Init, Begin, BeginAt, BeginScrub, BeginPack, Step, Alter, Lose, Stop, Reopen, Names, Continue}
use Rattle.machine_defs.specs.Transcripts.{Instruction, Once, RunJob}
use Rattle.command_defs.specs.Words.{IsNumberWord}

-- the bytes of a word
abbrev pub Word : Type 0
Word = List ℕ

-- the pieces with a byte before the first of them
abbrev pub begun_piece : ℕ → List (List ℕ) → List (List ℕ)
begun_piece b [] = []
begun_piece b (piece ∷ others) = (b ∷ piece) ∷ others

-- what stands between the places of the byte c
abbrev pub pieces : ℕ → List ℕ → List (List ℕ)
pieces c [] = [] ∷ []
pieces c (b ∷ text) = if b == c then [] ∷ pieces c text else begun_piece b (pieces c text)

-- a piece has bytes
abbrev pub has_bytes : List ℕ → Bool
has_bytes [] = false
has_bytes (b ∷ piece) = true

-- the words of a line: the pieces between spaces that have bytes
abbrev pub words : List ℕ → List Word
words line = filter has_bytes (pieces 32 line)

-- a number word of a number below 2 ^ bits
abbrev pub IsNumber : ℕ → Word → ℕ → Type 0
IsNumber bits word number = IsNumberWord word number × (number < 2 ^ bits)

-- two hexadecimal digits of either case for each byte, or `-` for no bytes
abbrev pub IsHex : Word → List ℕ → Type 0
IsHex word bytes = ((word ≡ codes "-") × (bytes ≡ [])) ⊎ (decode_of word ≡ Ok bytes)

-- 64 hexadecimal digits of either case for the 32 bytes of a master key
abbrev pub IsKey : Word → List ℕ → Type 0
IsKey word key = (length word ≡ 64) × (decode_of word ≡ Ok key)

-- the words of an `init`: its seven numbers and its key
abbrev pub SpellsInit : List Word → Setup → Type 0
SpellsInit ws s =
    (n l b profile rounds picks tolerance key : Word)
    × (ws ≡ codes "init" ∷ n ∷ l ∷ b ∷ profile ∷ rounds ∷ picks ∷ tolerance ∷ key ∷ [])
    × IsNumber 8 n s.n × IsNumber 8 l s.l × IsNumber 8 b s.b × IsNumber 8 profile s.profile
    × IsNumber 8 rounds s.rounds × IsNumber 8 picks s.picks × IsNumber 16 tolerance s.tolerance
    × IsKey key s.master

-- the words of an `alter`: the provider, the object's number, the stripe, the place in it, and the new symbol
abbrev pub SpellsAlter : List Word → (provider object stripe place symbol : ℕ) → Type 0
SpellsAlter ws provider object stripe place symbol =
    (p o s k x : Word) × (ws ≡ codes "alter" ∷ p ∷ o ∷ s ∷ k ∷ x ∷ [])
    × IsNumber 32 p provider × IsNumber 64 o object × IsNumber 32 s stripe × IsNumber 32 k place
    × IsNumber 128 x symbol

-- the words of a `lose`: the provider, the object's number and the stripe
abbrev pub SpellsLose : List Word → (provider object stripe : ℕ) → Type 0
SpellsLose ws provider object stripe =
    (p o s : Word) × (ws ≡ codes "lose" ∷ p ∷ o ∷ s ∷ [])
    × IsNumber 32 p provider × IsNumber 64 o object × IsNumber 32 s stripe

-- the words are those of the command
abbrev pub SpellsCommand : List Word → Instruction → Type 0
SpellsCommand ws (Once (Init setup)) = SpellsInit ws setup
SpellsCommand ws (Once Reopen) = ws ≡ codes "reopen" ∷ []
SpellsCommand ws (Once (Begin (PutJob name bytes))) =
    (digits : Word) × (ws ≡ codes "begin" ∷ codes "put" ∷ name ∷ digits ∷ []) × IsHex digits bytes
SpellsCommand ws (Once (Begin (GetJob name))) = ws ≡ codes "begin" ∷ codes "get" ∷ name ∷ []
SpellsCommand ws (Once (Begin (DropJob name))) = ws ≡ codes "begin" ∷ codes "drop" ∷ name ∷ []
SpellsCommand ws (Once (Begin AuditJob)) = ws ≡ codes "begin" ∷ codes "audit" ∷ []
SpellsCommand ws (Once (Begin RepairJob)) = ws ≡ codes "begin" ∷ codes "repair" ∷ []
SpellsCommand ws (Once (Begin UpgradeJob)) = ws ≡ codes "begin" ∷ codes "upgrade" ∷ []
SpellsCommand ws (Once BeginScrub) = ws ≡ codes "begin" ∷ codes "scrub" ∷ []
SpellsCommand ws (Once BeginPack) = ws ≡ codes "begin" ∷ codes "pack" ∷ []
SpellsCommand ws (Once (BeginAt profile name bytes)) =
    (digits number : Word) × (ws ≡ codes "begin" ∷ codes "put" ∷ name ∷ digits ∷ number ∷ [])
    × IsHex digits bytes × IsNumber 8 number profile
SpellsCommand ws (Once (Step job)) =
    (number : Word) × (ws ≡ codes "step" ∷ number ∷ []) × IsNumber 32 number job
SpellsCommand ws (RunJob job) = (number : Word) × (ws ≡ codes "run" ∷ number ∷ []) × IsNumber 32 number job
SpellsCommand ws (Once (Alter provider object stripe place symbol)) =
    SpellsAlter ws provider object stripe place symbol
SpellsCommand ws (Once (Lose provider object stripe)) = SpellsLose ws provider object stripe
SpellsCommand ws (Once (Stop picks)) =
    (digits : Word) × (ws ≡ codes "stop" ∷ digits ∷ []) × IsHex digits picks
SpellsCommand ws (Once Names) = ws ≡ codes "list" ∷ []
SpellsCommand ws (Once Continue) = ⊥

-- a line that is passed over: there are no words, or the first begins with `#`
abbrev pub IsSkipped : List Word → Type 0
IsSkipped [] = Unit {0}
IsSkipped (word ∷ ws) = slice_index word 0 ≡ 35
