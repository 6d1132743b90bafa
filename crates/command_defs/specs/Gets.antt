-- What a get leaves and gives whose job was the only one. What it heard decides alone on what it gives.
--
--   block_heard x object stripe j   == the block that the fetch from provider j of a stripe gave, by what
--                                      was heard
--   blocks_heard x object stripe    == the same of all providers of the setup
--   fetch_entries x object count    == an entry for each stripe below the count and each provider of the
--                                      setup, in order
--   HearsStripes x file count       == these entries were heard, and each provider that tells gave what it
--                                      holds, or nothing where its count rose
--   GetGives x file answer          == what was heard opens to the bytes of the answer, or loses the lowest
--                                      row of a stripe
--   GetLeaves x name answer         == what a get leaves
use Rattle.std.specs.Prelude.{◌≡◌, ℕ, ◌+◌, ◌<◌, List, map, None, Some, IfSome}
use Rattle.std.specs.List.{flat_map}
use Rattle.code_defs.specs.Points.{upto}
use Rattle.column_defs.specs.Opened.{SeenBlock, GivesSymbols, LosesRow, OpensFile}
use Rattle.device_defs.specs.Providers.{sized}
use Rattle.record_defs.specs.Table.{File, file_of}
use Rattle.machine_defs.specs.Jobs.{Fetched}
use Rattle.machine_defs.specs.Given.{block_given, blocks_given}
use Rattle.machine_defs.specs.Heard.{Entry, given_to}
use Rattle.machine_defs.specs.Answers.{Answer, Got, Lost}
use Rattle.command_defs.specs.Ran.{Ran, setup_at_begin, object_at_begin, stripes_at_begin, job_number, SameHeld}
use Rattle.command_defs.specs.Truthful.{IsTruthful}

-- the block that a fetch from a provider gave
abbrev pub block_heard : Ran → ℕ → ℕ → ℕ → SeenBlock
block_heard x object stripe j = block_given (given_to job_number x.heard) object stripe j

-- the blocks that the fetches from all providers of the setup gave
abbrev pub blocks_heard : Ran → ℕ → ℕ → List SeenBlock
blocks_heard x object stripe = blocks_given (given_to job_number x.heard) (setup_at_begin x).n object stripe

-- one entry for each stripe and provider, in order
abbrev pub fetch_entries : Ran → ℕ → ℕ → List Entry
fetch_entries x object count =
    flat_map (λ stripe. map
    (λ j. record { job = job_number; given = Fetched j object stripe (block_heard x object stripe j) })
    (upto (setup_at_begin x).n)) (upto count)

-- the stripes of a file below the count were fetched from all providers
pub record HearsStripes (x : Ran) (file : File) (count : ℕ) : Type 0 where
  pub heard : x.heard ≡ fetch_entries x file.id count
  pub truthful : (j : ℕ) → j < (setup_at_begin x).n → IfSome (x.old j).held (λ held.
      IsTruthful (λ stripe. block_heard x file.id stripe j)
      (λ stripe. sized (object_at_begin x file).profile.size (held file.id stripe))
      (upto count)
      (x.old j).other_faults (x.new j).other_faults)

-- a stripe of the file has a row that is not accepted, and no stripe before it
pub record LosesStripe (x : Ran) (file : File) (stripe row : ℕ) : Type 0 where
  pub within : stripe < stripes_at_begin x file
  pub hears : HearsStripes x file (stripe + 1)
  pub before : (k : ℕ) → k < stripe → (symbols : List ℕ) × GivesSymbols
      (object_at_begin x file) k (blocks_heard x file.id k) symbols
  pub loses : LosesRow (object_at_begin x file) stripe (blocks_heard x file.id stripe) row

-- what a get gives of a file
abbrev pub GetGives : Ran → File → Answer → Type 0
GetGives x file (Got bytes) =
    HearsStripes x file (stripes_at_begin x file)
    × OpensFile (object_at_begin x file) file.size (blocks_heard x file.id) bytes
GetGives x file (Lost stripe row) = LosesStripe x file stripe row
GetGives x file answer = ⊥

-- what a get leaves
pub record GetLeaves (x : Ran) (name : List ℕ) (answer : Answer) : Type 0 where
  pub file : File
  pub in_effect : file_of x.records name ≡ Some file
  pub gives : GetGives x file answer
  pub records : x.after ≡ x.records
  pub sure : x.doubt ≡ None
  pub held : SameHeld x
