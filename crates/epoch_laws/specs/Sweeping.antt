-- A scrub while it runs: what it works on, has opened, was given, stores, and has mended.
--
--   own_block w file j stripe     == the own block of a provider of a stripe of a file in effect
--   OpensOwn w file scrub         == each stripe of the file that it has opened, it opened to the file's symbols
--   StoresOwn w file scrub        == what it stores next of the file is a provider's own block
--   HoldsWhatWasFetched ..        == a fetch from who was not replaced since its begin would give the block that it was
--                                    given once more, or else its own
--   IsTodo scrub id j stripe      == it has still to open the stripe, or to store provider j's block of it
--   HoldsWhatIsDone ..            == of a stripe that it has not to do any more, who was not replaced since its begin
--                                    holds its own block exactly
--   HasSweptSoFar start ms scrub  == all this holds of each file in effect
use Rattle.std.specs.Prelude.{◌≡◌, ◌⊎◌, ℕ, ◌<◌, false, List, ◌∷◌, length, Option, Some}
use Rattle.algebra_laws.specs.Lists.{In}
use Rattle.column_defs.specs.Objects.{symbols_in, stripes}
use Rattle.column_defs.specs.Columns.{columns}
use Rattle.device_defs.specs.Providers.{sized}
use Rattle.record_defs.specs.Table.{File}
use Rattle.machine_defs.specs.Actions.{Action, Store, Work}
use Rattle.machine_defs.specs.Alone.{block_to_scrub}
use Rattle.machine_defs.specs.Begins.{pinned_file}
use Rattle.machine_defs.specs.Deeds.{told_block}
use Rattle.machine_defs.specs.Jobs.{Fetched, Worked}
use Rattle.machine_defs.specs.Runs.{Moment, now, is_replaced_since}
use Rattle.machine_defs.specs.States.{State, Scrub, setup_in, file_object, file_in}

-- the block that a provider is to hold
abbrev pub own_block : State → File → ℕ → ℕ → List ℕ
own_block w file j stripe = columns (file_object w file) (w.bytes file.id) j stripe

-- what it has opened are the file's own symbols
abbrev pub OpensOwn : State → File → Scrub → Type 0
OpensOwn w file scrub =
    (stripe : ℕ) (symbols : List ℕ) → In (Worked file.id stripe symbols) scrub.given
    → symbols ≡ symbols_in (file_object w file) (w.bytes file.id) stripe

-- what it stores next is a provider's own block
abbrev pub StoresOwn : State → File → Scrub → Type 0
StoresOwn w file scrub =
    (j stripe : ℕ) (rest : List Action) → scrub.todo ≡ Store j file.id stripe ∷ rest
    → block_to_scrub w scrub j file.id stripe ≡ own_block w file j stripe

-- who was not replaced since its begin holds what was fetched from it, or its own block
abbrev pub HoldsWhatWasFetched : State → List Moment → File → Scrub → Type 0
HoldsWhatWasFetched w ms file scrub =
    (j stripe : ℕ) (block : List ℕ) (held : Option (List ℕ))
    → In (Fetched j file.id stripe (Some block)) scrub.given → is_replaced_since scrub.begun j ms ≡ false
    → told_block w j file.id stripe ≡ Some held
    → (sized (file_object w file).profile.size held ≡ Some block) ⊎ (held ≡ Some (own_block w file j stripe))

-- it has still to open the stripe, or to store the provider's block of it
abbrev pub IsTodo : Scrub → ℕ → ℕ → ℕ → Type 0
IsTodo scrub id j stripe = In (Work id stripe) scrub.todo ⊎ In (Store j id stripe) scrub.todo

-- of what is done, who was not replaced since its begin holds its own block
abbrev pub HoldsWhatIsDone : State → List Moment → File → Scrub → Type 0
HoldsWhatIsDone w ms file scrub =
    (j stripe : ℕ) (held : Option (List ℕ)) → j < (setup_in w).n
    → stripe < stripes (file_object w file) (length (w.bytes file.id))
    → (IsTodo scrub file.id j stripe → ⊥) → is_replaced_since scrub.begun j ms ≡ false
    → told_block w j file.id stripe ≡ Some held → held ≡ Some (own_block w file j stripe)

-- so it is of each file in effect, all of which it works on
pub record HasSweptSoFar (start : State) (ms : List Moment) (scrub : Scrub) : Type 0 where
  pub files : (name : List ℕ) (file : File) → file_in (now start ms) name ≡ Some file
      → In (pinned_file (now start ms) file) scrub.files
  pub opened : (name : List ℕ) (file : File) → file_in (now start ms) name ≡ Some file
      → OpensOwn (now start ms) file scrub
  pub stores : (name : List ℕ) (file : File) → file_in (now start ms) name ≡ Some file
      → StoresOwn (now start ms) file scrub
  pub fetched : (name : List ℕ) (file : File) → file_in (now start ms) name ≡ Some file
      → HoldsWhatWasFetched (now start ms) ms file scrub
  pub done : (name : List ℕ) (file : File) → file_in (now start ms) name ≡ Some file
      → HoldsWhatIsDone (now start ms) ms file scrub
