-- What a job heard, as entries of a report.
--
--   fetched_entry job object n place block    == the fetch at a place of a get from n providers, and what it
--                                                gave
--   fetched_entries job object n place blocks == an entry for each fetch from a place on
--   entries_fetched fetches                   == an entry for each fetch of a get
--   answered_entries job asks symbols         == an entry for each ask
--   entries_in parts                          == all that a job heard, in order
--   entry_heard heard                         == one of them
use Rattle.std.specs.Prelude.{ℕ, ◌+◌, ◌/◌, ◌%◌, List, [], ◌∷◌, Option}
use Rattle.std.specs.Option.{option_map}
use Rattle.machine_defs.specs.Jobs.{Fetched, Answered}
use Rattle.machine_defs.specs.Heard.{Entry}
use Rattle.stripe_bench.specs.Blocks.{blocks_in}
use Rattle.vault.specs.declared.heard.Fetches.{Fetches}
use Rattle.vault.specs.declared.heard.Ask.{Ask}
use Rattle.vault.specs.declared.heard.Parts.{Parts}
use Rattle.vault.specs.declared.heard.Parts.TheVariants as part
use Rattle.vault.specs.declared.heard.Heard.{Heard}
use Rattle.vault.specs.declared.heard.Heard.TheVariants as heard

-- what the fetch at a place gave: a stripe has one from each of the n providers, in order
abbrev pub fetched_entry : (job object n place : ℕ) → Option (List ℕ) → Entry
fetched_entry job object n place block =
    record { job = job; given = Fetched (place % n) object (place / n) block }

-- an entry for each fetch from a place on, with what it gave
abbrev pub fetched_entries : (job object n place : ℕ) → List (Option (List ℕ)) → List Entry
fetched_entries job object n place [] = []
fetched_entries job object n place (block ∷ blocks) =
    fetched_entry job object n place block ∷ fetched_entries job object n (place + 1) blocks

-- an entry for each fetch of a get, with what it gave
abbrev pub entries_fetched : Fetches → List Entry
entries_fetched f = fetched_entries f.job f.object f.n 0 (blocks_in f.blocks)

-- an entry for each ask, with what it gave
abbrev pub answered_entries : ℕ → List Ask → List (Option ℕ) → List Entry
answered_entries job (a ∷ asks) (symbol ∷ symbols) =
    record { job = job; given = Answered a.provider a.object a.round symbol }
    ∷ answered_entries job asks symbols
answered_entries job asks symbols = []

-- all that a job heard, in order
abbrev pub entries_in : Parts → List Entry
entries_in part.Nothing = []
entries_in (part.Fetched f) = entries_fetched f
entries_in (part.Answered a) = answered_entries a.job a.asks.items a.symbols.items

-- one thing that a job heard
abbrev pub entry_heard : Heard → Entry
entry_heard (heard.Fetched job provider object stripe block) =
    record { job = job; given = Fetched provider object stripe (option_map (λ b. b.now) block) }
entry_heard (heard.Answered job provider object round symbol) =
    record { job = job; given = Answered provider object round symbol }
