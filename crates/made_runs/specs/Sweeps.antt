-- How the steps of a scrub or a pack go, as functions of the state.
--
--   Sweep                 == how a step of what runs alone goes
--   swept w n sweep       == the state after such a step
--   FitsSweep w n sweep   == what runs alone has the number n, and its next step can go so
use Rattle.std.specs.Prelude.{◌≡◌, ℕ, zero, suc, ◌==◌, ◌&&◌, true, not, List, [], ◌∷◌, ◌++◌, map, Option, None, Some}
use Rattle.code_defs.specs.Points.{upto}
use Rattle.made_runs.specs.Words.{GivesSymbols, FetchGives, Fetched, Action, Store, Fetch, Work, End, scrubbed_object, scrub_stores, opened_scrub, scrubbing, unalone, block_to_scrub, packing, switching, switched, Scrubbed, Packed, Outcome, More, Ended, blocks_given, State, Scrub, Pack, Alone, Scrubbing, Packing, setup_in}
use Rattle.record_defs.specs.Areas.{text_length}
use Rattle.made_runs.specs.Steps.{called, stored, fetched}

-- how a step of what runs alone goes
pub data Sweep : Type 0 where
  Brings : (block : Option (List ℕ)) → Sweep  -- a fetch gives this
  Opens : (symbols : List ℕ) (todo : List Action) → Sweep  -- a stripe has these symbols; this is left to do
  Mends : Sweep  -- a block is stored anew
  Finds : (stripes : ℕ) (symbols blocks : List ℕ) → Sweep  -- the scrub ends, and has found these
  Moves : Sweep  -- a pack makes one of its four moves
  Tells : (before after : ℕ) → Sweep  -- the pack ends, and tells these sizes of the journal

-- what it answers
abbrev pub swept_so : Sweep → Outcome
swept_so (Finds stripes symbols blocks) = Ended (Scrubbed stripes symbols blocks)
swept_so (Tells before after) = Ended (Packed before after)
swept_so sweep = More

-- an action of a scrub can go so, with these behind it
abbrev pub FitsScrub : State → Scrub → Action → List Action → Sweep → Type 0
FitsScrub w scrub (Fetch j object stripe) rest (Brings block) =
    FetchGives (scrubbed_object w scrub object).profile.size object stripe (w.providers j).held block
FitsScrub w scrub (Work object stripe) rest (Opens symbols todo) =
    GivesSymbols (scrubbed_object w scrub object) stripe
    (blocks_given scrub.given (setup_in w).n object stripe) symbols
    × (scrub_stores w scrub object stripe symbols ++ rest ≡ todo)
FitsScrub w scrub (Store j object stripe) rest Mends = Unit {0}
FitsScrub w scrub End rest (Finds stripes symbols blocks) =
    (stripes ≡ scrub.found.stripes) × (symbols ≡ map scrub.found.symbols (upto (setup_in w).n))
    × (blocks ≡ map scrub.found.blocks (upto (setup_in w).n))
FitsScrub w scrub action rest sweep = ⊥

-- the state after it
abbrev pub scrubbed_on : State → Scrub → Action → List Action → Sweep → State
scrubbed_on w scrub (Fetch j object stripe) rest (Brings block) =
    called (scrubbing w (record scrub { todo = rest; given = Fetched j object stripe block ∷ scrub.given })) j
    (fetched (w.providers j))
scrubbed_on w scrub (Work object stripe) rest (Opens symbols todo) =
    scrubbing w (record (opened_scrub w scrub object stripe rest symbols) { todo = todo })
scrubbed_on w scrub (Store j object stripe) rest Mends =
    called (scrubbing w (record scrub { todo = rest })) j
    (stored object stripe (block_to_scrub w scrub j object stripe) (w.providers j))
scrubbed_on w scrub action rest sweep = unalone w

-- a move of a pack, or its end, can go so, by how many are made
abbrev pub FitsPack : State → Pack → ℕ → Sweep → Type 0
FitsPack w pack zero Moves = Unit {0}
FitsPack w pack (suc zero) Moves = Unit {0}
FitsPack w pack (suc (suc zero)) Moves = Unit {0}
FitsPack w pack (suc (suc (suc zero))) Moves = Unit {0}
FitsPack w pack (suc (suc (suc (suc zero)))) (Tells before after) =
    (before ≡ pack.before) × (after ≡ text_length w.area w.journal)
FitsPack w pack moves sweep = ⊥

-- the state after it
abbrev pub packed_on : State → Pack → ℕ → State
packed_on w pack zero = packing w pack
packed_on w pack (suc zero) = packing w pack
packed_on w pack (suc (suc zero)) = switching (packing w pack)
packed_on w pack (suc (suc (suc zero))) = switched (packing w pack)
packed_on w pack moves = unalone w

-- the next step of a scrub can go so
abbrev pub FitsTodo : State → Scrub → List Action → Sweep → Type 0
FitsTodo w scrub [] sweep = ⊥
FitsTodo w scrub (action ∷ rest) sweep = FitsScrub w scrub action rest sweep

-- the state after it
abbrev pub after_todo : State → Scrub → List Action → Sweep → State
after_todo w scrub [] sweep = w
after_todo w scrub (action ∷ rest) sweep = scrubbed_on w scrub action rest sweep

-- the next step of what runs alone can go so
abbrev pub FitsAlone : State → ℕ → Option Alone → Sweep → Type 0
FitsAlone w n None sweep = ⊥
FitsAlone w n (Some (Scrubbing scrub)) sweep =
    ((scrub.number == n) ≡ true) × FitsTodo w scrub scrub.todo sweep
FitsAlone w n (Some (Packing pack)) sweep = ((pack.number == n) ≡ true) × FitsPack w pack pack.moves sweep

-- the state after it
abbrev pub after_alone : State → Option Alone → Sweep → State
after_alone w None sweep = w
after_alone w (Some (Scrubbing scrub)) sweep = after_todo w scrub scrub.todo sweep
after_alone w (Some (Packing pack)) sweep = packed_on w pack pack.moves

-- the vault is open, no disk call has failed, and the next step of what runs alone can go so
abbrev pub FitsSweep : State → ℕ → Sweep → Type 0
FitsSweep w n sweep = ((w.is_open && not w.is_barred) ≡ true) × FitsAlone w n w.alone sweep

-- the state after it
abbrev pub swept : State → Sweep → State
swept w sweep = after_alone w w.alone sweep
