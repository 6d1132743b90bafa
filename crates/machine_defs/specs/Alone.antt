-- What runs alone, with no job beside it: a scrub and a pack.
--
--   number_alone alone                       == the job number that it drew
--   alone_refusal w more                     == why its begin is refused: MustReopen, Busy, and then what its
--                                               kind adds
--   scrub_actions s files                    == all fetches and openings of a scrub, file by file, stripe by
--                                               stripe, and its end; the stores are decided at each opening
--   differs block right                      == how many symbols of a block are not those that it should
--                                               hold; all of them where there is none
--   opened_scrub ..                          == a scrub that has opened a stripe: it has the differing blocks
--                                               to store, and has counted them
--   Scrubs old scrub action rest outcome new == what an action of a scrub may come to, with these behind it
--   Packs old pack moves outcome new         == what a move of a pack may come to, by how many are made
--   StepsAlone old alone outcome new         == a step of what runs alone
--   reaches_over area records                == a text in the first area reaches into the second, which a pack
--                                               would write
--   pack_causes version area journal         == what refuses a pack of a journal, but for what runs
--   BeginsScrub, BeginsPack                  == what their begins may come to
use Rattle.std.specs.Prelude.{◌≡◌, ◌⊎◌, ℕ, zero, suc, ◌+◌, ◌==◌, ◌||◌, Bool, true, false, List, [], ◌∷◌, ◌++◌, length, map, Option, None, Some, is_some, nat_lt, if◌then◌else◌}
use Rattle.std.specs.List.{flat_map}
use Rattle.code_defs.specs.Points.{upto}
use Rattle.code_defs.specs.ServerCode.{differences}
use Rattle.column_defs.specs.Objects.{Object}
use Rattle.column_defs.specs.Columns.{column_of_symbols}
use Rattle.column_defs.specs.Opened.{GivesSymbols, LosesRow}
use Rattle.record_defs.specs.Records.{Setup, Record}
use Rattle.record_defs.specs.Table.{version_of, files_of}
use Rattle.record_defs.specs.Packed.{packed}
use Rattle.record_defs.specs.Areas.{Area, A, B, base_of, end_in, other_area, text_length}
use Rattle.device_defs.specs.ProviderCalls.{Stores, FailsToStore, FindsNoMemory, Fetches}
use Rattle.machine_defs.specs.Jobs.{Pinned, Fetched, Worked}
use Rattle.machine_defs.specs.Setups.{profiled}
use Rattle.machine_defs.specs.Actions.{Action, Store, Fetch, Work, End, on_each_stripe, open_actions}
use Rattle.machine_defs.specs.Refusals as refusal
use Rattle.machine_defs.specs.Refusals.{Refusal, Cause, first_refusal}
use Rattle.machine_defs.specs.Answers.{Scrubbed, Packed, Lost, ProviderFault, DiskFault, Memory}
use Rattle.machine_defs.specs.Events.{Outcome, Closed, Refused, Begun, More, Ended}
use Rattle.machine_defs.specs.States.{State, Found, Scrub, Pack, Alone, Scrubbing, Packing, setup_in, object_among, DiskCall, DiskFails, ProviderCall}
use Rattle.machine_defs.specs.Begins.{pin_all}
use Rattle.machine_defs.specs.Given.{block_given, blocks_given, symbols_given}

-- the number of what runs alone
abbrev pub number_alone : Alone → ℕ
number_alone (Scrubbing scrub) = scrub.number
number_alone (Packing pack) = pack.number

-- why a begin of what runs alone is refused
abbrev pub alone_refusal : State → List Cause → Option Refusal
alone_refusal w more =
    first_refusal (record { applies = w.is_barred; refusal = refusal.MustReopen }
    ∷ record { applies = nat_lt 0 (length w.jobs) || is_some w.alone; refusal = refusal.Busy } ∷ more)

-- the fetches and openings of a scrub, and its end
abbrev pub scrub_actions : Setup → List Pinned → List Action
scrub_actions s files =
    flat_map (λ (f : Pinned). on_each_stripe (profiled s f.profile) (length f.bytes)
    (open_actions s f.id)) files ++ End ∷ []

-- how many symbols of a block are not those that it should hold
abbrev pub differs : Option (List ℕ) → List ℕ → ℕ
differs None right = length right
differs (Some block) right = differences block right

-- the object of a file that a scrub works on
abbrev pub scrubbed_object : State → Scrub → ℕ → Object
scrubbed_object w scrub id = object_among w scrub.files id

-- how many symbols of a provider's block differ in the stripe that a scrub has opened
abbrev pub off_by : State → Scrub → ℕ → ℕ → List ℕ → ℕ → ℕ
off_by w scrub object stripe symbols j =
    differs (block_given scrub.given object stripe j)
    (column_of_symbols (scrubbed_object w scrub object) symbols j stripe)

-- what a scrub has found with one more stripe
abbrev pub found_more : Found → (ℕ → ℕ) → Found
found_more f off = record {
  stripes = f.stripes + 1;
  symbols = λ j. f.symbols j + off j;
  blocks = λ j. f.blocks j + (if off j == 0 then 0 else 1);
}

-- the stores of the blocks that differ in a stripe that a scrub has opened
abbrev pub scrub_stores : State → Scrub → ℕ → ℕ → List ℕ → List Action
scrub_stores w scrub object stripe symbols =
    flat_map (λ j. if off_by w scrub object stripe symbols j == 0 then [] else Store j object stripe ∷ [])
    (upto (setup_in w).n)

-- a scrub that has opened a stripe
abbrev pub opened_scrub : State → Scrub → ℕ → ℕ → List Action → List ℕ → Scrub
opened_scrub w scrub object stripe rest symbols = record scrub {
  todo = scrub_stores w scrub object stripe symbols ++ rest;
  given = Worked object stripe symbols ∷ scrub.given;
  found = found_more scrub.found (off_by w scrub object stripe symbols);
}

-- the state in which a scrub goes on
abbrev pub scrubbing : State → Scrub → State
scrubbing w scrub = record w { alone = Some (Scrubbing scrub) }

-- the state in which nothing runs alone any more
abbrev pub unalone : State → State
unalone w = record w { alone = None }

-- the block that a scrub stores: that of the symbols of its opening
abbrev pub block_to_scrub : State → Scrub → ℕ → ℕ → ℕ → List ℕ
block_to_scrub w scrub j object stripe =
    column_of_symbols (scrubbed_object w scrub object) (symbols_given scrub.given object stripe) j stripe

-- what an action of a scrub may come to, with these behind it
abbrev pub Scrubs : State → Scrub → Action → List Action → Outcome → State → Type 0
Scrubs old scrub (Fetch j object stripe) rest More new =
    (block : Option (List ℕ)) × ProviderCall old j (λ p q. Fetches
    (scrubbed_object old scrub object).profile.size object stripe p block q)
    (scrubbing old (record scrub { todo = rest; given = Fetched j object stripe block ∷ scrub.given })) new
Scrubs old scrub (Work object stripe) rest More new =
    (symbols : List ℕ) × GivesSymbols (scrubbed_object old scrub object) stripe
    (blocks_given scrub.given (setup_in old).n object stripe) symbols
    × (new ≡ scrubbing old (opened_scrub old scrub object stripe rest symbols))
Scrubs old scrub (Work object stripe) rest (Ended (Lost s row)) new =
    (s ≡ stripe) × LosesRow (scrubbed_object old scrub object) stripe
    (blocks_given scrub.given (setup_in old).n object stripe) row × (new ≡ unalone old)
Scrubs old scrub (Store j object stripe) rest More new =
    ProviderCall old j (Stores object stripe (block_to_scrub old scrub j object stripe))
    (scrubbing old (record scrub { todo = rest })) new
Scrubs old scrub (Store j object stripe) rest (Ended (ProviderFault k)) new =
    (k ≡ j) × ProviderCall old j FailsToStore (unalone old) new
Scrubs old scrub (Store j object stripe) rest (Ended Memory) new =
    ProviderCall old j FindsNoMemory (unalone old) new
Scrubs old scrub End rest (Ended (Scrubbed stripes symbols blocks)) new =
    (stripes ≡ scrub.found.stripes) × (symbols ≡ map scrub.found.symbols (upto (setup_in old).n))
    × (blocks ≡ map scrub.found.blocks (upto (setup_in old).n)) × (new ≡ unalone old)
Scrubs old scrub action rest outcome new = ⊥

-- a step of a scrub makes its next action
abbrev pub StepsScrub : State → Scrub → List Action → Outcome → State → Type 0
StepsScrub old scrub [] outcome new = ⊥
StepsScrub old scrub (action ∷ rest) outcome new = Scrubs old scrub action rest outcome new

-- a pack has made one more move
abbrev pub packing : State → Pack → State
packing w pack = record w { alone = Some (Packing (record pack { moves = pack.moves + 1 })) }

-- the byte that names the area is written and not yet synced
abbrev pub switching : State → State
switching w = record w { is_switching = true }

-- the packed journal is the one that the disk holds
abbrev pub switched : State → State
switched w = record w { journal = packed w.journal; area = other_area w.area; is_switching = false }

-- a pack whose disk call failed
abbrev pub barred_pack : State → State
barred_pack w = record w { alone = None; is_barred = true }

-- the moves of a pack, by how many are made: the text into the other area, a sync, the switch byte, a sync;
-- and its end; a move that found no memory is no fault, and the disk's count stays
abbrev pub Packs : State → Pack → ℕ → Outcome → State → Type 0
Packs old pack zero More new = DiskCall old (packing old pack) new
Packs old pack zero (Ended DiskFault) new = DiskFails old (barred_pack old) new
Packs old pack zero (Ended Memory) new = new ≡ unalone old
Packs old pack (suc zero) More new = DiskCall old (packing old pack) new
Packs old pack (suc zero) (Ended DiskFault) new = DiskFails old (barred_pack old) new
Packs old pack (suc (suc zero)) More new = DiskCall old (switching (packing old pack)) new
Packs old pack (suc (suc zero)) (Ended DiskFault) new = DiskFails old (switching (barred_pack old)) new
Packs old pack (suc (suc zero)) (Ended Memory) new = new ≡ unalone old
Packs old pack (suc (suc (suc zero))) More new = DiskCall old (switched (packing old pack)) new
Packs old pack (suc (suc (suc zero))) (Ended DiskFault) new = DiskFails old (barred_pack old) new
Packs old pack (suc (suc (suc (suc zero)))) (Ended (Packed before after)) new =
    (before ≡ pack.before) × (after ≡ text_length old.area old.journal) × (new ≡ unalone old)
Packs old pack moves outcome new = ⊥

-- a step of what runs alone
abbrev pub StepsAlone : State → Alone → Outcome → State → Type 0
StepsAlone old (Scrubbing scrub) outcome new = StepsScrub old scrub scrub.todo outcome new
StepsAlone old (Packing pack) outcome new = Packs old pack pack.moves outcome new

-- a scrub as it begins, after so many events, over all files in effect
abbrev pub new_scrub : State → ℕ → Scrub
new_scrub w moment = record {
  number = w.next_job;
  begun = moment;
  files = pin_all w (files_of w.records);
  todo = scrub_actions (setup_in w) (pin_all w (files_of w.records));
  given = [];
  found = record { stripes = 0; symbols = λ j. 0; blocks = λ j. 0 };
}

-- a pack as it begins
abbrev pub new_pack : State → Pack
new_pack w = record { number = w.next_job; moves = 0; before = text_length w.area w.journal }

-- a begin of what runs alone, by the causes of its refusal and what it begins
abbrev pub BeginsAlone : State → Option Refusal → Alone → Outcome → State → Type 0
BeginsAlone old why alone Closed new = (old.is_open ≡ false) × (new ≡ old)
BeginsAlone old why alone (Refused refused) new =
    (old.is_open ≡ true) × ((why ≡ Some refused) ⊎ (refused ≡ refusal.Memory)) × (new ≡ old)
BeginsAlone old why alone (Begun job) new =
    (old.is_open ≡ true) × (why ≡ None) × (job ≡ old.next_job)
    × (new ≡ record old { alone = Some alone; next_job = old.next_job + 1 })
BeginsAlone old why alone outcome new = ⊥

-- a begin of a scrub
abbrev pub BeginsScrub : ℕ → State → Outcome → State → Type 0
BeginsScrub moment old outcome new =
    BeginsAlone old (alone_refusal old []) (Scrubbing (new_scrub old moment)) outcome new

-- a text in the first area reaches into the second
abbrev pub reaches_over : Area → List Record → Bool
reaches_over A records = nat_lt (base_of B) (end_in A records)
reaches_over B records = false

-- why a pack of a journal of this version is refused
abbrev pub pack_causes : ℕ → Area → List Record → List Cause
pack_causes version area journal = record { applies = version == 1; refusal = refusal.OldVersion }
    ∷ record { applies = reaches_over area journal; refusal = refusal.PackTooLong } ∷ []

-- why a begin of a pack is refused
abbrev pub pack_refusal : State → Option Refusal
pack_refusal w = alone_refusal w (pack_causes (version_of w.records) w.area w.journal)

-- a begin of a pack
abbrev pub BeginsPack : State → Outcome → State → Type 0
BeginsPack old outcome new = BeginsAlone old (pack_refusal old) (Packing (new_pack old)) outcome new
