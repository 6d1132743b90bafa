-- The actions that a scrub has still to do, read off where it is, for n providers.
--
--   numbers_between a b      == the numbers from a on, below b
--   fetches_from n j o t     == the fetches of a stripe from provider j on
--   stores_from n j off o t  == the stores of a stripe from provider j on, where its block is off
--   opening_of n o t         == all fetches of a stripe, and its opening
--   stripes_from n o a b     == those of the stripes of an object from one on, below another
--   item_actions n item      == those of all stripes of a file
--   items_on n items         == those of files, and the end
--   past_stripe n items spot == those behind a stripe
--   todo_at n items off c    == all actions from a cursor on
use Rattle.std.specs.Prelude.{ℕ, ◌+◌, ◌-◌, ◌==◌, List, [], ◌∷◌, ◌++◌, drop, map, slice_index, if◌then◌else◌}
use Rattle.std.specs.List.{flat_map, range_with_len}
use Rattle.code_defs.specs.Points.{upto}
use Rattle.machine_defs.specs.Actions.{Action, Store, Fetch, Work, End}
use Rattle.hail_scrub.specs.declared.cursor.Item.{Item}
use Rattle.hail_scrub.specs.declared.cursor.Spot.{Spot}
use Rattle.hail_scrub.specs.declared.cursor.Cursor.{Cursor}
use Rattle.hail_scrub.specs.declared.cursor.Cursor.TheVariants as cursor

-- the numbers from a on, below b
abbrev pub numbers_between : ℕ → ℕ → List ℕ
numbers_between a b = range_with_len a (b - a)

-- the fetches of a stripe from a provider on
abbrev pub fetches_from : ℕ → ℕ → ℕ → ℕ → List Action
fetches_from n j o t = map (λ k. Fetch k o t) (numbers_between j n)

-- the store of a stripe on a provider, where its block is off by some symbols
abbrev pub store_of : List ℕ → ℕ → ℕ → ℕ → List Action
store_of off o t k = if slice_index off k == 0 then [] else Store k o t ∷ []

-- the stores of a stripe from a provider on
abbrev pub stores_from : ℕ → ℕ → List ℕ → ℕ → ℕ → List Action
stores_from n j off o t = flat_map (store_of off o t) (numbers_between j n)

-- all fetches of a stripe, and its opening
abbrev pub opening_of : ℕ → ℕ → ℕ → List Action
opening_of n o t = map (λ k. Fetch k o t) (upto n) ++ Work o t ∷ []

-- those of the stripes of an object from one on, below another
abbrev pub stripes_from : ℕ → ℕ → ℕ → ℕ → List Action
stripes_from n o a b = flat_map (opening_of n o) (numbers_between a b)

-- those of all stripes of a file
abbrev pub item_actions : ℕ → Item → List Action
item_actions n item = flat_map (opening_of n item.file.id) (upto item.stripes)

-- those of files, and the end
abbrev pub items_on : ℕ → List Item → List Action
items_on n items = flat_map (item_actions n) items ++ End ∷ []

-- those behind a stripe
abbrev pub past_stripe : ℕ → List Item → Spot → List Action
past_stripe n items spot =
    stripes_from n spot.item.file.id (spot.stripe + 1) spot.item.stripes
    ++ items_on n (drop (spot.place + 1) items)

-- all actions from a cursor on
abbrev pub todo_at : ℕ → List Item → List ℕ → Cursor → List Action
todo_at n items off (cursor.Fetching spot j) =
    fetches_from n j spot.item.file.id spot.stripe ++ (Work spot.item.file.id spot.stripe ∷ past_stripe n items
    spot)
todo_at n items off (cursor.Opening spot) = Work spot.item.file.id spot.stripe ∷ past_stripe n items spot
todo_at n items off (cursor.Storing spot j) =
    stores_from n j off spot.item.file.id spot.stripe ++ past_stripe n items spot
todo_at n items off cursor.Ending = End ∷ []
todo_at n items off cursor.Over = []
