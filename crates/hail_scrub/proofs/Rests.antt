-- How the actions that a scrub has still to do follow one another.
use Rattle.hail_scrub.proofs.Words.{◌≡◌, ℕ, zero, suc, ◌+◌, ◌-◌, ◌<◌, ◌≤◌, ◌==◌, Bool, true, false, List, [], ◌∷◌, ◌++◌, Some, None, length, map, drop, get_or, refl, ap, sym, subst, ◌∙◌, append_assoc, arith, slice_get, slice_index, if◌then◌else◌, All, flat_map, range_with_len, All-head, All-tail, drop_all, drop-get, upto, Action, Store, Fetch, Work, End, Item, Spot, Cursor, CanRun, IsSpot, CursorIsAt, numbers_between, fetches_from, store_of, stores_from, opening_of, stripes_from, item_actions, items_on, past_stripe, todo_at}
use Rattle.hail_scrub.specs.declared.cursor.Cursor.TheVariants as cursor

-- numbers from a on start with a
pub numbers_here : (a b : ℕ) → a < b → numbers_between a b ≡ a ∷ numbers_between (a + 1) b
numbers_here a b l = let e : b - a ≡ suc (b - (a + 1)) = omega arith in ap (range_with_len a) e

-- numbers from a bound on are none below it
pub numbers_none : (a b : ℕ) → b ≤ a → numbers_between a b ≡ []
numbers_none a b l = let e : b - a ≡ 0 = omega arith in ap (range_with_len a) e

-- those from 0 on are all
pub numbers_all : (n : ℕ) → numbers_between 0 n ≡ upto n
numbers_all n = let e : n - 0 ≡ n = omega arith in ap (range_with_len 0) e

-- the fetches from a provider on start with that provider's
pub fetches_here : (n j o t : ℕ) → j < n → fetches_from n j o t ≡ Fetch j o t ∷ fetches_from n (j + 1) o t
fetches_here n j o t l = ap (map (λ k. Fetch k o t)) (numbers_here j n l)

-- the stores from a provider on whose block is off start with that provider's
pub stores_take : (n j : ℕ) (off : List ℕ) (o t : ℕ) → j < n → (slice_index off j == 0) ≡ false →
    stores_from n j off o t ≡ Store j o t ∷ stores_from n (j + 1) off o t
stores_take n j off o t l is = ap (flat_map (store_of off o t)) (numbers_here j n l)
    ∙ ap (λ (b : Bool). (if b then [] else Store j o t ∷ []) ++ stores_from n (j + 1) off o t) is

-- those from a provider on whose block is its own are those from the next one on
pub stores_skip : (n j : ℕ) (off : List ℕ) (o t : ℕ) → j < n → (slice_index off j == 0) ≡ true →
    stores_from n j off o t ≡ stores_from n (j + 1) off o t
stores_skip n j off o t l is = ap (flat_map (store_of off o t)) (numbers_here j n l)
    ∙ ap (λ (b : Bool). (if b then [] else Store j o t ∷ []) ++ stores_from n (j + 1) off o t) is

stripes_here : (n o a b : ℕ) → a < b → stripes_from n o a b ≡ opening_of n o a ++ stripes_from n o (a + 1) b
stripes_here n o a b l = ap (flat_map (opening_of n o)) (numbers_here a b l)

-- there are no stripes behind the last one
pub stripes_none : (n o a b : ℕ) → b ≤ a → stripes_from n o a b ≡ []
stripes_none n o a b l = ap (flat_map (opening_of n o)) (numbers_none a b l)

-- the actions of a stripe, and what is behind
joined : (n o t : ℕ) (more rest : List Action) →
    (opening_of n o t ++ more) ++ rest ≡ fetches_from n 0 o t ++ (Work o t ∷ (more ++ rest))
joined n o t more rest = append_assoc (opening_of n o t) more rest
    ∙ append_assoc (map (λ k. Fetch k o t) (upto n)) (Work o t ∷ []) (more ++ rest)
    ∙ ap (λ (ks : List ℕ). map (λ k. Fetch k o t) ks ++ (Work o t ∷ (more ++ rest))) (sym (numbers_all n))

-- at the first stripe of a file
pub file_here : (n : ℕ) (items : List Item) (off : List ℕ) (place : ℕ) (item : Item) →
    slice_get items place ≡ Some item → 0 < item.stripes →
    todo_at n items off (cursor.Fetching (record { item = item; place = place; stripe = 0 }) 0)
    ≡ items_on n (drop place items)
file_here n items off place item there some = sym (
    ap (items_on n) (drop-get items place item there)
    ∙ ap (λ (l : List Action). (l ++ flat_map (item_actions n) (drop (place + 1) items)) ++ End ∷ [])
    (ap (flat_map (opening_of n item.file.id)) (sym (numbers_all item.stripes))
    ∙ stripes_here n item.file.id 0 item.stripes some)
    ∙ append_assoc (opening_of n item.file.id 0 ++ stripes_from n item.file.id 1 item.stripes)
    (flat_map (item_actions n) (drop (place + 1) items)) (End ∷ [])
    ∙ joined n item.file.id 0 (stripes_from n item.file.id 1 item.stripes)
    (items_on n (drop (place + 1) items))
    )

-- behind all files
pub files_over : (n : ℕ) (items : List Item) (place : ℕ) → length items ≤ place →
    End ∷ [] ≡ items_on n (drop place items)
files_over n items place over = sym (ap (items_on n) (drop_all place items over))

-- at the next stripe
pub stripe_here : (n : ℕ) (items : List Item) (off : List ℕ) (spot : Spot) →
    spot.stripe + 1 < spot.item.stripes →
    todo_at n items off (cursor.Fetching (record spot { stripe = spot.stripe + 1 }) 0) ≡ past_stripe n items spot
stripe_here n items off spot within = sym (
    ap (λ (l : List Action). l ++ items_on n (drop (spot.place + 1) items))
    (stripes_here n spot.item.file.id (spot.stripe + 1) spot.item.stripes within)
    ∙ joined n spot.item.file.id (spot.stripe + 1)
    (stripes_from n spot.item.file.id (spot.stripe + 1 + 1) spot.item.stripes)
    (items_on n (drop (spot.place + 1) items))
    )

-- behind the last stripe of a file
pub stripes_over : (n : ℕ) (items : List Item) (spot : Spot) → spot.item.stripes ≤ spot.stripe + 1 →
    items_on n (drop (spot.place + 1) items) ≡ past_stripe n items spot
stripes_over n items spot over = ap (λ (l : List Action). l ++ items_on n (drop (spot.place + 1) items))
    (sym (stripes_none n spot.item.file.id (spot.stripe + 1) spot.item.stripes over))

-- ---- items

-- what all have, that at a place has
pub all_get : {X : Type 0} (P : X → Type 0) (xs : List X) (i : ℕ) (x : X) → slice_get xs i ≡ Some x →
    All P xs → P x
all_get P [] i x e h = let f : None ≡ Some x = e in cc
all_get P (y ∷ ys) zero x e h =
    let f : Some y ≡ Some x = e in let g : y ≡ x = cc in
    subst P g (All-head P y ys h)
all_get P (y ∷ ys) (suc i) x e h = all_get P ys i x e (All-tail P y ys h)

-- what follows from what all have, all have
pub all_map : {X : Type 0} (P Q : X → Type 0) (xs : List X) → ((x : X) → P x → Q x) → All P xs → All Q xs
all_map P Q xs f h = λ k d l. f (get_or xs k d) (h k d l)

-- ---- cursors

-- the cursor at a file that is there
pub file_found : (n : ℕ) (items : List Item) (off : List ℕ) (place : ℕ) (item : Item) → All (CanRun n) items →
    slice_get items place ≡ Some item →
    CursorIsAt n items off (cursor.Fetching (record { item = item; place = place; stripe = 0 }) 0)
    (items_on n (drop place items))
file_found n items off place item run there =
    let can = all_get (CanRun n) items place item there run in
    record {
      todo_is = file_here n items off place item there can.some;
      placed = (record { there = there; within = can.some }, can.providers);
      fresh = refl;
    }

-- the cursor behind the last file
pub files_end : (n : ℕ) (items : List Item) (off : List ℕ) (place : ℕ) → length items ≤ place →
    CursorIsAt n items off cursor.Ending (items_on n (drop place items))
files_end n items off place over =
    record { todo_is = files_over n items place over; placed = tt; fresh = refl }

-- the cursor at the next stripe of a file
pub stripe_found : (n : ℕ) (items : List Item) (off : List ℕ) (spot : Spot) → All (CanRun n) items →
    IsSpot items spot → spot.stripe + 1 < spot.item.stripes →
    CursorIsAt n items off (cursor.Fetching (record spot { stripe = spot.stripe + 1 }) 0) (past_stripe n items spot)
stripe_found n items off spot run is within =
    let can = all_get (CanRun n) items spot.place spot.item is.there run in
    record {
      todo_is = stripe_here n items off spot within;
      placed = (record { there = is.there; within = within }, can.providers);
      fresh = refl;
    }

-- the cursor behind the last stripe of a file
pub stripes_end : (n : ℕ) (items : List Item) (off : List ℕ) (spot : Spot) (c : Cursor) →
    spot.item.stripes ≤ spot.stripe + 1 → CursorIsAt n items off c (items_on n (drop (spot.place + 1) items)) →
    CursorIsAt n items off c (past_stripe n items spot)
stripes_end n items off spot c over at = record {
  todo_is = at.todo_is ∙ stripes_over n items spot over;
  placed = at.placed;
  fresh = at.fresh;
}

-- at a store, or behind all of them
pub store_found : (n : ℕ) (items : List Item) (off : List ℕ) (spot : Spot) (from j : ℕ) →
    IsSpot items spot → j < n → (slice_index off j == 0) ≡ false →
    stores_from n from off spot.item.file.id spot.stripe ≡ stores_from n j off spot.item.file.id spot.stripe →
    CursorIsAt n items off (cursor.Storing spot j)
    (stores_from n from off spot.item.file.id spot.stripe ++ past_stripe n items spot)
store_found n items off spot from j is within is_off first = record {
  todo_is = ap (λ (l : List Action). l ++ past_stripe n items spot) (sym first);
  placed = (is, within, is_off);
  fresh = refl;
}

-- the cursor behind all stores
pub stores_end : (n : ℕ) (items : List Item) (off : List ℕ) (spot : Spot) (from : ℕ) (c : Cursor) →
    stores_from n from off spot.item.file.id spot.stripe ≡ [] → CursorIsAt n items off c (past_stripe n items spot) →
    CursorIsAt n items off c (stores_from n from off spot.item.file.id spot.stripe ++ past_stripe n items spot)
stores_end n items off spot from c none at = record {
  todo_is = at.todo_is ∙ ap (λ (l : List Action). l ++ past_stripe n items spot) (sym none);
  placed = at.placed;
  fresh = at.fresh;
}
