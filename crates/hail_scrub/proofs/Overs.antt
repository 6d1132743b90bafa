-- A scrub that goes on has a step left.
use Rattle.hail_scrub.proofs.Words.{◌≡◌, ℕ, ◌+◌, ◌*◌, ◌<◌, ◌≤◌, Bool, true, false, List, [], ◌∷◌, ◌++◌, length, drop, ◌⊎◌, inl, inr, refl, ap, sym, ◌∙◌, arith, append_assoc, length-append, flat_map, Provider, Action, Store, Fetch, Work, End, Item, Spot, Cursor, ScrubTurn, ScrubView, scrub_left, most_steps, fetches_from, stores_from, stripes_from, item_actions, past_stripe, todo_at, IsOver, stores_in, ComesTo, MakesNext}
use Rattle.hail_scrub.specs.declared.cursor.Cursor.TheVariants as cursor
use Rattle.hail_scrub.specs.declared.turn.ScrubTurn.TheVariants as turn

-- actions end with the end, or there are none
abbrev pub Ends : List Action → Type 0
Ends todo = (todo ≡ []) ⊎ ((front : List Action) × (todo ≡ front ++ End ∷ []))

beyond_ends : (n : ℕ) (items : List Item) (spot : Spot) →
    (front : List Action) × (past_stripe n items spot ≡ front ++ End ∷ [])
beyond_ends n items spot =
    let a = stripes_from n spot.item.file.id (spot.stripe + 1) spot.item.stripes in
    let b = flat_map (item_actions n) (drop (spot.place + 1) items) in
    (a ++ b, sym (append_assoc a b (End ∷ [])))

behind_ends : (xs ys : List Action) → (front : List Action) × (ys ≡ front ++ End ∷ []) → Ends (xs ++ ys)
behind_ends xs ys ends = inr
    (xs ++ ends.0, ap (λ (l : List Action). xs ++ l) ends.1 ∙ sym (append_assoc xs ends.0 (End ∷ [])))

-- all that a cursor stands for does
pub cursor_ends : (n : ℕ) (items : List Item) (off : List ℕ) (c : Cursor) → Ends (todo_at n items off c)
cursor_ends n items off (cursor.Fetching spot j) =
    let ends = beyond_ends n items spot in
    behind_ends (fetches_from n j spot.item.file.id spot.stripe)
    (Work spot.item.file.id spot.stripe ∷ past_stripe n items spot) (
      Work spot.item.file.id spot.stripe ∷ ends.0,
      ap (λ (l : List Action). Work spot.item.file.id spot.stripe ∷ l) ends.1,
    )
cursor_ends n items off (cursor.Opening spot) =
    let ends = beyond_ends n items spot in
    inr (
      Work spot.item.file.id spot.stripe ∷ ends.0,
      ap (λ (l : List Action). Work spot.item.file.id spot.stripe ∷ l) ends.1,
    )
cursor_ends n items off (cursor.Storing spot j) = behind_ends
    (stores_from n j off spot.item.file.id spot.stripe) (past_stripe n items spot) (beyond_ends n items spot)
cursor_ends n items off cursor.Ending = inr ([], refl)
cursor_ends n items off cursor.Over = inl refl

abbrev is_end : Action → Bool
is_end End = true
is_end a = false

abbrev first_ends : List Action → Bool
first_ends [] = true
first_ends (a ∷ rest) = is_end a

some_on : (a : Action) (rest front : List Action) → is_end a ≡ false → a ∷ rest ≡ front ++ End ∷ [] →
    0 < length rest
some_on a rest [] other is = absurd (let e : is_end a ≡ true = ap first_ends is in
    let f : true ≡ false = sym e ∙ other in cc)
some_on a rest (x ∷ front) other is =
    let e : length rest ≡ length (front ++ End ∷ []) = ap (λ (l : List Action). length (drop 1 l)) is in
    let m = length-append front (End ∷ []) in
    omega (arith, e, m)

some_behind : (todo rest : List Action) (a : Action) → Ends todo → is_end a ≡ false → todo ≡ a ∷ rest →
    0 < length rest
some_behind todo rest a ends other is = elim ends [
  | inl none ↦ absurd (let e : 0 ≡ length (a ∷ rest) = ap length (sym none ∙ is) in omega (arith, e))
  | inr more ↦ some_on a rest more.0 other (sym is ∙ more.1)
]

left_some : (v : ScrubView) (k : ℕ) → 0 < k → k ≤ length v.todo → 0 < scrub_left v
left_some v k some most = omega (arith, some, most)

-- where a step goes on a step is left, and where it ends none is
pub over_is : (old : ScrubView) (ps : List Provider) (t : ScrubTurn) (new : ScrubView) (qs : List Provider) →
    Ends old.todo → MakesNext old ps t new qs → IsOver t new
over_is old ps turn.More new qs ends step = by_action step.action step.rest step.todo_is step.acts
  where
    by_action : (a : Action) (rest : List Action) → old.todo ≡ a ∷ rest →
        ComesTo old a rest ps turn.More new qs → 0 < scrub_left new
    by_action (Fetch j o t) rest todo acts =
        let e : length new.todo ≡ length rest = ap (λ (v : ScrubView). length v.todo) acts.new_is in
        left_some new (length rest) (some_behind old.todo rest (Fetch j o t) ends refl todo)
        (omega (arith, e))
    by_action (Work o t) rest todo acts =
        let stores = stores_in old.providers acts.0.x t acts.0.seen acts.0.rows in
        let e : length new.todo ≡ length (stores ++ rest) = ap length acts.0.todo_is in
        let m = length-append stores rest in
        left_some new (length rest) (some_behind old.todo rest (Work o t) ends refl todo)
        (omega (arith, e, m))
    by_action (Store j o t) rest todo acts =
        let e : length new.todo ≡ length rest = ap (λ (v : ScrubView). length v.todo) acts.new_is in
        left_some new (length rest) (some_behind old.todo rest (Store j o t) ends refl todo)
        (omega (arith, e))
    by_action a rest todo acts = absurd acts
over_is old ps (turn.Done a) new qs ends step =
    ap (most_steps new.providers) step.over ∙ (let z : 0 + new.providers * 0 ≡ 0 = omega arith in z)
