-- What the machine was given of a stripe, and what a scrub has of it.
use Rattle.hail_scrub.proofs.Words.{◌≡◌, ℕ, zero, suc, ◌+◌, ◌<◌, ◌≤◌, List, [], ◌∷◌, ◌++◌, length, take, drop, map, get_or, refl, sym, ap, ◌∙◌, arith, zero-add, slice_index, option_and_then, flat_map, range_with_len, drop_more, get-map_range, upto, SeenBlock, block_at, Given, block_given, blocks_given, symbols_given, fetched_gifts, gifts_give, gifts_more, Stage, GoesPast, IsStripeInWork}
use Rattle.machine_defs.specs.Jobs as jobs
use Rattle.hail_scrub.specs.Views as views

-- lists that functions make which are the same below a number
pub flat_map-below : {B : Type 0} (f g : ℕ → List B) (a n : ℕ) → ((k : ℕ) → k < a + n → f k ≡ g k) →
    flat_map f (range_with_len a n) ≡ flat_map g (range_with_len a n)
flat_map-below f g a zero same = refl
flat_map-below f g a (suc n) same =
    (λ i. same a (omega arith) i ++ flat_map-below f g (a + 1) n (λ k l. same k (omega (arith, l))) i)

-- the front of a list is what a function makes that gives its numbers
front_is : (xs : List ℕ) (f : ℕ → ℕ) (a n : ℕ) → a + n ≤ length xs →
    ((j : ℕ) → j < a + n → f j ≡ get_or xs j 0) → take n (drop a xs) ≡ map f (range_with_len a n)
front_is xs f a zero within same = refl
front_is xs f a (suc n) within same = ap (take (suc n)) (drop_more xs a 0 (omega (arith, within)))
    ∙ (λ i. (sym (same a (omega arith))) i
    ∷ front_is xs f (a + 1) n (omega (arith, within)) (λ j l. same j (omega (arith, l))) i)

-- the same of a front of it
pub take-map : (xs : List ℕ) (f : ℕ → ℕ) (n : ℕ) → n ≤ length xs →
    ((j : ℕ) → j < n → f j ≡ slice_index xs j) → take n xs ≡ map f (upto n)
take-map xs f n within same = front_is xs f 0 n (omega (arith, within)) (λ j l. same j (omega (arith, l)))

-- the blocks that were fetched of a stripe are those that the machine was given
pub blocks_are : (o t n : ℕ) (seen : List SeenBlock) (older given : List Given) →
    given ≡ fetched_gifts o t 0 seen older → length seen ≡ n → blocks_given given n o t ≡ seen
blocks_are o t n seen older given is count =
    (λ i. map (block_given (is i) o t) (range_with_len 0 ((sym count) i))) ∙ gifts_give o t 0 seen older

-- one by one
pub block_is : (o t n : ℕ) (seen : List SeenBlock) (older given : List Given) →
    given ≡ fetched_gifts o t 0 seen older → length seen ≡ n → (j : ℕ) → j < n →
    block_given given o t j ≡ block_at seen j
block_is o t n seen older given is count j below =
    sym (ap (λ (l : List SeenBlock). block_at l j) (sym (blocks_are o t n seen older given is count))
    ∙ ap (option_and_then (λ (b : SeenBlock). b)) (get-map_range (block_given given o t) n 0 j below)
    ∙ ap (block_given given o t) (zero-add j))

-- one block more
pub fetched_more : (o t j : ℕ) (seen : List SeenBlock) (block : SeenBlock) (given : List Given) →
    length seen ≡ j → IsStripeInWork (views.Fetched o t seen) given →
    IsStripeInWork (views.Fetched o t (seen ++ block ∷ [])) (jobs.Fetched j o t block ∷ given)
fetched_more o t j seen block given count work = (
  work.0,
  (λ i. jobs.Fetched ((sym count ∙ sym (zero-add (length seen))) i) o t block ∷ work.1 i)
      ∙ sym (gifts_more o t 0 seen block work.0),
)

-- what is in work behind an action on a stripe
pub behind_work : (o t : ℕ) (rows : List ℕ) (at : Stage) (given : List Given) →
    GoesPast o t rows at → rows ≡ symbols_given given o t → IsStripeInWork at given
behind_work o t rows views.Between given behind is = tt
behind_work o t rows (views.Fetched p q seen) given behind is =
    (given, sym (ap (λ (l : List SeenBlock). fetched_gifts p q 0 l given) behind))
behind_work o t rows (views.Opened p q others) given behind is =
    behind.2 ∙ is ∙ (λ i. symbols_given given ((sym behind.0) i) ((sym behind.1) i))
