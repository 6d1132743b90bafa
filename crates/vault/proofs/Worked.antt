-- The work on a stripe, of a get or a repair.
use Rattle.vault.proofs.Words.{◌≡◌, ℕ, ◌+◌, ◌*◌, ◌-◌, ◌≤◌, List, ◌∷◌, ◌++◌, drop, map, sym, ap, subst, ◌∙◌, arith, length-append, range_with_len, drop-append_seam, present_blocks, length-present_blocks, Fetch, Work, block_given, blocks_given, Given, Blocks, last_blocks, Phase, Fetching, Opened, OpensFrom, gifts_give, HasFetched, IsInWork, fetched_in}
use Rattle.std.proofs.Common.{length}
use Rattle.machine_defs.specs.Actions.{Action}
use Rattle.vault.specs.Orders.{GoesOn}

-- ---- the last blocks

drop_front : {X : Type 0} (front back all : List X) (n : ℕ) → all ≡ front ++ back → length back ≡ n →
    drop (length all - n) all ≡ back
drop_front front back all n is size =
    let at : length all - n ≡ length front = omega (arith, ap length is, length-append front back, size) in
    (λ i. drop (at i) (is i)) ∙ drop-append_seam front back

module _ (n o s : ℕ) (tail : List Action) (b : Blocks) (rows : List ℕ) (given : List Given) where
  -- before the work each provider's block is fetched
  pub all_fetched : (phase : Phase) → GoesOn n phase (Work o s ∷ tail) → IsInWork phase b rows given →
      HasFetched o s n b given
  all_fetched (Fetching p t c) order work = subst (λ m. HasFetched o s m b given) order.0
      (rw (← order.1) at (subst (λ (m : ℕ). HasFetched p m c b given) (sym order.2) work))
  all_fetched _ order work = absurd order

  -- and after it the stripe is opened
  pub order_opened : (phase : Phase) → GoesOn n phase (Work o s ∷ tail) → GoesOn n (Opened o s) tail
  order_opened (Fetching p t c) order = rw (← order.1) at (subst (λ (m : ℕ). GoesOn n (Opened p m) tail)
      (sym order.2) order.3)
  order_opened _ order = absurd order

-- each provider's block counts then
pub all_counted : (n o s : ℕ) (tail : List Action) (phase : Phase) → GoesOn n phase (Work o s ∷ tail) →
    fetched_in phase ≡ n
all_counted n o s tail (Fetching p t c) order = order.0
all_counted n o s tail _ order = absurd order

module _ (n o s : ℕ) (b : Blocks) (given : List Given) (has : HasFetched o s n b given) where
  -- there is a mark for each provider fetched from
  pub enough_present : n ≤ length b.present.items
  enough_present = omega
      (arith, ap length has.present_is, length-append has.flags_before has.flags, has.count)

  -- there are symbols for each provider fetched from
  pub enough_symbols : n * b.size ≤ length b.symbols.items
  enough_symbols = omega
      (arith, ap length has.symbols_is, length-append has.symbols_before has.symbols, has.size)

  -- the last blocks are what the machine was given of the stripe
  pub last_is : last_blocks n b ≡ blocks_given given n o s
  last_is =
      let blocks = present_blocks b.size has.flags has.symbols in
      let count : length blocks ≡ n = length-present_blocks b.size has.flags has.symbols ∙ has.count in
      (λ i. present_blocks b.size
      (drop_front has.flags_before has.flags b.present.items n has.present_is has.count i)
      (drop_front has.symbols_before has.symbols b.symbols.items (n * b.size) has.symbols_is has.size i))
      ∙ sym (gifts_give o s 0 blocks has.older)
      ∙ (λ i. map (block_given ((sym has.given_is) i) o s) (range_with_len 0 (count i)))

-- ---- the only object of a get

-- the stripe that is fetched is worked on, so that it is the next one of the object whose stripes are opened
pub own_object : (n : ℕ) (rest : List Action) (id total opened : ℕ) (o s c : ℕ) →
    GoesOn n (Fetching o s c) rest → OpensFrom id total opened rest → (o ≡ id) × (s ≡ opened)
own_object n (Fetch j p t ∷ rest) id total opened o s c order opens =
    own_object n rest id total opened o s (c + 1) order.4 opens
own_object n (Work p t ∷ rest) id total opened o s c order opens =
    (sym order.1 ∙ opens.0, sym order.2 ∙ opens.1)
own_object n _ id total opened o s c order opens = absurd order
