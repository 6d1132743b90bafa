-- The own blocks of all providers give a stripe's symbols.
use Rattle.second_half_laws.proofs.Words.{range_with_len, arith, refl, IsShape, upto, profile_of, Object, symbols_in, columns, is_wrong_block, bare, AllOpen, GivesSymbols, block_at, count_of, given-right, own_blocks}
use Rattle.std.specs.Prelude.{◌≡◌, ℕ, zero, suc, ◌+◌, ◌<◌, ◌≤◌, Bool, false, List, map, Some}
use Rattle.column_laws.proofs.Worked.{column-right, opens-own}
use Rattle.second_half_laws.proofs.Lists.{get_map_upto}

-- the blocks open to the columns without masks
all_open : (o : Object) (bytes : List ℕ) (stripe n a : ℕ) → a + n ≤ 256 →
    AllOpen o stripe a (map (λ j. Some (columns o bytes j stripe)) (range_with_len a n))
    (map (λ j. Some (bare o j stripe (columns o bytes j stripe))) (range_with_len a n))
all_open o bytes stripe zero a l = tt
all_open o bytes stripe (suc n) a l =
    (opens-own o bytes a stripe (omega (arith, l)), all_open o bytes stripe n (a + 1) (omega (arith, l)))

-- numbers of a range none of which pass a test
none_pass : (p : ℕ → Bool) (a n : ℕ) → ((j : ℕ) → j < a + n → p j ≡ false) →
    count_of p (range_with_len a n) ≡ 0
none_pass p a zero h = refl
none_pass p a (suc n) h = (let e = none_pass p (a + 1) n (λ j l. h j (omega (arith, l))) in
    rw (h a (omega arith)) (omega (arith, e)))

block_at_own : (o : Object) (bytes : List ℕ) (stripe j : ℕ) → j < o.shape.n →
    block_at (own_blocks o bytes stripe) j ≡ Some (columns o bytes j stripe)
block_at_own o bytes stripe j l = cc (get_map_upto _ _ j l)

-- so they give them
pub own_give : (o : Object) (bytes : List ℕ) (number stripe : ℕ) → o.profile ≡ profile_of number →
    IsShape o.shape.n o.shape.l o.shape.b →
    GivesSymbols o stripe (own_blocks o bytes stripe) (symbols_in o bytes stripe)
own_give o bytes number stripe is shape = given-right o bytes number stripe _ _ is shape few opens
  where
    opens : AllOpen o stripe 0 (own_blocks o bytes stripe)
        (map (λ j. Some (bare o j stripe (columns o bytes j stripe))) (upto o.shape.n))
    opens = all_open o bytes stripe o.shape.n 0 (omega (arith, shape.1))

    few : count_of (λ j. is_wrong_block o bytes j stripe (block_at (own_blocks o bytes stripe) j))
        (upto o.shape.n) ≤ o.shape.b
    few = (omega (
      arith,
      none_pass (λ j. is_wrong_block o bytes j stripe (block_at (own_blocks o bytes stripe) j)) 0
          o.shape.n (λ j l. cc (
            block_at_own o bytes stripe j (omega (arith, l)),
            column-right o bytes j stripe,
          )),
    ))
