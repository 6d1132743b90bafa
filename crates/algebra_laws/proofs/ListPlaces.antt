-- A place in rows of equal length.
use Rattle.algebra_laws.proofs.Words.{◌≡◌, ℕ, zero, suc, ◌+◌, ◌-◌, ◌*◌, ◌<◌, ◌≤◌, Bool, true, false, refl, arith, nat_lt}

-- each number below l * keep is a place of one of l blocks
pub record IsPlace (l keep i : ℕ) : Type 0 where
  pub block : ℕ
  pub place : ℕ
  pub block_in : block < l
  pub place_in : place < keep
  pub sum : i ≡ block * keep + place

-- each number below l * keep has such a place
pub place-of : (l keep i : ℕ) → i < l * keep → IsPlace l keep i
place-of zero keep i below = absurd (omega (arith, below))
place-of (suc l) keep i below = go (nat_lt i (l * keep)) refl (place-of l keep i)
  where
    split : suc l * keep ≡ l * keep + keep
    split = grind arith

    go : (b : Bool) → nat_lt i (l * keep) ≡ b → (i < l * keep → IsPlace l keep i) → IsPlace (suc l) keep i
    go true is before =
        let h = before (grind (arith, is)) in
        record {
          block = h.block;
          place = h.place;
          block_in = omega (arith, h.block_in);
          place_in = h.place_in;
          sum = h.sum;
        }
    go false is before =
        let out : l * keep ≤ i = grind (arith, is) in
        record {
          block = l;
          place = i - l * keep;
          block_in = omega arith;
          place_in = omega (arith, out, below, split);
          sum = omega (arith, out);
        }
