-- How many providers a list names.
use Rattle.effect_laws.proofs.Words.{ℕ, zero, suc, ◌+◌, ◌≤◌, ◌<◌, ◌==◌, Bool, true, false, cond, List, [], ◌∷◌, length, inl, inr, arith, ◌||◌, range_with_len, cases_Bool, eqb-true, ne_eqb, count_of}
use Rattle.effect_laws.specs.Counts.{is_among}

none_of : (p a n : ℕ) → p < a → count_of (λ j. j == p) (range_with_len a n) ≤ 0
none_of p a zero l = omega arith
none_of p a (suc n) l = (let h = none_of p (a + 1) n (omega arith) in
    rw (ne_eqb a p (λ e. omega arith)) (omega (arith, h)))

-- one provider counts as one at most
pub one_of : (p a n : ℕ) → count_of (λ j. j == p) (range_with_len a n) ≤ 1
one_of p a zero = omega arith
one_of p a (suc n) = elim (cases_Bool (a == p)) [
  | inl t ↦ (let h = none_of p (a + 1) n (let e = eqb-true a p t in omega arith) in rw t (omega (arith, h)))
  | inr f ↦ (let h = one_of p (a + 1) n in rw f (omega (arith, h)))
]

-- those of two kinds count at most as both
pub either_of : (p q : ℕ → Bool) (js : List ℕ) → count_of (λ j. p j || q j) js ≤ count_of p js + count_of q js
either_of p q [] = omega arith
either_of p q (j ∷ js) = go (p j) (q j) (either_of p q js)
  where
    go : (b c : Bool) → count_of (λ j. p j || q j) js ≤ count_of p js + count_of q js →
        cond (b || c) 1 0 + count_of (λ j. p j || q j) js
        ≤ cond b 1 0 + count_of p js + (cond c 1 0 + count_of q js)
    go true c h = elim c as (λ d. cond (true || d) 1 0 + count_of (λ j. p j || q j) js ≤ cond true 1 0 +
        count_of p js + (cond d 1 0 + count_of q js)) [ false ↦ omega (arith, h) | true ↦ omega (arith, h) ]
    go false true h = omega (arith, h)
    go false false h = omega (arith, h)

-- those in a list count at most as its length
pub list_of : (ps : List ℕ) (a n : ℕ) → count_of (is_among ps) (range_with_len a n) ≤ length ps
list_of [] a zero = omega arith
list_of [] a (suc n) = (let h = list_of [] (a + 1) n in omega (arith, h))
list_of (p ∷ ps) a n = (let h = either_of (λ j. j == p) (is_among ps) (range_with_len a n) in
    let one = one_of p a n in let more = list_of ps a n in omega (arith, h, one, more))
