-- How many numbers of a range pass tests, and how many symbols agree.
use Rattle.column_laws.proofs.Words.{◌≡◌, ℕ, zero, suc, ◌+◌, ◌-◌, ◌<◌, ◌≤◌, ◌&&◌, Bool, true, false, not, cond, List, [], ◌∷◌, map, nat_lt, slice_get, Option, None, option_and_then, arith, ap, sym, refl, ◌∙◌, subst, range_with_len, agree_over, is_seen_over, value, agree, is_seen, upto, Object, points, point, SeenBlock, OpensTo, AllOpen, symbol_in, block_at, count_of, is_agreeing}

-- where each number of a range passes one of two tests, at least as many pass them as there are numbers
pub count_of-cover : (p q : ℕ → Bool) (a n : ℕ) → ((j : ℕ) → j < a + n → p j ≡ false → q j ≡ true) →
    n ≤ count_of p (range_with_len a n) + count_of q (range_with_len a n)
count_of-cover p q a zero all = omega arith
count_of-cover p q a (suc n) all = go (p a) (q a) (all a (omega arith))
    (count_of-cover p q (a + 1) n (λ j below. all j (omega (arith, below))))
  where
    go : (b c : Bool) → (b ≡ false → c ≡ true) →
        n ≤ count_of p (range_with_len (a + 1) n) + count_of q (range_with_len (a + 1) n) →
        suc n ≤ cond b 1 0 + count_of p
        (range_with_len (a + 1) n) + (cond c 1 0 + count_of q (range_with_len (a + 1) n))
    go true true f h = omega (arith, h)
    go true false f h = omega (arith, h)
    go false true f h = omega (arith, h)
    go false false f h = absurd (cc (f refl))

-- where each number of a range that passes one test passes another, at least as many pass that one
pub count_of-within : (p q : ℕ → Bool) (a n : ℕ) → ((j : ℕ) → j < a + n → p j ≡ true → q j ≡ true) →
    count_of p (range_with_len a n) ≤ count_of q (range_with_len a n)
count_of-within p q a zero all = omega arith
count_of-within p q a (suc n) all = go (p a) (q a) (all a (omega arith))
    (count_of-within p q (a + 1) n (λ j below. all j (omega (arith, below))))
  where
    go : (b c : Bool) → (b ≡ true → c ≡ true) →
        count_of p (range_with_len (a + 1) n) ≤ count_of q (range_with_len (a + 1) n) →
        cond b 1 0 + count_of p (range_with_len (a + 1) n) ≤ cond c 1 0 + count_of q
        (range_with_len (a + 1) n)
    go true true f h = omega (arith, h)
    go true false f h = absurd (cc (f refl))
    go false c f h = omega (arith, h)

-- those that pass a test pass a second one too, or fail it
pub count_of-parts : (p q : ℕ → Bool) (js : List ℕ) →
    count_of p js ≤ count_of (λ j. p j && q j) js + count_of (λ j. p j && not (q j)) js
count_of-parts p q [] = omega arith
count_of-parts p q (j ∷ js) = go (p j) (q j) (count_of-parts p q js)
  where
    go : (b c : Bool) → count_of p js ≤ count_of (λ j. p j && q j) js + count_of (λ j. p j && not (q j)) js →
        cond b 1 0 + count_of p js ≤ cond (b && c) 1 0 + count_of
        (λ j. p j && q j) js + (cond (b && not c) 1 0 + count_of (λ j. p j && not (q j)) js)
    go true true h = omega (arith, h)
    go true false h = omega (arith, h)
    go false c h = omega (arith, h)

-- of a range at most l numbers are below l
pub count_of-below : (l a n : ℕ) → count_of (λ j. nat_lt j l) (range_with_len a n) ≤ l - a
count_of-below l a zero = omega arith
count_of-below l a (suc n) = go (nat_lt a l) refl (count_of-below l (a + 1) n)
  where
    go : (b : Bool) → nat_lt a l ≡ b → count_of (λ j. nat_lt j l) (range_with_len (a + 1) n) ≤ l - (a + 1) →
        cond b 1 0 + count_of (λ j. nat_lt j l) (range_with_len (a + 1) n) ≤ l - a
    go true is h = let less : a < l = grind (arith, is) in omega (arith, h, less)
    go false is h = omega (arith, h)

-- no symbols, none that agrees
agree-none : (p xs : List ℕ) → agree p xs [] ≡ 0
unfolding agree_over
agree-none p [] = refl
agree-none p (x ∷ xs) = refl

-- agreements at the points of a range are a count over the range
pub agree-count : (p : List ℕ) (at : ℕ → ℕ) (symbol : ℕ → Option ℕ) (a n : ℕ) (ss : List (Option ℕ)) →
    ((k : ℕ) → symbol (a + k) ≡ option_and_then (λ s. s) (slice_get ss k)) →
    agree p (map at (range_with_len a n)) ss ≡ count_of (λ j. is_seen (value p (at j)) (symbol j))
    (range_with_len a n)
unfolding agree_over is_seen_over
agree-count p at symbol a zero ss is = refl
agree-count p at symbol a (suc n) [] is =
    let none : symbol a ≡ None = ap symbol (let e : a ≡ a + 0 = omega arith in e) ∙ is 0 in
    let rest = agree-count p at symbol (a + 1) n []
    (λ k. ap symbol (let e : a + 1 + k ≡ a + suc k = omega arith in e) ∙ is (suc k)) in
    cc (none, rest, agree-none p (map at (range_with_len (a + 1) n)))
agree-count p at symbol a (suc n) (s ∷ ss) is =
    let first : symbol a ≡ s = ap symbol (let e : a ≡ a + 0 = omega arith in e) ∙ is 0 in
    let rest = agree-count p at symbol (a + 1) n ss
    (λ k. ap symbol (let e : a + 1 + k ≡ a + suc k = omega arith in e) ∙ is (suc k)) in
    (λ i. cond (is_seen (value p (at a)) (sym first i)) 1 0 + rest i)

-- the symbol of a block is the one of the row
block-symbol : (place k : ℕ) (opened : List SeenBlock) →
    symbol_in place (block_at opened k) ≡ option_and_then (λ s. s)
    (slice_get (map (symbol_in place) opened) k)
block-symbol place k [] = refl
block-symbol place zero (b ∷ bs) = refl
block-symbol place (suc k) (b ∷ bs) = block-symbol place k bs

-- so many providers agree in a row
pub agree-row : (o : Object) (opened : List SeenBlock) (place : ℕ) (p : List ℕ) →
    agree p (points o) (map (symbol_in place) opened)
    ≡ count_of (is_agreeing o opened place p) (upto o.shape.n)
agree-row o opened place p = agree-count p (point o) (λ j. symbol_in place (block_at opened j)) 0 o.shape.n
    (map (symbol_in place) opened)
    (λ k. ap (λ j. symbol_in place (block_at opened j)) (let e : 0 + k ≡ k = omega arith in e)
    ∙ block-symbol place k opened)

-- each provider's block opens to its own
pub opens-at : (o : Object) (stripe a k : ℕ) (seen opened : List SeenBlock) → AllOpen o stripe a seen opened →
    OpensTo o (a + k) stripe (block_at seen k) (block_at opened k)
opens-at o stripe a k [] [] all = refl
opens-at o stripe a k [] (b ∷ bs) all = absurd all
opens-at o stripe a k (s ∷ ss) [] all = absurd all
opens-at o stripe a zero (s ∷ ss) (b ∷ bs) all =
    subst (λ j. OpensTo o j stripe s b) (let e : a ≡ a + 0 = omega arith in e) all.0
opens-at o stripe a (suc k) (s ∷ ss) (b ∷ bs) all =
    subst (λ j. OpensTo o j stripe (block_at ss k) (block_at bs k))
    (let e : a + 1 + k ≡ a + suc k = omega arith in e) (opens-at o stripe (a + 1) k ss bs all.1)
