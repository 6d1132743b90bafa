-- What actions that were made did to one provider.
use Rattle.job_laws.proofs.Words.{◌≡◌, ℕ, zero, suc, ◌+◌, ◌<◌, ◌≤◌, ◌==◌, ◌⊎◌, List, [], ◌∷◌, Option, ap, sym, subst, ◌∙◌, inl, inr, arith, range_with_len, cases_Bool, eqb-true, Each, honest_answer, Provider, Stores, Fetches, Asks, Removes, Given, Fetched, Answered, Action, Store, Fetch, Ask, Work, Remove, cond_true, cond_false, With, block_stored, challenge_made, CallsOne, Did, Made, object_made}
use Rattle.std.proofs.Common.{map}

-- what an action did to the provider that it called, if that is the one of this number
abbrev pub Called : With → Action → List Given → List Given → ℕ → Provider → Provider → Type 0
Called x (Store j object stripe) given now i p q =
    (i ≡ j) × Stores object stripe (block_stored x x.kind given j object stripe) p q × (now ≡ given)
Called x (Fetch j object stripe) given now i p q = (i ≡ j) × ((block : Option (List ℕ)) × Fetches
    (object_made x object).profile.size object stripe p block q ×
    (now ≡ Fetched j object stripe block ∷ given))
Called x (Ask j object round) given now i p q =
    (i ≡ j) × ((symbol : Option ℕ) × Asks (honest_answer (challenge_made x object round)) object p symbol q ×
    (now ≡ Answered j object round symbol ∷ given))
Called x (Remove j object) given now i p q = (i ≡ j) × Removes object p q × (now ≡ given)
Called x action given now i p q = ⊥

-- a call of one provider leaves another one, or is the call of it
pub calls-at : (old : ℕ → Provider) (j : ℕ) (call : Provider → Provider → Type 0) (new : ℕ → Provider)
    (i : ℕ) → CallsOne old j call new → (new i ≡ old i) ⊎ ((i ≡ j) × call (old i) (new i))
calls-at old j call new i (p, made, is) = elim (cases_Bool (i == j)) [
  | inl t ↦ (let e = eqb-true i j t in let q : new i ≡ p = ap (λ f. f i) is
      ∙ cond_true (i == j) p (old i) t in
      inr (e, subst (λ z. call (old i) z) (sym q) (subst (λ k. call (old k) p) (sym e) made)))
  | inr f ↦ inl (ap (λ g. g i) is ∙ cond_false (i == j) p (old i) f)
]

did-at : (x : With) (a : Action) (old new : ℕ → Provider) (given now : List Given) (i : ℕ) →
    Did x a old new given now → (new i ≡ old i) ⊎ Called x a given now i (old i) (new i)
did-at x (Store j o s) old new given now i (called, is) =
    elim (calls-at old j (Stores o s (block_stored x x.kind given j o s)) new i called)
    [ inl e ↦ inl e | inr c ↦ inr (c.0, c.1, is) ]
did-at x (Fetch j o s) old new given now i (block, called, is) =
    elim (calls-at old j (λ p q. Fetches (object_made x o).profile.size o s p block q) new i called)
    [ inl e ↦ inl e | inr c ↦ inr (c.0, (block, c.1, is)) ]
did-at x (Ask j o r) old new given now i (symbol, called, is) =
    elim (calls-at old j (λ p q. Asks (honest_answer (challenge_made x o r)) o p symbol q) new i called)
    [ inl e ↦ inl e | inr c ↦ inr (c.0, (symbol, c.1, is)) ]
did-at x (Work o s) old new given now i (symbols, gives, still, is) = inl (ap (λ f. f i) still)
did-at x (Remove j o) old new given now i (called, is) =
    elim (calls-at old j (Removes o) new i called) [ inl e ↦ inl e | inr c ↦ inr (c.0, c.1, is) ]
did-at x a old new given now i h = inl (ap (λ f. f i) h.0)

-- what each of these calls keeps, all of them keep
pub made-keeps : (x : With) (i : ℕ) (R : Provider → Provider → Type 0) (P : Action → Type 0) →
    ((p : Provider) → R p p) → ((p q r : Provider) → R p q → R q r → R p r) →
    ((a : Action) (given now : List Given) (p q : Provider) → P a → Called x a given now i p q → R p q) →
    (actions : List Action) (old new : ℕ → Provider) (given now : List Given) → Each P actions →
    Made x actions old new given now → R (old i) (new i)
made-keeps x i R P same more step [] old new given now e m =
    subst (λ f. R (old i) (f i)) (sym m.0) (same (old i))
made-keeps x i R P same more step (a ∷ actions) old new given now e (mid, so_far, did, rest) = more (old i)
    (mid i) (new i) (elim (did-at x a old mid given so_far i did) [
      | inl s ↦ subst (R (old i)) (sym s) (same (old i))
      | inr c ↦ step a given so_far (old i) (mid i) e.0 c
    ])
    (made-keeps x i R P same more step actions mid new so_far now e.1 rest)

-- ---- what calls keep

-- no count of faults falls
abbrev pub Rises : Provider → Provider → Type 0
Rises p q = (p.store_faults ≤ q.store_faults) × (p.other_faults ≤ q.other_faults)

-- counts that stay do not fall
pub rises-same : (p : Provider) → Rises p p
rises-same p = (omega arith, omega arith)

-- counts that do not fall twice do not fall in both together
pub rises-more : (p q r : Provider) → Rises p q → Rises q r → Rises p r
rises-more p q r a b = ((omega arith), (omega arith))

-- no count of a provider falls by a call of it
pub called-rises : (x : With) (a : Action) (given now : List Given) (i : ℕ) (p q : Provider) →
    Called x a given now i p q → Rises p q
called-rises x (Store j o s) given now i p q (e, c, is) = (c.counts.store_faults, (omega arith))
called-rises x (Fetch j o s) given now i p q (e, (block, c, is)) = ((omega arith), c.counts.other_faults)
called-rises x (Ask j o r) given now i p q (e, (symbol, c, is)) = ((omega arith), c.counts.other_faults)
called-rises x (Remove j o) given now i p q (e, inl c, is) = ((omega arith), c.counts.other_faults)
called-rises x (Remove j o) given now i p q (e, inr c, is) = ((omega arith), c.counts.other_faults)
called-rises x a given now i p q h = absurd h

-- an action that calls no provider from this number on
abbrev pub IsBelow : ℕ → Action → Type 0
IsBelow n (Store j object stripe) = j < n
IsBelow n (Fetch j object stripe) = j < n
IsBelow n (Ask j object round) = j < n
IsBelow n (Remove j object) = j < n
IsBelow n action = Unit {0}

-- an action on providers below n calls none from n on
pub called-below : (x : With) (n : ℕ) (a : Action) (given now : List Given) (i : ℕ) (p q : Provider) →
    IsBelow n a → n ≤ i → Called x a given now i p q → ⊥
called-below x n (Store j o s) given now i p q b l (e, c, is) = omega (arith, b, l, e)
called-below x n (Fetch j o s) given now i p q b l (e, c) = omega (arith, b, l, e)
called-below x n (Ask j o r) given now i p q b l (e, c) = omega (arith, b, l, e)
called-below x n (Remove j o) given now i p q b l (e, c, is) = omega (arith, b, l, e)
called-below x n a given now i p q b l h = h

-- ---- parts of lists

-- what holds of an action for each number of a range holds of all of them
pub each-upto : (P : Action → Type 0) (f : ℕ → Action) (a n : ℕ) → ((k : ℕ) → k < a + n → P (f k)) →
    Each P (map f (range_with_len a n))
each-upto P f a zero h = tt
each-upto P f a (suc n) h = (h a (omega arith), each-upto P f (a + 1) n (λ k l. h k (omega (arith, l))))
