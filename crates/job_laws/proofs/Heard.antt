-- What a job heard is an entry for each of its fetches and asks, in the order in which it made them.
use Rattle.job_laws.proofs.Words.{◌≡◌, ℕ, zero, suc, ◌+◌, ◌<◌, ◌≤◌, ◌==◌, ◌&&◌, true, List, [], ◌∷◌, ◌++◌, Option, refl, ap, ◌∙◌, inl, inr, arith, flat_map, range_with_len, cases_Bool, eqb-true, eq-eqb, and_parts, and_from, append_assoc, append-nil, Each, each_append, each_mono, Provider, Given, Fetched, Answered, Action, Fetch, Ask, Work, block_given, answer_given, symbols_given, Entry, entries_of, cond_true, With, Did, Made}
use Rattle.std.proofs.Common.{map}

-- ---- actions of which no two are the same

abbrev pub IsNot : Action → Action → Type 0
IsNot x y = x ≡ y → ⊥

-- a fetch, an ask or the work on a stripe comes no more
abbrev pub IsOver : Action → List Action → Type 0
IsOver (Fetch j object stripe) xs = Each (IsNot (Fetch j object stripe)) xs
IsOver (Ask j object round) xs = Each (IsNot (Ask j object round)) xs
IsOver (Work object stripe) xs = Each (IsNot (Work object stripe)) xs
IsOver action xs = Unit {0}

abbrev pub AreDistinct : List Action → Type 0
AreDistinct [] = Unit {0}
AreDistinct (x ∷ xs) = IsOver x xs × AreDistinct xs

over-all : (x : Action) (xs : List Action) → Each (IsNot x) xs → IsOver x xs
over-all (Fetch j o s) xs h = h
over-all (Ask j o r) xs h = h
over-all (Work o s) xs h = h
over-all x xs h = tt

over-append : (x : Action) (xs ys : List Action) → IsOver x xs → IsOver x ys → IsOver x (xs ++ ys)
over-append (Fetch j o s) xs ys a b = each_append (IsNot (Fetch j o s)) xs ys a b
over-append (Ask j o r) xs ys a b = each_append (IsNot (Ask j o r)) xs ys a b
over-append (Work o s) xs ys a b = each_append (IsNot (Work o s)) xs ys a b
over-append x xs ys a b = tt

-- two lists of distinct actions are distinct together, where the first ones do not come again
pub distinct-append : (xs ys : List Action) → AreDistinct xs → AreDistinct ys → Each (λ x. IsOver x ys) xs →
    AreDistinct (xs ++ ys)
distinct-append [] ys a b h = b
distinct-append (x ∷ xs) ys a b h = (over-append x xs ys a.0 h.0, distinct-append xs ys a.1 b h.1)

-- parts that are told apart by a number
pub apart-by : (tag : Action → ℕ) (k : ℕ) (xs ys : List Action) → Each (λ x. tag x ≡ k) xs →
    Each (λ y. k < tag y) ys → Each (λ x. IsOver x ys) xs
apart-by tag k [] ys a b = tt
apart-by tag k (x ∷ xs) ys a b = (
  over-all x ys (each_mono (λ y. k < tag y) (IsNot x) ys (λ y l e. (omega (arith, ap tag e, l))) b),
  apart-by tag k xs ys a.1 b,
)

each-range : (P : ℕ → Action → Type 0) (Q : Action → Type 0) (f : ℕ → List Action) (a n : ℕ) →
    ((k : ℕ) → a ≤ k → Each (P k) (f k)) → ((k : ℕ) (x : Action) → a ≤ k → P k x → Q x) →
    Each Q (flat_map f (range_with_len a n))
each-range P Q f a zero h g = tt
each-range P Q f a (suc n) h g = each_append Q (f a) (flat_map f (range_with_len (a + 1) n))
    (each_mono (P a) Q (f a) (λ x. g a x (omega arith)) (h a (omega arith)))
    (each-range P Q f (a + 1) n (λ k l. h k (omega (arith, l))) (λ k x l. g k x (omega (arith, l))))

-- parts for each number of a range, told apart by it
pub distinct-range : (tag : Action → ℕ) (f : ℕ → List Action) (a n : ℕ) →
    ((k : ℕ) → Each (λ x. tag x ≡ k) (f k)) → ((k : ℕ) → AreDistinct (f k)) →
    AreDistinct (flat_map f (range_with_len a n))
distinct-range tag f a zero h d = tt
distinct-range tag f a (suc n) h d = distinct-append (f a) (flat_map f (range_with_len (a + 1) n)) (d a)
    (distinct-range tag f (a + 1) n h d) (apart-by tag a (f a) (flat_map f (range_with_len (a + 1) n)) (h a)
    (each-range (λ k x. tag x ≡ k) (λ y. a < tag y) f (a + 1) n (λ k l. h k)
    (λ k x l e. omega (arith, l, e))))

-- one action for each number of a range
pub distinct-map : (tag : Action → ℕ) (f : ℕ → Action) (a n : ℕ) → ((k : ℕ) → tag (f k) ≡ k) →
    AreDistinct (map f (range_with_len a n))
distinct-map tag f a zero h = tt
distinct-map tag f a (suc n) h = (
  over-all (f a) (map f (range_with_len (a + 1) n)) (above (a + 1) n (omega arith)),
  distinct-map tag f (a + 1) n h,
)
  where
    above : (b m : ℕ) → a < b → Each (IsNot (f a)) (map f (range_with_len b m))
    above b zero l = tt
    above b (suc m) l = ((λ e. (omega (arith, ap tag e, h a, h b, l))), above (b + 1) m (omega (arith, l)))

-- ---- what is looked up of what later actions gave

-- an answer stays what it was where it is asked no more
pub answer-later : (x : With) (actions : List Action) (old new : ℕ → Provider) (given now : List Given)
    (j object round : ℕ) → Made x actions old new given now → Each (IsNot (Ask j object round)) actions →
    answer_given now object round j ≡ answer_given given object round j
answer-later x [] old new given now j object round m n = cc
answer-later x (a ∷ actions) old new given now j object round (mid, so_far, did, rest) n =
    answer-later x actions mid new so_far now j object round rest n.1 ∙ one a did n.0
  where
    one : (a : Action) → Did x a old mid given so_far → IsNot (Ask j object round) a →
        answer_given so_far object round j ≡ answer_given given object round j
    one (Ask k o r) (symbol, called, is) m = ap (λ g. answer_given g object round j) is
        ∙ elim (cases_Bool ((k == j) && (o == object) && (r == round))) [
          | inl t ↦ absurd (m (same (and_parts ((k == j) && (o == object)) (r == round) t)))
          | inr f ↦ cc
        ]
      where
        same : (((k == j) && (o == object)) ≡ true) × ((r == round) ≡ true) → Ask j object round ≡ Ask k o r
        same p = (let q = and_parts (k == j) (o == object) p.0 in let a = eqb-true k j q.0 in
            let b = eqb-true o object q.1 in let c = eqb-true r round p.1 in cc)
    one (Fetch k o s) (block, called, is) m = cc
    one (Work o s) (symbols, gives, still, is) m = cc
    one a h m = cc

-- a block stays what it was where it is fetched no more
pub block-later : (x : With) (actions : List Action) (old new : ℕ → Provider) (given now : List Given)
    (j object stripe : ℕ) → Made x actions old new given now → Each (IsNot (Fetch j object stripe)) actions →
    block_given now object stripe j ≡ block_given given object stripe j
block-later x [] old new given now j object stripe m n = cc
block-later x (a ∷ actions) old new given now j object stripe (mid, so_far, did, rest) n =
    block-later x actions mid new so_far now j object stripe rest n.1 ∙ one a did n.0
  where
    one : (a : Action) → Did x a old mid given so_far → IsNot (Fetch j object stripe) a →
        block_given so_far object stripe j ≡ block_given given object stripe j
    one (Fetch k o s) (block, called, is) m = ap (λ g. block_given g object stripe j) is
        ∙ elim (cases_Bool ((k == j) && (o == object) && (s == stripe))) [
          | inl t ↦ absurd (m (same (and_parts ((k == j) && (o == object)) (s == stripe) t)))
          | inr f ↦ cc
        ]
      where
        same : (((k == j) && (o == object)) ≡ true) × ((s == stripe) ≡ true) →
            Fetch j object stripe ≡ Fetch k o s
        same p = (let q = and_parts (k == j) (o == object) p.0 in let a = eqb-true k j q.0 in
            let b = eqb-true o object q.1 in let c = eqb-true s stripe p.1 in cc)
    one (Ask k o r) (symbol, called, is) m = cc
    one (Work o s) (symbols, gives, still, is) m = cc
    one a h m = cc

-- symbols stay what they were where the stripe is worked on no more
pub symbols-later : (x : With) (actions : List Action) (old new : ℕ → Provider) (given now : List Given)
    (object stripe : ℕ) → Made x actions old new given now → Each (IsNot (Work object stripe)) actions →
    symbols_given now object stripe ≡ symbols_given given object stripe
symbols-later x [] old new given now object stripe m n = cc
symbols-later x (a ∷ actions) old new given now object stripe (mid, so_far, did, rest) n =
    symbols-later x actions mid new so_far now object stripe rest n.1 ∙ one a did n.0
  where
    one : (a : Action) → Did x a old mid given so_far → IsNot (Work object stripe) a →
        symbols_given so_far object stripe ≡ symbols_given given object stripe
    one (Work o s) (symbols, gives, still, is) m = ap (λ g. symbols_given g object stripe) is
        ∙ elim (cases_Bool ((o == object) && (s == stripe))) [
          | inl t ↦ absurd (m (same (and_parts (o == object) (s == stripe) t)))
          | inr f ↦ cc
        ]
      where
        same : ((o == object) ≡ true) × ((s == stripe) ≡ true) → Work object stripe ≡ Work o s
        same p = (cc (eqb-true o object p.0, eqb-true s stripe p.1))
    one (Fetch k o s) (block, called, is) m = cc
    one (Ask k o r) (symbol, called, is) m = cc
    one a h m = cc

-- the three look up what is newest
pub answer-newest : (j object round : ℕ) (symbol : Option ℕ) (given : List Given) →
    answer_given (Answered j object round symbol ∷ given) object round j ≡ symbol
answer-newest j object round symbol given = cond_true ((j == j) && (object == object) && (round == round))
    symbol (answer_given given object round j) (and_from ((j == j) && (object == object)) (round == round)
    (and_from (j == j) (object == object) (eq-eqb j j refl) (eq-eqb object object refl))
    (eq-eqb round round refl))

-- a block that was just fetched is the one that is looked up
pub block-newest : (j object stripe : ℕ) (block : Option (List ℕ)) (given : List Given) →
    block_given (Fetched j object stripe block ∷ given) object stripe j ≡ block
block-newest j object stripe block given = cond_true ((j == j) && (object == object) && (stripe == stripe))
    block (block_given given object stripe j) (and_from ((j == j) && (object == object)) (stripe == stripe)
    (and_from (j == j) (object == object) (eq-eqb j j refl) (eq-eqb object object refl))
    (eq-eqb stripe stripe refl))

-- ---- the entries of a list of actions

-- what a job hears of an action, as it is looked up in the end
abbrev pub entry_for : ℕ → List Given → Action → List Entry
entry_for n now (Fetch j object stripe) =
    record { job = n; given = Fetched j object stripe (block_given now object stripe j) } ∷ []
entry_for n now (Ask j object round) =
    record { job = n; given = Answered j object round (answer_given now object round j) } ∷ []
entry_for n now action = []

-- what a job heard of distinct actions that were made is an entry for each fetch and ask, in order
pub entries-made : (n : ℕ) (x : With) (actions : List Action) (old new : ℕ → Provider)
    (given now : List Given) → AreDistinct actions → Made x actions old new given now →
    entries_of n now ≡ entries_of n given ++ flat_map (entry_for n now) actions
entries-made n x [] old new given now d m = cc (append-nil (entries_of n given))
entries-made n x (a ∷ actions) old new given now d (mid, so_far, did, rest) = cc (
  entries-made n x actions mid new so_far now d.1 rest,
  one a did d.0,
  append_assoc (entries_of n given) (entry_for n now a) (flat_map (entry_for n now) actions),
)
  where
    nothing : (gs : List Given) → gs ≡ given → entries_of n gs ≡ entries_of n given ++ []
    nothing gs e = cc (append-nil (entries_of n given))

    one : (a : Action) → Did x a old mid given so_far → IsOver a actions →
        entries_of n so_far ≡ entries_of n given ++ entry_for n now a
    one (Fetch k o s) (block, called, is) m = ap (entries_of n) is
        ∙ ap (λ b. entries_of n given ++ record { job = n; given = Fetched k o s b } ∷ [])
        (cc (block-later x actions mid new so_far now k o s rest m, block-newest k o s block given))
    one (Ask k o r) (symbol, called, is) m = ap (entries_of n) is
        ∙ ap (λ b. entries_of n given ++ record { job = n; given = Answered k o r b } ∷ [])
        (cc (answer-later x actions mid new so_far now k o r rest m, answer-newest k o r symbol given))
    one (Work o s) (symbols, gives, still, is) m = cc (nothing given refl)
    one a h m = nothing so_far h.1
