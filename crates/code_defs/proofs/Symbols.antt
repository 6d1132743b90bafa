-- Polynomials that take symbols at enough points have symbols as coefficients.
use Rattle.code_defs.proofs.Words.{All, Option, None, IfSome, arith, ap, sym, refl, subst, Apart, sum_zero, nim, nim_add, nim_mul, nim_inv, is_symbol, nim_laws, nim_ring, nim_add-lt, nim_mul-lt, nim_inv-lt, value_over, plus_over, scale_over, times_over, vanish_over, interpolate_over, agree_over, is_seen_over, length-interpolate, interpolate_takes, value, plus, scale, times, vanish, interpolate, agree, upto, values_at, range_with_len, length-range_with_len, Each, profile_of, IsNear, Accepts}
use Rattle.std.specs.Prelude.{◌≡◌, ℕ, zero, suc, ◌+◌, ◌≤◌, Bool, true, false, cond, List, [], ◌∷◌, length, map, Some}
use Rattle.std.proofs.lemmas.List.Elements.{All-nil, All-cons, All-head, All-tail}
use Rattle.algebra_laws.proofs.Roots.{plus_zero}
use Rattle.code_defs.specs.Polynomials.{is_seen}
use Rattle.code_defs.proofs.Points.{one_not_zero, Apart-range}
use Rattle.code_defs.proofs.Profiles.{size_is, size-bound}
use Rattle.code_defs.proofs.Values.{takes_same}

-- each is a symbol
abbrev AreSymbols : List ℕ → Type 0
AreSymbols p = Each is_symbol p

-- the two forms of each
each_from_all : (p : List ℕ) → All is_symbol p → Each is_symbol p
each_from_all [] h = tt
each_from_all (a ∷ p) h = (All-head is_symbol a p h, each_from_all p (All-tail is_symbol a p h))

-- that each item of a list is a symbol, in the form that contracts have (`All`)
pub all_from_each : (p : List ℕ) → Each is_symbol p → All is_symbol p
all_from_each [] h = All-nil is_symbol
all_from_each (a ∷ p) h = All-cons is_symbol a p h.0 (all_from_each p h.1)

-- sums of symbols are symbols
add-symbol : (a b : ℕ) → is_symbol a → is_symbol b → is_symbol (nim_add a b)
add-symbol a b ha hb = nim_add-lt 7 a b ha hb

-- products of symbols are symbols
mul-symbol : (a b : ℕ) → is_symbol a → is_symbol b → is_symbol (nim_mul a b)
mul-symbol a b ha hb = nim_mul-lt 7 a b ha hb

-- of polynomials
plus-symbols : (p q : List ℕ) → AreSymbols p → AreSymbols q → AreSymbols (plus p q)
unfolding plus_over
plus-symbols [] q hp hq = hq
plus-symbols (a ∷ p) [] hp hq = hp
plus-symbols (a ∷ p) (b ∷ q) hp hq = (add-symbol a b hp.0 hq.0, plus-symbols p q hp.1 hq.1)

-- of multiples
scale-symbols : (c : ℕ) (p : List ℕ) → is_symbol c → AreSymbols p → AreSymbols (scale c p)
unfolding scale_over
scale-symbols c [] hc hp = tt
scale-symbols c (a ∷ p) hc hp = (mul-symbol c a hc hp.0, scale-symbols c p hc hp.1)

-- zero is a symbol
zero-symbol : is_symbol 0
zero-symbol = omega arith

-- of products
times-symbols : (p q : List ℕ) → AreSymbols p → AreSymbols q → AreSymbols (times p q)
unfolding times_over
times-symbols [] q hp hq = tt
times-symbols (a ∷ p) q hp hq = plus-symbols (scale a q) (0 ∷ times p q) (scale-symbols a q hp.0 hq)
    (zero-symbol, times-symbols p q hp.1 hq)

-- of values
value-symbol : (p : List ℕ) (x : ℕ) → AreSymbols p → is_symbol x → is_symbol (value p x)
unfolding value_over
value-symbol [] x hp hx = zero-symbol
value-symbol (a ∷ p) x hp hx =
    add-symbol a (nim_mul x (value p x)) hp.0 (mul-symbol x (value p x) hx (value-symbol p x hp.1 hx))

-- of the product of all x + point
vanish-symbols : (points : List ℕ) → AreSymbols points → AreSymbols (vanish points)
unfolding vanish_over
vanish-symbols [] h = (omega arith, tt)
vanish-symbols (r ∷ rs) h =
    times-symbols (r ∷ 1 ∷ []) (vanish rs) (h.0, (omega arith, tt)) (vanish-symbols rs h.1)

-- of the interpolating polynomial
interpolate-symbols : (xs ys : List ℕ) → AreSymbols xs → AreSymbols ys → AreSymbols (interpolate xs ys)
unfolding interpolate_over
interpolate-symbols [] ys hx hy = tt
interpolate-symbols (x ∷ xs) [] hx hy = tt
interpolate-symbols (x ∷ xs) (y ∷ ys) hx hy =
    let before : AreSymbols (interpolate xs ys) = interpolate-symbols xs ys hx.1 hy.1 in
    let product : AreSymbols (vanish xs) = vanish-symbols xs hx.1 in
    let down : is_symbol (nim_inv (value (vanish xs) x)) =
    nim_inv-lt 7 (value (vanish xs) x) (value-symbol (vanish xs) x product hx.0) in
    plus-symbols (interpolate xs ys)
    (scale (nim_mul (nim_add y (value (interpolate xs ys) x)) (nim_inv (value (vanish xs) x))) (vanish xs))
    before
    (scale-symbols (nim_mul (nim_add y (value (interpolate xs ys) x)) (nim_inv (value (vanish xs) x)))
    (vanish xs)
    (mul-symbol (nim_add y (value (interpolate xs ys) x)) (nim_inv (value (vanish xs) x))
    (add-symbol y (value (interpolate xs ys) x) hy.0 (value-symbol (interpolate xs ys) x before hx.0)) down)
    product)

-- what differs nowhere from symbols are symbols
same-symbols : (p q : List ℕ) → Each (λ a. a ≡ 0) (plus p q) → AreSymbols q → AreSymbols p
unfolding plus_over
same-symbols [] q z h = tt
same-symbols (a ∷ p) [] z h = (rw z.0 zero-symbol, same-symbols p [] (rest p z.1) h)
  where
    rest : (p : List ℕ) → Each (λ a. a ≡ 0) p → Each (λ a. a ≡ 0) (plus p [])
    rest [] z = tt
    rest (a ∷ p) z = z
same-symbols (a ∷ p) (b ∷ q) z h =
    (subst (λ c. is_symbol c) (sym (sum_zero nim_ring a b z.0)) h.0, same-symbols p q z.1 h.1)

-- the points at which the value is seen
seen_points : List ℕ → List ℕ → List (Option ℕ) → List ℕ
seen_points p [] ss = []
seen_points p (x ∷ xs) [] = []
seen_points p (x ∷ xs) (s ∷ ss) = cond (is_seen (value p x) s) (x ∷ seen_points p xs ss) (seen_points p xs ss)

-- there are as many as agreements
length-seen_points : (p xs : List ℕ) (ss : List (Option ℕ)) → length (seen_points p xs ss) ≡ agree p xs ss
unfolding seen_points agree_over
length-seen_points p [] ss = refl
length-seen_points p (x ∷ xs) [] = refl
length-seen_points p (x ∷ xs) (s ∷ ss) = go (is_seen (value p x) s) (length-seen_points p xs ss)
  where
    go : (b : Bool) → length (seen_points p xs ss) ≡ agree p xs ss →
        length (cond b (x ∷ seen_points p xs ss) (seen_points p xs ss)) ≡ cond b 1 0 + agree p xs ss
    go true h = omega (arith, h)
    go false h = omega (arith, h)

-- what holds of each point holds of these
Each-seen_points : (P : ℕ → Type 0) (p xs : List ℕ) (ss : List (Option ℕ)) → Each P xs →
    Each P (seen_points p xs ss)
unfolding seen_points
Each-seen_points P p [] ss h = tt
Each-seen_points P p (x ∷ xs) [] h = tt
Each-seen_points P p (x ∷ xs) (s ∷ ss) h = go (is_seen (value p x) s) (Each-seen_points P p xs ss h.1)
  where
    go : (b : Bool) → Each P (seen_points p xs ss) →
        Each P (cond b (x ∷ seen_points p xs ss) (seen_points p xs ss))
    go true t = (h.0, t)
    go false t = t

-- they are apart
Apart-seen_points : (p xs : List ℕ) (ss : List (Option ℕ)) → Apart xs → Apart (seen_points p xs ss)
unfolding seen_points
Apart-seen_points p [] ss d = tt
Apart-seen_points p (x ∷ xs) [] d = tt
Apart-seen_points p (x ∷ xs) (s ∷ ss) d = go (is_seen (value p x) s) (Apart-seen_points p xs ss d.1)
  where
    go : (b : Bool) → Apart (seen_points p xs ss) →
        Apart (cond b (x ∷ seen_points p xs ss) (seen_points p xs ss))
    go true t = (Each-seen_points (λ y. x ≡ y → ⊥) p xs ss d.0, t)
    go false t = t

-- a symbol where one was seen
abbrev pub SeenSymbol : Option ℕ → Type 0
SeenSymbol s = IfSome s is_symbol

-- a value that is seen as a symbol is one
seen-symbol : (y : ℕ) (s : Option ℕ) → is_seen y s ≡ true → SeenSymbol s → is_symbol y
unfolding is_seen_over
seen-symbol y None e h = absurd (cc e)
seen-symbol y (Some s) e h = subst (λ c. is_symbol c) (nim_laws.eq_true s y e) h

-- the values there are symbols
values-symbols : (p xs : List ℕ) (ss : List (Option ℕ)) → Each SeenSymbol ss →
    AreSymbols (values_at (seen_points p xs ss) p)
unfolding seen_points
values-symbols p [] ss h = tt
values-symbols p (x ∷ xs) [] h = tt
values-symbols p (x ∷ xs) (s ∷ ss) h =
    go (is_seen (value p x) s) (seen-symbol (value p x) s) (values-symbols p xs ss h.1)
  where
    go : (b : Bool) → (b ≡ true → SeenSymbol s → is_symbol (value p x)) →
        AreSymbols (values_at (seen_points p xs ss) p) →
        AreSymbols (values_at (cond b (x ∷ seen_points p xs ss) (seen_points p xs ss)) p)
    go true f t = (f refl h.0, t)
    go false f t = t

-- there are as many values as points
length-values : (p xs : List ℕ) → length xs ≡ length (values_at xs p)
length-values p [] = refl
length-values p (x ∷ xs) = ap suc (length-values p xs)

-- a polynomial of few coefficients that agrees with symbols at as many points has symbols as coefficients
pub coefficients_are_symbols : (p xs : List ℕ) (ss : List (Option ℕ)) → Apart xs → AreSymbols xs →
    Each SeenSymbol ss → length p ≤ agree p xs ss → AreSymbols p
coefficients_are_symbols p xs ss apart points seen short =
    let d : Apart (seen_points p xs ss) = Apart-seen_points p xs ss apart in
    let even = length-values p (seen_points p xs ss) in
    let n = length-seen_points p xs ss in
    same-symbols p (interpolate (seen_points p xs ss) (values_at (seen_points p xs ss) p))
    (plus_zero nim nim_laws (seen_points p xs ss) p
    (interpolate (seen_points p xs ss) (values_at (seen_points p xs ss) p)) d
    (takes_same p (interpolate (seen_points p xs ss) (values_at (seen_points p xs ss) p))
    (seen_points p xs ss)
    (interpolate_takes nim nim_laws (seen_points p xs ss)
    (values_at (seen_points p xs ss) p) one_not_zero even d))
    (omega (arith, n, short))
    (omega (
      arith,
      length-interpolate nim nim_laws (seen_points p xs ss) (values_at (seen_points p xs ss) p) even,
    )))
    (interpolate-symbols (seen_points p xs ss) (values_at (seen_points p xs ss) p)
    (Each-seen_points is_symbol p xs ss points) (values-symbols p xs ss seen))

-- each in both forms, of symbols seen
each_seen : (ss : List (Option ℕ)) → All SeenSymbol ss → Each SeenSymbol ss
each_seen [] h = tt
each_seen (s ∷ ss) h = (All-head SeenSymbol s ss h, each_seen ss (All-tail SeenSymbol s ss h))

-- the same of symbols that may be absent: each that is there is a symbol
pub all_from_seen : (ss : List (Option ℕ)) → Each SeenSymbol ss → All SeenSymbol ss
all_from_seen [] h = All-nil SeenSymbol
all_from_seen (s ∷ ss) h = All-cons SeenSymbol s ss h.0 (all_from_seen ss h.1)

-- symbols are symbols seen
each_present : (block : List ℕ) → Each is_symbol block → Each SeenSymbol (map Some block)
each_present [] h = tt
each_present (x ∷ block) h = (h.0, each_present block h.1)

-- the points of a block are symbols
upto-symbols : (a n : ℕ) → a + n ≤ 128 → AreSymbols (range_with_len a n)
upto-symbols a zero h = tt
upto-symbols a (suc n) h = (omega (arith, h), upto-symbols (a + 1) n (omega (arith, h)))

-- near a block
pub near_symbols : (number : ℕ) (block p : List ℕ) → All is_symbol block →
    IsNear (profile_of number) block p → All is_symbol p
near_symbols number block p symbols near = all_from_each p
    (coefficients_are_symbols p (upto (profile_of number).size) (map Some block)
    (Apart-range 0 (profile_of number).size)
    (upto-symbols 0 (profile_of number).size (omega (arith, size-bound number)))
    (each_present block (each_from_all block symbols)) (omega (
      arith,
      near.decodes.short,
      near.decodes.near,
      size_is number,
      length-range_with_len 0 (profile_of number).size,
    )))

-- accepted for a row
pub accepted_symbols : (points : List ℕ) (seen : List (Option ℕ)) (l b : ℕ) (p : List ℕ) → Apart points →
    All is_symbol points →
    All (λ s. IfSome s is_symbol) seen → l + b ≤ length points → Accepts points seen l b p → All is_symbol p
accepted_symbols points seen l b p apart at symbols room accepted =
    all_from_each p (coefficients_are_symbols p points seen apart (each_from_all points at)
    (each_seen seen symbols) (omega (arith, room, accepted.degree, accepted.agrees)))
