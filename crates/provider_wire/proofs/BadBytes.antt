-- Bytes that are bad stay so under more bytes, and begin no request.
use Rattle.provider_wire.proofs.Words.{◌≡◌, ℕ, ◌+◌, ◌<◌, ◌≤◌, ◌^◌, Bool, true, false, cond, List, [], ◌∷◌, ◌++◌, length, take, drop, get_or, refl, sym, ap, ◌∙◌, arith, append_assoc, length-append, length-drop, ◌&&◌, ◌||◌, not, ◌==◌, w64, to_le_bytes, from_le_bytes, nat_tests, take-append-le, drop-append-le, drop_at, get_or_append_left, get_or-append_right, Request, Store, Fetch, Ask, Remove, SpellsNoRequest, is_within, is_request, misses, number_misses, is_bad_request, request_bytes, wide64}

and_grows : (a b c d : Bool) → (a && b) ≡ true → (a ≡ true → c ≡ true) → (b ≡ true → d ≡ true) →
    (c && d) ≡ true
and_grows true b c d e f g = λ i. f refl i && g e i
and_grows false b c d e f g = absurd cc

or_grows : (a b c d : Bool) → (a || b) ≡ true → (a ≡ true → c ≡ true) → (b ≡ true → d ≡ true) →
    (c || d) ≡ true
or_grows true b c d e f g = ap (λ (t : Bool). t || d) (f refl)
or_grows false b true d e f g = refl
or_grows false b false d e f g = g e

chosen_grows : (a b x y z u v : Bool) → cond a x (cond b y z) ≡ true → (x ≡ true → u ≡ true) →
    (y ≡ true → v ≡ true) → cond a u (cond b v z) ≡ true
chosen_grows true b x y z u v e f g = f e
chosen_grows false true x y z u v e f g = g e
chosen_grows false false x y z u v e f g = e

misses-grows : (place low high : ℕ) (bytes more : List ℕ) → misses place low high bytes ≡ true →
    misses place low high (bytes ++ more) ≡ true
misses-grows place low high bytes more e =
    let there : place < length bytes = grind arith in
    and_grows _ _ _ _ e (λ _. grind (arith, length-append bytes more))
    (λ out. ap (λ n. not (is_within low high n)) (get_or_append_left bytes more 0 place there) ∙ out)

number_misses-grows : (place low high : ℕ) (bytes more : List ℕ) → number_misses place low high bytes ≡ true →
    number_misses place low high (bytes ++ more) ≡ true
number_misses-grows place low high bytes more e =
    let there : place + 8 ≤ length bytes = grind arith in
    and_grows _ _ _ _ e (λ _. grind (arith, length-append bytes more))
    (λ out. ap (λ l. not (is_within low high (from_le_bytes w64 l))) (ap (take 8)
    (drop-append-le place bytes more (omega (arith, there)))
    ∙ take-append-le 8 (drop place bytes) more (omega (arith, there, length-drop place bytes))) ∙ out)

-- bytes that are bad are so with more bytes behind them
pub bad-grows : (bytes more : List ℕ) → is_bad_request bytes ≡ true → is_bad_request (bytes ++ more) ≡ true
bad-grows [] more e = absurd cc
bad-grows (kind ∷ rest) more e = chosen_grows ((kind == 1) || (kind == 2)) (kind == 3) _ _ (not (kind == 4)) _
    _ e (misses-grows 12 1 128 rest more) (λ out. or_grows _ _ _ _ out
    (λ first. or_grows _ _ _ _ first (number_misses-grows 40 1 (2 ^ 32) rest more)
    (misses-grows 48 1 128 rest more)) (misses-grows 49 1 64 rest more))

and_off : (a b : Bool) → b ≡ false → (a && b) ≡ false
and_off true b e = e
and_off false b e = refl

all_off : (a b c : Bool) → a ≡ false → b ≡ false → c ≡ false → (a || b || c) ≡ false
all_off a b c p q r = λ i. p i || q i || r i

-- a request is not bad, whatever comes behind it
fine : (r : Request) (rest : List ℕ) → is_request r ≡ true → is_bad_request (request_bytes r ++ rest) ≡ false
unfolding request_bytes
fine (Store object stripe block) rest fits =
    let good : is_within 1 128 (length block) ≡ true = grind (arith, fits) in
    and_off _ _ (ap not good)
fine (Fetch object stripe size) rest fits =
    let good : is_within 1 128 size ≡ true = grind (arith, fits) in
    and_off _ _ (ap not good)
fine (Ask object c) rest fits =
    let len : length c.seed ≡ 32 = grind (arith, nat_tests, fits) in
    let rows : is_within 1 (2 ^ 32) c.rows ≡ true = grind (arith, fits) in
    let size : is_within 1 128 c.size ≡ true = grind (arith, fits) in
    let picks : is_within 1 64 c.picks ≡ true = grind (arith, fits) in
    let small : c.rows < 2 ^ 64 = grind (arith, nat_tests, rows) in
    let fields = to_le_bytes w64 c.rows ++ c.size ∷ c.picks ∷ [] in
    let regrouped : (c.seed ++ fields) ++ rest ≡ c.seed ++ (fields ++ rest) =
    append_assoc c.seed fields rest in
    let behind : drop 32 ((c.seed ++ fields) ++ rest) ≡ fields ++ rest = ap (drop 32) regrouped
    ∙ drop_at c.seed (fields ++ rest) 32 len in
    let rows_are : from_le_bytes w64 (take 8 (drop 32 ((c.seed ++ fields) ++ rest))) ≡ c.rows =
    ap (λ (l : List ℕ). from_le_bytes w64 (take 8 l)) behind ∙ wide64.again c.rows small in
    let size_is : get_or ((c.seed ++ fields) ++ rest) 40 0 ≡ c.size =
    ap (λ (l : List ℕ). get_or l 40 0) regrouped
    ∙ get_or-append_right c.seed (fields ++ rest) 32 40 0 len (omega arith) in
    let picks_are : get_or ((c.seed ++ fields) ++ rest) 41 0 ≡ c.picks =
    ap (λ (l : List ℕ). get_or l 41 0) regrouped
    ∙ get_or-append_right c.seed (fields ++ rest) 32 41 0 len (omega arith) in
    all_off _ _ _ (and_off _ _ (ap (λ (n : ℕ). not (is_within 1 (2 ^ 32) n)) rows_are ∙ ap not rows))
    (and_off _ _ (ap (λ (n : ℕ). not (is_within 1 128 n)) size_is ∙ ap not size))
    (and_off _ _ (ap (λ (n : ℕ). not (is_within 1 64 n)) picks_are ∙ ap not picks))
fine (Remove object) rest fits = refl

-- bytes that are bad begin no request
pub bad-none : (bytes : List ℕ) → is_bad_request bytes ≡ true → SpellsNoRequest bytes
bad-none bytes bad r front rest s e =
    let same : true ≡ false = sym bad ∙ ap is_bad_request (e ∙ ap (λ (l : List ℕ). l ++ rest) s.bytes_are)
    ∙ fine r rest s.is_request in absurd cc
