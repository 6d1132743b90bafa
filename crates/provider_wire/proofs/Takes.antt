-- What is read is spelled so, and what is spelled so is read.
use Rattle.provider_wire.proofs.Words.{◌≡◌, ℕ, ◌*◌, ◌^◌, ◌<◌, ◌≤◌, Bool, true, false, cond, eqb, List, [], ◌∷◌, ◌++◌, length, take, drop, refl, sym, ap, subst, ◌∙◌, append_assoc, arith, length-append, length-take, take-append-drop, ⊎_elim, ◌&&◌, nat_lt, ◌==◌, w32, w64, to_le_bytes, list_all, eqb-true, ltb-false, le-ltb, lt-ltb, and_from, and_parts, nat_tests, take_at, drop_at, cond-cases, Challenge, bytes_of_symbols, length-bytes_of_symbols, Request, Store, Fetch, Ask, Remove, is_within, is_block, is_challenge, is_request, block_bytes, challenge_bytes, request_bytes, ◌>>=◌, number_at, IsBytes, IsBytes-rest, IsBytes-take, IsBytes-drop, bind_some, passed, stopped, some_is, Takes, Takes-then, wide32, wide64, number_takes, number_again, symbols_read, within_at, block_read_at, store_at, fetch_at, seed_at, rows_at, challenge_read_at, ask_at, remove_at, request_at}
use Rattle.std.proofs.Common.{Option, Some, None}
use Rattle.provider_wire.proofs.Symbols.{bytes-symbols, length-symbols, symbols_small, symbols-bytes}

abbrev Found : List ℕ → Request × List ℕ → Type 0
Found bytes x = Takes bytes (request_bytes x.0) x.1 × (is_request x.0 ≡ true)

-- ---- a number of one byte

within_takes : (low high : ℕ) (bytes : List ℕ) (x : ℕ × List ℕ) → IsBytes bytes →
    within_at low high bytes ≡ Some x → Takes bytes (x.0 ∷ []) x.1 × (is_within low high x.0 ≡ true)
unfolding within_at
within_takes low high [] x fits e = absurd cc
within_takes low high (n ∷ rest) x fits e =
    let made : ℕ × List ℕ = (n, rest) in
    let g = passed (is_within low high n) made x e in
    let took : Takes (n ∷ rest) (n ∷ []) rest =
    record { parts = refl; rest_fits = IsBytes-rest n rest fits } in
    subst (λ (y : ℕ × List ℕ). Takes (n ∷ rest) (y.0 ∷ []) y.1 × (is_within low high y.0 ≡ true)) g.1
    (took, g.0)

within_again : (low high n : ℕ) (rest : List ℕ) → is_within low high n ≡ true →
    within_at low high (n ∷ rest) ≡ Some (n, rest)
unfolding within_at
within_again low high n rest good = rw good refl

-- ---- a block

block_takes : (bytes : List ℕ) (x : List ℕ × List ℕ) → IsBytes bytes → block_read_at bytes ≡ Some x →
    Takes bytes (block_bytes x.0) x.1 × (is_block x.0 ≡ true)
unfolding block_read_at
block_takes bytes x fits e =
    let a = bind_some (within_at 1 128 bytes) _ x e in
    let n = a.0.0 in
    let rest = a.0.1 in
    let first = within_takes 1 128 bytes a.0 fits a.1 in
    let made : List ℕ × List ℕ = (symbols_read n (take (16 * n) rest), drop (16 * n) rest) in
    let g = stopped (nat_lt (length rest) (16 * n)) (Some made) x a.2 in
    let long : 16 * n ≤ length rest = ltb-false _ _ g.0 in
    let part = take (16 * n) rest in
    let size : length part ≡ 16 * n = omega (arith, length-take (16 * n) rest) in
    let part_fits = IsBytes-take (16 * n) rest first.0.rest_fits in
    let symbols : bytes_of_symbols made.0 ≡ part = bytes-symbols n part (omega (arith, size)) part_fits
    ∙ ap (λ (m : ℕ). take m part) (sym size) ∙ whole part in
    let many : length made.0 ≡ n = length-symbols n part in
    let parts : bytes ≡ block_bytes made.0 ++ made.1 =
    first.0.parts ∙ ap (λ (l : List ℕ). n ∷ l) (sym (take-append-drop (16 * n) rest))
    ∙ (λ i. sym many i ∷ (sym symbols i ++ drop (16 * n) rest)) in
    let good : is_block made.0 ≡ true = and_from _ _ (ap (is_within 1 128) many ∙ first.1)
    (symbols_small n part part_fits) in
    subst (λ (y : List ℕ × List ℕ). Takes bytes (block_bytes y.0) y.1 × (is_block y.0 ≡ true))
    (some_is made x g.1)
    (record { parts = parts; rest_fits = IsBytes-drop (16 * n) rest first.0.rest_fits }, good)
  where
    whole : (l : List ℕ) → take (length l) l ≡ l
    whole [] = refl
    whole (y ∷ l) = ap (λ (m : List ℕ). y ∷ m) (whole l)

block_again : (block rest : List ℕ) → is_block block ≡ true →
    block_read_at (block_bytes block ++ rest) ≡ Some (block, rest)
unfolding block_read_at
block_again block rest good =
    let n = length block in
    let body = bytes_of_symbols block in
    let len : length body ≡ 16 * n = length-bytes_of_symbols block in
    let long : nat_lt (length (body ++ rest)) (16 * n) ≡ false =
    le-ltb _ _ (omega (arith, length-append body rest, len)) in
    let small = (and_parts _ _ good).1 in
    ap (λ (o : Option (ℕ × List ℕ)). o >>= λ size. cond (nat_lt (length size.1) (16 * size.0)) None
    (Some (symbols_read size.0 (take (16 * size.0) size.1), drop (16 * size.0) size.1)))
    (within_again 1 128 n (body ++ rest) ((and_parts _ _ good).0))
    ∙ rw (long, take_at body rest (16 * n) len, drop_at body rest (16 * n) len, symbols-bytes block small)
    refl

-- ---- a store and a fetch

place-assoc : (a b c rest : List ℕ) → ((a ++ b) ++ c) ++ rest ≡ a ++ (b ++ (c ++ rest))
place-assoc a b c rest = append_assoc (a ++ b) c rest ∙ append_assoc a b (c ++ rest)

store_takes : (rest : List ℕ) (x : Request × List ℕ) → IsBytes rest → store_at rest ≡ Some x →
    Found (1 ∷ rest) x
unfolding store_at request_bytes
store_takes rest x fits e =
    let a = bind_some (number_at w64 rest) _ x e in
    let b = bind_some (number_at w32 a.0.1) _ x a.2 in
    let d = bind_some (block_read_at b.0.1) _ x b.2 in
    let first = number_takes w64 (2 ^ 64) wide64 rest a.0 fits a.1 in
    let second = number_takes w32 (2 ^ 32) wide32 a.0.1 b.0 first.0.rest_fits b.1 in
    let third = block_takes b.0.1 d.0 second.0.rest_fits d.1 in
    let all = Takes-then _ _ _ _ _ (Takes-then _ _ _ _ _ first.0 second.0) third.0 in
    subst (Found (1 ∷ rest)) (some_is (Store a.0.0 b.0.0 d.0.0, d.0.1) x d.2) (
      record { parts = ap (λ l. 1 ∷ l) all.parts; rest_fits = all.rest_fits },
      (λ i. lt-ltb _ _ first.1 i && lt-ltb _ _ second.1 i && third.1 i),
    )

fetch_takes : (rest : List ℕ) (x : Request × List ℕ) → IsBytes rest → fetch_at rest ≡ Some x →
    Found (2 ∷ rest) x
unfolding fetch_at request_bytes
fetch_takes rest x fits e =
    let a = bind_some (number_at w64 rest) _ x e in
    let b = bind_some (number_at w32 a.0.1) _ x a.2 in
    let d = bind_some (within_at 1 128 b.0.1) _ x b.2 in
    let first = number_takes w64 (2 ^ 64) wide64 rest a.0 fits a.1 in
    let second = number_takes w32 (2 ^ 32) wide32 a.0.1 b.0 first.0.rest_fits b.1 in
    let third = within_takes 1 128 b.0.1 d.0 second.0.rest_fits d.1 in
    let all = Takes-then _ _ _ _ _ (Takes-then _ _ _ _ _ first.0 second.0) third.0 in
    subst (Found (2 ∷ rest)) (some_is (Fetch a.0.0 b.0.0 d.0.0, d.0.1) x d.2) (
      record { parts = ap (λ l. 2 ∷ l) all.parts; rest_fits = all.rest_fits },
      (λ i. lt-ltb _ _ first.1 i && lt-ltb _ _ second.1 i && third.1 i),
    )

-- ---- an ask and a removal

IsBytes-all : (bytes : List ℕ) → IsBytes bytes → list_all (λ b. nat_lt b 256) bytes ≡ true
IsBytes-all [] fits = refl
IsBytes-all (b ∷ bytes) fits = grind (arith, nat_tests, fits 0, IsBytes-all bytes (IsBytes-rest b bytes fits))

abbrev is_seed : List ℕ → Bool
is_seed seed = (length seed == 32) && list_all (λ b. nat_lt b 256) seed

seed_takes : (bytes : List ℕ) (x : List ℕ × List ℕ) → IsBytes bytes → seed_at bytes ≡ Some x →
    Takes bytes x.0 x.1 × (is_seed x.0 ≡ true)
unfolding seed_at
seed_takes bytes x fits e =
    let made : List ℕ × List ℕ = (take 32 bytes, drop 32 bytes) in
    let g = stopped (nat_lt (length bytes) 32) (Some made) x e in
    let long : 32 ≤ length bytes = ltb-false _ _ g.0 in
    let len : length (take 32 bytes) ≡ 32 = omega (arith, length-take 32 bytes) in
    let good : is_seed (take 32 bytes) ≡ true = grind
    (arith, nat_tests, len, IsBytes-all (take 32 bytes) (IsBytes-take 32 bytes fits)) in
    subst (λ (y : List ℕ × List ℕ). Takes bytes y.0 y.1 × (is_seed y.0 ≡ true)) (some_is made x g.1)
    (record { parts = sym (take-append-drop 32 bytes); rest_fits = IsBytes-drop 32 bytes fits }, good)

seed_again : (seed rest : List ℕ) → is_seed seed ≡ true → seed_at (seed ++ rest) ≡ Some (seed, rest)
unfolding seed_at
seed_again seed rest good =
    let len : length seed ≡ 32 = grind (arith, nat_tests, good) in
    let long : nat_lt (length (seed ++ rest)) 32 ≡ false =
    le-ltb _ _ (omega (arith, length-append seed rest)) in
    rw (long, take_at seed rest 32 len, drop_at seed rest 32 len) refl

rows_takes : (bytes : List ℕ) (x : ℕ × List ℕ) → IsBytes bytes → rows_at bytes ≡ Some x →
    Takes bytes (to_le_bytes w64 x.0) x.1 × (is_within 1 (2 ^ 32) x.0 ≡ true)
unfolding rows_at
rows_takes bytes x fits e =
    let a = bind_some (number_at w64 bytes) _ x e in
    let made : ℕ × List ℕ = (a.0.0, a.0.1) in
    let g = passed (is_within 1 (2 ^ 32) a.0.0) made x a.2 in
    let first = number_takes w64 (2 ^ 64) wide64 bytes a.0 fits a.1 in
    subst (λ (y : ℕ × List ℕ). Takes bytes (to_le_bytes w64 y.0) y.1 × (is_within 1 (2 ^ 32) y.0 ≡ true)) g.1
    (first.0, g.0)

rows_again : (rows : ℕ) (rest : List ℕ) → is_within 1 (2 ^ 32) rows ≡ true →
    rows_at (to_le_bytes w64 rows ++ rest) ≡ Some (rows, rest)
unfolding rows_at
rows_again rows rest good =
    rw (number_again w64 (2 ^ 64) wide64 rows rest (grind (arith, nat_tests, good)), good) refl

challenge_takes : (bytes : List ℕ) (x : Challenge × List ℕ) → IsBytes bytes →
    challenge_read_at bytes ≡ Some x → Takes bytes (challenge_bytes x.0) x.1 × (is_challenge x.0 ≡ true)
unfolding challenge_read_at
challenge_takes bytes x fits e =
    let a = bind_some (seed_at bytes) _ x e in
    let b = bind_some (rows_at a.0.1) _ x a.2 in
    let d = bind_some (within_at 1 128 b.0.1) _ x b.2 in
    let f = bind_some (within_at 1 64 d.0.1) _ x d.2 in
    let c : Challenge = record { seed = a.0.0; rows = b.0.0; size = d.0.0; picks = f.0.0 } in
    let made : Challenge × List ℕ = (c, f.0.1) in
    let first = seed_takes bytes a.0 fits a.1 in
    let second = rows_takes a.0.1 b.0 first.0.rest_fits b.1 in
    let third = within_takes 1 128 b.0.1 d.0 second.0.rest_fits d.1 in
    let fourth = within_takes 1 64 d.0.1 f.0 third.0.rest_fits f.1 in
    let behind = Takes-then _ _ _ _ _ second.0 (Takes-then _ _ _ _ _ third.0 fourth.0) in
    let all = Takes-then _ _ _ _ _ first.0 behind in
    let good : is_challenge c ≡ true = (λ i. first.1 i && second.1 i && third.1 i && fourth.1 i) in
    subst (λ (y : Challenge × List ℕ). Takes bytes (challenge_bytes y.0) y.1 × (is_challenge y.0 ≡ true))
    (some_is made x f.2) (all, good)

challenge_again : (c : Challenge) (rest : List ℕ) → is_challenge c ≡ true →
    challenge_read_at (challenge_bytes c ++ rest) ≡ Some (c, rest)
unfolding challenge_read_at within_at
challenge_again c rest good =
    let seed : is_seed c.seed ≡ true = grind (arith, good) in
    let rows : is_within 1 (2 ^ 32) c.rows ≡ true = grind (arith, good) in
    let size : is_within 1 128 c.size ≡ true = grind (arith, good) in
    let picks : is_within 1 64 c.picks ≡ true = grind (arith, good) in
    let tail = c.size ∷ c.picks ∷ rest in
    let regrouped : challenge_bytes c ++ rest ≡ c.seed ++ (to_le_bytes w64 c.rows ++ tail) =
    append_assoc c.seed (to_le_bytes w64 c.rows ++ c.size ∷ c.picks ∷ []) rest
    ∙ ap (λ (l : List ℕ). c.seed ++ l) (append_assoc (to_le_bytes w64 c.rows) (c.size ∷ c.picks ∷ []) rest) in
    ap (λ (l : List ℕ). challenge_read_at l) regrouped
    ∙ rw (seed_again c.seed (to_le_bytes w64 c.rows ++ tail) seed, rows_again c.rows tail rows, size, picks)
    refl

ask_takes : (rest : List ℕ) (x : Request × List ℕ) → IsBytes rest → ask_at rest ≡ Some x → Found (3 ∷ rest) x
unfolding ask_at request_bytes
ask_takes rest x fits e =
    let a = bind_some (number_at w64 rest) _ x e in
    let b = bind_some (challenge_read_at a.0.1) _ x a.2 in
    let made : Request × List ℕ = (Ask a.0.0 b.0.0, b.0.1) in
    let first = number_takes w64 (2 ^ 64) wide64 rest a.0 fits a.1 in
    let second = challenge_takes a.0.1 b.0 first.0.rest_fits b.1 in
    let all = Takes-then _ _ _ _ _ first.0 second.0 in
    subst (Found (3 ∷ rest)) (some_is made x b.2) (
      record { parts = ap (λ (l : List ℕ). 3 ∷ l) all.parts; rest_fits = all.rest_fits },
      (λ i. lt-ltb _ _ first.1 i && second.1 i),
    )

remove_takes : (rest : List ℕ) (x : Request × List ℕ) → IsBytes rest → remove_at rest ≡ Some x →
    Found (4 ∷ rest) x
unfolding remove_at request_bytes
remove_takes rest x fits e =
    let a = bind_some (number_at w64 rest) _ x e in
    let first = number_takes w64 (2 ^ 64) wide64 rest a.0 fits a.1 in
    subst (Found (4 ∷ rest)) (some_is (Remove a.0.0, a.0.1) x a.2) (
      record { parts = ap (λ l. 4 ∷ l) first.0.parts; rest_fits = first.0.rest_fits },
      lt-ltb _ _ first.1,
    )

-- ---- a request

-- one kind after the other
of_kind : (kind k : ℕ) (rest : List ℕ) (found others : Option (Request × List ℕ)) (x : Request × List ℕ)
    → (found ≡ Some x → Found (k ∷ rest) x) → (others ≡ Some x → Found (kind ∷ rest) x) →
    cond (eqb kind k) found others ≡ Some x → Found (kind ∷ rest) x
of_kind kind k rest found others x here on e =
    ⊎_elim (λ p. subst (λ (j : ℕ). Found (j ∷ rest) x) (sym (eqb-true kind k p.0)) (here p.1)) (λ p. on p.1)
    (cond-cases (eqb kind k) found others (Some x) e)

-- a request that is read stands at the front of the bytes, within its limits
pub request_takes : (bytes : List ℕ) (x : Request × List ℕ) → IsBytes bytes → request_at bytes ≡ Some x →
    Takes bytes (request_bytes x.0) x.1 × (is_request x.0 ≡ true)
unfolding request_at
request_takes [] x fits e = absurd cc
request_takes (kind ∷ rest) x fits e =
    let inner = IsBytes-rest kind rest fits in
    of_kind kind 1 rest _ _ x (store_takes rest x inner)
    (of_kind kind 2 rest _ _ x (fetch_takes rest x inner) (
    of_kind kind 3 rest _ _ x (ask_takes rest x inner)
    (of_kind kind 4 rest _ _ x (remove_takes rest x inner) (λ none. absurd (none_is x none))))) e
  where
    none_is : (y : Request × List ℕ) → None ≡ Some y → ⊥
    none_is y h = cc

-- a request within its limits is read back from its bytes, whatever comes behind
pub request_again : (r : Request) (rest : List ℕ) → is_request r ≡ true →
    request_at (request_bytes r ++ rest) ≡ Some (r, rest)
unfolding request_at store_at fetch_at ask_at remove_at within_at request_bytes
request_again (Store object stripe block) rest fits =
    let object_fits : object < 2 ^ 64 = grind (arith, nat_tests, fits) in
    let stripe_fits : stripe < 2 ^ 32 = grind (arith, nat_tests, fits) in
    let good : is_block block ≡ true = (and_parts _ _ fits).1 in
    let b = block_bytes block in
    ap (λ (l : List ℕ). store_at l) (place-assoc (to_le_bytes w64 object) (to_le_bytes w32 stripe) b rest)
    ∙ rw (
      number_again w64 (2 ^ 64) wide64 object (to_le_bytes w32 stripe ++ (b ++ rest)) object_fits,
      number_again w32 (2 ^ 32) wide32 stripe (b ++ rest) stripe_fits,
      block_again block rest good,
    ) refl
request_again (Fetch object stripe size) rest fits =
    let object_fits : object < 2 ^ 64 = grind (arith, nat_tests, fits) in
    let stripe_fits : stripe < 2 ^ 32 = grind (arith, nat_tests, fits) in
    let good : is_within 1 128 size ≡ true = (and_parts _ _ fits).1 in
    ap (λ (l : List ℕ). fetch_at l)
    (place-assoc (to_le_bytes w64 object) (to_le_bytes w32 stripe) (size ∷ []) rest)
    ∙ rw (
      number_again w64 (2 ^ 64) wide64 object (to_le_bytes w32 stripe ++ size ∷ rest) object_fits,
      number_again w32 (2 ^ 32) wide32 stripe (size ∷ rest) stripe_fits,
      good,
    ) refl
request_again (Ask object c) rest fits =
    let object_fits : object < 2 ^ 64 = grind (arith, nat_tests, fits) in
    let good : is_challenge c ≡ true = (and_parts _ _ fits).1 in
    ap (λ (l : List ℕ). ask_at l) (append_assoc (to_le_bytes w64 object) (challenge_bytes c) rest)
    ∙ rw (
      number_again w64 (2 ^ 64) wide64 object (challenge_bytes c ++ rest) object_fits,
      challenge_again c rest good,
    ) refl
request_again (Remove object) rest fits =
    let object_fits : object < 2 ^ 64 = grind (arith, nat_tests, fits) in
    rw (number_again w64 (2 ^ 64) wide64 object rest object_fits) refl

-- no spelling begins another
pub one_front : (a b : Request) (x y : List ℕ) → is_request a ≡ true → is_request b ≡ true →
    request_bytes a ++ x ≡ request_bytes b ++ y → (a ≡ b) × (x ≡ y)
one_front a b x y fits_a fits_b e =
    let same = some_is (a, x) (b, y) (sym (request_again a x fits_a) ∙ ap request_at e
    ∙ request_again b y fits_b) in
    (ap (λ (p : Request × List ℕ). p.0) same, ap (λ (p : Request × List ℕ). p.1) same)

-- every request has a byte
pub spelling-some : (r : Request) → 0 < length (request_bytes r)
unfolding request_bytes
spelling-some (Store object stripe block) = omega arith
spelling-some (Fetch object stripe size) = omega arith
spelling-some (Ask object c) = omega arith
spelling-some (Remove object) = omega arith
