-- What counts and answers have at a place.
use Rattle.audit_verdict.proofs.Words.{zero, suc, ◌++◌, take, drop, true, false, [], ◌∷◌, Option, arith, ap, sym, refl, ◌∙◌, get_or, set, subst, ext_get_or, take-append-drop, value, is_seen, Object, Challenge, bare_answer, bare_answers, counts_after}
use Rattle.std.specs.Prelude.{◌≡◌, ℕ, ◌+◌, ◌<◌, ◌≤◌, List, length, None, if◌then◌else◌}
use Rattle.std.proofs.lemmas.List.Edits.{fill_by_more}
use Rattle.column_defs.proofs.CountLaws.{length-counts_after}

-- one place more of a list that a function makes
pub put_more : {X : Type 0} (f : ℕ → X) (xs : List X) (i : ℕ) (x d : X) → i < length xs → x ≡ f i →
    ((k : ℕ) → k < i → get_or xs k d ≡ f k) → (k : ℕ) → k < i + 1 → get_or (set xs i x) k d ≡ f k
put_more {X} f xs i x d below e each k within =
    subst (λ (y : X). get_or (set xs i y) k d ≡ f k) (sym e) (fill_by_more f xs i d below each k within)

-- a count after a round
abbrev pub next_count : List ℕ → ℕ → Option ℕ → ℕ → ℕ
next_count p x answer n = if is_seen (value p x) answer then n else n + 1

-- the count of a provider
pub get_or-counted : (p xs : List ℕ) (heard : List (Option ℕ)) (counts : List ℕ) (k : ℕ) → k < length xs →
    k < length heard → k < length counts →
    get_or (counts_after p xs heard counts) k 0 ≡ next_count p (get_or xs k 0) (get_or heard k None)
    (get_or counts k 0)
get_or-counted p [] heard counts k in_xs in_heard in_counts = absurd (omega (arith, in_xs))
get_or-counted p (x ∷ xs) [] counts k in_xs in_heard in_counts = absurd (omega (arith, in_heard))
get_or-counted p (x ∷ xs) (a ∷ heard) [] k in_xs in_heard in_counts = absurd (omega (arith, in_counts))
get_or-counted p (x ∷ xs) (a ∷ heard) (n ∷ counts) zero in_xs in_heard in_counts = refl
get_or-counted p (x ∷ xs) (a ∷ heard) (n ∷ counts) (suc k) in_xs in_heard in_counts = get_or-counted p xs
    heard counts k (omega (arith, in_xs)) (omega (arith, in_heard)) (omega (arith, in_counts))

-- counts by their places
pub counted-each : (p xs : List ℕ) (heard : List (Option ℕ)) (old new : List ℕ) (n : ℕ) → length xs ≡ n →
    length heard ≡ n → length old ≡ n → length new ≡ n →
    ((k : ℕ) → k < n → get_or new k 0 ≡ next_count p (get_or xs k 0) (get_or heard k None) (get_or old k 0)) →
    new ≡ counts_after p xs heard old
counted-each p xs heard old new n long_xs long_heard long_old long_new each =
    ext_get_or 0 new (counts_after p xs heard old) (long_new
    ∙ sym (length-counts_after p xs heard old ∙ long_old))
    (λ k below. each k (omega (arith, below, long_new))
    ∙ sym (get_or-counted p xs heard old k (omega (arith, below, long_new, long_xs))
    (omega (arith, below, long_new, long_heard)) (omega (arith, below, long_new, long_old))))

-- there is an answer without its mask for each that was heard
pub length-bare_answers : (o : Object) (c : Challenge) (a : ℕ) (heard : List (Option ℕ)) →
    length (bare_answers o c a heard) ≡ length heard
length-bare_answers o c a [] = refl
length-bare_answers o c a (x ∷ heard) = ap suc (length-bare_answers o c (a + 1) heard)

-- the answer of a provider without its mask sum
pub get_or-bare_answers : (o : Object) (c : Challenge) (a k : ℕ) (heard : List (Option ℕ)) →
    k < length heard →
    get_or (bare_answers o c a heard) k None ≡ bare_answer o c (a + k) (get_or heard k None)
get_or-bare_answers o c a k [] below = absurd (omega (arith, below))
get_or-bare_answers o c a zero (x ∷ heard) below =
    ap (λ j. bare_answer o c j x) (let e : a ≡ a + 0 = omega arith in e)
get_or-bare_answers o c a (suc k) (x ∷ heard) below =
    get_or-bare_answers o c (a + 1) k heard (omega (arith, below))
    ∙ ap (λ j. bare_answer o c j (get_or heard k None)) (let e : a + 1 + k ≡ a + suc k = omega arith in e)

-- answers by their places
pub bare_answers-each : (o : Object) (c : Challenge) (heard out : List (Option ℕ)) →
    length out ≡ length heard →
    ((k : ℕ) → k < length heard → get_or out k None ≡ bare_answer o c k (get_or heard k None)) →
    out ≡ bare_answers o c 0 heard
bare_answers-each o c heard out long each =
    ext_get_or None out (bare_answers o c 0 heard) (long ∙ sym (length-bare_answers o c 0 heard))
    (λ k below. let within : k < length heard = omega (arith, below, long) in
    each k within ∙ ap (λ j. bare_answer o c j (get_or heard k None)) (let e : k ≡ 0 + k = omega arith in e)
    ∙ sym (get_or-bare_answers o c 0 k heard within))

-- no count rises by more than one
counted-grow : (p xs : List ℕ) (heard : List (Option ℕ)) (counts rest : List ℕ) (j : ℕ) →
    get_or (counts_after p xs heard counts ++ rest) j 0 ≤ get_or (counts ++ rest) j 0 + 1
counted-grow p [] heard counts rest j = omega arith
counted-grow p (x ∷ xs) [] counts rest j = omega arith
counted-grow p (x ∷ xs) (a ∷ heard) [] rest j = omega arith
counted-grow p (x ∷ xs) (a ∷ heard) (n ∷ counts) rest zero =
    elim (is_seen (value p x) a) as (λ b. (if b then n else n + 1) ≤ n + 1)
    [ true ↦ omega arith | false ↦ omega arith ]
counted-grow p (x ∷ xs) (a ∷ heard) (n ∷ counts) rest (suc j) = counted-grow p xs heard counts rest j

-- a round raises a provider's count by one at most
pub counts-grow : (p xs : List ℕ) (heard : List (Option ℕ)) (by new : List ℕ) (n j : ℕ) →
    new ≡ counts_after p xs heard (take n by) → get_or (new ++ drop n by) j 0 ≤ get_or by j 0 + 1
counts-grow p xs heard by new n j is = subst (λ (front : List ℕ). get_or (front ++ drop n by) j 0 ≤ get_or by
    j 0 + 1) (sym is) (subst (λ (whole : List ℕ). get_or (counts_after p xs heard (take n by) ++ drop n by) j
    0 ≤ get_or whole j 0 + 1) (take-append-drop n by) (counted-grow p xs heard (take n by) (drop n by) j))
