-- Flagged providers: one provider more.
use Rattle.hail_replay.proofs.Words.{◌≡◌, ℕ, ◌+◌, ◌<◌, ◌≤◌, List, [], ◌∷◌, ◌++◌, length, take, get_or, refl, sym, ap, ◌∙◌, arith, take_more, append-nil, length-take-le, lt-ltb, flag_of, flagged_from}
use Rattle.std.proofs.Common.{append_assoc}
use Rattle.std.proofs.lemmas.Bool.Decides.{nat_tests}

-- one provider more, behind others
flagged_from-snoc : (t j : ℕ) (counts : List ℕ) (count : ℕ) →
    flagged_from t j (counts ++ count ∷ []) ≡ flagged_from t j counts ++ flag_of t (j + length counts) count
flagged_from-snoc t j [] count =
    let here : j ≡ j + 0 = omega arith in
    append-nil (flag_of t j count) ∙ ap (λ (k : ℕ). flag_of t k count) here
flagged_from-snoc t j (x ∷ counts) count =
    let same : (j + 1) + length counts ≡ j + length (x ∷ counts) = omega arith in
    ap (λ (rest : List ℕ). flag_of t j x ++ rest) (flagged_from-snoc t (j + 1) counts count)
    ∙ sym (append_assoc (flag_of t j x) (flagged_from t (j + 1) counts)
    (flag_of t ((j + 1) + length counts) count))
    ∙ ap (λ (k : ℕ). (flag_of t j x ++ flagged_from t (j + 1) counts) ++ flag_of t k count) same

-- one provider more
pub flagged_more : (t : ℕ) (counts : List ℕ) (place default : ℕ) → place < length counts
    → flagged_from t 0 (take (place + 1) counts) ≡ flagged_from t 0 (take place counts) ++ flag_of t place
    (get_or counts place default)
flagged_more t counts place default within =
    let front = take place counts in
    let count = get_or counts place default in
    let size : 0 + length front ≡ place =
    omega (arith, length-take-le place counts (omega (arith, within))) in
    ap (λ (cs : List ℕ). flagged_from t 0 cs) (take_more counts place default within)
    ∙ flagged_from-snoc t 0 front count
    ∙ ap (λ (k : ℕ). flagged_from t 0 front ++ flag_of t k count) size

-- a provider that is flagged
pub flagged_one : (t j count : ℕ) → t < count → flag_of t j count ≡ j ∷ []
flagged_one t j count above = rw (lt-ltb t count above) refl

-- a provider that is not
pub flagged_none : (t j count : ℕ) → count ≤ t → flag_of t j count ≡ []
flagged_none t j count below = grind (arith, nat_tests)
