-- Lists that are filled place by place.
use Rattle.column_codec.proofs.Words.{zero, nat_eq, arith, ap, sym, refl, ◌∙◌, get_or, set, subst, mul-le-mul, mul-le-mul_right, take_at, take_more_set, map-range_with_len_more, upto, get_or-set_other, length-set, get_or-set_at}
use Rattle.std.specs.Prelude.{◌≡◌, ℕ, suc, ◌+◌, ◌*◌, ◌<◌, ◌≤◌, ◌++◌, ◌∷◌, [], Bool, true, false, List, length, map, take, drop}
use Rattle.std.proofs.Common.{eqb-true}

-- one place more at which a fact holds
pub held_more : {X : Type 0} (P : ℕ → X → Type 0) (xs : List X) (i at : ℕ) (x d : X) →
    ((j : ℕ) → j < i → P j (get_or xs j d)) → at ≡ i → i < length xs → P i x →
    (j : ℕ) → j < i + 1 → P j (get_or (set xs at x) j d)
held_more {X} P xs i at x d each is below here j within = go (nat_eq j i) refl
  where
    go : (b : Bool) → nat_eq j i ≡ b → P j (get_or (set xs at x) j d)
    go true same =
        let e : j ≡ i = eqb-true j i same in
        subst (λ (y : X). P j y) (sym (get_or-set_at xs at j x d (omega arith) (omega arith)))
        (subst (λ (k : ℕ). P k x) (sym e) here)
    go false differ =
        let other : j ≡ i → ⊥ = λ h. grind (arith, differ, h) in
        subst (λ (y : X). P j y) (sym (get_or-set_other xs at j x d (λ h. other (omega (arith, h)))))
        (each j (let n : j ≡ i → ⊥ = other in omega arith))

-- one place more
pub each_more : {X : Type 0} (xs : List X) (f : ℕ → X) (i at : ℕ) (x d : X) →
    ((j : ℕ) → j < i → get_or xs j d ≡ f j) → at ≡ i → i < length xs → x ≡ f i →
    (j : ℕ) → j < i + 1 → get_or (set xs at x) j d ≡ f j
each_more {X} xs f i at x d each is below e =
    held_more (λ (j : ℕ) (y : X). y ≡ f j) xs i at x d each is below e

-- the place of a symbol among the blocks
pub index_within : (l keep j place n : ℕ) → n ≡ l * keep → j < l → place < keep → j * keep + place < n
index_within l keep j place n long below within =
    let more : suc j * keep ≤ l * keep = mul-le-mul_right keep below in
    let split : suc j * keep ≡ j * keep + keep = grind arith in
    omega (arith, long, more, split, within)

-- one place more of a list that a function makes
pub filled_more : {X : Type 0} (out : List X) (f : ℕ → X) (i : ℕ) (x : X) → i < length out →
    take i out ≡ map f (upto i) → x ≡ f i → take (i + 1) (set out i x) ≡ map f (upto (i + 1))
filled_more {X} out f i x below filled e = take_more_set out i x below
    ∙ ap (λ (l : List X). l ++ x ∷ []) filled
    ∙ ap (λ (y : X). map f (upto i) ++ y ∷ []) e
    ∙ sym (map-range_with_len_more f 0 i i (omega arith))

-- what is left in the place of a list of the same length
pub rewritten : {X : Type 0} (new rest : List X) (len : ℕ) → len ≡ length new → take len (new ++ rest) ≡ new
rewritten [] rest len e = ap (λ (n : ℕ). take n rest) e
rewritten {X} (x ∷ xs) rest zero e = absurd (omega (arith, e))
rewritten {X} (x ∷ xs) rest (suc n) e = ap (λ (l : List X). x ∷ l) (rewritten xs rest n (omega (arith, e)))

-- what was written over a whole vector is what it holds
pub written_whole : {X : Type 0} (old here new : List X) (size : ℕ) → length new ≡ length here
    → length here ≡ size → take size (new ++ drop (length new) old) ≡ new
written_whole old here new size same whole = take_at new (drop (length new) old) size (same ∙ whole)

-- the other places keep their sizes
pub sizes_stay : (out : List (List ℕ)) (size j : ℕ) (x : List ℕ) →
    ((k : ℕ) → j ≤ k → k < length out → length (get_or out k []) ≡ size) →
    (k : ℕ) → j + 1 ≤ k → k < length (set out j x) → length (get_or (set out j x) k []) ≡ size
sizes_stay out size j x sizes k above below =
    ap length (get_or-set_other out j k x [] (λ e. absurd (omega (arith, e, above))))
    ∙ sizes k (omega (arith, above)) (omega (arith, below, length-set out j x))

-- a stripe has at most 1,248 symbols
pub stripe_small : (n l b keep : ℕ) → n ≤ 16 → 1 ≤ b → l + 2 * b + 1 ≤ n → keep ≤ 96 → l * keep ≤ 1248
stripe_small n l b keep few some fits small =
    let wide : l ≤ 13 = omega (arith, few, some, fits) in
    let most : l * keep ≤ 13 * 96 = mul-le-mul wide small in
    omega (arith, most)

-- one more behind a list that a function makes
pub appended_more : {X : Type 0} (out : List X) (f : ℕ → X) (i : ℕ) (x : X) → out ≡ map f (upto i) → x ≡ f i →
    out ++ x ∷ [] ≡ map f (upto (i + 1))
appended_more {X} out f i x filled e =
    ap (λ (l : List X). l ++ x ∷ []) filled ∙ ap (λ (y : X). map f (upto i) ++ y ∷ []) e
    ∙ sym (map-range_with_len_more f 0 i i (omega arith))
