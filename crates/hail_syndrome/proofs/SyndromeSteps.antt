-- The steps of `add_powers` and `syndromes`.
use Rattle.hail_syndrome.proofs.Words.{◌≡◌, ◌≢◌, ◌≤◌, ◌<◌, ◌+◌, ◌⊎◌, inl, inr, ◌↔◌, ℕ, zero, suc, List, [], ◌∷◌, length, map, set, drop, get_or, add-one, sym, ◌∙◌, ap, subst, refl, arith, get_or-set_same, get_or-set_other, drop_all, fill_by_all, Each, Apart, v, ◌⊞◌, ◌⊡◌, solve, nim_add, nim_mul, nim_pow, nim_ring, multiplier, dot, syndromes_of, AreValues}
use Rattle.hail_syndrome.proofs.ZeroLaw.{values_from_zero, zero_from_values}

-- the first power
pub power_start : (c x : ℕ) → c ≡ nim_mul c (nim_pow x 0)
unfolding nim_pow
power_start c x = sym (nim_ring.mul_one c)

-- the next power
pub power_more : (c x k : ℕ) → nim_mul (nim_mul c (nim_pow x k)) x ≡ nim_mul c (nim_pow x (k + 1))
unfolding nim_pow
power_more c x k = solve nim_ring (c ∷ nim_pow x k ∷ x ∷ []) ((v 0 ⊡ v 1) ⊡ v 2) (v 0 ⊡ (v 2 ⊡ v 1)) refl
    ∙ ap (λ n. nim_mul c (nim_pow x n)) (sym (add-one k))

-- a summand more at a place
pub place_more : (old out : List ℕ) (c x k a term : ℕ) → k < length out → a ≡ get_or out k 0 →
    term ≡ nim_mul c (nim_pow x k) →
    ((j : ℕ) → j < k → get_or out j 0 ≡ nim_add (get_or old j 0) (nim_mul c (nim_pow x j))) →
    ((j : ℕ) → k ≤ j → get_or out j 0 ≡ get_or old j 0) → (j : ℕ) → j < k + 1 →
    get_or (set out k (nim_add a term)) j 0 ≡ nim_add (get_or old j 0) (nim_mul c (nim_pow x j))
place_more old out c x k a term lt read is done left j le = go (dec j k)
  where
    dec : (a b : ℕ) → (a ≡ b) ⊎ (a ≢ b)
    dec a b = grind arith

    go : (j ≡ k) ⊎ (j ≢ k) → get_or (set out k (nim_add a term)) j 0
        ≡ nim_add (get_or old j 0) (nim_mul c (nim_pow x j))
    go (inl e) = rw e (get_or-set_same out k (nim_add a term) 0 lt ∙ cc (read, is, left k (omega arith)))
    go (inr ne) = get_or-set_other out k j (nim_add a term) 0 ne ∙ done j (omega arith)

-- the places behind stay
pub place_left : (old out : List ℕ) (k a : ℕ) → ((j : ℕ) → k ≤ j → get_or out j 0 ≡ get_or old j 0) →
    (j : ℕ) → k + 1 ≤ j → get_or (set out k a) j 0 ≡ get_or old j 0
place_left old out k a left j le = get_or-set_other out k j a 0 (omega arith) ∙ left j (omega arith)

-- the sum from a place on
dot-drop : (f : ℕ → ℕ) (ps vs : List ℕ) (k : ℕ) → k < length ps → k < length vs →
    dot (map f (drop k ps)) (drop k vs) ≡ nim_add (nim_mul (f (get_or ps k 0)) (get_or vs k 0))
    (dot (map f (drop (suc k) ps)) (drop (suc k) vs))
unfolding dot
dot-drop f [] vs k h e = absurd (omega arith)
dot-drop f (p ∷ ps) [] k h e = absurd (omega arith)
dot-drop f (p ∷ ps) (y ∷ vs) zero h e = refl
dot-drop f (p ∷ ps) (y ∷ vs) (suc k) h e = dot-drop f ps vs k (omega arith) (omega arith)

-- the sum over no places
dot-none : (f : ℕ → ℕ) (vs : List ℕ) → dot (map f []) vs ≡ 0
unfolding dot
dot-none f vs = refl

-- no place is left
pub sum_past : (f : ℕ → ℕ) (ps vs : List ℕ) (k : ℕ) → length ps ≤ k → dot (map f (drop k ps)) (drop k vs) ≡ 0
sum_past f ps vs k h = rw (drop_all k ps h) (dot-none f (drop k vs))

-- one place more
pub sum_more : (u : ℕ → ℕ) (ps vs : List ℕ) (place next k x y m c old new : ℕ) → place < length ps →
    place < length vs → next ≡ place + 1 →
    x ≡ get_or ps place 0 → y ≡ get_or vs place 0 → m ≡ u (get_or ps place 0) → c ≡ nim_mul m y →
    old ≡ dot (map (λ x. nim_mul (u x) (nim_pow x k)) (drop next ps)) (drop next vs) →
    new ≡ nim_add old (nim_mul c (nim_pow x k)) →
    new ≡ dot (map (λ x. nim_mul (u x) (nim_pow x k)) (drop place ps)) (drop place vs)
sum_more u ps vs place next k x y m c old new lt_p lt_v is_next is_x is_y is_m is_c is_old is_new =
    is_new ∙ cc (is_c, is_m, is_x, is_y) ∙
    solve nim_ring (old ∷ u (get_or ps place 0) ∷ get_or vs place 0 ∷ nim_pow (get_or ps place 0) k ∷ [])
    (v 0 ⊞ ((v 1 ⊡ v 2) ⊡ v 3)) (((v 1 ⊡ v 3) ⊡ v 2) ⊞ v 0) refl ∙
    ap (nim_add (nim_mul (nim_mul (u (get_or ps place 0)) (nim_pow (get_or ps place 0) k))
    (get_or vs place 0)))
    (is_old ∙ ap (λ n. dot (map (λ x. nim_mul (u x) (nim_pow x k)) (drop n ps)) (drop n vs))
    (is_next ∙ add-one place)) ∙
    sym (dot-drop (λ x. nim_mul (u x) (nim_pow x k)) ps vs place lt_p lt_v)

-- the syndromes by their places
pub syndromes_by_all : (ps vs out : List ℕ) (n : ℕ) → length out ≡ n →
    ((k : ℕ) → k < n → get_or out k 0 ≡ dot (map (λ x. nim_mul (multiplier x ps) (nim_pow x k)) ps) vs) →
    out ≡ syndromes_of ps vs n
syndromes_by_all ps vs out n long each =
    fill_by_all (λ k. dot (map (λ x. nim_mul (multiplier x ps) (nim_pow x k)) ps) vs) out n 0 long each

-- the law, of the syndromes in memory
pub zero_law : (ps vs out : List ℕ) (keep m : ℕ) → Apart ps → length ps ≡ length vs → keep + m ≡ length vs →
    out ≡ syndromes_of ps vs m → Each (λ (s : ℕ). s ≡ 0) out ↔ AreValues ps vs keep
zero_law ps vs out keep m apart even room is = (
  (λ h. values_from_zero ps vs even apart keep m (room ∙ sym even)
      (subst (λ (o : List ℕ). Each (λ (s : ℕ). s ≡ 0) o) is h)),
  (λ h. subst (λ (o : List ℕ). Each (λ (s : ℕ). s ≡ 0) o) (sym is)
      (zero_from_values ps vs even apart keep m (room ∙ sym even) h)),
)
