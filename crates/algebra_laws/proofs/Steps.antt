-- Steps of loops over coefficients.
use Rattle.algebra_laws.proofs.Words.{◌≡◌, ◌≤◌, ◌<◌, ◌+◌, ℕ, zero, suc, sym, ap, refl, arith, List, [], ◌∷◌, ◌++◌, length, drop, take, set, get_or, Option, Some, None, cond, false, FieldOf, drop_all, value, plus, scale, root_times, agree, is_seen}

-- nothing can be dropped of nothing
drop-none : {A : Type 0} (k : ℕ) → drop {A = A} k [] ≡ []
drop-none zero = refl
drop-none (suc k) = refl

module _ {A : Type 0} (F : FieldOf A) where
  -- one coefficient more in the value
  pub value-drop : (p : List A) (k : ℕ) (x : A) → k < length p →
      value F (drop k p) x ≡ F.add (get_or p k F.zero) (F.mul x (value F (drop (suc k) p) x))
  unfolding value
  value-drop [] k x h = absurd (omega arith)
  value-drop (a ∷ p) zero x h = refl
  value-drop (a ∷ p) (suc k) x h = value-drop p k x (omega arith)

  -- the value past the end
  pub value-past : (p : List A) (k : ℕ) (x : A) → length p ≤ k → value F (drop k p) x ≡ F.zero
  unfolding value
  value-past [] zero x h = refl
  value-past [] (suc k) x h = refl
  value-past (a ∷ p) zero x h = absurd (omega arith)
  value-past (a ∷ p) (suc k) x h = value-past p k x (omega arith)

  -- a step of a loop that adds c times a polynomial in place
  pub add_scaled_step : (into from : List A) (c : A) (k : ℕ) → k < length into → k < length from →
      take k into ++ plus F (drop k into) (scale F c (drop k from)) ≡
      take (suc k) (set into k (F.add (get_or into k F.zero) (F.mul c (get_or from k F.zero)))) ++
      plus F (drop (suc k) (set into k (F.add (get_or into k F.zero) (F.mul c (get_or from k F.zero)))))
      (scale F c (drop (suc k) from))
  unfolding plus scale
  add_scaled_step [] from c k h e = absurd (omega arith)
  add_scaled_step (a ∷ p) [] c k h e = absurd (omega arith)
  add_scaled_step (a ∷ p) (b ∷ q) c zero h e = refl
  add_scaled_step (a ∷ p) (b ∷ q) c (suc k) h e =
      ap (λ t. a ∷ t) (add_scaled_step p q c k (omega arith) (omega arith))

  -- nothing added
  plus-nil : (p : List A) → plus F p [] ≡ p
  unfolding plus
  plus-nil [] = refl
  plus-nil (a ∷ p) = refl

  -- the end of that loop
  pub add_scaled_end : (into from : List A) (c : A) (k : ℕ) → length from ≤ k → length from ≤ length into →
      take k into ++ plus F (drop k into) (scale F c (drop k from)) ≡ into
  unfolding scale
  add_scaled_end into [] c zero h e = plus-nil into
  add_scaled_end into (b ∷ q) c zero h e = absurd (omega arith)
  add_scaled_end [] [] c (suc k) h e = plus-nil []
  add_scaled_end [] (b ∷ q) c (suc k) h e = absurd (omega arith)
  add_scaled_end (a ∷ p) [] c (suc k) h e =
      ap (λ t. a ∷ t) (rw (drop-none k) at (add_scaled_end p [] c k (omega arith) (omega arith)))
  add_scaled_end (a ∷ p) (b ∷ q) c (suc k) h e =
      ap (λ t. a ∷ t) (add_scaled_end p q c k (omega arith) (omega arith))

  -- a step of a loop that multiplies by x + r in place
  pub root_times_step : (p : List A) (r carry : A) (k : ℕ) → k < length p →
      take k p ++ root_times F r carry (drop k p) ≡
      take (suc k) (set p k (F.add (F.mul r (get_or p k F.zero)) carry)) ++
      root_times F r (get_or p k F.zero) (drop (suc k) (set p k (F.add (F.mul r (get_or p k F.zero)) carry)))
  unfolding root_times
  root_times_step [] r carry k h = absurd (omega arith)
  root_times_step (a ∷ p) r carry zero h = refl
  root_times_step (a ∷ p) r carry (suc k) h = ap (λ t. a ∷ t) (root_times_step p r carry k (omega arith))

  -- the end of that loop
  pub root_times_end : (p : List A) (r carry : A) (k : ℕ) → length p ≤ k →
      take k p ++ root_times F r carry (drop k p) ≡ p ++ carry ∷ []
  unfolding root_times
  root_times_end [] r carry zero h = refl
  root_times_end [] r carry (suc k) h = refl
  root_times_end (a ∷ p) r carry zero h = absurd (omega arith)
  root_times_end (a ∷ p) r carry (suc k) h = ap (λ t. a ∷ t) (root_times_end p r carry k (omega arith))

  -- one point more in the agreements
  pub agree_drop : (p xs : List A) (ss : List (Option A)) (k : ℕ) (s : Option A) → k < length xs →
      k < length ss → s ≡ get_or ss k s →
      agree F p (drop k xs) (drop k ss) ≡ cond (is_seen F (value F p (get_or xs k F.zero)) s) 1 0 + agree F p
      (drop (suc k) xs) (drop (suc k) ss)
  unfolding agree
  agree_drop p [] ss k s h e r = absurd (omega arith)
  agree_drop p (x ∷ xs) [] k s h e r = absurd (omega arith)
  agree_drop p (x ∷ xs) (t ∷ ss) zero s h e r =
      ap (λ (u : Option A). cond (is_seen F (value F p x) u) 1 0 + agree F p xs ss) (sym r)
  agree_drop p (x ∷ xs) (t ∷ ss) (suc k) s h e r = agree_drop p xs ss k s (omega arith) (omega arith) r

  -- no agreement past the end
  pub agree_past : (p xs : List A) (ss : List (Option A)) (k : ℕ) → length xs ≤ k →
      agree F p (drop k xs) (drop k ss) ≡ 0
  unfolding agree
  agree_past p xs ss k h = rw (drop_all k xs h) refl

  -- an absent symbol is not the value
  pub is_seen-none : (y : A) → is_seen F y None ≡ false
  unfolding is_seen
  is_seen-none y = refl

  -- a symbol is the value or not
  pub is_seen-some : (y s : A) → is_seen F y (Some s) ≡ F.eq s y
  unfolding is_seen
  is_seen-some y s = refl
