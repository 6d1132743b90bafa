-- A round in which few answers are not right.
use Rattle.audit_verdict.proofs.Words.{◌≢◌, zero, suc, Bool, true, false, not, [], ◌∷◌, slice_get, Option, Some, option_and_then, arith, ap, sym, refl, ◌∙◌, get_or, inl, inr, length-map-range_with_len, get_or-map-range_with_len, nim_add, nim_laws, nim_ring, is_seen_over, value, agree, is_seen, Object, is_primary, point, points, columns, Challenge, honest_answer, right_answer, mask_sum, bare_answer, bare_answers, Sums, Decides, Judges, Apart-points, right_row, IsRightRow-right_row, answer_of, is_right, wrong_answers, DiffersOnce, count_of_provider}
use Rattle.std.specs.Prelude.{◌≡◌, ℕ, ◌+◌, ◌<◌, ◌≤◌, List, length, None, if◌then◌else◌}
use Rattle.std.specs.Option.{option_map}
use Rattle.hail_field.specs.Shape.{IsShape}
use Rattle.code_defs.specs.Points.{upto}
use Rattle.code_defs.specs.DispersalCode.{Accepts}
use Rattle.column_defs.specs.Forgeries.{count_of}
use Rattle.column_laws.proofs.Counts.{count_of-cover, agree-count}
use Rattle.dispersal_code.proofs.Unique.{same_value}
use Rattle.audit_verdict.proofs.Places.{get_or-counted, length-bare_answers, get_or-bare_answers}
use Rattle.audit_verdict.proofs.Picks.{honest-differ}

-- a value is seen where it is the symbol
pub seen-same : (y : ℕ) → is_seen y (Some y) ≡ true
unfolding is_seen_over
seen-same y = nim_laws.eq_refl y

-- and nowhere else
seen-is : (y : ℕ) (s : Option ℕ) → is_seen y s ≡ true → s ≡ Some y
unfolding is_seen_over
seen-is y None is = cc
seen-is y (Some x) is = ap Some (nim_laws.eq_true x y is)

unseen : (y : ℕ) (s : Option ℕ) → s ≢ Some y → is_seen y s ≡ false
unseen y s other = go (is_seen y s) refl
  where
    go : (b : Bool) → is_seen y s ≡ b → b ≡ false
    go true is = absurd (other (seen-is y s is))
    go false is = refl

-- a right answer is the right one
right-is : (o : Object) (bytes : List ℕ) (c : Challenge) (j : ℕ) (answer : Option ℕ) →
    is_right o bytes c j answer ≡ true → answer ≡ right_answer o bytes j c
right-is o bytes c j None is = cc
right-is o bytes c j (Some x) is = sym (seen-is x (right_answer o bytes j c) is)

-- an absent answer stays absent
pub bare-absent : (o : Object) (c : Challenge) (j : ℕ) → bare_answer o c j None ≡ None
bare-absent o c j = elim (is_primary o j) as
    (λ b. (if b then None else option_map (λ x. nim_add x (mask_sum o j c)) None) ≡ None)
    [ true ↦ refl | false ↦ refl ]

-- answers that are one without the mask sum are one
bare-same : (o : Object) (c : Challenge) (j : ℕ) (a b : Option ℕ) →
    bare_answer o c j a ≡ bare_answer o c j b → a ≡ b
bare-same o c j a b = go (is_primary o j)
  where
    m : ℕ
    m = mask_sum o j c

    off : (x : ℕ) → nim_add (nim_add x m) m ≡ x
    off x = nim_ring.add_assoc x m m ∙ ap (nim_add x) (nim_ring.add_self m) ∙ nim_ring.add_zero x

    unmasked : (x y : Option ℕ) → option_map (λ z. nim_add z m) x ≡ option_map (λ z. nim_add z m) y → x ≡ y
    unmasked None None e = refl
    unmasked None (Some y) e = cc
    unmasked (Some x) None e = cc
    unmasked (Some x) (Some y) e =
        let f : nim_add x m ≡ nim_add y m = cc in
        ap Some (sym (off x) ∙ ap (λ z. nim_add z m) f ∙ off y)

    go : (t : Bool) → (if t then a else option_map (λ x. nim_add x m) a)
        ≡ (if t then b else option_map (λ x. nim_add x m) b) → a ≡ b
    go true e = e
    go false e = unmasked a b e

-- what stands at a place of answers
slice_get-answer : (xs : List (Option ℕ)) (k : ℕ) →
    get_or xs k None ≡ option_and_then (λ s. s) (slice_get xs k)
slice_get-answer [] k = refl
slice_get-answer (x ∷ xs) zero = refl
slice_get-answer (x ∷ xs) (suc k) = slice_get-answer xs k

module _ (o : Object) (bytes : List ℕ) (c : Challenge) (heard : List (Option ℕ))
    (shape : IsShape o.shape.n o.shape.l o.shape.b) (some : 1 ≤ c.size) (size : c.size ≡ o.profile.size)
    (long : length heard ≡ o.shape.n) (few : wrong_answers o bytes c heard ≤ o.shape.b) where
  -- the answers without the mask sums
  bare : List (Option ℕ)
  bare = bare_answers o c 0 heard

  -- the polynomial of the right answers
  right : List ℕ
  right = right_row o bytes c

  right-value : (j : ℕ) → bare_answer o c j (right_answer o bytes j c) ≡ Some (value right (point o j))
  unfolding right
  right-value j = (IsRightRow-right_row o bytes c some size).values j

  bare-at : (j : ℕ) → j < o.shape.n → get_or bare j None ≡ bare_answer o c j (answer_of heard j)
  unfolding bare
  bare-at j below = get_or-bare_answers o c 0 j heard (omega (arith, below, long))
      ∙ ap (λ k. bare_answer o c k (get_or heard j None)) (let e : 0 + j ≡ j = omega arith in e)

  -- a right answer agrees
  right-agrees : (j : ℕ) → j < o.shape.n → answer_of heard j ≡ right_answer o bytes j c →
      is_seen (value right (point o j)) (get_or bare j None) ≡ true
  right-agrees j below is =
      ap (is_seen (value right (point o j))) (bare-at j below ∙ ap (bare_answer o c j) is ∙ right-value j)
      ∙ seen-same (value right (point o j))

  -- so all but b agree
  accepted : Accepts (points o) bare o.shape.l o.shape.b right
  unfolding right bare
  accepted =
      let agreeing = λ (j : ℕ). is_seen (value right (point o j)) (get_or bare j None) in
      let cover = count_of-cover (λ j. not (is_right o bytes c j (answer_of heard j))) agreeing 0 o.shape.n
      (λ j below is. right-agrees j (omega (arith, below))
      (right-is o bytes c j (answer_of heard j)
      (not-false (is_right o bytes c j (answer_of heard j)) is))) in
      let count : agree right (points o) bare ≡ count_of agreeing (upto o.shape.n) =
      agree-count right (point o) (λ j. get_or bare j None) 0 o.shape.n bare
      (λ k. ap (λ j. get_or bare j None) (let e : 0 + k ≡ k = omega arith in e) ∙ slice_get-answer bare k) in
      record {
        degree = (IsRightRow-right_row o bytes c some size).degree;
        agrees = omega (arith, cover, count, few, length-map-range_with_len (point o) 0 o.shape.n);
      }
    where
      not-false : (b : Bool) → not b ≡ false → b ≡ true
      not-false true e = refl
      not-false false e = cc

  -- so the polynomial of the right answers decides the round
  pub right-decides : Decides o c heard (right_row o bytes c)
  unfolding right bare
  right-decides = accepted

  -- the round is decided
  pub decided : (old new : Sums) → Judges o c heard old new → new.undecided ≡ old.undecided
  unfolding bare
  decided old new (inl (p, decides, is)) = ap (λ s. s.undecided) is
  decided old new (inr (none, is)) = absurd (none right accepted)

  -- by a polynomial with the same values
  values-same : (p : List ℕ) → Decides o c heard p → (x : ℕ) → value p x ≡ value right x
  unfolding bare
  values-same p decides x = same_value o.shape.n o.shape.l o.shape.b (points o) bare p right shape
      (Apart-points o (omega (arith, shape.1)))
      (length-map-range_with_len (point o) 0 o.shape.n ∙ sym (length-bare_answers o c 0 heard ∙ long))
      (length-bare_answers o c 0 heard ∙ long) decides accepted x

  -- the count of a provider after the round
  count-at : (old new : Sums) (j : ℕ) → length old.counts ≡ o.shape.n → Judges o c heard old new →
      j < o.shape.n →
      count_of_provider new j
      ≡ (if is_seen (value right (point o j)) (bare_answer o c j (answer_of heard j)) then count_of_provider
      old j else count_of_provider old j + 1)
  unfolding bare
  count-at old new j many (inr (none, is)) below = absurd (none right accepted)
  count-at old new j many (inl (p, decides, is)) below =
      let at : get_or (points o) j 0 ≡ point o j = get_or-map-range_with_len (point o) 0 o.shape.n j j 0 below
      (omega arith) in
      ap (λ s. count_of_provider s j) is
      ∙ get_or-counted p (points o) bare old.counts j
      (omega (arith, below, length-map-range_with_len (point o) 0 o.shape.n))
      (omega (arith, below, length-bare_answers o c 0 heard, long)) (omega (arith, below, many))
      ∙ (λ i. if is_seen (value p (at i)) (bare-at j below i) then count_of_provider old j
      else count_of_provider old j + 1)
      ∙ ap (λ y. if is_seen y (bare_answer o c j (answer_of heard j)) then count_of_provider old j
      else count_of_provider old j + 1) (values-same p decides (point o j))

  -- who answered right is not counted
  pub right-not_counted : (old new : Sums) (j : ℕ) → length old.counts ≡ o.shape.n →
      Judges o c heard old new → j < o.shape.n →
      answer_of heard j ≡ right_answer o bytes j c → count_of_provider new j ≡ count_of_provider old j
  right-not_counted old new j many judges below is = count-at old new j many judges below
      ∙ ap (λ b. if b then count_of_provider old j else count_of_provider old j + 1)
      (ap (is_seen (value right (point o j))) (ap (bare_answer o c j) is ∙ right-value j)
      ∙ seen-same (value right (point o j)))

  -- an answer that is another without its mask sum counts
  other-counted : (old new : Sums) (j : ℕ) → length old.counts ≡ o.shape.n → Judges o c heard old new →
      j < o.shape.n → bare_answer o c j (answer_of heard j) ≢ Some (value right (point o j)) →
      count_of_provider new j ≡ count_of_provider old j + 1
  other-counted old new j many judges below other = count-at old new j many judges below
      ∙ ap (λ b. if b then count_of_provider old j else count_of_provider old j + 1)
      (unseen (value right (point o j)) (bare_answer o c j (answer_of heard j)) other)

  -- who did not answer is counted
  pub absent-counted : (old new : Sums) (j : ℕ) → length old.counts ≡ o.shape.n → Judges o c heard old new →
      j < o.shape.n → answer_of heard j ≡ None → count_of_provider new j ≡ count_of_provider old j + 1
  absent-counted old new j many judges below is =
      other-counted old new j many judges below (λ e. let f : None ≡ Some (value right (point o j)) = sym
      (ap (bare_answer o c j) is ∙ bare-absent o c j) ∙ e in cc)

  -- who holds a block that is wrong in exactly one pick is counted
  pub differing-counted : (held : ℕ → Option (List ℕ)) (old new : Sums) (j : ℕ) →
      length old.counts ≡ o.shape.n → Judges o c heard old new → j < o.shape.n →
      answer_of heard j ≡ honest_answer c held → DiffersOnce o bytes j c held →
      count_of_provider new j ≡ count_of_provider old j + 1
  differing-counted held old new j many judges below is once = other-counted old new j many judges below
      (λ e. honest-differ c held (λ stripe. Some (columns o bytes j stripe)) once.pick once.picked once.others
      once.differs (λ none. let f : None ≡ Some (value right (point o j)) = sym
      (ap (bare_answer o c j) none ∙ bare-absent o c j) ∙ right-value j in cc)
      (bare-same o c j (honest_answer c held) (right_answer o bytes j c)
      (sym (ap (bare_answer o c j) is) ∙ e ∙ sym (right-value j))))
