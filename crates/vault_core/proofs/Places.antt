-- The place of the job of a number.
use Rattle.vault_core.proofs.Words.{◌≡◌, ℕ, suc, ◌+◌, ◌<◌, Bool, cond, List, [], ◌∷◌, Some, None, length, map, refl, ap, sym, subst, ◌∙◌, inl, inr, arith, ◌==◌, nat_lt, slice_get, position, list_any, position_or_len, cases_Bool, cases_lt, lt-ltb, le-ltb, eqb-true, eq-eqb, false≢true, slice_get_past, length-map, CoreJob, job_in}
use Rattle.std.specs.Prelude.{◌||◌, not}
use Rattle.vault_core.proofs.Pairs.{IsFirst}

place_map : {X Y : Type 0} (f : X → Y) (p : Y → Bool) (xs : List X) →
    position_or_len p (map f xs) ≡ position_or_len (λ x. p (f x)) xs
place_map f p [] = refl
place_map f p (x ∷ xs) = ap (λ k. cond (not (p (f x))) (1 + k) 0) (place_map f p xs)

-- the place of the first that fits is the same before a map and after it
pub position-map : {X Y : Type 0} (f : X → Y) (p : Y → Bool) (xs : List X) →
    position (λ x. p (f x)) xs ≡ position p (map f xs)
position-map f p xs = sym (
    ap (λ k. cond (nat_lt k (length (map f xs))) (Some k) None) (place_map f p xs)
    ∙ ap (λ m. cond (nat_lt (position_or_len (λ x. p (f x)) xs) m)
    (Some (position_or_len (λ x. p (f x)) xs)) None) (length-map xs f)
    )

-- whether one fits is the same before a map and after it
pub any-map : {X Y : Type 0} (f : X → Y) (p : Y → Bool) (xs : List X) →
    list_any (λ x. p (f x)) xs ≡ list_any p (map f xs)
any-map f p [] = refl
any-map f p (x ∷ xs) = ap (λ b. p (f x) || b) (any-map f p xs)

in_is : (cs : List CoreJob) (k : ℕ) → job_in cs k
    ≡ slice_get cs (position_or_len (λ (j : CoreJob). j.number == k) cs)
in_is [] k = refl
in_is (c ∷ cs) k = elim (cases_Bool (c.number == k)) [
  | inl t ↦ rw t refl
  | inr f ↦ (let m : suc (position_or_len (λ j. j.number == k) cs)
      ≡ 1 + position_or_len (λ j. j.number == k) cs = omega arith in
      rw f (in_is cs k ∙ ap (slice_get (c ∷ cs)) m))
]

-- the job of a number stands at its place
pub found_at : (cs : List CoreJob) (k : ℕ) {place : ℕ} →
    position (λ (j : CoreJob). j.number == k) cs ≡ Some place → job_in cs k ≡ slice_get cs place
found_at cs k {place} e = elim (cases_lt (position_or_len (λ j. j.number == k) cs) (length cs)) [
  | inl l ↦ (let f : Some (position_or_len (λ j. j.number == k) cs) ≡ Some place =
      sym (ap (λ b. cond b (Some (position_or_len (λ j. j.number == k) cs)) None)
      (lt-ltb _ _ l)) ∙ e in
      let g : position_or_len (λ j. j.number == k) cs ≡ place = cc in in_is cs k
      ∙ ap (slice_get cs) g)
  | inr l ↦ (let f : None ≡ Some place =
      sym (ap (λ b. cond b (Some (position_or_len (λ j. j.number == k) cs)) None)
      (le-ltb _ _ l)) ∙ e in cc)
]

-- a number that has no place among the jobs is that of no job
pub found_none : (cs : List CoreJob) (k : ℕ) → position (λ (j : CoreJob). j.number == k) cs ≡ None →
    job_in cs k ≡ None
found_none cs k e = elim (cases_lt (position_or_len (λ j. j.number == k) cs) (length cs)) [
  | inl l ↦ (cc (sym (ap (λ (b : Bool). cond b (Some (position_or_len (λ (j : CoreJob). j.number == k) cs))
      None)
      (lt-ltb _ _ l)) ∙ e))
  | inr l ↦ in_is cs k ∙ slice_get_past cs (position_or_len (λ j. j.number == k) cs) l
]

-- the place that is found is the first of its number
pub first_of_position : (cs : List CoreJob) (k place : ℕ) →
    position (λ (j : CoreJob). j.number == k) cs ≡ Some place → IsFirst cs k place
first_of_position cs k place e =
    elim (cases_lt (position_or_len (λ j. j.number == k) cs) (length cs)) [
      | inl l ↦ (let f : Some (position_or_len (λ j. j.number == k) cs) ≡ Some place =
          sym (ap (λ b. cond b (Some (position_or_len (λ j. j.number == k) cs)) None)
          (lt-ltb _ _ l)) ∙ e in
          let g : position_or_len (λ j. j.number == k) cs ≡ place = cc in
          subst (IsFirst cs k) g (first cs l))
      | inr l ↦ (let f : None ≡ Some place =
          sym (ap (λ b. cond b (Some (position_or_len (λ j. j.number == k) cs)) None)
          (le-ltb _ _ l)) ∙ e in cc)
    ]
  where
    first : (xs : List CoreJob) → position_or_len (λ j. j.number == k) xs < length xs →
        IsFirst xs k (position_or_len (λ j. j.number == k) xs)
    first [] l = absurd (omega arith)
    first (x ∷ xs) l = elim (cases_Bool (x.number == k)) [
      | inl t ↦ subst (λ b. IsFirst (x ∷ xs) k (cond (not b) (1 + position_or_len (λ j. j.number == k) xs) 0))
          (sym t) (eqb-true x.number k t)
      | inr f ↦ (let m : suc (position_or_len (λ j. j.number == k) xs)
          ≡ 1 + position_or_len (λ j. j.number == k) xs = omega arith in
          let less : 1 + position_or_len (λ j. j.number == k) xs < length (x ∷ xs) =
          subst (λ b. cond (not b) (1 + position_or_len (λ j. j.number == k) xs)
          0 < length (x ∷ xs)) f l in
          subst (λ b. IsFirst (x ∷ xs) k
          (cond (not b) (1 + position_or_len (λ j. j.number == k) xs) 0)) (sym f)
          (subst (IsFirst (x ∷ xs) k) m
          (((λ n. false≢true (sym f ∙ eq-eqb x.number k n)), first xs (omega arith)))))
    ]
