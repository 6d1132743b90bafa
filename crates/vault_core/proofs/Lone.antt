-- An upgrade is the only job that runs.
use Rattle.vault_core.proofs.Words.{◌≡◌, ℕ, zero, suc, ◌≤◌, Bool, true, false, List, [], ◌∷◌, ◌++◌, length, map, Some, None, refl, sym, ap, ◌∙◌, inl, inr, arith, slice_get, slice_set, remove, sum_by, list_any, cases_Bool, false≢true, ltb-false, length-map, length-set, sum_by-cons, Aim, ToUpgrade, is_upgrade, are_jobs_in_the_way, CoreJob, HasLoneUpgrade, is_upgrading}
use Rattle.std.proofs.Common.{◌||◌, length-append}

-- another job for the same end in place of one
pub any_set : {X : Type 0} (p : X → Bool) (xs : List X) (i : ℕ) (x y : X) → slice_get xs i ≡ Some x →
    p y ≡ p x → list_any p (slice_set xs i y) ≡ list_any p xs
any_set p (z ∷ xs) zero x y g e = (let f = g in ap (λ b. b || list_any p xs) (e ∙ ap p (sym cc)))
any_set p (z ∷ xs) (suc i) x y g e = ap (λ b. p z || b) (any_set p xs i x y g e)
any_set p [] _ x y g e = refl

or_right : (a : Bool) {b : Bool} → b ≡ true → (a || b) ≡ true
or_right true h = refl
or_right false h = h

-- a list with one less has no more
pub any_remove : {X : Type 0} (p : X → Bool) (xs : List X) (i : ℕ) → list_any p (remove xs i) ≡ true →
    list_any p xs ≡ true
any_remove p [] zero h = h
any_remove p [] (suc i) h = h
any_remove p (z ∷ xs) zero h = or_right (p z) h
any_remove p (z ∷ xs) (suc i) h = elim (cases_Bool (p z)) [
  | inl t ↦ ap (λ (b : Bool). b || list_any p xs) t
  | inr f ↦ ap (λ (b : Bool). b || list_any p xs) f
      ∙ any_remove p xs i (sym (ap (λ (b : Bool). b || list_any p (remove xs i)) f) ∙ h)
]

length_less : {X : Type 0} (xs : List X) (i : ℕ) → length (remove xs i) ≤ length xs
length_less [] zero = omega arith
length_less [] (suc i) = omega arith
length_less (z ∷ xs) zero = omega arith
length_less (z ∷ xs) (suc i) = (let h = length_less xs i in omega (arith, h))

-- so it stays
pub lone_less : (js : List CoreJob) (i : ℕ) → HasLoneUpgrade js → HasLoneUpgrade (remove js i)
lone_less js i h = λ e. (let a = h (any_remove is_upgrading js i e) in let b = length_less js i in
    omega (arith, a, b))

pub lone_set : (js : List CoreJob) (i : ℕ) (x y : CoreJob) → slice_get js i ≡ Some x →
    is_upgrading y ≡ is_upgrading x → HasLoneUpgrade js → HasLoneUpgrade (slice_set js i y)
lone_set js i x y g e h = λ u.
    (omega (arith, h (sym (any_set is_upgrading js i x y g e) ∙ u), length-set js i y))

-- one of a list is among it
pub any_here : {X : Type 0} (p : X → Bool) (xs : List X) (i : ℕ) (x : X) → slice_get xs i ≡ Some x →
    p x ≡ true → list_any p xs ≡ true
any_here p [] i x g e = (let f : None ≡ Some x = g in cc)
any_here p (z ∷ xs) zero x g e =
    (let f : Some z ≡ Some x = g in let s : z ≡ x = cc in ap (λ b. b || list_any p xs) (ap p s ∙ e))
any_here p (z ∷ xs) (suc i) x g e = or_right (p z) (any_here p xs i x g e)

-- the sum over a lone job in whose place stands one that counts nothing
pub lone_sum : {X : Type 0} (f : X → ℕ) (xs : List X) (i : ℕ) (x y : X) → slice_get xs i ≡ Some x →
    length xs ≤ 1 → f y ≡ 0 → sum_by f (slice_set xs i y) ≡ 0
lone_sum f (k ∷ []) zero x y g l z = (let a = sum_by-cons f y [] in let b : sum_by f [] ≡ 0 = refl in
    omega (arith, a, b, z))
lone_sum f (k ∷ []) (suc i) x y g l z = (let e : None ≡ Some x = g in cc)
lone_sum f (k ∷ m ∷ xs) i x y g l z = absurd (omega (arith, l))
lone_sum f [] _ x y g l z = refl

any_push : {X : Type 0} (p : X → Bool) (xs : List X) (y : X) → list_any p xs ≡ false →
    list_any p (xs ++ y ∷ []) ≡ true → p y ≡ true
any_push p [] y n h = by (p y) h
  where
    by : (b : Bool) → (b || false) ≡ true → b ≡ true
    by true e = refl
    by false e = e
any_push p (x ∷ xs) y n h = elim (cases_Bool (p x)) [
  | inl t ↦ (cc (sym (ap (λ (b : Bool). b || list_any p xs) t) ∙ n))
  | inr f ↦ any_push p xs y (sym (ap (λ b. b || list_any p xs) f) ∙ n)
      (sym (ap (λ b. b || list_any p (xs ++ y ∷ [])) f) ∙ h)
]

-- only an upgrade upgrades, and it begins where no job runs
none_before : (aim : Aim) (n : ℕ) (aims : List Aim) → is_upgrade aim ≡ true →
    are_jobs_in_the_way n aims aim ≡ false → length aims ≤ 0
none_before ToUpgrade n aims u w = ltb-false 0 (length aims) w
none_before aim n aims u w = absurd (false≢true u)

-- it is so behind a begin
pub lone_more : (js : List CoreJob) (y : CoreJob) → list_any is_upgrading js ≡ false →
    are_jobs_in_the_way 8 (map (λ (j : CoreJob). j.plan.aim) js) y.plan.aim ≡ false →
    HasLoneUpgrade (js ++ y ∷ [])
lone_more js y n w = λ e. (let a = none_before y.plan.aim 8 (map (λ j. j.plan.aim) js)
    (any_push is_upgrading js y n e) w in
    let b = length-map js (λ j. j.plan.aim) in
    let c = length-append js (y ∷ []) in
    let o : length (y ∷ []) ≡ 1 = refl in omega (arith, a, b, c, o))
