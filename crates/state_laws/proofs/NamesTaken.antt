-- How many names are taken: names that stand once each and all stand among others are no more than those.
use Rattle.state_laws.proofs.Words.{◌≡◌, suc, Bool, true, false, cond, ◌⊎◌, ◌||◌, length, refl, ap, sym, subst, ◌∙◌, inl, inr, arith, is_some, list_any, cases_Bool, false≢true, Record, File, is_same_name, files_of, file_of, find_file, are_ordered, same-eq, same-refl, find-files_of, same-sym, before-irrefl, is_below, ordered-files_of, Aim, ToPut, aim_of, Job, job_of, puts_name, aims_of, is_name_among, with_name, names_in, with_puts, cond_true, cond_false, any_job, any-aims}
use Rattle.std.proofs.Common.{ℕ, ◌+◌, ◌≤◌, List, [], ◌∷◌, Some}

-- names that stand once each
abbrev pub AreOnce : List (List ℕ) → Type 0
AreOnce [] = Unit {0}
AreOnce (x ∷ xs) = (is_name_among xs x ≡ false) × AreOnce xs

-- ---- what is listed

abbrev names_without : List (List ℕ) → List ℕ → List (List ℕ)
names_without [] x = []
names_without (y ∷ ys) x = cond (is_same_name x y) (names_without ys x) (y ∷ names_without ys x)

length-without_le : (ys : List (List ℕ)) (x : List ℕ) → length (names_without ys x) ≤ length ys
length-without_le [] x = omega arith
length-without_le (y ∷ ys) x = grind (arith, length-without_le ys x)

length-without_listed : (ys : List (List ℕ)) (x : List ℕ) → is_name_among ys x ≡ true →
    length (names_without ys x) + 1 ≤ length ys
length-without_listed [] x h = absurd (false≢true h)
length-without_listed (y ∷ ys) x h = grind (arith, h, length-without_listed ys x, length-without_le ys x)

listed-without : (ys : List (List ℕ)) (x n : List ℕ) → is_same_name x n ≡ false →
    is_name_among (names_without ys x) n ≡ is_name_among ys n
listed-without [] x n f = refl
listed-without (y ∷ ys) x n f = grind (arith, f, listed-without ys x n f, same-eq x y, same-sym n x)

-- names that stand once each and all stand among others are no more than those
pub fewer : (xs ys : List (List ℕ)) → AreOnce xs →
    ((n : List ℕ) → is_name_among xs n ≡ true → is_name_among ys n ≡ true) → length xs ≤ length ys
fewer [] ys o h = omega arith
fewer (x ∷ xs) ys o h = (let l = length-without_listed ys x (h x (grind (arith, same-refl x))) in
    omega (arith, fewer xs (names_without ys x) o.1 (λ n i. later n i (cases_Bool (is_same_name x n))), l))
  where
    later : (n : List ℕ) → is_name_among xs n ≡ true →
        (is_same_name x n ≡ true) ⊎ (is_same_name x n ≡ false) → is_name_among (names_without ys x) n ≡ true
    later n i (inl t) = absurd (false≢true (sym o.0 ∙ (rw (← (same-eq x n t)) at i)))
    later n i (inr f) = listed-without ys x n f ∙ h n (grind arith)

listed-with_name : (names : List (List ℕ)) (name n : List ℕ) →
    is_name_among (with_name names name) n ≡ (is_same_name n name || is_name_among names n)
listed-with_name names name n = grind (arith, same-eq n name)

once-with_name : (names : List (List ℕ)) (name : List ℕ) → AreOnce names → AreOnce (with_name names name)
once-with_name names name o = elim (cases_Bool (is_name_among names name)) [
  | inl t ↦ subst AreOnce (sym (cond_true (is_name_among names name) names (name ∷ names) t)) o
  | inr f ↦ subst AreOnce (sym (cond_false (is_name_among names name) names (name ∷ names) f)) (f, o)
]

once-with_puts : (names : List (List ℕ)) (aims : List Aim) → AreOnce names → AreOnce (with_puts names aims)
once-with_puts names [] o = o
once-with_puts names (ToPut name size ∷ aims) o =
    once-with_name (with_puts names aims) name (once-with_puts names aims o)
once-with_puts names (aim ∷ aims) o = once-with_puts names aims o

-- a name is listed with those of puts exactly if a put has it or it was listed
pub listed-with_puts : (names : List (List ℕ)) (aims : List Aim) (n : List ℕ)
    → is_name_among (with_puts names aims) n ≡ (list_any (puts_name n) aims || is_name_among names n)
listed-with_puts names [] n = refl
listed-with_puts names (ToPut name size ∷ aims) n = listed-with_name (with_puts names aims) name n
    ∙ (ap (λ b. is_same_name n name || b) (listed-with_puts names aims n)
    ∙ join (is_same_name n name) (list_any (puts_name n) aims) (is_name_among names n))
  where
    join : (a b c : Bool) → (a || (b || c)) ≡ ((a || b) || c)
    join true b c = refl
    join false b c = refl
listed-with_puts names (aim ∷ aims) n = listed-with_puts names aims n

-- a job of these puts under a name
abbrev pub are_put : List ℕ → List Job → Bool
are_put n js = list_any (λ (j : Job). puts_name n (aim_of j.kind)) js

-- ---- the names of files

below-listed : (fs : List File) (name : List ℕ) → is_below name fs ≡ true →
    is_name_among (names_in fs) name ≡ false
below-listed [] name h = refl
below-listed (f ∷ fs) name h = grind (arith, h, below-listed fs name, same-eq name f.name, before-irrefl name)

once-ordered : (fs : List File) → are_ordered fs ≡ true → AreOnce (names_in fs)
once-ordered [] h = tt
once-ordered (f ∷ fs) h = (below-listed fs f.name (grind (arith, h)), once-ordered fs (grind (arith, h)))

-- the names of the files in effect differ from each other
pub once-files : (rs : List Record) → AreOnce (names_in (files_of rs))
once-files rs = once-ordered (files_of rs) (ordered-files_of rs)

-- a name is listed exactly if a file of it is found
pub listed-files : (fs : List File) (n : List ℕ) → is_name_among (names_in fs) n ≡ is_some (find_file fs n)
listed-files [] n = refl
listed-files (f ∷ fs) n = grind (arith, listed-files fs n, same-sym n f.name)

-- a name is listed exactly if a file of it is in effect
pub listed-files_of : (rs : List Record) (n : List ℕ) →
    is_name_among (names_in (files_of rs)) n ≡ is_some (file_of rs n)
listed-files_of rs n = listed-files (files_of rs) n ∙ ap is_some (find-files_of rs n)

-- there are as many names as files
pub length-names_in : (fs : List File) → length (names_in fs) ≡ length fs
length-names_in [] = refl
length-names_in (f ∷ fs) = ap suc (length-names_in fs)

-- ---- the names that are taken

-- the names of the files in effect and of the puts that run
abbrev pub taken_by : List Record → List Job → List (List ℕ)
taken_by rs js = with_puts (names_in (files_of rs)) (aims_of js)

-- the names that are taken stand once each
pub once-taken : (rs : List Record) (js : List Job) → AreOnce (taken_by rs js)
once-taken rs js = once-with_puts (names_in (files_of rs)) (aims_of js) (once-files rs)

-- a name is taken exactly if a put has it or a file of it is in effect
pub listed-taken : (rs : List Record) (js : List Job) (n : List ℕ) →
    is_name_among (taken_by rs js) n ≡ (are_put n js || is_some (file_of rs n))
listed-taken rs js n = listed-with_puts (names_in (files_of rs)) (aims_of js) n
    ∙ (ap (λ b. b || is_name_among (names_in (files_of rs)) n) (any-aims (puts_name n) js)
    ∙ ap (λ b. are_put n js || b) (listed-files_of rs n))

-- names that are taken now and were taken before are no more than before
pub taken-fewer : (rs more : List Record) (js now : List Job) →
    ((n : List ℕ) → (are_put n now || is_some (file_of more n)) ≡ true →
    (are_put n js || is_some (file_of rs n)) ≡ true) →
    length (taken_by more now) ≤ length (taken_by rs js)
taken-fewer rs more js now h = fewer (taken_by more now) (taken_by rs js) (once-taken more now)
    (λ n i. listed-taken rs js n ∙ h n (sym (listed-taken more now n) ∙ i))

-- a job that runs puts under its name
pub put-in : (n : List ℕ) (js : List Job) (k : ℕ) (j : Job) → job_of js k ≡ Some j →
    puts_name n (aim_of j.kind) ≡ true → are_put n js ≡ true
put-in n js k j runs h = elim (cases_Bool (are_put n js)) [
  | inl t ↦ t
  | inr f ↦ absurd (false≢true (sym (any_job (λ (x : Job). puts_name n (aim_of x.kind)) js k j runs f) ∙ h))
]
