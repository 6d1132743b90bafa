-- How a new job is made, piece by piece.
use Rattle.vault_core.proofs.Words.{◌≡◌, ℕ, zero, suc, ◌+◌, ◌-◌, ◌<◌, ◌≤◌, Bool, true, false, List, [], ◌∷◌, ◌++◌, Some, length, take, get_or, inl, inr, refl, ap, sym, subst, ◌∙◌, arith, nat_lt, ◌==◌, slice_get, if◌then◌else◌, cases_Bool, cases_lt, le-ltb, nat_tests, drop-get, get_or-zeros, Setup, File, length-take-le, get_or_past, Counts, counted, IsPadded, Wish, Task, core_pins, flag_at, Kept, due_number, pin_by, pin_each, is_rewriter, rewrites_from, pin_of_file, subject_for, stripes_in, turns_for, tasks_made, targets_of}
use Rattle.std.proofs.Common.{Option, drop}
use Rattle.std.specs.Prelude.{replicate}
use Rattle.vault_core.specs.declared.pinned.Pinned.{Pinned}
use Rattle.vault_core.specs.declared.wish.Wish.TheVariants as wish
use Rattle.vault_core.proofs.Rests.{rewrites_take, rewrites_skip}

-- ---- flags

read_taken : (n k : ℕ) (xs : List ℕ) (j : ℕ) → drop n xs ≡ replicate k 0 →
    get_or (take n xs) j 0 ≡ get_or xs j 0
read_taken zero k xs j e = sym (ap (λ ys. get_or ys j 0) e ∙ get_or-zeros k j)
read_taken (suc n) k (x ∷ xs) (suc j) e = read_taken n k xs j e
read_taken (suc n) k _ _ e = refl

-- a provider is flagged by its own count, as kept or as counted
pub flags_read : (counts : Counts) (tolerance j : ℕ) (b : Bool) → IsPadded counts →
    b ≡ nat_lt tolerance (get_or counts.by j 0) → b ≡ nat_lt tolerance (get_or (counted counts) j 0)
flags_read counts tolerance j b padded e =
    e ∙ ap (nat_lt tolerance) (sym (read_taken counts.n (16 - counts.n) counts.by j padded.zeros))

-- a flagged provider adds one to the stores of a repair
pub rewrites-flagged : (j n : ℕ) (fl : List Bool) → j < n → flag_at fl j ≡ true →
    length (rewrites_from j n fl 0 0) ≡ 1 + length (rewrites_from (j + 1) n fl 0 0)
rewrites-flagged j n fl l f = ap length (rewrites_take j n fl 0 0 l f)
    ∙ (omega arith)

-- a provider that is not flagged adds none to the stores of a repair
pub rewrites-unflagged : (j n : ℕ) (fl : List Bool) → j < n → flag_at fl j ≡ false →
    length (rewrites_from j n fl 0 0) ≡ length (rewrites_from (j + 1) n fl 0 0)
rewrites-unflagged j n fl l f = ap length (rewrites_skip j n fl 0 0 l f)

flag_past : (fl : List Bool) (j : ℕ) → length fl ≤ j → flag_at fl j ≡ false
flag_past (x ∷ fl) zero l = absurd (omega arith)
flag_past (x ∷ fl) (suc j) l = flag_past fl j (omega arith)
flag_past [] _ l = refl

-- so is one that there is not
pub flags_all : (counts : Counts) (tolerance : ℕ) (fl : List Bool) → IsPadded counts → length fl ≡ 16 →
    ((k : ℕ) → k < 16 → flag_at fl k ≡ nat_lt tolerance (get_or counts.by k 0)) → (j : ℕ) →
    flag_at fl j ≡ nat_lt tolerance (get_or (counted counts) j 0)
flags_all counts tolerance fl padded long h j = elim (cases_lt j 16) [
  | inl l ↦ flags_read counts tolerance j (flag_at fl j) padded (h j l)
  | inr l ↦ (let few : length (counted counts) ≤ 16 =
      let e = length-take-le counts.n counts.by
      (subst (λ k. counts.n ≤ k) (sym padded.room) padded.at_most) in let m = padded.at_most in
      omega (arith, e, m) in
      flag_past fl j (omega (arith, long, l))
      ∙ sym (ap (nat_lt tolerance) (get_or_past (counted counts) j 0 (omega (arith, few, l)))
      ∙ le-ltb tolerance 0 (omega arith)))
]

-- where none is due, no provider is flagged
pub flags_none : (k j : ℕ) → flag_at (replicate k false) j ≡ false
flags_none (suc k) (suc j) = flags_none k j
flags_none _ _ = refl

-- ---- turns

-- an audit works on an empty file not at all
pub turns_zero : (s : Setup) {w : Wish} (f : Pinned) {k : ℕ} → w ≡ wish.Audit → k ≡ stripes_in s f → k ≡ 0 →
    0 ≡ turns_for s w f
turns_zero s f e h z = subst (λ v. 0 ≡ turns_for s v f) (sym e) (none (stripes_in s f) (sym h ∙ z))
  where
    none : (m : ℕ) → m ≡ 0 → 0 ≡ (if m == 0 then 0 else s.rounds)
    none m f = rw (f) refl

-- an audit works on a file with stripes once in each round
pub turns_some : (s : Setup) {w : Wish} (f : Pinned) {k : ℕ} → w ≡ wish.Audit → k ≡ stripes_in s f →
    (k ≡ 0 → ⊥) → s.rounds ≡ turns_for s w f
turns_some s f e h z =
    subst (λ v. s.rounds ≡ turns_for s v f) (sym e) (some (stripes_in s f) (λ g. z (h ∙ g)))
  where
    some : (m : ℕ) → (m ≡ 0 → ⊥) → s.rounds ≡ (if m == 0 then 0 else s.rounds)
    some m f = grind (arith, nat_tests, f)

-- all but an audit work on each stripe of a file once
pub turns_other : (s : Setup) (w : Wish) (f : Pinned) (k : ℕ) → (w ≡ wish.Audit → ⊥) → k ≡ stripes_in s f →
    k ≡ turns_for s w f
turns_other s wish.Audit f k n h = absurd (n refl)
turns_other s w f k n h = h

-- ---- tasks

tasks-append : (f : Pinned → ℕ) (xs ys : List Pinned) →
    tasks_made f (xs ++ ys) ≡ tasks_made f xs ++ tasks_made f ys
tasks-append f [] ys = refl
tasks-append f (x ∷ xs) ys = elim (cases_Bool (nat_lt 0 (f x))) [
  | inl t ↦ rw (t, tasks-append f xs ys) refl
  | inr e ↦ rw (e, tasks-append f xs ys) refl
]

take_next : (xs : List Pinned) (i : ℕ) (d : Pinned) → i < length xs →
    take (suc i) xs ≡ take i xs ++ get_or xs i d ∷ []
take_next [] i d l = absurd (omega arith)
take_next (x ∷ xs) zero d l = refl
take_next (x ∷ xs) (suc i) d l = ap (λ ys. x ∷ ys) (take_next xs i d (omega arith))

-- the tasks of one file more are those of the files before it, and its own
pub tasks_more : (f : Pinned → ℕ) (files : List Pinned) (i : ℕ) (d : Pinned) {old new : List Task} →
    i < length files → old ≡ tasks_made f (take i files) →
    new ≡ old ++ tasks_made f (get_or files i d ∷ []) → new ≡ tasks_made f (take (i + 1) files)
tasks_more f files i d l o e = e ∙ (ap (λ xs. xs ++ tasks_made f (get_or files i d ∷ [])) o ∙ (sym
    (tasks-append f (take i files) (get_or files i d ∷ [])) ∙ (ap (tasks_made f) (sym (take_next files i d l))
    ∙ ap (λ k. tasks_made f (take k files)) (let k : suc i ≡ i + 1 = omega arith in k))))

-- all but a put work on the files that they pin
pub targets_other : (w : Wish) (profile : ℕ) (pins : List Pinned) →
    ((name : List ℕ) (size : ℕ) (own : Option ℕ) → w ≡ wish.Put name size own → ⊥) →
    pins ≡ targets_of w profile 0 pins
targets_other (wish.Put name size own) profile pins h = absurd (h name size own refl)
targets_other w profile pins h = refl

-- ---- pinned files

-- the pins of the files from one place on are those behind it, with that file's pin put in
pub pins_step : (files : List File) (k : ℕ) {f : File} {old new : List Pinned} → 0 < k →
    Some f ≡ slice_get files (k - 1) → old ≡ pin_each core_pins pin_of_file (drop k files) →
    new ≡ pin_by core_pins (pin_of_file f) old → new ≡ pin_each core_pins pin_of_file (drop (k - 1) files)
pins_step files k {f} l g o e = e ∙ (ap (pin_by core_pins (pin_of_file f)) (o ∙ ap (λ m. pin_each core_pins
    pin_of_file (drop m files)) (omega arith)) ∙ ap (pin_each core_pins pin_of_file) (sym (drop-get files (k -
    1) f (sym g))))

-- a rewriter's subject is the number of the audit that is due, any other's is zero
pub subject_is : (t : Kept) (v : Wish) (k : ℕ) → (is_rewriter v ≡ true → k ≡ due_number t.due) →
    (is_rewriter v ≡ false → k ≡ 0) → k ≡ subject_for t v
subject_is t wish.Repair k r o = r refl
subject_is t w k r o = o refl
