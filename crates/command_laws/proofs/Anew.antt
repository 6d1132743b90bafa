-- A repair and a scrub with few providers that are wrong or fail write the files' own blocks.
use Rattle.command_laws.proofs.Words.{◌≡◌, ℕ, zero, suc, ◌+◌, ◌<◌, ◌≤◌, ◌⊎◌, Bool, true, false, cond, List, [], ◌∷◌, length, map, get_or, Option, None, Some, refl, ap, sym, subst, ◌∙◌, inl, inr, arith, All, IfSome, nat_lt, is_some, is_none, range_with_len, cases_Bool, cases_eq, false≢true, or_parts, In, IsShape, upto, Object, stripes, symbols_in, is_wrong_block, is_wrong, columns, column_of_symbols, block_at, is_flagged, Held, sized, Record, File, Due, file_of, files_of, find_file, due_of, is_same_name, stripes_of, profiled, RepairJob, Seen, Ending, setup_in_effect, with_number, files_by_number, Ran, setup_at_begin, object_at_begin, stripes_at_begin, object_numbered, Place, Gave, IsTruth, places_of, blocks_at, held_at, flags, IfFlagged, GivesPlace, RewrittenOn, RewritesAll, AnswersAlone, has_risen, is_bad_with, is_bad, bad_count, bad_seen, IsDone, IsKnown, HoldsFile, IsRepaired, ran_to, after_repair, AreAccepted, in_flat, count_of-within, find-files_of, cond_true, cond_false, same_value, block_at-map, wrong-sized, not-wrong-each, not-risen}
use Rattle.std.proofs.Common.{◌&&◌}
use Rattle.command_defs.specs.Truthful.{missing, IsTruthful}
use Rattle.column_laws.proofs.RightRows.{symbols-right}
use Rattle.device_defs.specs.Told.{Goes}
use Rattle.command_laws.proofs.Known.{known-once}
use Rattle.command_laws.proofs.GetEnds.{shape-at}
use Rattle.command_laws.proofs.JobEnds.{repair-done}
use Rattle.job_laws.proofs.Profiles.{numbered-file}

-- ---- elements of lists

in-range : {X : Type 0} (f : ℕ → X) (a n j : ℕ) → a ≤ j → j < a + n → In (f j) (map f (range_with_len a n))
in-range f a zero j l u = absurd (omega (arith, l, u))
in-range f a (suc n) j l u = elim (cases_eq j a) [
  | inl e ↦ inl (ap f e)
  | inr m ↦ inr (in-range f (a + 1) n j (omega (arith, l, m)) (omega (arith, u)))
]

in-number : (f : File) (fs : List File) (z : File) → (z ≡ f) ⊎ In z fs → In z (with_number f fs)
in-number f [] z (inl e) = inl e
in-number f [] z (inr i) = absurd i
in-number f (g ∷ gs) z h = by_case (in-number f gs z) (nat_lt f.id g.id) h
  where
    by_case : ((z ≡ f) ⊎ In z gs → In z (with_number f gs)) → (b : Bool) → (z ≡ f) ⊎ In z (g ∷ gs) →
        In z (cond b (f ∷ g ∷ gs) (g ∷ with_number f gs))
    by_case more true h = h
    by_case more false (inl e) = inr (more (inl e))
    by_case more false (inr (inl e)) = inl e
    by_case more false (inr (inr i)) = inr (more (inr i))

in-by_number : (fs : List File) (z : File) → In z fs → In z (files_by_number fs)
in-by_number [] z i = absurd i
in-by_number (f ∷ fs) z (inl e) = in-number f (files_by_number fs) z (inl e)
in-by_number (f ∷ fs) z (inr i) = in-number f (files_by_number fs) z (inr (in-by_number fs z i))

find-in : (fs : List File) (name : List ℕ) (z : File) → find_file fs name ≡ Some z → In z fs
find-in [] name z h = absurd (cc h)
find-in (f ∷ fs) name z h = elim (cases_Bool (is_same_name f.name name)) [
  | inl t ↦ (let e = sym h
      ∙ cond_true (is_same_name f.name name) (Some f) (find_file fs name) t in inl (cc))
  | inr o ↦ inr (find-in fs name z (sym (cond_false (is_same_name f.name name) (Some f) (find_file fs name) o)
      ∙ h))
]

in-index : {X : Type 0} (xs : List X) (z : X) → In z xs →
    (k : ℕ) × (k < length xs) × ((d : X) → get_or xs k d ≡ z)
in-index [] z i = absurd i
in-index (x ∷ xs) z (inl e) = (0, omega arith, λ d. sym e)
in-index (x ∷ xs) z (inr i) = (let h = in-index xs z i in (suc h.0, (omega (arith, h.1)), λ d. h.2 d))

-- what holds of each holds of one of them
pub all-in : {X : Type 0} (P : X → Type 0) (xs : List X) (z : X) → All P xs → In z xs → P z
all-in P xs z all i = (let h = in-index xs z i in (rw (h.2 z) at (all h.0 z h.1)))

-- ---- what was given where no count rose

missing-in : {A B : Type 0} (given held : A → Option B) (xs : List A) (z : A) → In z xs →
    (is_none (given z) && is_some (held z)) ≡ true → 1 ≤ missing given held xs
missing-in given held [] z i e = absurd i
missing-in given held (x ∷ xs) z (inl same) e =
    (let c : ◌≡◌ {A = ℕ} (cond (is_none (given x) && is_some (held x)) 1 0) 1 =
    cond_true (is_none (given x) && is_some (held x)) 1 0
    (subst (λ y. (is_none (given y) && is_some (held y)) ≡ true) same e) in omega (arith, c))
missing-in given held (x ∷ xs) z (inr i) e = (let r = missing-in given held xs z i e in omega (arith, r))

held-in : {A B : Type 0} (given held : A → Option B) (xs : List A) (z : A) (before now : ℕ) →
    IsTruthful given held xs before now → has_risen before now ≡ false → In z xs → given z ≡ held z
held-in given held xs z before now T calm i = (let c = not-risen before now calm in
    let few : before + missing given held xs ≤ now = T.few c.1 in
    elim (all-in (λ y. (given y ≡ held y) ⊎ (given y ≡ None)) xs z T.each i)
    [ inl same ↦ same | inr none ↦ by_held (held z) refl none few c.0 ])
  where
    by_held : (h : Option _) → held z ≡ h → given z ≡ None → before + missing given held xs ≤ now →
        now ≤ before → given z ≡ held z
    by_held None e none few low = none ∙ sym e
    by_held (Some b) e none few low = absurd (let both : (is_none (given z) && is_some (held z)) ≡ true
        = (λ k. is_none (none k) && is_some (e k)) in
        let r = missing-in given held xs z i both in omega (arith, r, few, low))

-- ---- a place of a file

module _ (x : Ran) (name : List ℕ) (file : File) (in_effect : file_of x.records name ≡ Some file) where
  -- a file in effect is listed
  pub listed-in : In file (files_of x.records)
  listed-in = find-in (files_of x.records) name file (find-files_of x.records name ∙ in_effect)

  -- and each of its stripes is a place
  pub in-places : (stripe : ℕ) → stripe < stripes_at_begin x file →
      In (record { object = file.id; stripe = stripe }) (places_of x)
  in-places stripe within = in_flat (λ f. map (λ t. record { object = f.id; stripe = t })
      (upto (stripes_of (profiled (setup_at_begin x) f.profile) f.size)))
      (files_by_number (files_of x.records)) file (record { object = file.id; stripe = stripe })
      (in-by_number (files_of x.records) file listed-in)
      (in-range (λ t. record { object = file.id; stripe = t }) 0 (stripes_at_begin x file) stripe
      (omega arith) (omega (arith, within)))

module _ (x : Ran) (shape : IsShape (setup_at_begin x).n (setup_at_begin x).l (setup_at_begin x).b)
    (gave : Gave) (symbols : Place → List ℕ) (asked : List Place) (truth : IsTruth x gave asked)
    (gives : All (GivesPlace x gave symbols) asked) (file : File) (bytes : List ℕ)
    (listed : In file (files_of x.records)) (size : length bytes ≡ file.size)
    (few : bad_count x file bytes ≤ (setup_at_begin x).b) (accepted : AreAccepted x.records) (stripe : ℕ)
    (within : stripe < stripes_at_begin x file)
    (member : In (record { object = file.id; stripe = stripe }) asked) where
  abbrev o : Object
  o = object_at_begin x file

  abbrev place : Place
  place = record { object = file.id; stripe = stripe }

  inside : stripe < stripes o (length bytes)
  inside = rw (← size) at within

  -- the object of its number is its own
  own : object_numbered x file.id ≡ o
  own = numbered-file x accepted file listed

  good-given : (j : ℕ) → j < (setup_at_begin x).n → is_bad x file bytes j ≡ false →
      is_wrong_block o bytes j stripe (block_at (blocks_at x gave place) j) ≡ false
  good-given j below good = by_held (x.old j).held good (truth j below)
    where
      by_held : (h : Option Held) → is_bad_with o bytes j (x.old j) (x.new j) h ≡ false →
          IfSome h (λ held. IsTruthful (gave j) (held_at x held) asked (x.old j).other_faults
          (x.new j).other_faults) →
          is_wrong_block o bytes j stripe (block_at (blocks_at x gave place) j) ≡ false
      by_held None g T = absurd (false≢true (sym g))
      by_held (Some held) g T = (let p = or_parts (is_wrong o bytes j (held file.id))
          (has_risen (x.old j).other_faults (x.new j).other_faults) g in
          let same = held-in (gave j) (held_at x held) asked place (x.old j).other_faults
          (x.new j).other_faults T p.1 member in
          ap (is_wrong_block o bytes j stripe)
          (block_at-map (λ i. gave i place) (setup_at_begin x).n j below
          ∙ (same ∙ ap (λ z. sized z.profile.size (held file.id stripe)) own))
          ∙ (wrong-sized o bytes j stripe (held file.id stripe)
          ∙ not-wrong-each o bytes j (held file.id) p.0 stripe inside))

  bad-given : (j : ℕ) → j < 0 + (setup_at_begin x).n →
      is_wrong_block o bytes j stripe (block_at (blocks_at x gave place) j) ≡ true →
      is_bad x file bytes j ≡ true
  bad-given j below wrong = elim (cases_Bool (is_bad x file bytes j)) [
    | inl y ↦ y
    | inr n ↦ absurd (false≢true (sym (good-given j (omega (arith, below)) n) ∙ wrong))
  ]

  right-symbols : symbols place ≡ symbols_in o bytes stripe
  right-symbols = (symbols-right o bytes file.profile stripe (blocks_at x gave place) (symbols place) refl
      shape (omega (
        arith,
        count_of-within (λ j. is_wrong_block o bytes j stripe (block_at (blocks_at x gave place) j))
            (is_bad x file bytes) 0 (setup_at_begin x).n bad-given,
        few,
      ))
      (rw own at (all-in (GivesPlace x gave symbols) asked place gives member)))

  -- the column of what was accepted is the file's own, where at most b providers are bad
  pub right-column : (j : ℕ) →
      Some (column_of_symbols (object_numbered x file.id) (symbols place) j stripe)
      ≡ Some (columns o bytes j stripe)
  right-column j = ap (λ z. Some (column_of_symbols z (symbols place) j stripe)) own
      ∙ ap (λ s. Some (column_of_symbols o s j stripe)) right-symbols

module _ (x : Ran) (shape : IsShape (setup_at_begin x).n (setup_at_begin x).l (setup_at_begin x).b)
    (looked : ℕ → Bool) (W : RewritesAll x looked) (name : List ℕ) (file : File) (bytes : List ℕ)
    (in_effect : file_of x.records name ≡ Some file) (size : length bytes ≡ file.size)
    (few : bad_count x file bytes ≤ (setup_at_begin x).b) (accepted : AreAccepted x.records) (stripe : ℕ)
    (within : stripe < stripes_at_begin x file) where
  goes : (flag : Bool) (j : ℕ) (old new : Option Held) → flag ≡ true →
      Goes (IfFlagged flag (RewrittenOn (object_numbered x) W.symbols (places_of x) j)) old new →
      IfSome new (λ held. held file.id stripe ≡ Some (columns (object_at_begin x file) bytes j stripe))
  goes flag j old None flagged h = tt
  goes flag j None (Some held) flagged h = absurd h
  goes true j (Some before) (Some held) flagged h =
      (let asked = in-places x name file in_effect stripe within in
      all-in (λ p. held p.object p.stripe
      ≡ Some (column_of_symbols (object_numbered x p.object) (W.symbols p) j p.stripe))
      (places_of x) (record { object = file.id; stripe = stripe }) h.stored asked
      ∙ right-column x shape W.gave W.symbols (places_of x) W.truth W.gives file bytes
      (listed-in x name file in_effect) size few accepted stripe within asked j)
  goes false j (Some before) (Some held) flagged h = absurd (false≢true flagged)

  -- each provider that was looked at holds its own column of each stripe, where at most b providers are bad
  pub holds-right : (j : ℕ) → j < (setup_at_begin x).n → looked j ≡ true →
      IfSome (x.new j).held (λ held. held file.id stripe
      ≡ Some (columns (object_at_begin x file) bytes j stripe))
  holds-right j below flagged = goes (looked j) j (x.old j).held (x.new j).held flagged (W.held j below)

-- ---- the repair of a command

-- a done repair wrote each file anew on each flagged provider, where at most b providers were bad
pub repair-right : (name bytes : List ℕ) (records : List Record) (file : File) (due : Due) (j : ℕ)
    (old new : Seen) (end : Ending) → AnswersAlone RepairJob old new end → IsKnown old records → IsDone end →
    due_of records ≡ Some due → file_of records name ≡ Some file → length bytes ≡ file.size →
    bad_seen records old new file bytes ≤ (setup_in_effect records).b → j < (setup_in_effect records).n →
    is_flagged (setup_in_effect records).tolerance due.counts j ≡ true → HoldsFile records new bytes file j
repair-right name bytes records file due j old new end A K done is_due in_effect size few below flagged =
    (let R = repair-done old new end A done in
    let same = known-once old records R.records K R.opened.read in
    (rw same at (by-records R)) is_due in_effect few below flagged)
  where
    by-records : (R : IsRepaired old new end) → due_of R.records ≡ Some due →
        file_of R.records name ≡ Some file →
        bad_seen R.records old new file bytes ≤ (setup_in_effect R.records).b →
        j < (setup_in_effect R.records).n →
        is_flagged (setup_in_effect R.records).tolerance due.counts j ≡ true →
        HoldsFile R.records new bytes file j
    by-records R is in_effect few below flagged stripe within =
        (let due_is = same_value (due_of R.records) R.due due R.is_due is in
        holds-right (ran_to (after_repair R.records R.due) R.records old new end.heard)
        (shape-at old R.records R.opened)
        (flags (ran_to (after_repair R.records R.due) R.records old new end.heard) R.due)
        R.rewritten name file bytes in_effect size few R.opened.read.accepted stripe within j below
        (rw (← due_is) at flagged))
