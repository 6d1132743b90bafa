-- Few providers that are wrong or fail lose a repair no row.
use Rattle.job_laws.proofs.Words.{◌≡◌, ℕ, zero, suc, ◌+◌, ◌<◌, ◌≤◌, ◌&&◌, ◌⊎◌, Bool, true, false, cond, List, [], ◌∷◌, ◌++◌, length, get_or, Option, None, Some, refl, sym, subst, inl, inr, arith, IfSome, is_some, is_none, flat_map, range_with_len, cases_Bool, false≢true, or_parts, Each, each_append, each_middle, IsShape, upto, Object, stripes, symbols_in, is_wrong_block, is_wrong, row_polynomial, block_at, count_of, count_of-within, row-right, profile-room, Rose, Held, Setup, File, file_of, files_of, AreAccepted, profiled, stripes_of, Answer, listed_file, files_by_number, Ran, setup_at_begin, object_at_begin, object_numbered, profile_among, Place, blocks_at, held_at, flags, LosesAtPlace, RepairLeaves, missing, IsTruthful, is_bad_with, is_bad_for, bad_count}
use Rattle.std.proofs.Common.{map}
use Rattle.machine_defs.specs.Answers as answer
use Rattle.job_laws.proofs.Asked.{each-by_number}
use Rattle.job_laws.proofs.Questions.{each-in}
use Rattle.job_laws.proofs.Profiles.{numbered-file}
use Rattle.job_laws.proofs.Complete.{block_at-map, wrong-sized, not-wrong-each, given-held}

-- ---- the last of what was asked

get_or-last : {A : Type 0} (xs : List A) (z d : A) → get_or (xs ++ z ∷ []) (length xs) d ≡ z
get_or-last [] z d = refl
get_or-last (x ∷ xs) z d = get_or-last xs z d

length-last : {A : Type 0} (xs : List A) (z : A) → length xs < length (xs ++ z ∷ [])
length-last [] z = omega arith
length-last (x ∷ xs) z = (omega (arith, length-last xs z))

missing-last : {A B : Type 0} (given held : A → Option B) (xs : List A) (z : A) →
    (is_none (given z) && is_some (held z)) ≡ true → 1 ≤ missing given held (xs ++ z ∷ [])
missing-last given held [] z e = (let c : ◌≡◌ {A = ℕ} (cond (is_none (given z) && is_some (held z)) 1 0) 1 =
    cc in omega (arith, c))
missing-last given held (x ∷ xs) z e = (omega (arith, missing-last given held xs z e))

-- ---- the file of a place

module _ (s : Setup) (P : File → Type 0) where
  abbrev Fits : Place → Type 0
  Fits p = (f : File) × P f × (f.id ≡ p.object) × (p.stripe < stripes_of (profiled s f.profile) f.size)

  fits-range : (f : File) (a n : ℕ) → P f → a + n ≤ stripes_of (profiled s f.profile) f.size →
      Each Fits (map (λ stripe. record { object = f.id; stripe = stripe }) (range_with_len a n))
  fits-range f a zero h l = tt
  fits-range f a (suc n) h l = ((f, h, refl, omega (arith, l)), fits-range f (a + 1) n h (omega (arith, l)))

  fits-places : (fs : List File) → Each P fs →
      Each Fits (flat_map (λ (f : File). map (λ stripe. record { object = f.id; stripe = stripe })
      (upto (stripes_of (profiled s f.profile) f.size))) fs)
  fits-places [] h = tt
  fits-places (f ∷ fs) h = each_append Fits (map (λ stripe. record { object = f.id; stripe = stripe })
      (upto (stripes_of (profiled s f.profile) f.size)))
      (flat_map (λ (f : File). map (λ stripe. record { object = f.id; stripe = stripe })
      (upto (stripes_of (profiled s f.profile) f.size))) fs)
      (fits-range f 0 (stripes_of (profiled s f.profile) f.size) h.0 (omega arith)) (fits-places fs h.1)

-- ---- a place that is lost

module _ (x : Ran) (shape : IsShape (setup_at_begin x).n (setup_at_begin x).l (setup_at_begin x).b)
    (looked : ℕ → Bool) (stripe row : ℕ) (L : LosesAtPlace x looked stripe row) (bytes : List ℕ) where
  abbrev o : Object
  o = object_numbered x L.place.object

  -- a provider is wrong for it, or failed
  abbrev is_bad_here : ℕ → Bool
  is_bad_here j = is_bad_for o bytes j (x.old j) (x.new j)

  good-place : (j : ℕ) → j < (setup_at_begin x).n → is_bad_here j ≡ false →
      L.place.stripe < stripes o (length bytes) →
      is_wrong_block o bytes j L.place.stripe (block_at (blocks_at x L.gave L.place) j) ≡ false
  good-place j below good k = by_held (x.old j).held good (L.truth j below)
    where
      by_held : (h : Option Held) → is_bad_with o bytes j (x.old j) (x.new j) h ≡ false →
          IfSome h (λ held. IsTruthful (L.gave j) (held_at x held) (L.done ++ L.place ∷ [])
          (x.old j).other_faults (x.new j).other_faults) →
          is_wrong_block o bytes j L.place.stripe (block_at (blocks_at x L.gave L.place) j) ≡ false
      by_held None g T = absurd (false≢true (sym g))
      by_held (Some held) g T = (let p = or_parts (is_wrong o bytes j (held L.place.object)) _ g in
          let same = given-held (L.gave j) (held_at x held) (L.done ++ L.place ∷ []) (length L.done) L.place
          (x.old j).other_faults (x.new j).other_faults T p.1 (length-last L.done L.place)
          (get_or-last L.done L.place L.place) (missing-last (L.gave j) (held_at x held) L.done L.place) in
          cc (
            block_at-map (λ i. L.gave i L.place) (setup_at_begin x).n j below,
            wrong-sized o bytes j L.place.stripe (held L.place.object L.place.stripe),
            not-wrong-each o bytes j (held L.place.object) p.0 L.place.stripe k,
          ))

  bad-place : L.place.stripe < stripes o (length bytes) → (j : ℕ) → j < 0 + (setup_at_begin x).n →
      is_wrong_block o bytes j L.place.stripe (block_at (blocks_at x L.gave L.place) j) ≡ true →
      is_bad_here j ≡ true
  bad-place k j below wrong = elim (cases_Bool (is_bad_here j)) [
    | inl y ↦ y
    | inr n ↦ absurd (false≢true (cc (good-place j (omega (arith, below)) n k)))
  ]

  few-mended : L.place.stripe < stripes o (length bytes) →
      count_of is_bad_here (upto (setup_at_begin x).n) ≤ (setup_at_begin x).b → ⊥
  few-mended k few = (let lost = rw (← L.stripe_is) at L.loses in
      let within = count_of-within _ is_bad_here 0 _ (bad-place k) in
      lost.lost (row_polynomial o (symbols_in o bytes L.place.stripe) lost.place) (row-right o bytes
      (profile_among (setup_at_begin x).profile (files_of x.records) L.place.object) L.place.stripe lost.place
      _ lost.opened refl shape (omega arith) lost.opens
      (omega (arith, profile-room o _ refl))))

-- ---- the repair

module _ (x : Ran) (accepted : AreAccepted x.records)
    (shape : IsShape (setup_at_begin x).n (setup_at_begin x).l (setup_at_begin x).b)
    (bytes : ℕ → List ℕ) where
  -- a file whose bytes few providers are wrong for
  abbrev pub IsSafe : File → Type 0
  IsSafe f = (length (bytes f.id) ≡ f.size) × (bad_count x f (bytes f.id) ≤ (setup_at_begin x).b)

  -- and whose object is that of its number
  abbrev IsFound : File → Type 0
  IsFound f = IsSafe f × (object_numbered x f.id ≡ object_at_begin x f)

  -- whichever providers are looked at, no row is lost
  pub lost-none : (looked : ℕ → Bool) (stripe row : ℕ) →
      ((name : List ℕ) (file : File) → file_of x.records name ≡ Some file → IsSafe file) →
      LosesAtPlace x looked stripe row → ⊥
  lost-none looked stripe row safe L = (let fits = each_middle (Fits (setup_at_begin x) IsFound) L.done
      L.place L.rest (subst (Each (Fits (setup_at_begin x) IsFound)) L.part.parts
      (fits-places (setup_at_begin x) IsFound (files_by_number (files_of x.records))
      (each-by_number IsFound (files_of x.records) (each-in IsFound (files_of x.records)
      (λ f i. (safe f.name f (listed_file x.records f i), numbered-file x accepted f i)))))) in
      let file = fits.0 in
      let at : object_at_begin x file ≡ object_numbered x L.place.object = cc in
      few-mended x shape looked stripe row L (bytes file.id) (subst (λ (z : Object). L.place.stripe < stripes
      z (length (bytes file.id))) at (rw (← fits.1.0.0) at fits.3))
      (subst (λ (z : Object). count_of (λ j. is_bad_for z
      (bytes file.id) j (x.old j) (x.new j)) (upto (setup_at_begin x).n) ≤ (setup_at_begin x).b) at
      fits.1.0.1))

  -- a repair with no fault and at most b bad providers a file is done, or found no memory
  pub repair-end : (how : Answer) → RepairLeaves x how → (Rose x.disk_before x.disk_after → ⊥) →
      ((j : ℕ) → j < (setup_at_begin x).n → Rose (x.old j).store_faults (x.new j).store_faults → ⊥) →
      ((name : List ℕ) (file : File) → file_of x.records name ≡ Some file → IsSafe file) →
      ((number : ℕ) × (how ≡ answer.Repaired number)) ⊎ (how ≡ answer.Memory)
  repair-end (answer.Repaired number) L disk stores safe = inl (number, refl)
  repair-end answer.Memory L disk stores safe = inr refl
  repair-end (answer.Lost stripe row) L disk stores safe =
      absurd (lost-none (flags x L.due) stripe row safe L.gives.1)
  repair-end (answer.ProviderFault j) L disk stores safe = absurd (stores j L.gives.0 L.gives.2)
  repair-end answer.DiskFault L disk stores safe = absurd (disk L.gives.0)
  repair-end how L disk stores safe = absurd L.gives
