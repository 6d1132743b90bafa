-- The records of a packed journal have spellings, and take few bytes.
use Rattle.std.proofs.Common.{◌≡◌, ◌≢◌, inl, inr, ℕ, ◌+◌, ◌*◌, ◌^◌, ◌≤◌, Bool, true, false, ◌&&◌, List, [], ◌∷◌, length, Option, Some, None, refl, subst, arith}
use Rattle.std.specs.Prelude.{IsTrue, ◌==◌, nat_lt, nat_le, if◌then◌else◌}
use Rattle.std.specs.List.{list_all}
use Rattle.std.proofs.lemmas.Bool.{cases_Bool, and_parts, and_from, lt-ltb}
use Rattle.std.proofs.lemmas.Bool.Decides.{nat_tests}
use Rattle.record_defs.proofs.Sizes.{is_name-short}
use Rattle.record_defs.specs.Records.{Setup, Record, SetUp, PutStart, PutDone, Drop, AuditStart, AuditDone, RepairDone, PutDoneIn, Version, Resume, InEffect, RepairDue, is_name, is_in_grammar, largest_file, largest_journal, all_profiles}
use Rattle.record_defs.specs.Table.{File, Due, file_as, profile_in, setup_of, next_id, next_audit, started_as, with_file, without_file, with_put, files_of, due_of, exceeds}
use Rattle.record_defs.specs.Acceptance.{AreAccepted}
use Rattle.record_defs.specs.Packed.{as_record, with_files, with_due, with_setup, packed}
use Rattle.record_defs.specs.Areas.{Area, A, B, entries_size, end_in}
use Rattle.record_defs.proofs.OrderLaws.{few-files_of, next_id-fits, next_audit-fits}

-- each record has a spelling
abbrev pub AreSpelled : List Record → Type 0
AreSpelled rs = IsTrue (list_all is_in_grammar rs)

first : (r : Record) (rs : List Record) → AreSpelled (r ∷ rs) → IsTrue (is_in_grammar r)
first r rs h = (and_parts (is_in_grammar r) (list_all is_in_grammar rs) h).0

rest : (r : Record) (rs : List Record) → AreSpelled (r ∷ rs) → AreSpelled rs
rest r rs h = (and_parts (is_in_grammar r) (list_all is_in_grammar rs) h).1

more : (r : Record) (rs : List Record) → IsTrue (is_in_grammar r) → AreSpelled rs → AreSpelled (r ∷ rs)
more r rs g h = and_from (is_in_grammar r) (list_all is_in_grammar rs) g h

-- ---- a test of each file in effect

all-without : (p : File → Bool) (fs : List File) (name : List ℕ) → list_all p fs ≡ true →
    list_all p (without_file fs name) ≡ true
all-without p [] name h = refl
all-without p (f ∷ fs) name h =
    let parts = and_parts (p f) (list_all p fs) h in
    let one = parts.0 in
    let others = all-without p fs name parts.1 in
    grind (arith, one, others)

all-with : (p : File → Bool) (fs : List File) (f : File) → list_all p fs ≡ true → p f ≡ true →
    list_all p (with_file fs f) ≡ true
all-with p [] f h g = grind (arith, g)
all-with p (x ∷ fs) f h g =
    let parts = and_parts (p x) (list_all p fs) h in
    let one = parts.0 in
    let others = parts.1 in
    let later = all-with p fs f parts.1 g in
    grind (arith, one, others, later, g)

all-put : (p : File → Bool) (fs : List File) (o : Option (List ℕ)) (id size profile : ℕ) →
    list_all p fs ≡ true → ((name : List ℕ) → o ≡ Some name → p (file_as name id size profile) ≡ true) →
    list_all p (with_put fs o id size profile) ≡ true
all-put p fs None id size profile h each = h
all-put p fs (Some name) id size profile h each = all-with p (without_file fs name)
    (file_as name id size profile) (all-without p fs name h) (each name refl)

-- ---- setups, names and files of records that have a spelling

-- an option that has a value is not none
none-some : {X : Type 0} (x : X) → ◌≢◌ {A = Option X} None (Some x)
none-some x e = absurd cc

-- the setup in effect has a spelling
pub setup-spelled : (rs : List Record) (s : Setup) → AreSpelled rs → setup_of rs ≡ Some s →
    IsTrue (is_in_grammar (SetUp s))
setup-spelled [] s g h = absurd (none-some s h)
setup-spelled (SetUp t ∷ rs) s g h =
    (let e : t ≡ s = cc in subst (λ x. IsTrue (is_in_grammar (SetUp x))) e (first (SetUp t) rs g))
setup-spelled (r ∷ rs) s g h = setup-spelled rs s (rest r rs g) h

-- the profile of a setup that has a spelling
profile-fits : (rs : List Record) → AreSpelled rs → nat_lt (profile_in (setup_of rs)) all_profiles ≡ true
profile-fits rs g = by (setup_of rs) refl
  where
    fits : (s : Setup) → IsTrue (is_in_grammar (SetUp s)) → nat_lt s.profile all_profiles ≡ true
    fits s h = grind (arith, nat_tests, h)

    by : (o : Option Setup) → setup_of rs ≡ o → nat_lt (profile_in o) all_profiles ≡ true
    by None e = refl
    by (Some s) e = fits s (setup-spelled rs s g e)

-- a name is that of one start, or of another one
named-by : (k id : ℕ) (n name : List ℕ) (o : Option (List ℕ)) → (if k == id then Some n else o) ≡ Some name →
    is_name n ≡ true → (o ≡ Some name → is_name name ≡ true) → is_name name ≡ true
named-by k id n name o h g later = elim (cases_Bool (k == id)) [
  | inl t ↦ (let same : Some n ≡ Some name = grind (arith, h, t) in let e : n ≡ name = cc in
      subst (λ x. is_name x ≡ true) e g)
  | inr f ↦ later (grind (arith, h, f))
]

-- a start that is done has no name
done-by : (k id : ℕ) (name : List ℕ) (o : Option (List ℕ)) →
    (if k == id then None else o) ≡ Some name → o ≡ Some name
done-by k id name o h = elim (cases_Bool (k == id)) [
  | inl t ↦ absurd (none-some name (grind (arith, h, t)))
  | inr f ↦ grind (arith, h, f)
]

start-named : (id : ℕ) (name : List ℕ) → IsTrue (is_in_grammar (PutStart id name)) → is_name name ≡ true
start-named id name h = (and_parts (nat_lt id (2 ^ 64)) (is_name name) h).1

-- a name that a put was started under is a name
pub started-spelled : (rs : List Record) (id : ℕ) (name : List ℕ) → AreSpelled rs →
    started_as rs id ≡ Some name → is_name name ≡ true
started-spelled [] id name g h = absurd (none-some name h)
started-spelled (PutStart k n ∷ rs) id name g h = named-by k id n name (started_as rs id) h
    (start-named k n (first (PutStart k n) rs g)) (started-spelled rs id name (rest (PutStart k n) rs g))
started-spelled (PutDone k size ∷ rs) id name g h = started-spelled rs id name (rest (PutDone k size) rs g)
    (done-by k id name (started_as rs id) h)
started-spelled (PutDoneIn k size profile ∷ rs) id name g h =
    started-spelled rs id name (rest (PutDoneIn k size profile) rs g) (done-by k id name (started_as rs id) h)
started-spelled (r ∷ rs) id name g h = started-spelled rs id name (rest r rs g) h

-- a file's record has a spelling
abbrev fits : File → Bool
fits f = is_in_grammar (as_record f)

fit : (id size profile : ℕ) (name : List ℕ) → nat_lt id (2 ^ 64) ≡ true → nat_le size largest_file ≡ true →
    nat_lt profile all_profiles ≡ true → is_name name ≡ true →
    is_in_grammar (InEffect id size profile name) ≡ true
fit id size profile name i s p n = and_from (nat_lt id (2 ^ 64) && nat_le size largest_file && nat_lt profile
    all_profiles) (is_name name) (and_from (nat_lt id (2 ^ 64) && nat_le size largest_file)
    (nat_lt profile all_profiles) (and_from (nat_lt id (2 ^ 64)) (nat_le size largest_file) i s) p) n

-- each file in effect has a record with a spelling
files-fit : (rs : List Record) → AreSpelled rs → list_all fits (files_of rs) ≡ true
files-fit [] g = refl
files-fit (PutDone id size ∷ rs) g =
    let others = rest (PutDone id size) rs g in
    let parts = and_parts (nat_lt id (2 ^ 64)) (nat_le size largest_file) (first (PutDone id size) rs g) in
    all-put fits (files_of rs) (started_as rs id) id size (profile_in (setup_of rs)) (files-fit rs others)
    (λ name e. fit id size (profile_in (setup_of rs)) name parts.0 parts.1 (profile-fits rs others)
    (started-spelled rs id name others e))
files-fit (Drop name ∷ rs) g = all-without fits (files_of rs) name (files-fit rs (rest (Drop name) rs g))
files-fit (PutDoneIn id size profile ∷ rs) g =
    let others = rest (PutDoneIn id size profile) rs g in
    let outer = and_parts (nat_lt id (2 ^ 64) && nat_le size largest_file) (nat_lt profile all_profiles)
    (first (PutDoneIn id size profile) rs g) in
    let parts = and_parts (nat_lt id (2 ^ 64)) (nat_le size largest_file) outer.0 in
    all-put fits (files_of rs) (started_as rs id) id size profile (files-fit rs others)
    (λ name e. fit id size profile name parts.0 parts.1 outer.1 (started-spelled rs id name others e))
files-fit (InEffect id size profile kept ∷ rs) g = all-put fits (files_of rs) (Some kept) id size profile
    (files-fit rs (rest (InEffect id size profile kept) rs g)) (λ name e. (let same : kept ≡ name = cc in
    subst (λ x. is_in_grammar (InEffect id size profile x) ≡ true) same
    (first (InEffect id size profile kept) rs g)))
files-fit (r ∷ rs) g = files-fit rs (rest r rs g)

-- ---- the due audit

due-fits : (number undecided : ℕ) (counts : List ℕ) → IsTrue (is_in_grammar (AuditDone number undecided counts)) →
    IsTrue (is_in_grammar (RepairDue number counts))
due-fits number undecided counts h = grind (arith, nat_tests, h)

due-by : (b : Bool) (new due : Due) (o : Option Due) → (if b then Some new else o) ≡ Some due →
    IsTrue (is_in_grammar (RepairDue new.number new.counts)) →
    (o ≡ Some due → IsTrue (is_in_grammar (RepairDue due.number due.counts))) →
    IsTrue (is_in_grammar (RepairDue due.number due.counts))
due-by true new due o h g later = (let e : new ≡ due = cc in
    subst (λ (d : Due). IsTrue (is_in_grammar (RepairDue d.number d.counts))) e g)
due-by false new due o h g later = later h

-- a due audit has a record with a spelling
pub due-spelled : (rs : List Record) (due : Due) → AreSpelled rs → due_of rs ≡ Some due →
    IsTrue (is_in_grammar (RepairDue due.number due.counts))
due-spelled [] due g h = absurd (none-some due h)
due-spelled (AuditDone number undecided counts ∷ rs) due g h =
    due-by (exceeds (setup_of rs) counts) (record { number = number; counts = counts }) due (due_of rs) h
    (due-fits number undecided counts (first (AuditDone number undecided counts) rs g))
    (due-spelled rs due (rest (AuditDone number undecided counts) rs g))
due-spelled (RepairDone number ∷ rs) due g h = absurd (none-some due h)
due-spelled (RepairDue number counts ∷ rs) due g h =
    due-by true (record { number = number; counts = counts }) due (due_of rs) h
    (first (RepairDue number counts) rs g) (due-spelled rs due (rest (RepairDue number counts) rs g))
due-spelled (r ∷ rs) due g h = due-spelled rs due (rest r rs g) h

-- ---- the packed journal

files-more : (fs : List File) (qs : List Record) → list_all fits fs ≡ true → AreSpelled qs →
    AreSpelled (with_files fs qs)
files-more [] qs h g = g
files-more (f ∷ fs) qs h g =
    let parts = and_parts (fits f) (list_all fits fs) h in
    files-more fs (as_record f ∷ qs) parts.1 (more (as_record f) qs parts.0 g)

counts-short : (number : ℕ) (counts : List ℕ) → IsTrue (is_in_grammar (RepairDue number counts)) →
    length counts ≤ 16
counts-short number counts h = grind (arith, nat_tests, h)

fit-short : (f : File) → fits f ≡ true → length f.name ≤ 64
fit-short f h = is_name-short f.name
    (and_parts (nat_lt f.id (2 ^ 64) && nat_le f.size largest_file && nat_lt f.profile all_profiles)
    (is_name f.name) h).1

files-size : (fs : List File) (qs : List Record) → list_all fits fs ≡ true →
    entries_size (with_files fs qs) ≤ entries_size qs + 80 * length fs
files-size [] qs h = omega arith
files-size (f ∷ fs) qs h =
    let parts = and_parts (fits f) (list_all fits fs) h in
    let others = files-size fs (as_record f ∷ qs) parts.1 in
    let one = fit-short f parts.0 in
    omega (arith, others, one)

module _ (rs : List Record) (a : AreAccepted rs) (g : AreSpelled rs) where
  abbrev base : List Record
  base = Resume (next_id rs) (next_audit rs) ∷ Version ∷ with_setup (setup_of rs)

  abbrev with_all : List Record
  with_all = with_files (files_of rs) base

  base-spelled : AreSpelled base
  base-spelled = more (Resume (next_id rs) (next_audit rs)) (Version ∷ with_setup (setup_of rs))
      (and_from (nat_lt (next_id rs) (2 ^ 64)) (nat_lt (next_audit rs) (2 ^ 64))
      (lt-ltb (next_id rs) (2 ^ 64) (next_id-fits rs a))
      (lt-ltb (next_audit rs) (2 ^ 64) (next_audit-fits rs a)))
      (more Version (with_setup (setup_of rs)) refl (set_up (setup_of rs) refl))
    where
      set_up : (o : Option Setup) → setup_of rs ≡ o → AreSpelled (with_setup o)
      set_up None e = refl
      set_up (Some s) e = more (SetUp s) [] (setup-spelled rs s g e) refl

  -- the records of the packed journal have spellings
  pub packed-spelled : AreSpelled (packed rs)
  packed-spelled = on_top (due_of rs) refl
    where
      on_top : (o : Option Due) → due_of rs ≡ o → AreSpelled (with_due o with_all)
      on_top None e = files-more (files_of rs) base (files-fit rs g) base-spelled
      on_top (Some d) e = more (RepairDue d.number d.counts) with_all (due-spelled rs d g e)
          (files-more (files_of rs) base (files-fit rs g) base-spelled)

  base-size : entries_size base ≤ 63
  base-size = by (setup_of rs)
    where
      by : (o : Option Setup) →
          entries_size (Resume (next_id rs) (next_audit rs) ∷ Version ∷ with_setup o) ≤ 63
      by None = omega arith
      by (Some s) = omega arith

  -- and take few bytes
  pub packed-size : entries_size (packed rs) ≤ 2 ^ 17
  packed-size = on_top (due_of rs) refl
    where
      all : entries_size with_all ≤ 81983
      all =
          let b = base-size in
          let f = files-size (files_of rs) base (files-fit rs g) in
          let n = few-files_of rs a in
          omega (arith, b, f, n)

      on_top : (o : Option Due) → due_of rs ≡ o → entries_size (with_due o with_all) ≤ 2 ^ 17
      on_top None e = (let f = all in omega (arith, f))
      on_top (Some d) e = (let f = all in let c = counts-short d.number d.counts (due-spelled rs d g e) in
          omega (arith, f, c))

  -- so its text fits in either area
  pub packed-room : (area : Area) → end_in area (packed rs) ≤ largest_journal
  packed-room A = (let s = packed-size in omega (arith, s))
  packed-room B = (let s = packed-size in omega (arith, s))
