-- The list of files in effect ascends, and accepted records have few files.
use Rattle.record_defs.proofs.Words.{◌≡◌, ◌≢◌, ◌+◌, ◌≤◌, ◌<◌, true, false, Bool, List, [], ◌∷◌, length, Option, Some, None, nat_le, is_some, not, ◌&&◌, list_all, refl, arith, nat_tests, Record, SetUp, PutStart, PutDone, Drop, AuditStart, AuditDone, RepairDone, PutDoneIn, Version, Resume, InEffect, RepairDue, most_files, File, file_as, setup_of, profile_in, next_id, next_audit, is_same_name, is_name_before, started_as, with_file, without_file, with_put, files_of, find_file, are_ordered, refused, AreAccepted}
use Rattle.std.specs.Prelude.{ℕ, ◌-◌, ◌^◌}
use Rattle.record_defs.proofs.FilesLaws.{same-refl, find-files_of, find-without}

-- a name before a second one, which is before a third, is before the third
pub before-trans : (a b c : List ℕ) → is_name_before a b ≡ true → is_name_before b c ≡ true →
    is_name_before a c ≡ true
before-trans a [] c p q = grind (arith, before_nil a p)
  where
    before_nil : (a : List ℕ) → is_name_before a [] ≡ true → ⊥
    before_nil [] p = cc
    before_nil (x ∷ a) p = cc
before-trans a (y ∷ b) [] p q = absurd cc
before-trans [] (y ∷ b) (z ∷ c) p q = refl
before-trans (x ∷ a) (y ∷ b) (z ∷ c) p q = grind (arith, nat_tests, p, q, before-trans a b c)

-- of two names that are not the same one comes first
before-other : (a b : List ℕ) → is_same_name a b ≡ false → is_name_before a b ≡ false →
    is_name_before b a ≡ true
before-other [] [] p q = absurd cc
before-other [] (y ∷ b) p q = absurd cc
before-other (x ∷ a) [] p q = refl
before-other (x ∷ a) (y ∷ b) p q = grind (arith, nat_tests, p, q, before-other a b)

-- a name comes before those of all these files
abbrev pub is_below : List ℕ → List File → Bool
is_below name fs = list_all (λ g. is_name_before name g.name) fs

-- a name before another comes before all files that the other comes before
pub below-trans : (m n : List ℕ) (fs : List File) → is_name_before m n ≡ true → is_below n fs ≡ true →
    is_below m fs ≡ true
below-trans m n [] p q = refl
below-trans m n (f ∷ fs) p q = grind (arith, p, q, below-trans m n fs p, before-trans m n f.name p)

below-without : (n : List ℕ) (fs : List File) (x : List ℕ) → is_below n fs ≡ true →
    is_below n (without_file fs x) ≡ true
below-without n [] x p = refl
below-without n (f ∷ fs) x p = grind (arith, p, below-without n fs x)

-- files in order stay so without the file of a name
pub ordered-without : (fs : List File) (x : List ℕ) → are_ordered fs ≡ true →
    are_ordered (without_file fs x) ≡ true
ordered-without [] x p = refl
ordered-without (f ∷ fs) x p = grind (arith, p, ordered-without fs x, below-without f.name fs x)

below-with : (n : List ℕ) (fs : List File) (f : File) → is_below n fs ≡ true →
    is_name_before n f.name ≡ true → is_below n (with_file fs f) ≡ true
below-with n [] f p q = grind (arith, q)
below-with n (g ∷ fs) f p q = grind (arith, p, q, below-with n fs f)

-- files in order stay so with one more file, whose name none of them has
pub ordered-with : (fs : List File) (f : File) → are_ordered fs ≡ true → find_file fs f.name ≡ None →
    are_ordered (with_file fs f) ≡ true
ordered-with [] f p none = refl
ordered-with (g ∷ fs) f p none = grind (
  arith,
  p,
  none,
  ordered-with fs f,
  below-with g.name fs f,
  before-other g.name f.name,
  below-trans f.name g.name fs,
)

ordered-put : (fs : List File) (started : Option (List ℕ)) (id size profile : ℕ) → are_ordered fs ≡ true →
    are_ordered (with_put fs started id size profile) ≡ true
ordered-put fs None id size profile p = p
ordered-put fs (Some name) id size profile p =
    let file : File = file_as name id size profile in
    let gone : find_file (without_file fs name) name ≡ None =
    grind (arith, find-without fs name name, same-refl name) in
    ordered-with (without_file fs name) file (ordered-without fs name p) gone

-- the files in effect are in byte order of their names
pub ordered-files_of : (rs : List Record) → are_ordered (files_of rs) ≡ true
ordered-files_of [] = refl
ordered-files_of (PutDone id size ∷ rs) =
    ordered-put (files_of rs) (started_as rs id) id size (profile_in (setup_of rs)) (ordered-files_of rs)
ordered-files_of (Drop name ∷ rs) = ordered-without (files_of rs) name (ordered-files_of rs)
ordered-files_of (PutDoneIn id size profile ∷ rs) =
    ordered-put (files_of rs) (started_as rs id) id size profile (ordered-files_of rs)
ordered-files_of (InEffect id size profile name ∷ rs) =
    ordered-put (files_of rs) (Some name) id size profile (ordered-files_of rs)
ordered-files_of (r ∷ rs) = ordered-files_of rs

-- ---- how many files there are

length-with_file : (fs : List File) (f : File) → length (with_file fs f) ≡ length fs + 1
length-with_file [] f = refl
length-with_file (g ∷ fs) f = grind (arith, length-with_file fs f)

-- leaving out the file of a name makes no list of files longer
pub length-without_le : (fs : List File) (n : List ℕ) → length (without_file fs n) ≤ length fs
length-without_le [] n = omega arith
length-without_le (f ∷ fs) n = grind (arith, length-without_le fs n)

length-without_found : (fs : List File) (n : List ℕ) → is_some (find_file fs n) ≡ true →
    length (without_file fs n) + 1 ≤ length fs
length-without_found [] n p = absurd cc
length-without_found (f ∷ fs) n p = grind (arith, p, length-without_found fs n, length-without_le fs n)

few-put : (fs : List File) (started : Option (List ℕ)) (id size profile : ℕ) (most : ℕ)
    → ((name : List ℕ) → started ≡ Some name → (nat_le most (length fs) && not (is_some (find_file fs name)))
    ≡ false)
    → length fs ≤ most → length (with_put fs started id size profile) ≤ most
few-put fs None id size profile most room few = few
few-put fs (Some name) id size profile most room few =
    let file : File = file_as name id size profile in
    grind (
      arith,
      nat_tests,
      room name refl,
      length-with_file (without_file fs name) file,
      length-without_le fs name,
      length-without_found fs name,
      few,
    )

abbrev HasRoom : List Record → List ℕ → Type 0
HasRoom rs name = (nat_le most_files (length (files_of rs)) && not (is_some (find_file (files_of rs) name)))
    ≡ false

room-put : (rs : List Record) (id size : ℕ) (name : List ℕ) → refused rs (PutDone id size) ≡ None →
    started_as rs id ≡ Some name → HasRoom rs name
room-put rs id size name p e = grind (arith, p, e, find-files_of rs name)

room-put_in : (rs : List Record) (id size profile : ℕ) (name : List ℕ) →
    refused rs (PutDoneIn id size profile) ≡ None → started_as rs id ≡ Some name → HasRoom rs name
room-put_in rs id size profile name p e = grind (arith, p, e, find-files_of rs name)

room-in_effect : (rs : List Record) (id size profile : ℕ) (name m : List ℕ) →
    refused rs (InEffect id size profile name) ≡ None → Some name ≡ Some m → HasRoom rs m
room-in_effect rs id size profile name m p e =
    let same : name ≡ m = cc in grind (arith, p, same, find-files_of rs name)

-- accepted records have at most as many files in effect as there may be
pub few-files_of : (rs : List Record) → AreAccepted rs → length (files_of rs) ≤ most_files
few-files_of [] a = omega arith
few-files_of (PutDone id size ∷ rs) a = few-put (files_of rs) (started_as rs id) id size
    (profile_in (setup_of rs)) most_files (λ name e. room-put rs id size name a.0 e) (few-files_of rs a.1)
few-files_of (Drop name ∷ rs) a = omega (arith, length-without_le (files_of rs) name, few-files_of rs a.1)
few-files_of (PutDoneIn id size profile ∷ rs) a = few-put (files_of rs) (started_as rs id) id size profile
    most_files (λ name e. room-put_in rs id size profile name a.0 e) (few-files_of rs a.1)
few-files_of (InEffect id size profile name ∷ rs) a = few-put (files_of rs) (Some name) id size profile
    most_files (λ m e. room-in_effect rs id size profile name m a.0 e) (few-files_of rs a.1)
few-files_of (r ∷ rs) a = few-files_of rs a.1

-- ---- the next numbers

-- an accepted start of a put takes the next number, which is not the last one
started-id : (rs : List Record) (id : ℕ) (name : List ℕ) → refused rs (PutStart id name) ≡ None →
    next_id rs ≢ 2 ^ 64 - 1
started-id rs id name p = grind (arith, nat_tests, p)

-- an accepted start of an audit does so too
started-audit : (rs : List Record) (number : ℕ) → refused rs (AuditStart number) ≡ None →
    next_audit rs ≢ 2 ^ 64 - 1
started-audit rs number p = grind (arith, nat_tests, p)

-- the next numbers of an accepted Resume fit 64 bits
resumed-id : (rs : List Record) (id audit : ℕ) → refused rs (Resume id audit) ≡ None → id < 2 ^ 64
resumed-id rs id audit p = grind (arith, nat_tests, p)

resumed-audit : (rs : List Record) (id audit : ℕ) → refused rs (Resume id audit) ≡ None → audit < 2 ^ 64
resumed-audit rs id audit p = grind (arith, nat_tests, p)

-- the next object number of accepted records fits 64 bits
pub next_id-fits : (rs : List Record) → AreAccepted rs → next_id rs < 2 ^ 64
next_id-fits [] a = omega arith
next_id-fits (PutStart id name ∷ rs) a = omega (arith, started-id rs id name a.0, next_id-fits rs a.1)
next_id-fits (Resume id audit ∷ rs) a = resumed-id rs id audit a.0
next_id-fits (r ∷ rs) a = next_id-fits rs a.1

-- the next audit number of accepted records fits 64 bits
pub next_audit-fits : (rs : List Record) → AreAccepted rs → next_audit rs < 2 ^ 64
next_audit-fits [] a = omega arith
next_audit-fits (AuditStart number ∷ rs) a =
    omega (arith, started-audit rs number a.0, next_audit-fits rs a.1)
next_audit-fits (Resume id audit ∷ rs) a = resumed-audit rs id audit a.0
next_audit-fits (r ∷ rs) a = next_audit-fits rs a.1
