-- The ordered list of files in effect has under each name the file that the records have in effect.
use Rattle.record_defs.proofs.Words.{◌≡◌, true, List, [], ◌∷◌, Option, Some, None, if◌then◌else◌, false, refl, arith, nat_tests, Record, SetUp, PutStart, PutDone, Drop, AuditStart, AuditDone, RepairDone, PutDoneIn, Version, Resume, InEffect, RepairDue, File, is_same_name, is_start_of, started_as, file_of, with_file, without_file, with_put, files_of, find_file, is_name_before, file_as, setup_of, profile_in}
use Rattle.std.specs.Prelude.{ℕ}

-- names that are the same are equal
pub same-eq : (m n : List ℕ) → is_same_name m n ≡ true → m ≡ n
same-eq [] [] e = refl
same-eq [] (b ∷ bs) e = grind (arith, e)
same-eq (a ∷ as_) [] e = grind (arith, e)
same-eq (a ∷ as_) (b ∷ bs) e = grind (arith, e, same-eq as_ bs)

-- a name is the same as itself
pub same-refl : (m : List ℕ) → is_same_name m m ≡ true
same-refl [] = refl
same-refl (a ∷ as_) = grind (arith, same-refl as_)

-- finding a name after one was taken out
pub find-without : (fs : List File) (n m : List ℕ) →
    find_file (without_file fs n) m ≡ (if is_same_name n m then None else find_file fs m)
find-without [] n m = grind (arith)
find-without (f ∷ fs) n m = grind (
  arith,
  find-without fs n m,
  same-eq f.name n,
  same-eq f.name m,
  same-refl m,
  same-eq n m,
  same-refl f.name,
)

-- finding a name after a file was put in whose name was not there
find-with : (fs : List File) (f : File) (m : List ℕ) → find_file fs f.name ≡ None →
    find_file (with_file fs f) m ≡ (if is_same_name f.name m then Some f else find_file fs m)
find-with [] f m none = refl
find-with (g ∷ fs) f m none = grind (
  arith,
  find-with fs f m,
  none,
  same-eq g.name m,
  same-eq f.name m,
  same-refl m,
  same-refl f.name,
  same-eq g.name f.name,
)

-- finding a name after a put came in
find-put : (fs : List File) (started : Option (List ℕ)) (id size profile : ℕ) (m : List ℕ) →
    find_file (with_put fs started id size profile) m
    ≡ (if is_start_of m started then Some (file_as m id size profile) else find_file fs m)
find-put fs None id size profile m = refl
find-put fs (Some name) id size profile m =
    let file : File = file_as name id size profile in
    let gone : find_file (without_file fs name) name ≡ None =
    grind (arith, find-without fs name name, same-refl name) in
    grind (arith, find-with (without_file fs name) file m gone, find-without fs name m, same-eq name m)

-- the file in effect under a name is the one that the ordered list has
pub find-files_of : (rs : List Record) (m : List ℕ) → find_file (files_of rs) m ≡ file_of rs m
find-files_of [] m = refl
find-files_of (PutDone id size ∷ rs) m = grind (
  arith,
  find-put (files_of rs) (started_as rs id) id size (profile_in (setup_of rs)) m,
  find-files_of rs m,
)
find-files_of (Drop name ∷ rs) m = grind (arith, find-without (files_of rs) name m, find-files_of rs m)
find-files_of (PutDoneIn id size profile ∷ rs) m =
    grind (arith, find-put (files_of rs) (started_as rs id) id size profile m, find-files_of rs m)
find-files_of (InEffect id size profile name ∷ rs) m =
    grind (arith, find-put (files_of rs) (Some name) id size profile m, find-files_of rs m)
find-files_of (r ∷ rs) m = find-files_of rs m

-- the test of names takes them in either order
pub same-sym : (a b : List ℕ) → is_same_name a b ≡ is_same_name b a
same-sym [] [] = refl
same-sym [] (y ∷ b) = refl
same-sym (x ∷ a) [] = refl
same-sym (x ∷ a) (y ∷ b) = grind (arith, nat_tests, same-sym a b)

-- a name is not before itself
pub before-irrefl : (a : List ℕ) → is_name_before a a ≡ false
before-irrefl [] = refl
before-irrefl (x ∷ a) = grind (arith, nat_tests, before-irrefl a)
