-- Places of names among files in byte order of their names.
--
--   order_of a b            == how two names stand in byte order
--   comes_after name files  == each file's name comes before the name
--   comes_before name files == the name comes before each file's name
--   IsHere files name i     == the file at place i has the name
--   IsBetween files name i  == the files up to place i come before the name, and those from there on after it
use Rattle.std.specs.Prelude.{◌≡◌, ◌≤◌, ◌<◌, ℕ, true, Bool, nat_lt, ◌==◌, List, [], ◌∷◌, ◌++◌, length, take, drop, if◌then◌else◌}
use Rattle.std.specs.List.{list_all}
use Rattle.std.specs.declared.cmp.Ordering.{Ordering}
use Rattle.std.specs.declared.cmp.Ordering.TheVariants.{Less, Equal, Greater}
use Rattle.record_defs.specs.Table.{File, is_name_before}

-- how two names stand
abbrev pub order_of : List ℕ → List ℕ → Ordering
order_of [] [] = Equal
order_of [] (b ∷ bs) = Less
order_of (a ∷ as_) [] = Greater
order_of (a ∷ as_) (b ∷ bs) = if a == b then order_of as_ bs else (if nat_lt a b then Less else Greater)

-- each file's name comes before the name
abbrev pub comes_after : List ℕ → List File → Bool
comes_after name files = list_all (λ f. is_name_before f.name name) files

-- the name comes before each file's name
abbrev pub comes_before : List ℕ → List File → Bool
comes_before name files = list_all (λ f. is_name_before name f.name) files

-- a file of the name, with files of smaller names in front of it and of greater ones behind it
pub record IsHere (files : List File) (name : List ℕ) (i : ℕ) : Type 0 where
  pub within : i < length files
  pub file : File
  pub behind : List File
  pub parts : files ≡ take i files ++ file ∷ behind
  pub same : file.name ≡ name
  pub after : comes_after name (take i files) ≡ true
  pub before : comes_before name behind ≡ true

-- where a name would stand that no file has
pub record IsBetween (files : List File) (name : List ℕ) (i : ℕ) : Type 0 where
  pub within : i ≤ length files
  pub after : comes_after name (take i files) ≡ true
  pub before : comes_before name (drop i files) ≡ true
