-- The names of started puts, kept one behind the other, each with a byte for its size.
--
--   Starts                   == what is kept of started puts: in the order of their ids the name of each,
--                               None once it is done; and for how many more there is room
--   begins_at sizes k        == where among the letters the name of a place begins
--   kept_names sizes letters == the names; a size of 128 or more is that of a put that is done
--   started_puts, IsStarts   == how it is kept: of each 64th name a mark tells where it begins
use Rattle.std.specs.Prelude.{◌≡◌, ℕ, zero, suc, ◌+◌, ◌*◌, ◌/◌, ◌%◌, ◌==◌, ◌<◌, ◌≤◌, Bool, true, IsTrue, List, [], ◌∷◌, ◌++◌, length, take, drop, slice_index, Option, None, Some, nat_le, vec_capacity, if◌then◌else◌}
use Rattle.std.specs.List.{list_all}
use Rattle.record_defs.specs.Records.{is_name}
use Rattle.vault_table.specs.declared.starts.Starts.TheInside.{Inside}

-- what is kept of started puts
pub record Starts : Type 0 where
  pub names : List (Option (List ℕ))
  pub spare : ℕ

-- where among the letters the name of a place begins
abbrev pub begins_at : List ℕ → ℕ → ℕ
begins_at [] k = 0
begins_at (s ∷ sizes) zero = 0
begins_at (s ∷ sizes) (suc k) = s % 128 + begins_at sizes k

-- the name at the front of letters, unless its put is done
abbrev pub name_of : ℕ → List ℕ → Option (List ℕ)
name_of size letters = if nat_le 128 size then None else Some (take (size % 128) letters)

-- the names
abbrev pub kept_names : List ℕ → List ℕ → List (Option (List ℕ))
kept_names [] letters = []
kept_names (s ∷ sizes) letters = name_of s letters ∷ kept_names sizes (drop (s % 128) letters)

-- what stands there is a name
abbrev pub is_kept_name : Option (List ℕ) → Bool
is_kept_name None = true
is_kept_name (Some name) = is_name name

-- marks with one more, where so many names have a 64th one next, which begins at this place
abbrev pub with_mark : ℕ → ℕ → List ℕ → List ℕ
with_mark count at marks = if count % 64 == 0 then marks ++ at ∷ [] else marks

-- how many marks so many names have
abbrev pub marks_for : ℕ → ℕ
marks_for count = (count + 63) / 64

-- of each 64th name a mark tells where it begins
pub record AreNameMarks (sizes marks : List ℕ) : Type 0 where
  pub count : length marks ≡ marks_for (length sizes)
  pub at : (i : ℕ) → i < length marks → slice_index marks i ≡ begins_at sizes (64 * i)

-- the started puts that are kept so
abbrev pub started_puts : Inside → Starts
started_puts a = record { names = kept_names a.sizes.items a.letters.items; spare = a.spare }

-- the letters are those of the names, each is a name, and there is the room that was reserved
pub record IsStarts (a : Inside) : Type 0 where
  pub letters : length a.letters.items ≡ begins_at a.sizes.items (length a.sizes.items)
  pub names : IsTrue (list_all is_kept_name (kept_names a.sizes.items a.letters.items))
  pub marks : AreNameMarks a.sizes.items a.marks.items
  pub room_of_sizes : length a.sizes.items + a.spare ≤ vec_capacity a.sizes
  pub room_of_letters : length a.letters.items + 64 * a.spare ≤ vec_capacity a.letters
  pub room_of_marks : length a.marks.items + a.spare ≤ vec_capacity a.marks
