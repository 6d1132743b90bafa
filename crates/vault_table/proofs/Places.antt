-- Places of names among the entries of a table.
use Rattle.vault_table.proofs.Words.{false, not, nat_le, refl, sym, ap, subst, ◌∙◌, arith, get_or, insert, remove, get_or-map, length-map, map-append, take-map, drop-map, le-leb, File, is_name_before, are_ordered, Entry, comes_after, comes_before, IsHere, IsBetween, file_of_entry, is_full_without}
use Rattle.std.specs.Prelude.{◌≡◌, ℕ, suc, ◌+◌, ◌<◌, ◌≤◌, true, List, ◌∷◌, ◌++◌, length, take, drop, map}
use Rattle.vault_table.proofs.Orders.{front-after, back-before, is_here, find-here, find-between}

module _ (es : List Entry) (i : ℕ) (e : Entry) (lt : i < length es) (read : e ≡ get_or es i e) where
  abbrev fs : List File
  fs = map file_of_entry es

  inside : i < length fs
  inside = omega (arith, length-map {B = File} es file_of_entry, lt)

  -- a read at the place of an entry gives the file of this entry
  pub found : get_or fs i (file_of_entry e) ≡ file_of_entry e
  found = get_or-map file_of_entry es i e (file_of_entry e) lt ∙ ap file_of_entry (sym read)

  -- a name behind that of an entry comes behind all up to its place
  pub less : (name : List ℕ) → are_ordered fs ≡ true → is_name_before e.name name ≡ true →
      comes_after name (take (i + 1) fs) ≡ true
  less name o p = front-after fs i (file_of_entry e) name o inside
      (subst (λ (f : File). is_name_before f.name name ≡ true) (sym found) p)

  -- a name before that of an entry comes before all from its place on
  pub greater : (name : List ℕ) → are_ordered fs ≡ true → is_name_before name e.name ≡ true →
      comes_before name (drop i fs) ≡ true
  greater name o p = back-before fs i (file_of_entry e) name o inside
      (subst (λ (f : File). is_name_before name f.name ≡ true) (sym found) p)

  -- the name of an entry has its file at this place
  pub equal : (name : List ℕ) → are_ordered fs ≡ true → e.name ≡ name → IsHere fs name i
  equal name o p = is_here fs i (file_of_entry e) name o inside (ap (λ (f : File). f.name) found ∙ p)

-- edits of the entries are edits of the files
pub map-insert : (es : List Entry) (i : ℕ) (e : Entry) →
    map file_of_entry (insert es i e) ≡ insert (map file_of_entry es) i (file_of_entry e)
map-insert es i e = map-append file_of_entry (take i es) (e ∷ drop i es)
    ∙ (λ k. sym (take-map file_of_entry i es) k ++ file_of_entry e ∷ sym (drop-map file_of_entry i es) k)

-- the files of entries without one are the files without that one
pub map-remove : (es : List Entry) (i : ℕ) → map file_of_entry (remove es i) ≡ remove (map file_of_entry es) i
map-remove es i = map-append file_of_entry (take i es) (drop (suc i) es)
    ∙ (λ k. sym (take-map file_of_entry i es) k ++ sym (drop-map file_of_entry (suc i) es) k)

-- the place of a name is one among the entries
pub inside-here : (es : List Entry) (name : List ℕ) (i : ℕ) → IsHere (map file_of_entry es) name i →
    i < length es
inside-here es name i here = omega (arith, here.within, length-map {B = File} es file_of_entry)

-- a name that there is has room in any table
pub fits-here : (es : List Entry) (name : List ℕ) (i : ℕ) → IsHere (map file_of_entry es) name i →
    true ≡ not (is_full_without (map file_of_entry es) name)
fits-here es name i here = rw (find-here (map file_of_entry es) name i here) (grind arith)

-- a new name has no room in a table that is full
pub full-between : (es : List Entry) (name : List ℕ) (i : ℕ) → IsBetween (map file_of_entry es) name i →
    1024 ≤ length es → false ≡ not (is_full_without (map file_of_entry es) name)
full-between es name i is many =
    let tests : nat_le 1024 (length (map file_of_entry es)) ≡ true =
    le-leb _ _ (omega (arith, many, length-map {B = File} es file_of_entry)) in
    rw (tests, find-between (map file_of_entry es) name i is) refl

-- a name has the same place in equal lists of entries
pub here-of : (l es : List Entry) (name : List ℕ) (i : ℕ) → l ≡ es → IsHere (map file_of_entry l) name i →
    IsHere (map file_of_entry es) name i
here-of l es name i e here = subst (λ (x : List Entry). IsHere (map file_of_entry x) name i) e here

-- a name that is new to a list of entries would stand at the same place of an equal one
pub between-of : (l es : List Entry) (name : List ℕ) (i : ℕ) → l ≡ es →
    IsBetween (map file_of_entry l) name i → IsBetween (map file_of_entry es) name i
between-of l es name i e is = subst (λ (x : List Entry). IsBetween (map file_of_entry x) name i) e is
