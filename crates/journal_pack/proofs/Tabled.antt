-- The records of the packed journal of a table.
use Rattle.journal_pack.proofs.Words.{◌≡◌, ℕ, zero, suc, ◌+◌, ◌<◌, Bool, true, List, [], ◌∷◌, ◌++◌, length, take, map, get_or, Some, None, refl, sym, ap, ◌∙◌, arith, length-append, IsTrue, reverse, slice_get, list_all, All-nil, All-cons, All-head, All-tail, Entry, Version, Resume, is_in_grammar, File, as_record, with_files, with_due, with_setup, packed, entry_of, HasPadding, IsInGrammar, newest_first, Kept, IsFoldOf, entries, entries_size, length-entries}
use Rattle.std.specs.Prelude.{All}
use Rattle.std.proofs.lemmas.Bool.{and_parts, and_from}
use Rattle.std.proofs.lemmas.List.{reverse-append, take_more}
use Rattle.std.proofs.lemmas.List.Folds.{list_all-append}
use Rattle.record_codec.specs.declared.records.Record.{Record}
use Rattle.journal_pack.specs.Tables.{packed_table}

-- one file more on top
pub files-push : (fs : List File) (f : File) (rs : List Entry) →
    with_files (fs ++ f ∷ []) rs ≡ as_record f ∷ with_files fs rs
files-push [] f rs = refl
files-push (g ∷ fs) f rs = files-push fs f (as_record g ∷ rs)

-- the file at a place
get-at : (fs : List File) (i : ℕ) (f : File) → slice_get fs i ≡ Some f → (i < length fs) × (get_or fs i f ≡ f)
get-at [] i f h = absurd cc
get-at (g ∷ fs) zero f h = (omega arith, (let e : g ≡ f = cc in e))
get-at (g ∷ fs) (suc i) f h =
    let later = get-at fs i f h in
    let below = later.0 in
    (omega (arith, below), later.1)

-- the records with the file at a place too
pub files-next : (fs : List File) (i : ℕ) (f : File) (rs qs : List Entry) → slice_get fs i ≡ Some f →
    qs ≡ with_files (take i fs) rs → as_record f ∷ qs ≡ with_files (take (i + 1) fs) rs
files-next fs i f rs qs h is =
    let at = get-at fs i f h in
    ap (λ (l : List Entry). as_record f ∷ l) is
    ∙ sym (ap (λ (l : List File). with_files l rs)
    (take_more fs i f at.0 ∙ ap (λ (g : File). take i fs ++ g ∷ []) at.1)
    ∙ files-push (take i fs) f rs)

-- the packed journal of a table is that of the records that it folds
pub packed-folds : (rs : List Entry) (t : Kept) → IsFoldOf rs t → packed_table t ≡ packed rs
packed-folds rs t is = (λ i. with_due (is.due i)
    (with_files (is.files i) (Resume (is.id i) (is.audit i) ∷ Version ∷ with_setup (is.setup i))))

-- what is true of each element in reverse is true of each
all-reverse : {X : Type 0} (p : X → Bool) (xs : List X) → list_all p (reverse xs) ≡ true →
    list_all p xs ≡ true
all-reverse p [] h = refl
all-reverse p (x ∷ xs) h =
    let parts = and_parts (list_all p (reverse xs)) (list_all p (x ∷ []))
    (sym (list_all-append p (reverse xs) (x ∷ [])) ∙ ap (list_all p) (sym (reverse-append (x ∷ []) xs)) ∙ h) in
    let one = and_parts (p x) true parts.1 in
    and_from (p x) (list_all p xs) one.0 (all-reverse p xs parts.0)

all-entries : (records : List Record) → list_all is_in_grammar (map entry_of records) ≡ true →
    All (λ r. IsTrue (is_in_grammar (entry_of r))) records
all-entries [] h = All-nil (λ r. IsTrue (is_in_grammar (entry_of r)))
all-entries (r ∷ records) h =
    let parts = and_parts (is_in_grammar (entry_of r)) (list_all is_in_grammar (map entry_of records)) h in
    All-cons (λ x. IsTrue (is_in_grammar (entry_of x))) r records parts.0 (all-entries records parts.1)

-- records whose plain data have spellings, with padded counts, have spellings
pub have-spellings : (records : List Record) → All HasPadding records →
    IsTrue (list_all is_in_grammar (newest_first records)) → All IsInGrammar records
have-spellings records padded h =
    let each = all-entries records (all-reverse is_in_grammar (map entry_of records) h) in
    (λ k d inside. record { spelled = each k d inside; padded = padded k d inside })

-- at a place of a list something stands
pub get-none : {X : Type 0} (xs : List X) (i : ℕ) → i < length xs → slice_get xs i ≡ None → ⊥
get-none [] i inside h = absurd (omega (arith, inside))
get-none (x ∷ xs) zero inside h = cc
get-none (x ∷ xs) (suc i) inside h = get-none xs i (omega (arith, inside)) h

-- what is true of each element is true of each in reverse
reverse-all : {X : Type 0} (p : X → Bool) (xs : List X) → list_all p xs ≡ true →
    list_all p (reverse xs) ≡ true
reverse-all p [] h = refl
reverse-all p (x ∷ xs) h =
    let parts = and_parts (p x) (list_all p xs) h in
    ap (list_all p) (reverse-append (x ∷ []) xs) ∙ list_all-append p (reverse xs) (x ∷ [])
    ∙ and_from (list_all p (reverse xs)) (list_all p (x ∷ [])) (reverse-all p xs parts.1)
    (and_from (p x) true parts.0 refl)

entries-all : (records : List Record) → All IsInGrammar records →
    list_all is_in_grammar (map entry_of records) ≡ true
entries-all [] each = refl
entries-all (r ∷ records) each =
    and_from (is_in_grammar (entry_of r)) (list_all is_in_grammar (map entry_of records))
    (All-head IsInGrammar r records each).spelled (entries-all records (All-tail IsInGrammar r records each))

-- the plain data of records that have spellings have them
pub are-spelled : (records : List Record) → All IsInGrammar records →
    IsTrue (list_all is_in_grammar (newest_first records))
are-spelled records each = reverse-all is_in_grammar (map entry_of records) (entries-all records each)

-- so their text is as long as is told
pub text-long : (records : List Record) → All IsInGrammar records →
    length (entries (newest_first records) ++ 0 ∷ []) ≡ entries_size (newest_first records) + 1
text-long records each = omega (
  arith,
  length-append (entries (newest_first records)) (0 ∷ []),
  length-entries (newest_first records) (are-spelled records each),
)
