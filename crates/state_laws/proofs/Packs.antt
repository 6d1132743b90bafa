-- The journal that a pack writes has a spelling and fits in either area; and what links a journal to its
-- history goes on with one record more.
use Rattle.state_laws.proofs.Words.{◌≡◌, ◌*◌, ◌<◌, ◌==◌, true, cond, ◌&&◌, length, Option, refl, ap, sym, subst, ◌∙◌, inl, inr, arith, is_some, IsTrue, nat_lt, nat_le, list_all, cases_Bool, false≢true, and_from, lt-ltb, nat_tests, In, some-not-none, Setup, Record, SetUp, PutStart, PutDone, PutDoneIn, Version, Resume, InEffect, RepairDue, is_name, is_appended, is_in_grammar, largest_file, largest_journal, most_files, all_profiles, File, Due, setup_of, version_of, next_id, next_audit, started_as, with_put, file_of, files_of, find_file, due_of, refused, put_done_refused, is_crowded, AreAccepted, AreAlike, as_record, with_files, with_due, with_setup, packed, Area, A, B, other_area, entries_size, end_in, find-files_of, few-files_of, next_id-fits, next_audit-fits, State, listed_file, cond_true, cond_false, same_value, IsSoundJournal}
use Rattle.std.proofs.Common.{ℕ, ◌+◌, ◌^◌, ◌≤◌, List, [], ◌∷◌, Some, None}
use Rattle.std.specs.Prelude.{not}
use Rattle.record_defs.specs.Acceptance as no
use Rattle.record_defs.proofs.PackLaws.{packed_are, packed_is_idle}
use Rattle.machine_defs.proofs.Journals.{StartsAlike, alike-more, packed-alike}
use Rattle.state_laws.proofs.Records.{is_some-at, AreInGrammar, grammar-more, IsFit, file-spelled, due-spelled, setup-spelled, second-set_up, sound-accepted, AreAppended, appended-first, appended-rest}

-- ---- the packed journal is spelled

spelled-files : (fs : List File) (rs : List Record) →
    ((f : File) → In f fs → IsTrue (is_in_grammar (as_record f))) → AreInGrammar rs → AreInGrammar (with_files fs rs)
spelled-files [] rs each g = g
spelled-files (f ∷ fs) rs each g = spelled-files fs (as_record f ∷ rs) (λ x i. each x (inr i))
    (grammar-more (as_record f) rs (each f (inl refl)) g)

module _ (rs : List Record) (a : AreAccepted rs) (g : AreInGrammar rs) where
  file-fits : (f : File) → In f (files_of rs) → IsFit f.name f
  file-fits f i = file-spelled rs f.name f g (listed_file rs f i)

  file-record : (f : File) → In f (files_of rs) → IsTrue (is_in_grammar (as_record f))
  file-record f i = (let t = file-fits f i in
      let below = ((sound-accepted rs a).file f.name f (listed_file rs f i)).0 in
      let l = next_id-fits rs a in
      fit f.id f.size f.profile f.name (omega (arith, below, l)) t.1 t.2 t.0)
    where
      fit : (id size profile : ℕ) (name : List ℕ) → id < 2 ^ 64 → size ≤ largest_file →
          profile < all_profiles → is_name name ≡ true → IsTrue (is_in_grammar (InEffect id size profile name))
      fit id size profile name l s p n = grind (arith, nat_tests, l, s, p, n)

  abbrev base : List Record
  base = Resume (next_id rs) (next_audit rs) ∷ Version ∷ with_setup (setup_of rs)

  base-spelled : AreInGrammar base
  base-spelled = grammar-more (Resume (next_id rs) (next_audit rs)) (Version ∷ with_setup (setup_of rs))
      (and_from (nat_lt (next_id rs) (2 ^ 64)) (nat_lt (next_audit rs) (2 ^ 64))
      (lt-ltb (next_id rs) (2 ^ 64) (next_id-fits rs a))
      (lt-ltb (next_audit rs) (2 ^ 64) (next_audit-fits rs a)))
      (grammar-more Version (with_setup (setup_of rs)) refl (set_up (setup_of rs) refl))
    where
      set_up : (o : Option Setup) → setup_of rs ≡ o → AreInGrammar (with_setup o)
      set_up None e = refl
      set_up (Some s) e = grammar-more (SetUp s) [] (setup-spelled rs s g e) refl

  packed-spelled : AreInGrammar (packed rs)
  packed-spelled = on_top (due_of rs) refl
    where
      files : AreInGrammar (with_files (files_of rs) base)
      files = spelled-files (files_of rs) base file-record base-spelled

      on_top : (o : Option Due) → due_of rs ≡ o → AreInGrammar (with_due o (with_files (files_of rs) base))
      on_top None e = files
      on_top (Some d) e = grammar-more (RepairDue d.number d.counts) (with_files (files_of rs) base)
          (due-spelled rs d g e) files

  -- ---- and short

  files-size : (fs : List File) (qs : List Record) → ((f : File) → In f fs → length f.name ≤ 64) →
      entries_size (with_files fs qs) ≤ entries_size qs + 80 * length fs
  files-size [] qs each = omega arith
  files-size (f ∷ fs) qs each =
      (omega (arith, files-size fs (as_record f ∷ qs) (λ x i. each x (inr i)), (each f (inl refl))))

  name-short : (f : File) → In f (files_of rs) → length f.name ≤ 64
  name-short f i = short f.name (file-fits f i).0
    where
      short : (name : List ℕ) → is_name name ≡ true → length name ≤ 64
      short name h = grind (arith, nat_tests, h)

  base-size : entries_size base ≤ 63
  base-size = by (setup_of rs)
    where
      by : (o : Option Setup) →
          entries_size (Resume (next_id rs) (next_audit rs) ∷ Version ∷ with_setup o) ≤ 63
      by None = omega arith
      by (Some s) = omega arith

  packed-size : entries_size (packed rs) ≤ 2 ^ 17
  packed-size = on_top (due_of rs) refl
    where
      files : entries_size (with_files (files_of rs) base) ≤ 81983
      files = omega (arith, base-size, files-size (files_of rs) base name-short, few-files_of rs a)

      few : (d : Due) → IsTrue (is_in_grammar (RepairDue d.number d.counts)) → length d.counts ≤ 16
      few d h = grind (arith, nat_tests, h)

      on_top : (o : Option Due) → due_of rs ≡ o →
          entries_size (with_due o (with_files (files_of rs) base)) ≤ 2 ^ 17
      on_top None e = omega (arith, files)
      on_top (Some d) e = omega (arith, files, few d (due-spelled rs d g e))

  -- a packed journal fits in either area
  packed-room : (area : Area) → end_in area (packed rs) ≤ largest_journal
  packed-room A = omega (arith, packed-size)
  packed-room B = omega (arith, packed-size)

-- ---- a journal and its history

-- the file in effect under a name is the same
pub file-alike : (rs qs : List Record) (name : List ℕ) → AreAlike rs qs → file_of rs name ≡ file_of qs name
file-alike rs qs name a =
    sym (find-files_of rs name) ∙ (ap (λ fs. find_file fs name) a.files ∙ find-files_of qs name)

-- where tables are alike, a name is one file too many in both or in neither
pub crowded-alike : (rs qs : List Record) (name : List ℕ) → AreAlike rs qs →
    is_crowded rs name ≡ is_crowded qs name
crowded-alike rs qs name a =
    ap (λ fs. nat_le most_files (length fs) && not (is_some (file_of rs name))) a.files
    ∙ ap (λ o. nat_le most_files (length (files_of qs)) && not (is_some o)) (file-alike rs qs name a)

-- the start of a put's end that is accepted
pub started-in : (rs : List Record) (o : Option (List ℕ)) → put_done_refused rs o ≡ None →
    (name : List ℕ) × (o ≡ Some name)
started-in rs None h = absurd (some-not-none _ no.NotStarted refl h)
started-in rs (Some name) h = (name, refl)

-- what is started in the journal is so in the history
abbrev AreStarted : List Record → List Record → Type 0
AreStarted rs qs = (id : ℕ) (name : List ℕ) → started_as rs id ≡ Some name → started_as qs id ≡ Some name

starts-alike : (rs qs : List Record) (r : Record) → refused rs r ≡ None → AreStarted rs qs →
    StartsAlike rs qs r
starts-alike rs qs (PutDone id size) h f k e = (let t = started-in rs (started_as rs id) (grind arith) in
    let same = same_value (Some id) id k refl e in
    (rw same at (t.1 ∙ sym (f id t.0 t.1))))
starts-alike rs qs (PutDoneIn id size profile) h f k e =
    (let t = started-in rs (started_as rs id) (grind arith) in
    let same = same_value (Some id) id k refl e in
    (rw same at (t.1 ∙ sym (f id t.0 t.1))))
starts-alike rs qs r h f k e = absurd (cc e)

-- tables stay alike with any record more
alike-any : (rs qs : List Record) (r : Record) → StartsAlike rs qs r → AreAlike rs qs →
    AreAlike (r ∷ rs) (r ∷ qs)
alike-any rs qs (Resume next audit) f a =
    record { setup = a.setup; version = a.version; id = refl; audit = refl; files = a.files; due = a.due }
alike-any rs qs (InEffect id size profile name) f a =
    record {
      setup = a.setup;
      version = a.version;
      id = a.id;
      audit = a.audit;
      files = ap (λ fs. with_put fs (Some name) id size profile) a.files;
      due = a.due;
    }
alike-any rs qs (RepairDue number counts) f a =
    record { setup = a.setup; version = a.version; id = a.id; audit = a.audit; files = a.files; due = refl }
alike-any rs qs r f a = alike-more rs qs r tt f a

-- a number that one more record of a put starts or ends
started-both : (rs qs : List Record) (number k : ℕ) (now : Option (List ℕ)) (name : List ℕ) →
    (started_as rs k ≡ Some name → started_as qs k ≡ Some name) →
    cond (number == k) now (started_as rs k) ≡ Some name →
    cond (number == k) now (started_as qs k) ≡ Some name
started-both rs qs number k now name f h = elim (cases_Bool (number == k)) [
  | inl t ↦ cond_true (number == k) now (started_as qs k) t
      ∙ (sym (cond_true (number == k) now (started_as rs k) t) ∙ h)
  | inr o ↦ cond_false (number == k) now (started_as qs k) o
      ∙ f (sym (cond_false (number == k) now (started_as rs k) o) ∙ h)
]

started-any : (rs qs : List Record) (r : Record) → AreStarted rs qs → AreStarted (r ∷ rs) (r ∷ qs)
started-any rs qs (PutStart id n) f k name h = started-both rs qs id k (Some n) name (f k name) h
started-any rs qs (PutDone id size) f k name h = started-both rs qs id k None name (f k name) h
started-any rs qs (PutDoneIn id size profile) f k name h = started-both rs qs id k None name (f k name) h
started-any rs qs r f k name h = f k name h

-- ---- what a state has of both

-- a state with the same records, journal and area
pub journal-same : (old new : State) → new.records ≡ old.records → new.journal ≡ old.journal →
    new.area ≡ old.area → IsSoundJournal old → IsSoundJournal new
journal-same old new er ej ea J = record {
  accepted = subst AreAccepted (sym ej) J.accepted;
  spelled = subst AreInGrammar (sym ej) J.spelled;
  alike = subst (λ l. AreAlike l new.records) (sym ej) (subst (λ l. AreAlike old.journal l) (sym er) J.alike);
  started = λ id name h. ap (λ l. started_as l id) er
      ∙ J.started id name (sym (ap (λ l. started_as l id) ej) ∙ h);
  whole = λ v. ej ∙ (J.whole (sym (ap (list_all is_appended) ej) ∙ v) ∙ sym er);
  first = λ e. ea ∙ J.first (sym ej ∙ e);
}

-- one more record on both
pub journal-brought : (old new : State) (r : Record) → new.records ≡ r ∷ old.records →
    new.journal ≡ r ∷ old.journal → IsTrue (is_in_grammar r) → refused old.journal r ≡ None →
    IsSoundJournal old → IsSoundJournal new
journal-brought old new r er ej g a J = record {
  accepted = subst AreAccepted (sym ej) (a, J.accepted);
  spelled = subst AreInGrammar (sym ej) (grammar-more r old.journal g J.spelled);
  alike = subst (λ l. AreAlike l new.records) (sym ej) (subst (λ l. AreAlike (r ∷ old.journal) l) (sym er)
      (alike-any old.journal old.records r (starts-alike old.journal old.records r a J.started) J.alike));
  started = λ id name h. ap (λ l. started_as l id) er
      ∙ started-any old.journal old.records r J.started id name (sym (ap (λ l. started_as l id) ej) ∙ h);
  whole = λ v. (let W = J.whole (appended-rest r old.journal (sym (ap (list_all is_appended) ej) ∙ v)) in
      ej ∙ (ap (λ l. r ∷ l) W ∙ sym er));
  first = λ e. absurd (let none : r ∷ old.journal ≡ [] = sym ej ∙ e in cc);
}

-- with files on top of records that are not all appended there are such still
files-not-appended : (fs : List File) (rs : List Record) → (AreAppended rs → ⊥) →
    AreAppended (with_files fs rs) → ⊥
files-not-appended [] rs none h = none h
files-not-appended (f ∷ fs) rs none h =
    files-not-appended fs (as_record f ∷ rs) (λ a. none (appended-rest (as_record f) rs a)) h

due-not-appended : (due : Option Due) (rs : List Record) → (AreAppended rs → ⊥) →
    AreAppended (with_due due rs) → ⊥
due-not-appended None rs none h = none h
due-not-appended (Some due) rs none h = none (appended-rest (RepairDue due.number due.counts) rs h)

-- a packed journal has a record that no job appends
pub packed-not-appended : (rs : List Record) → AreAppended (packed rs) → ⊥
packed-not-appended rs = due-not-appended (due_of rs) (with_files (files_of rs) lowest)
    (files-not-appended (files_of rs) lowest (λ a. false≢true
    (appended-first (Resume (next_id rs) (next_audit rs)) (Version ∷ with_setup (setup_of rs)) a)))
  where
    lowest : List Record
    lowest = Resume (next_id rs) (next_audit rs) ∷ Version ∷ with_setup (setup_of rs)

-- the packed journal in place of that of the second version
pub journal-packed : (old new : State) → new.records ≡ old.records → new.journal ≡ packed old.journal →
    version_of old.records ≡ 2 → IsSoundJournal old → IsSoundJournal new
journal-packed old new er ej second J = (let second_too = J.alike.version ∙ second in
    let s = is_some-at (setup_of old.journal) (second-set_up old.journal J.accepted second_too) in
    record {
      accepted = rw (← ej) at (packed_are old.journal J.accepted s.0 s.1 second_too).0;
      spelled = rw (← ej) at (packed-spelled old.journal J.accepted J.spelled);
      alike = subst (λ l. AreAlike l new.records) (sym ej)
          (rw (← er) at (packed-alike old.journal old.records s.0 J.accepted s.1 second_too J.alike));
      started = λ id name h. absurd
          (some-not-none _ name h (ap (λ l. started_as l id) ej ∙ (packed_is_idle old.journal).0 id));
      whole = λ v. absurd (packed-not-appended old.journal (sym (ap (list_all is_appended) ej) ∙ v));
      first = λ e. absurd (packed-not-appended old.journal (ap (list_all is_appended) (sym ej ∙ e)));
    })

-- a disk that holds the whole history, and none in the second area
pub journal-whole : (w : State) → w.journal ≡ w.records → (w.journal ≡ [] → w.area ≡ A) →
    AreAccepted w.records → AreInGrammar w.records → IsSoundJournal w
journal-whole w same first a g = record {
  accepted = subst AreAccepted (sym same) a;
  spelled = subst AreInGrammar (sym same) g;
  alike = subst (λ l. AreAlike l w.records) (sym same)
      (record { setup = refl; version = refl; id = refl; audit = refl; files = refl; due = refl });
  started = λ id name h. ap (λ l. started_as l id) (sym same) ∙ h;
  whole = λ v. same;
  first = first;
}

-- what a disk may hold that is read again fits in its area
pub switched-room : (journal : List Record) (area : Area) → AreAccepted journal → AreInGrammar journal →
    end_in (other_area area) (packed journal) ≤ largest_journal
switched-room journal area a g = packed-room journal a g (other_area area)
