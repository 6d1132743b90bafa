-- The records of a packed journal are accepted, one after the other, and fold to a table that is alike.
use Rattle.record_defs.proofs.Words.{◌≡◌, ◌+◌, ◌≤◌, ◌<◌, ◌==◌, true, false, Bool, not, ◌&&◌, List, [], ◌∷◌, ◌++◌, length, Option, Some, None, is_some, nat_lt, nat_le, list_all, refl, sym, ap, subst, ◌∙◌, arith, append_assoc, length-append, nat_tests, append-nil, Setup, Record, SetUp, Version, Resume, RepairDue, most_files, File, Due, setup_of, version_of, next_id, next_audit, started_as, is_same_name, is_name_before, file_of, files_of, find_file, with_file, without_file, with_put, are_ordered, running_audit, due_of, exceeds, refused, AreAccepted, is_file_id, is_count_each}
use Rattle.std.specs.Prelude.{ℕ, ◌^◌}
use Rattle.record_defs.specs.Packed.{AreAlike, as_record, with_files, with_due, with_setup, packed}
use Rattle.record_defs.proofs.FilesLaws.{same-eq, same-refl, find-files_of}
use Rattle.record_defs.proofs.OrderLaws.{ordered-files_of, few-files_of, next_id-fits, next_audit-fits}
use Rattle.record_defs.proofs.SoundLaws.{AreSound, are_sound}

-- a number that fits 64 bits is not refused as too large
fits-le : (number : ℕ) → number < 2 ^ 64 → nat_le (2 ^ 64) number ≡ false
fits-le number p = grind (arith, nat_tests, p)

-- each of these files comes before a name
abbrev pub are_before : List File → List ℕ → Bool
are_before gs name = list_all (λ g. is_name_before g.name name) gs

-- a name that comes before another is not equal to it
pub before-not_same : (a b : List ℕ) → is_name_before a b ≡ true → is_same_name a b ≡ false
before-not_same [] [] p = absurd cc
before-not_same [] (y ∷ b) p = refl
before-not_same (x ∷ a) [] p = absurd cc
before-not_same (x ∷ a) (y ∷ b) p = grind (arith, nat_tests, p, before-not_same a b)

without-behind : (gs : List File) (name : List ℕ) → are_before gs name ≡ true → without_file gs name ≡ gs
without-behind [] name p = refl
without-behind (g ∷ gs) name p = grind (arith, p, before-not_same g.name name, without-behind gs name)

with-behind : (gs : List File) (f : File) → are_before gs f.name ≡ true → with_file gs f ≡ gs ++ f ∷ []
with-behind [] f p = refl
with-behind (g ∷ gs) f p = grind (arith, p, with-behind gs f)

-- a file that comes behind all others is put at their end
put-behind : (gs : List File) (f : File) → are_before gs f.name ≡ true →
    with_put gs (Some f.name) f.id f.size f.profile ≡ gs ++ f ∷ []
put-behind gs f p = ap (λ l. with_file l f) (without-behind gs f.name p) ∙ with-behind gs f p

find-behind : (gs : List File) (name : List ℕ) → are_before gs name ≡ true → find_file gs name ≡ None
find-behind [] name p = refl
find-behind (g ∷ gs) name p = grind (arith, p, before-not_same g.name name, find-behind gs name)

-- the files to come stand behind those that are there
abbrev are_behind : List File → List File → Bool
are_behind gs fs = list_all (λ (f : File). are_before gs f.name) fs

-- their numbers are others than these, and are drawn
abbrev are_apart : List File → List File → Bool
are_apart gs fs = list_all (λ (f : File). not (is_file_id gs f.id)) fs

-- their numbers differ
abbrev differ : List File → Bool
differ [] = true
differ (f ∷ fs) = list_all (λ (g : File). not (f.id == g.id)) fs && differ fs

-- their numbers are drawn
abbrev are_drawn : ℕ → List File → Bool
are_drawn n fs = list_all (λ (f : File). not (f.id == 0) && nat_lt f.id n) fs

before-more : (gs : List File) (f : File) (name : List ℕ) → are_before gs name ≡ true →
    is_name_before f.name name ≡ true → are_before (gs ++ f ∷ []) name ≡ true
before-more [] f name p q = grind (arith, q)
before-more (g ∷ gs) f name p q = grind (arith, p, q, before-more gs f name)

behind-more : (gs : List File) (f : File) (fs : List File) → are_behind gs fs ≡ true →
    list_all (λ (g : File). is_name_before f.name g.name) fs ≡ true → are_behind (gs ++ f ∷ []) fs ≡ true
behind-more gs f [] p q = refl
behind-more gs f (h ∷ fs) p q = grind (arith, p, q, behind-more gs f fs, before-more gs f h.name)

id-more : (gs : List File) (f : File) (id : ℕ) → is_file_id gs id ≡ false → (f.id == id) ≡ false →
    is_file_id (gs ++ f ∷ []) id ≡ false
id-more [] f id p q = grind (arith, q)
id-more (g ∷ gs) f id p q = grind (arith, p, q, id-more gs f id)

apart-more : (gs : List File) (f : File) (fs : List File) → are_apart gs fs ≡ true →
    list_all (λ (g : File). not (f.id == g.id)) fs ≡ true → are_apart (gs ++ f ∷ []) fs ≡ true
apart-more gs f [] p q = refl
apart-more gs f (h ∷ fs) p q = grind (arith, p, q, apart-more gs f fs, id-more gs f h.id)

-- what is known of records on which files are to be put
record Takes (rs : List Record) (gs fs : List File) : Type 0 where
  accepted : AreAccepted rs
  setup : is_some (setup_of rs) ≡ true
  version : version_of rs ≡ 2
  files : files_of rs ≡ gs
  started : (id : ℕ) → started_as rs id ≡ None
  behind : are_behind gs fs ≡ true
  ordered : are_ordered fs ≡ true
  apart : are_apart gs fs ≡ true
  differ_ : differ fs ≡ true
  drawn : are_drawn (next_id rs) fs ≡ true
  few : length gs + length fs ≤ most_files

-- what is then known of all
record Took (rs qs : List Record) (files : List File) : Type 0 where
  accepted : AreAccepted qs
  setup : setup_of qs ≡ setup_of rs
  version : version_of qs ≡ version_of rs
  id : next_id qs ≡ next_id rs
  audit : next_audit qs ≡ next_audit rs
  files_are : files_of qs ≡ files
  due : due_of qs ≡ due_of rs

first-taken : (rs : List Record) (gs : List File) (f : File) (fs : List File) → Takes rs gs (f ∷ fs) →
    refused rs (as_record f) ≡ None
first-taken rs gs f fs t =
    let apart : is_file_id (files_of rs) f.id ≡ false = grind (arith, t.apart, t.files) in
    let none : file_of rs f.name ≡ None = sym (find-files_of rs f.name)
    ∙ (ap (λ l. find_file l f.name) t.files ∙ find-behind gs f.name (grind (arith, t.behind))) in
    let few : nat_le most_files (length (files_of rs)) ≡ false =
    grind (arith, nat_tests, ap length t.files, t.few) in
    grind (arith, nat_tests, t.setup, t.version, t.started f.id, t.drawn, apart, none, few)

next-takes : (rs : List Record) (gs : List File) (f : File) (fs : List File) → Takes rs gs (f ∷ fs) →
    Takes (as_record f ∷ rs) (gs ++ f ∷ []) fs
next-takes rs gs f fs t = record {
  accepted = (first-taken rs gs f fs t, t.accepted);
  setup = t.setup;
  version = t.version;
  files = ap (λ l. with_put l (Some f.name) f.id f.size f.profile) t.files
      ∙ put-behind gs f (grind (arith, t.behind));
  started = t.started;
  behind = behind-more gs f fs (grind (arith, t.behind)) (grind (arith, t.ordered));
  ordered = grind (arith, t.ordered);
  apart = apart-more gs f fs (grind (arith, t.apart)) (grind (arith, t.differ_));
  differ_ = grind (arith, t.differ_);
  drawn = grind (arith, t.drawn);
  few = omega (arith, length-append gs (f ∷ []), t.few);
}

took : (fs : List File) (rs : List Record) (gs : List File) → Takes rs gs fs →
    Took rs (with_files fs rs) (gs ++ fs)
took [] rs gs t = record {
  accepted = t.accepted;
  setup = refl;
  version = refl;
  id = refl;
  audit = refl;
  files_are = t.files ∙ sym (append-nil gs);
  due = refl;
}
took (f ∷ fs) rs gs t =
    let more = took fs (as_record f ∷ rs) (gs ++ f ∷ []) (next-takes rs gs f fs t) in
    record {
      accepted = more.accepted;
      setup = more.setup;
      version = more.version;
      id = more.id;
      audit = more.audit;
      files_are = more.files_are ∙ append_assoc gs (f ∷ []) fs;
      due = more.due;
    }

-- ---- the files of accepted records, as a packed journal takes them

-- what holds of each file of an ordered list, by its name
abbrev EachFound : (File → Bool) → List File → Type 0
EachFound p fs = (f : File) → find_file fs f.name ≡ Some f → p f ≡ true

found-later : (g : File) (fs : List File) (f : File) →
    list_all (λ (h : File). is_name_before g.name h.name) fs ≡ true → find_file fs f.name ≡ Some f →
    find_file (g ∷ fs) f.name ≡ Some f
found-later g fs f p e = grind (arith, e, not_here g.name f.name fs f p e)
  where
    not_here : (a b : List ℕ) (fs : List File) (f : File) →
        list_all (λ (h : File). is_name_before a h.name) fs ≡ true → find_file fs b ≡ Some f →
        is_same_name a b ≡ false
    not_here a b [] f p e = absurd cc
    not_here a b (h ∷ fs) f p e = grind (
      arith,
      p,
      e,
      same-eq h.name b,
      before-not_same a h.name,
      before-not_same a b,
      not_here a b fs f,
    )

-- so it holds of all
pub all-found : (p : File → Bool) (fs : List File) → are_ordered fs ≡ true → EachFound p fs →
    list_all p fs ≡ true
all-found p [] o each = refl
all-found p (f ∷ fs) o each =
    let here : p f ≡ true = each f (grind (arith, same-refl f.name)) in
    let behind : list_all (λ (h : File). is_name_before f.name h.name) fs ≡ true = grind (arith, o) in
    let more : list_all p fs ≡ true = all-found p fs (grind (arith, o))
    (λ g e. each g (found-later f fs g behind e)) in
    grind (arith, here, more)

-- numbers of files with other names differ
all-differ : (fs : List File) → are_ordered fs ≡ true
    → ((f g : File) → find_file fs f.name ≡ Some f → find_file fs g.name ≡ Some g →
    is_name_before f.name g.name ≡ true → (f.id == g.id) ≡ false) → differ fs ≡ true
all-differ [] o each = refl
all-differ (f ∷ fs) o each =
    let behind : list_all (λ (h : File). is_name_before f.name h.name) fs ≡ true = grind (arith, o) in
    let others : list_all (λ (g : File). not (f.id == g.id)) fs ≡ true =
    all-found (λ (g : File). not (f.id == g.id)) fs (grind (arith, o))
    (λ g e. (let n = each f g (grind (arith, same-refl f.name)) (found-later f fs g behind e)
    (before_all fs g behind e) in grind (arith, n))) in
    let more : differ fs ≡ true = all-differ fs (grind (arith, o))
    (λ a b ea eb l. each a b (found-later f fs a behind ea) (found-later f fs b behind eb) l) in
    grind (arith, others, more)
  where
    before_all : (fs : List File) (g : File) → list_all (λ (h : File). is_name_before f.name h.name) fs
        ≡ true → find_file fs g.name ≡ Some g → is_name_before f.name g.name ≡ true
    before_all [] g p e = absurd cc
    before_all (h ∷ fs) g p e = grind (arith, p, e, same-eq h.name g.name, before_all fs g)

none-behind : (fs : List File) → are_behind [] fs ≡ true
none-behind [] = refl
none-behind (f ∷ fs) = grind (arith, none-behind fs)

none-apart : (fs : List File) → are_apart [] fs ≡ true
none-apart [] = refl
none-apart (f ∷ fs) = grind (arith, none-apart fs)

module _ (rs : List Record) (a : AreAccepted rs) (s : Setup) (set : setup_of rs ≡ Some s)
    (second : version_of rs ≡ 2) where
  S : AreSound rs
  S = are_sound rs a

  -- the first three records of a packed journal
  abbrev base : List Record
  base = Resume (next_id rs) (next_audit rs) ∷ Version ∷ SetUp s ∷ []

  is_file : (f : File) → find_file (files_of rs) f.name ≡ Some f → file_of rs f.name ≡ Some f
  is_file f e = sym (find-files_of rs f.name) ∙ e

  apart : (f g : File) → find_file (files_of rs) f.name ≡ Some f → find_file (files_of rs) g.name ≡ Some g →
      is_name_before f.name g.name ≡ true → (f.id == g.id) ≡ false
  apart f g ef eg l = grind (
    arith,
    nat_tests,
    S.one_name f.name g.name f g (is_file f ef) (is_file g eg),
    before-not_same f.name g.name l,
    same-refl g.name,
  )

  base-takes : Takes base [] (files_of rs)
  base-takes = record {
    accepted = (
      grind (
        arith,
        nat_tests,
        S.ids,
        S.audits,
        fits-le (next_id rs) (next_id-fits rs a),
        fits-le (next_audit rs) (next_audit-fits rs a),
      ),
      (refl, (refl, tt)),
    );
    setup = refl;
    version = refl;
    files = refl;
    started = λ id. refl;
    behind = none-behind (files_of rs);
    ordered = ordered-files_of rs;
    apart = none-apart (files_of rs);
    differ_ = all-differ (files_of rs) (ordered-files_of rs) apart;
    drawn = all-found (λ (f : File). not (f.id == 0) && nat_lt f.id (next_id rs)) (files_of rs)
        (ordered-files_of rs)
        (λ f e. (let p = S.file f.name f (is_file f e) in grind (arith, nat_tests, p.above, p.below)));
    few = omega (arith, few-files_of rs a);
  }

  base-took : Took base (with_files (files_of rs) base) (files_of rs)
  base-took = took (files_of rs) base [] base-takes

  due-taken : (d : Due) → due_of rs ≡ Some d →
      refused (with_files (files_of rs) base) (RepairDue d.number d.counts) ≡ None
  due-taken d e =
      let p = S.due d e in
      let t = base-took in
      let each : is_count_each (length d.counts) (Some s) ≡ true =
      ap (is_count_each (length d.counts)) (sym set) ∙ p.counts in
      let flags : exceeds (Some s) d.counts ≡ true = ap (λ o. exceeds o d.counts) (sym set) ∙ p.flags in
      grind (arith, nat_tests, t.setup, t.version, t.audit, t.due, p.above, p.below, each, flags)

  on_top : (o : Option Due) → due_of rs ≡ o → AreAccepted (with_due o (with_files (files_of rs) base)) ×
      AreAlike (with_due o (with_files (files_of rs) base)) rs
  on_top None e = (
    base-took.accepted,
    record {
      setup = base-took.setup ∙ sym set;
      version = base-took.version ∙ sym second;
      id = base-took.id;
      audit = base-took.audit;
      files = base-took.files_are;
      due = base-took.due ∙ sym e;
    },
  )
  on_top (Some d) e = (
    (due-taken d e, base-took.accepted),
    record {
      setup = base-took.setup ∙ sym set;
      version = base-took.version ∙ sym second;
      id = base-took.id;
      audit = base-took.audit;
      files = base-took.files_are;
      due = sym e;
    },
  )

-- the records of a packed journal are accepted, and their table is alike to that of the records that were
-- packed
pub packed_are : (rs : List Record) → AreAccepted rs → (s : Setup) → setup_of rs ≡ Some s →
    version_of rs ≡ 2 → AreAccepted (packed rs) × AreAlike (packed rs) rs
packed_are rs a s set second = subst (λ (o : Option Setup). AreAccepted
    (with_due (due_of rs)
    (with_files (files_of rs) (Resume (next_id rs) (next_audit rs) ∷ Version ∷ with_setup o))) × AreAlike
    (with_due (due_of rs)
    (with_files (files_of rs) (Resume (next_id rs) (next_audit rs) ∷ Version ∷ with_setup o))) rs) (sym set)
    (on_top rs a s set second (due_of rs) refl)

files-idle : (fs : List File) (rs : List Record) (id : ℕ) → started_as rs id ≡ None →
    running_audit rs ≡ None → (started_as (with_files fs rs) id ≡ None) ×
    (running_audit (with_files fs rs) ≡ None)
files-idle [] rs id p q = (p, q)
files-idle (f ∷ fs) rs id p q = files-idle fs (as_record f ∷ rs) id p q

-- in a packed journal no put is started and no audit runs
pub packed_is_idle : (rs : List Record) → ((id : ℕ) → started_as (packed rs) id ≡ None) ×
    (running_audit (packed rs) ≡ None)
packed_is_idle rs = (λ id. (by (due_of rs) (setup_of rs) id).0, (by (due_of rs) (setup_of rs) 0).1)
  where
    by : (due : Option Due) (set : Option Setup) (id : ℕ) →
        (started_as (with_due due
        (with_files (files_of rs) (Resume (next_id rs) (next_audit rs) ∷ Version ∷ with_setup set))) id
        ≡ None)
        × (running_audit (with_due due
        (with_files (files_of rs) (Resume (next_id rs) (next_audit rs) ∷ Version ∷ with_setup set)))
        ≡ None)
    by None None id = files-idle (files_of rs) (Resume (next_id rs) (next_audit rs) ∷ Version ∷ []) id refl
        refl
    by None (Some s) id =
        files-idle (files_of rs) (Resume (next_id rs) (next_audit rs) ∷ Version ∷ SetUp s ∷ []) id refl refl
    by (Some d) None id =
        files-idle (files_of rs) (Resume (next_id rs) (next_audit rs) ∷ Version ∷ []) id refl refl
    by (Some d) (Some s) id =
        files-idle (files_of rs) (Resume (next_id rs) (next_audit rs) ∷ Version ∷ SetUp s ∷ []) id refl refl
