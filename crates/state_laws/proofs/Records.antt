-- What holds of records that the fold accepts and that are in the grammar, and how one record more keeps it.
use Rattle.state_laws.proofs.Words.{◌≡◌, ◌<◌, ◌==◌, true, false, ◌⊎◌, length, Option, refl, ap, sym, subst, ◌∙◌, inl, inr, arith, is_some, IsTrue, list_all, cases_Bool, false≢true, and_parts, and_from, nat_tests, some-not-none, Setup, Record, SetUp, PutStart, PutDone, Drop, AuditDone, RepairDone, is_name, is_appended, is_in_grammar, largest_file, all_profiles, PutDoneIn, Version, Resume, InEffect, RepairDue, File, Due, file_as, profile_in, setup_of, version_of, next_id, next_audit, started_as, is_same_name, is_start_of, file_of, due_of, exceeds, entries_size, same-eq, refused, AreAccepted, AreBytes, cond_true, cond_false, same_value, AreSound, IsHeld, BringsHeld, AreHeld}
use Rattle.std.proofs.Common.{ℕ, ◌+◌, ◌≤◌, ◌^◌, List, [], ◌∷◌, Some, None}
use Rattle.record_defs.specs.Acceptance as no
use Rattle.record_defs.proofs.SoundLaws.{are_sound, next_id-more}

-- an option that is not none has a value
pub is_some-at : {X : Type 0} (o : Option X) → is_some o ≡ true → (x : X) × (o ≡ Some x)
is_some-at None h = absurd (false≢true h)
is_some-at (Some x) h = (x, refl)

-- ---- the grammar

-- each record is in the grammar
abbrev pub AreInGrammar : List Record → Type 0
AreInGrammar rs = IsTrue (list_all is_in_grammar rs)

grammar-first : (r : Record) (rs : List Record) → AreInGrammar (r ∷ rs) → IsTrue (is_in_grammar r)
grammar-first r rs h = (and_parts (is_in_grammar r) (list_all is_in_grammar rs) h).0

-- of records in the grammar those before the newest are in it too
pub grammar-rest : (r : Record) (rs : List Record) → AreInGrammar (r ∷ rs) → AreInGrammar rs
grammar-rest r rs h = (and_parts (is_in_grammar r) (list_all is_in_grammar rs) h).1

-- records in the grammar, and one more in it, are in it
pub grammar-more : (r : Record) (rs : List Record) → IsTrue (is_in_grammar r) → AreInGrammar rs →
    AreInGrammar (r ∷ rs)
grammar-more r rs g h = and_from (is_in_grammar r) (list_all is_in_grammar rs) g h

-- each record is one that a job appends
abbrev pub AreAppended : List Record → Type 0
AreAppended rs = IsTrue (list_all is_appended rs)

-- of such records the newest is one
pub appended-first : (r : Record) (rs : List Record) → AreAppended (r ∷ rs) → IsTrue (is_appended r)
appended-first r rs h = (and_parts (is_appended r) (list_all is_appended rs) h).0

-- of such records those before the newest are such too
pub appended-rest : (r : Record) (rs : List Record) → AreAppended (r ∷ rs) → AreAppended rs
appended-rest r rs h = (and_parts (is_appended r) (list_all is_appended rs) h).1

-- such records, and one more of them
pub appended-more : (r : Record) (rs : List Record) → IsTrue (is_appended r) → AreAppended rs →
    AreAppended (r ∷ rs)
appended-more r rs g h = and_from (is_appended r) (list_all is_appended rs) g h

-- the first version now was so before
pub version-before : (r : Record) (rs : List Record) → version_of (r ∷ rs) ≡ 1 → version_of rs ≡ 1
version-before Version rs h = absurd (omega (arith, h))
version-before r rs h = h

-- a version is the first or the second
pub version-either : (rs : List Record) → (version_of rs ≡ 1) ⊎ (version_of rs ≡ 2)
version-either [] = inl refl
version-either (Version ∷ rs) = inr refl
version-either (r ∷ rs) = version-either rs

-- ---- numbers

next_id-one : (r : Record) (rs : List Record) → IsTrue (is_appended r) → next_id (r ∷ rs) ≤ next_id rs + 1
next_id-one (Resume next audit) rs g = absurd (false≢true g)
next_id-one r rs g = omega arith

-- the next object number of appended records is at most the length of their text
pub next_id-le : (rs : List Record) → AreAppended rs → next_id rs ≤ 1 + entries_size rs
next_id-le [] g = omega arith
next_id-le (r ∷ rs) g =
    omega (arith, next_id-le rs (appended-rest r rs g), next_id-one r rs (appended-first r rs g))

next_audit-one : (r : Record) (rs : List Record) → IsTrue (is_appended r) →
    next_audit (r ∷ rs) ≤ next_audit rs + 1
next_audit-one (Resume next audit) rs g = absurd (false≢true g)
next_audit-one r rs g = omega arith

-- the next audit number of appended records is at most the length of their text
pub next_audit-le : (rs : List Record) → AreAppended rs → next_audit rs ≤ 1 + entries_size rs
next_audit-le [] g = omega arith
next_audit-le (r ∷ rs) g =
    omega (arith, next_audit-le rs (appended-rest r rs g), next_audit-one r rs (appended-first r rs g))

-- no accepted record makes the next object number smaller
pub next_id-grows : (r : Record) (rs : List Record) → AreAccepted (r ∷ rs) → next_id rs ≤ next_id (r ∷ rs)
next_id-grows r rs a = next_id-more rs r (are_sound rs a.1) a.0

-- ---- acceptance

refused-up : (rs : List Record) (r : Record) → is_some (setup_of rs) ≡ true →
    refused rs r ≡ no.refused_after rs r
refused-up rs r up = cond_true (is_some (setup_of rs)) (no.refused_after rs r) (no.refused_first r) up

refused-empty : (rs : List Record) (r : Record) → is_some (setup_of rs) ≡ false →
    refused rs r ≡ no.refused_first r
refused-empty rs r up = cond_false (is_some (setup_of rs)) (no.refused_after rs r) (no.refused_first r) up

-- only a setup comes first
first-is : (r : Record) → no.refused_first r ≡ None → (s : Setup) × (r ≡ SetUp s)
first-is (SetUp s) h = (s, refl)
first-is r h = absurd (some-not-none _ no.NoSetup refl h)

-- a store that is set up stays so with any record more
pub up-more : (r : Record) (rs : List Record) → is_some (setup_of rs) ≡ true →
    is_some (setup_of (r ∷ rs)) ≡ true
up-more (SetUp s) rs h = refl
up-more r rs h = h

-- accepted records with no setup are none
pub none-set_up : (rs : List Record) → AreAccepted rs → is_some (setup_of rs) ≡ false → rs ≡ []
none-set_up [] a h = refl
none-set_up (r ∷ rs) a h = elim (cases_Bool (is_some (setup_of rs))) [
  | inl t ↦ absurd (false≢true (sym h ∙ up-more r rs t))
  | inr f ↦ absurd (let s = first-is r (sym (refused-empty rs r f) ∙ a.0) in
      false≢true (sym h ∙ ap (λ x. is_some (setup_of (x ∷ rs))) s.1))
]

-- a setup in effect stays
pub setup-more : (r : Record) (rs : List Record) → is_some (setup_of rs) ≡ true → refused rs r ≡ None →
    setup_of (r ∷ rs) ≡ setup_of rs
setup-more (SetUp s) rs up h =
    absurd (some-not-none _ no.SecondSetup refl (sym (refused-up rs (SetUp s) up) ∙ h))
setup-more r rs up h = refl

-- accepted records are sound
pub sound-accepted : (rs : List Record) → AreAccepted rs → AreSound rs
sound-accepted rs a =
    let S = are_sound rs a in
    record {
      file = λ q f h. ((S.file q f h).below, (S.file q f h).done);
      one_name = S.one_name;
      started = λ id name h. (S.started id name h).1;
    }

-- ---- records of the first version

first-appended-one : (r : Record) (rs : List Record) → version_of (r ∷ rs) ≡ 1 → refused rs r ≡ None →
    IsTrue (is_appended r)
first-appended-one (Resume next audit) rs v h = absurd (grind (arith, nat_tests, v, h))
first-appended-one (InEffect id size profile kept) rs v h = absurd (grind (arith, nat_tests, v, h))
first-appended-one (RepairDue number counts) rs v h = absurd (grind (arith, nat_tests, v, h))
first-appended-one r rs v h = refl

-- accepted records of the first version are appended ones
pub first-appended : (rs : List Record) → AreAccepted rs → version_of rs ≡ 1 → AreAppended rs
first-appended [] a v = refl
first-appended (r ∷ rs) a v = appended-more r rs (first-appended-one r rs v a.0)
    (first-appended rs a.1 (version-before r rs v))

-- records of the second version have a setup
pub second-set_up : (rs : List Record) → AreAccepted rs → version_of rs ≡ 2 → is_some (setup_of rs) ≡ true
second-set_up rs a v = elim (cases_Bool (is_some (setup_of rs))) [
  | inl t ↦ t
  | inr f ↦ absurd (omega (arith, ap version_of (none-set_up rs a f), v))
]

-- ---- setups, names, sizes and numbers of records that have a spelling

-- the setup in effect is in the grammar
pub setup-spelled : (rs : List Record) (s : Setup) → AreInGrammar rs → setup_of rs ≡ Some s →
    IsTrue (is_in_grammar (SetUp s))
setup-spelled [] s g h = absurd (some-not-none _ s h refl)
setup-spelled (SetUp t ∷ rs) s g h = (let e : t ≡ s = cc in (rw e at (grammar-first (SetUp t) rs g)))
setup-spelled (r ∷ rs) s g h = setup-spelled rs s (grammar-rest r rs g) h

-- a name that a put was started under is a name
started-spelled : (rs : List Record) (id : ℕ) (name : List ℕ) → AreInGrammar rs → started_as rs id ≡ Some name →
    is_name name ≡ true
started-spelled [] id name g h = absurd (some-not-none _ name h refl)
started-spelled (PutStart k n ∷ rs) id name g h = elim (cases_Bool (k == id)) [
  | inl t ↦ (let e : n ≡ name = same_value _ n name (cond_true (k == id) (Some n) (started_as rs id) t) h in
      subst (λ x. is_name x ≡ true) e (grind (arith, grammar-first (PutStart k n) rs g)))
  | inr f ↦ started-spelled rs id name (grammar-rest (PutStart k n) rs g)
      (sym (cond_false (k == id) (Some n) (started_as rs id) f) ∙ h)
]
started-spelled (PutDone k size ∷ rs) id name g h = elim (cases_Bool (k == id)) [
  | inl t ↦ absurd (some-not-none _ name h (cond_true (k == id) None (started_as rs id) t))
  | inr f ↦ started-spelled rs id name (grammar-rest (PutDone k size) rs g)
      (sym (cond_false (k == id) None (started_as rs id) f) ∙ h)
]
started-spelled (PutDoneIn k size profile ∷ rs) id name g h = elim (cases_Bool (k == id)) [
  | inl t ↦ absurd (some-not-none _ name h (cond_true (k == id) None (started_as rs id) t))
  | inr f ↦ started-spelled rs id name (grammar-rest (PutDoneIn k size profile) rs g)
      (sym (cond_false (k == id) None (started_as rs id) f) ∙ h)
]
started-spelled (r ∷ rs) id name g h = started-spelled rs id name (grammar-rest r rs g) h

-- the start that a put's end is of
start-named : (q : List ℕ) (o : Option (List ℕ)) → is_start_of q o ≡ true → o ≡ Some q
start-named q None h = absurd (false≢true h)
start-named q (Some name) h = ap Some (same-eq name q h)

-- the records that bring a file in effect: the end of a put of its name, or a packed journal's own
pub data Came (rs : List Record) (r : Record) (name : List ℕ) (file : File) : Type 0 where
  done : r ≡ PutDone file.id file.size → started_as rs file.id ≡ Some name →
      file.profile ≡ profile_in (setup_of rs) → Came rs r name file
  done_in : r ≡ PutDoneIn file.id file.size file.profile → started_as rs file.id ≡ Some name →
      Came rs r name file
  brought : r ≡ InEffect file.id file.size file.profile name → Came rs r name file

-- a file in effect was so before, or came with the record
pub file-came : (r : Record) (rs : List Record) (name : List ℕ) (file : File) →
    file_of (r ∷ rs) name ≡ Some file → (file_of rs name ≡ Some file) ⊎ Came rs r name file
file-came (PutDone k size) rs name file h =
    let new = file_as name k size (profile_in (setup_of rs)) in
    elim (cases_Bool (is_start_of name (started_as rs k))) [
      | inl t ↦ (let same = same_value _ new file
          (cond_true (is_start_of name (started_as rs k)) (Some new) (file_of rs name) t) h in
          inr (Came.done (ap (λ f. PutDone f.id f.size) same)
          (ap (λ f. started_as rs f.id) (sym same) ∙ start-named name (started_as rs k) t)
          (ap (λ f. f.profile) (sym same))))
      | inr f ↦ inl (sym (cond_false (is_start_of name (started_as rs k)) (Some new) (file_of rs name) f) ∙ h)
    ]
file-came (Drop n) rs name file h = elim (cases_Bool (is_same_name n name)) [
  | inl t ↦ absurd (some-not-none _ file h (cond_true (is_same_name n name) None (file_of rs name) t))
  | inr f ↦ inl (sym (cond_false (is_same_name n name) None (file_of rs name) f) ∙ h)
]
file-came (PutDoneIn k size profile) rs name file h =
    let new = file_as name k size profile in
    elim (cases_Bool (is_start_of name (started_as rs k))) [
      | inl t ↦ (let same = same_value _ new file
          (cond_true (is_start_of name (started_as rs k)) (Some new) (file_of rs name) t) h in
          inr (Came.done_in (ap (λ f. PutDoneIn f.id f.size f.profile) same)
          (ap (λ f. started_as rs f.id) (sym same) ∙ start-named name (started_as rs k) t)))
      | inr f ↦ inl (sym (cond_false (is_start_of name (started_as rs k)) (Some new) (file_of rs name) f) ∙ h)
    ]
file-came (InEffect k size profile n) rs name file h =
    let new = file_as name k size profile in
    elim (cases_Bool (is_same_name n name)) [
      | inl t ↦ (inr (Came.brought (ap (λ m. InEffect k size profile m) (same-eq n name t)
          ∙ ap (λ f. InEffect f.id f.size f.profile name) (same_value _ new file
          (cond_true (is_same_name n name) (Some new) (file_of rs name) t) h))))
      | inr f ↦ inl (sym (cond_false (is_same_name n name) (Some new) (file_of rs name) f) ∙ h)
    ]
file-came r rs name file h = inl h

-- the profile of a setup that has a spelling
pub setup-fits : (s : Setup) → IsTrue (is_in_grammar (SetUp s)) → s.profile < all_profiles
setup-fits s h = grind (arith, nat_tests, h)

profile-fits : (rs : List Record) → AreInGrammar rs → profile_in (setup_of rs) < all_profiles
profile-fits rs g = by (setup_of rs) refl
  where
    by : (o : Option Setup) → setup_of rs ≡ o → profile_in o < all_profiles
    by None e = omega arith
    by (Some s) e = setup-fits s (setup-spelled rs s g e)

-- what a file in effect has: a name, a length and a profile within their limits
abbrev pub IsFit : List ℕ → File → Type 0
IsFit name file = (is_name name ≡ true) × (file.size ≤ largest_file) × (file.profile < all_profiles)

-- each file in effect is within the limits
pub file-spelled : (rs : List Record) (name : List ℕ) (file : File) → AreInGrammar rs →
    file_of rs name ≡ Some file → IsFit name file
file-spelled [] name file g h = absurd (some-not-none _ file h refl)
file-spelled (r ∷ rs) name file g h = elim (file-came r rs name file h) [
  | inl was ↦ file-spelled rs name file (grammar-rest r rs g) was
  | inr new ↦ elim new [
    | Came.done is started profile ↦ (
      started-spelled rs file.id name (grammar-rest r rs g) started,
      done-size (rw is at (grammar-first r rs g)),
      (let l = profile-fits rs (grammar-rest r rs g) in omega arith),
    )
    | Came.done_in is started ↦ (let f = in-fits (rw is at (grammar-first r rs g)) in
        (started-spelled rs file.id name (grammar-rest r rs g) started, f.0, f.1))
    | Came.brought is ↦ kept-fits (rw is at (grammar-first r rs g))
  ]
]
  where
    done-size : IsTrue (is_in_grammar (PutDone file.id file.size)) → file.size ≤ largest_file
    done-size h = grind arith

    in-fits : IsTrue (is_in_grammar (PutDoneIn file.id file.size file.profile)) →
        (file.size ≤ largest_file) × (file.profile < all_profiles)
    in-fits h = (grind arith, grind arith)

    kept-fits : IsTrue (is_in_grammar (InEffect file.id file.size file.profile name)) →
        (is_name name ≡ true) × (file.size ≤ largest_file) × (file.profile < all_profiles)
    kept-fits h = (grind arith, grind arith, grind arith)

-- in the first version each file has the setup's profile
pub file-plain : (rs : List Record) (name : List ℕ) (file : File) → AreAccepted rs → version_of rs ≡ 1 →
    file_of rs name ≡ Some file → file.profile ≡ profile_in (setup_of rs)
file-plain [] name file a v h = absurd (some-not-none _ file h refl)
file-plain (r ∷ rs) name file a v h = elim (file-came r rs name file h) [
  | inl was ↦ file-plain rs name file a.1 (version-before r rs v) was
      ∙ ap profile_in (sym (setup-more r rs (up was) a.0))
  | inr new ↦ elim new [
    | Came.done is started profile ↦ profile
        ∙ ap profile_in (sym (subst (λ x. setup_of (x ∷ rs) ≡ setup_of rs) (sym is) refl))
    | Came.done_in is started ↦ absurd (let e : refused rs (PutDoneIn file.id file.size file.profile) ≡ None
        = sym (ap (refused rs) is) ∙ a.0 in
        let k = version-before r rs v in grind (arith, nat_tests, e, k))
    | Came.brought is ↦ absurd (let k : IsTrue (is_appended (InEffect file.id file.size file.profile name))
        = subst (λ x. IsTrue (is_appended x)) is (first-appended-one r rs v a.0) in false≢true k)
  ]
]
  where
    up : file_of rs name ≡ Some file → is_some (setup_of rs) ≡ true
    up was = elim (cases_Bool (is_some (setup_of rs))) [
      | inl t ↦ t
      | inr f ↦ absurd (some-not-none _ file was (ap (λ l. file_of l name) (none-set_up rs a.1 f)))
    ]

-- a due audit has a number and counts within their limits
pub due-spelled : (rs : List Record) (due : Due) → AreInGrammar rs → due_of rs ≡ Some due →
    IsTrue (is_in_grammar (RepairDue due.number due.counts))
due-spelled [] due g h = absurd (some-not-none _ due h refl)
due-spelled (AuditDone number undecided counts ∷ rs) due g h =
    elim (cases_Bool (exceeds (setup_of rs) counts)) [
      | inl t ↦ (let same : record { number = number; counts = counts } ≡ due = same_value _
          (record { number = number; counts = counts }) due (cond_true (exceeds (setup_of rs) counts)
          (Some (record { number = number; counts = counts })) (due_of rs) t) h in
          subst (λ (d : Due). IsTrue (is_in_grammar (RepairDue d.number d.counts))) same
          (fits (grammar-first (AuditDone number undecided counts) rs g)))
      | inr f ↦ due-spelled rs due (grammar-rest (AuditDone number undecided counts) rs g)
          (sym (cond_false (exceeds (setup_of rs) counts) (Some (record { number = number; counts = counts }))
          (due_of rs) f) ∙ h)
    ]
  where
    fits : IsTrue (is_in_grammar (AuditDone number undecided counts)) →
        IsTrue (is_in_grammar (RepairDue number counts))
    fits h = grind (arith, nat_tests, h)
due-spelled (RepairDone number ∷ rs) due g h = absurd (some-not-none _ due h refl)
due-spelled (RepairDue number counts ∷ rs) due g h = (let same : record { number = number; counts = counts } ≡
    due = same_value (Some (record { number = number; counts = counts }))
    (record { number = number; counts = counts }) due refl h in
    subst (λ (d : Due). IsTrue (is_in_grammar (RepairDue d.number d.counts))) same
    (grammar-first (RepairDue number counts) rs g))
due-spelled (r ∷ rs) due g h = due-spelled rs due (grammar-rest r rs g) h

-- the number of a due audit fits 64 bits
pub due-number : (due : Due) → IsTrue (is_in_grammar (RepairDue due.number due.counts)) → due.number < 2 ^ 64
due-number due h = grind (arith, nat_tests, h)

-- ---- files and their bytes

-- files in effect have their bytes with one record more, whose file has its own
pub held-more : (bytes : ℕ → List ℕ) (r : Record) (rs : List Record) → BringsHeld bytes r → AreHeld bytes rs →
    AreHeld bytes (r ∷ rs)
held-more bytes r rs brings held name file h = elim (file-came r rs name file h) [
  | inl was ↦ held name file was
  | inr new ↦ elim new [
    | Came.done is started profile ↦ subst (BringsHeld bytes) is brings
    | Came.done_in is started ↦ subst (BringsHeld bytes) is brings
    | Came.brought is ↦ subst (BringsHeld bytes) is brings
  ]
]

-- bytes that stay below the next number
pub held-same : (bytes now : ℕ → List ℕ) (id size : ℕ) → now id ≡ bytes id → IsHeld bytes id size →
    IsHeld now id size
held-same bytes now id size e h = (subst AreBytes (sym e) h.0, ap length e ∙ h.1)

-- files in effect keep their bytes where those of all drawn numbers stay
pub held-on : (bytes now : ℕ → List ℕ) (rs : List Record) → AreAccepted rs →
    ((id : ℕ) → id < next_id rs → now id ≡ bytes id) → AreHeld bytes rs → AreHeld now rs
held-on bytes now rs a stay held name file h = held-same bytes now file.id file.size
    (stay file.id ((sound-accepted rs a).file name file h).0) (held name file h)
