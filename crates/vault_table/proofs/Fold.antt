-- The table goes on as the fold does.
use Rattle.vault_table.proofs.Words.{◌≢◌, ◌==◌, nat_le, if◌then◌else◌, refl, sym, ap, ◌∙◌, arith, set, inl, inr, cases_lt, nat_tests, Setup, Record, SetUp, PutStart, PutDone, Drop, AuditStart, AuditDone, RepairDone, PutDoneIn, Version, Resume, InEffect, RepairDue, started_as, files_of, setup_of, version_of, next_id, next_audit, running_audit, due_of, AreAccepted, put_done_refused, refused, refused_after, refused_first, find-files_of, packed_are, packed_is_idle, Kept, started_from, started_at, id_after, forgotten, IsFoldOf, put_done_refusal, refusal_after, refusal_before, refusal, with_record}
use Rattle.std.specs.Prelude.{◌≡◌, ℕ, zero, suc, ◌+◌, ◌-◌, ◌<◌, ◌≤◌, List, [], ◌∷◌, ◌++◌, length, Option, None, Some}
use Rattle.std.proofs.lemmas.List.{length-append, length-set}
use Rattle.record_defs.specs.Packed.{packed}
use Rattle.vault_table.proofs.KeptNames.{name-past}

-- ---- refusals

same-put_done : (t : Kept) (rs : List Record) (o : Option (List ℕ)) → t.files ≡ files_of rs →
    put_done_refusal t o ≡ put_done_refused rs o
same-put_done t rs None e = refl
same-put_done t rs (Some name) e = rw (e, find-files_of rs name) refl

same-after : (t : Kept) (rs : List Record) (r : Record) → IsFoldOf rs t →
    refusal_after t r ≡ refused_after rs r
same-after t rs (SetUp s) is = refl
same-after t rs (PutStart id name) is = rw is.id refl
same-after t rs (PutDone id size) is =
    rw (is.version, is.started id, same-put_done t rs (started_as rs id) is.files) refl
same-after t rs (Drop name) is = rw (is.files, find-files_of rs name) refl
same-after t rs (AuditStart number) is = rw (is.audit, is.due) refl
same-after t rs (AuditDone number undecided counts) is = rw (is.running, is.setup) refl
same-after t rs (RepairDone number) is = rw is.due refl
same-after t rs (PutDoneIn id size profile) is =
    rw (is.version, is.started id, same-put_done t rs (started_as rs id) is.files) refl
same-after t rs Version is = rw is.version refl
same-after t rs (Resume id audit) is = rw (is.version, is.id, is.audit) refl
same-after t rs (InEffect id size profile name) is =
    rw (is.version, is.started id, is.id, is.files, find-files_of rs name) refl
same-after t rs (RepairDue number counts) is = rw (is.version, is.audit, is.due, is.setup) refl

same-first : (r : Record) → refusal_before r ≡ refused_first r
same-first (SetUp s) = refl
same-first (PutStart id name) = refl
same-first (PutDone id size) = refl
same-first (Drop name) = refl
same-first (AuditStart number) = refl
same-first (AuditDone number undecided counts) = refl
same-first (RepairDone number) = refl
same-first (PutDoneIn id size profile) = refl
same-first Version = refl
same-first (Resume id audit) = refl
same-first (InEffect id size profile name) = refl
same-first (RepairDue number counts) = refl

-- a table refuses a record for the same cause as the fold of the records below it
pub same-refusal : (t : Kept) (rs : List Record) (r : Record) → IsFoldOf rs t → refusal t r ≡ refused rs r
same-refusal t rs r is = grind (arith, is.setup, same-after t rs r is, same-first r)

-- ---- started puts

from-push : (started : List (Option (List ℕ))) (name : List ℕ) (k : ℕ)
    → started_from (started ++ Some name ∷ []) k
    ≡ (if length started == k then Some name else started_from started k)
from-push [] name zero = refl
from-push [] name (suc k) = grind (arith, nat_tests)
from-push (s ∷ started) name zero = grind (arith, nat_tests)
from-push (s ∷ started) name (suc k) = grind (arith, nat_tests, from-push started name k)

at-push : (t : Kept) (name : List ℕ) (id : ℕ)
    → started_at (record t { started = t.started ++ Some name ∷ [] }) id
    ≡ (if id_after t == id then Some name else started_at t id)
at-push t name id = grind (arith, nat_tests, from-push t.started name (id - suc t.passed))

from-set : (started : List (Option (List ℕ))) (i k : ℕ) →
    started_from (set started i None) k ≡ (if i == k then None else started_from started k)
from-set [] i k = grind (arith)
from-set (s ∷ started) zero zero = refl
from-set (s ∷ started) zero (suc k) = grind (arith, nat_tests)
from-set (s ∷ started) (suc i) zero = grind (arith, nat_tests)
from-set (s ∷ started) (suc i) (suc k) = grind (arith, nat_tests, from-set started i k)

at-set : (t : Kept) (id k : ℕ) → started_at t id ≢ None →
    started_at (record t { started = set t.started (id - suc t.passed) None }) k
    ≡ (if id == k then None else started_at t k)
at-set t id k some = elim (cases_lt t.passed id) [
  | inl later ↦ grind (arith, nat_tests, later, from-set t.started (id - suc t.passed) (k - suc t.passed))
  | inr not_later ↦ absurd (some (grind (arith, nat_tests, not_later)))
]

-- ---- one record more

put_done-some : (t : Kept) (o : Option (List ℕ)) → put_done_refusal t o ≡ None → o ≢ None
put_done-some t None p = absurd cc
put_done-some t (Some name) p = λ e. absurd cc

has-setup : (t : Kept) (r : Record) → ((s : Setup) → r ≢ SetUp s) → refusal t r ≡ None →
    refusal_after t r ≡ None
has-setup t (SetUp s) other p = absurd (other s refl)
has-setup t (PutStart id name) other p = grind (arith, p)
has-setup t (PutDone id size) other p = grind (arith, p)
has-setup t (Drop name) other p = grind (arith, p)
has-setup t (AuditStart number) other p = grind (arith, p)
has-setup t (AuditDone number undecided counts) other p = grind (arith, p)
has-setup t (RepairDone number) other p = grind (arith, p)
has-setup t (PutDoneIn id size profile) other p = grind (arith, p)
has-setup t Version other p = grind (arith, p)
has-setup t (Resume id audit) other p = grind (arith, p)
has-setup t (InEffect id size profile name) other p = grind (arith, p)
has-setup t (RepairDue number counts) other p = grind (arith, p)

none-started : (t : Kept) (k : ℕ) → t.passed + length t.started ≡ 0 → started_at t k ≡ None
none-started t k none = grind (arith, nat_tests, name-past t.started (k - suc t.passed), none)

-- a table is the fold of records if each of its parts is
fold-by : (rs : List Record) (t : Kept) → t.setup ≡ setup_of rs → t.version ≡ version_of rs →
    t.files ≡ files_of rs → ((id : ℕ) → started_at t id ≡ started_as rs id) → id_after t ≡ next_id rs →
    t.next_audit ≡ next_audit rs → t.running ≡ running_audit rs → t.due ≡ due_of rs → IsFoldOf rs t
fold-by rs t setup version files started id audit running due = record {
  setup = setup;
  version = version;
  files = files;
  started = started;
  id = id;
  audit = audit;
  running = running;
  due = due;
}

-- a table that refuses no record is, with it, the fold of the records with it on top
pub goes-on : (t : Kept) (rs : List Record) (r : Record) → IsFoldOf rs t → refusal t r ≡ None →
    IsFoldOf (r ∷ rs) (with_record t r)
goes-on t rs (SetUp s) is p = fold-by _ _ refl is.version is.files is.started is.id is.audit is.running is.due
goes-on t rs (PutStart id name) is p =
    let q = has-setup t (PutStart id name) (λ s e. cc) p in
    let number : id ≡ id_after t = grind (arith, nat_tests, q) in
    fold-by _ _ is.setup is.version is.files (λ k. at-push t name k ∙ rw (← number, is.started k) refl)
    (omega (arith, length-append t.started (Some name ∷ []), is.id)) is.audit is.running is.due
goes-on t rs (PutDone id size) is p =
    let q = has-setup t (PutDone id size) (λ s e. cc) p in
    let some = put_done-some t (started_at t id) (grind (arith, q)) in
    fold-by _ _ is.setup is.version (rw (is.files, is.started id, is.setup) refl)
    (λ k. at-set t id k some ∙ rw (is.started k) refl)
    (ap (λ n. suc (t.passed + n)) (length-set t.started (id - suc t.passed) None)
    ∙ is.id) is.audit is.running is.due
goes-on t rs (Drop name) is p =
    fold-by _ _ is.setup is.version (rw is.files refl) is.started is.id is.audit is.running is.due
goes-on t rs (AuditStart number) is p =
    let q = has-setup t (AuditStart number) (λ s e. cc) p in
    let same : number ≡ t.next_audit = grind (arith, nat_tests, q) in
    fold-by _ _ is.setup is.version is.files is.started is.id (ap suc (same ∙ is.audit)) refl is.due
goes-on t rs (AuditDone number undecided counts) is p =
    fold-by _ _ is.setup is.version is.files is.started is.id is.audit refl (rw (is.setup, is.due) refl)
goes-on t rs (RepairDone number) is p =
    fold-by _ _ is.setup is.version is.files is.started is.id is.audit is.running refl
goes-on t rs (PutDoneIn id size profile) is p =
    let q = has-setup t (PutDoneIn id size profile) (λ s e. cc) p in
    let some = put_done-some t (started_at t id) (grind (arith, q)) in
    fold-by _ _ is.setup is.version (rw (is.files, is.started id) refl)
    (λ k. at-set t id k some ∙ rw (is.started k) refl)
    (ap (λ n. suc (t.passed + n)) (length-set t.started (id - suc t.passed) None)
    ∙ is.id) is.audit is.running is.due
goes-on t rs Version is p = fold-by _ _ is.setup refl is.files is.started is.id is.audit is.running is.due
goes-on t rs (Resume id audit) is p =
    let q = has-setup t (Resume id audit) (λ s e. cc) p in
    let none : t.passed + length t.started ≡ 0 = grind (arith, nat_tests, q) in
    let above : 1 ≤ id = grind (arith, nat_tests, q) in
    fold-by _ _ is.setup is.version is.files (λ k. grind (arith, nat_tests)
    ∙ (sym (none-started t k none) ∙ is.started k)) (omega (arith, above)) refl is.running is.due
goes-on t rs (InEffect id size profile name) is p =
    fold-by _ _ is.setup is.version (rw is.files refl) is.started is.id is.audit is.running is.due
goes-on t rs (RepairDue number counts) is p =
    fold-by _ _ is.setup is.version is.files is.started is.id is.audit is.running refl

-- ---- reading a started put

-- the place of a started put is inside
at-inside : (t : Kept) (id : ℕ) (name : List ℕ) → started_at t id ≡ Some name →
    (t.passed < id) × (id - t.passed - 1 < length t.started)
at-inside t id name e = elim (cases_lt t.passed id) [
  | inl later ↦ elim (cases_lt (id - suc t.passed) (length t.started)) [
    | inl lt ↦ (later, omega (arith, later, lt))
    | inr le ↦ absurd (none (sym (name-past t.started (id - suc t.passed) le)
        ∙ grind (arith, nat_tests, later, e)))
  ]
  | inr not_later ↦ absurd (none (grind (arith, nat_tests, not_later, e)))
]
  where
    none : (None ≡ Some name) → ⊥
    none p = cc

-- so it is in a table's own parts
pub at-kept : (passed : ℕ) (started : List (Option (List ℕ))) (id : ℕ) (name : List ℕ) →
    (if nat_le id passed then None else started_from started (id - suc passed)) ≡ Some name →
    (passed < id) × (id - passed - 1 < length started)
at-kept passed started id name e = at-inside (record {
  setup = None;
  version = 1;
  files = [];
  passed = passed;
  started = started;
  next_audit = 1;
  running = None;
  due = None;
  spare = 0;
}) id name e

-- a table that has forgotten its started puts and its running audit is that of a packed journal
pub is_packed : (t : Kept) (rs : List Record) (s : Setup) → AreAccepted rs → setup_of rs ≡ Some s →
    version_of rs ≡ 2 → IsFoldOf rs t → IsFoldOf (packed rs) (forgotten t)
is_packed t rs s a set second is =
    let alike = (packed_are rs a s set second).1 in
    let idle = packed_is_idle rs in
    fold-by _ _ (is.setup ∙ sym alike.setup) (is.version ∙ sym alike.version) (is.files ∙ sym alike.files)
    (λ id. grind (arith, nat_tests) ∙ sym (idle.0 id)) (omega (arith, is.id, alike.id))
    (is.audit ∙ sym alike.audit) (sym idle.1) (is.due ∙ sym alike.due)
