-- How `init` and `list` end, and what they have done where they are done.
use Rattle.command_laws.proofs.Words.{◌≡◌, ℕ, ◌==◌, Bool, refl, ◌+◌, ◌<◌, ◌≤◌, ◌⊎◌, true, false, List, [], ◌∷◌, length, Option, None, Some, ap, sym, subst, ◌∙◌, inl, inr, arith, length-append, length-take, false≢true, Cells, reads, Rose, Record, Setup, SetUp, is_setup, largest_journal, base_of, files_of, Numbers, IsKeyForm, longest_key, WritesLine, Seen, Ending, IsRefused, ReadsUpTo, sinking, journal_read, BeginsWithSetup, BeginsOtherwise, IsBadInit, IsSetUpAlready, IsFree, IsSetUpOn, setup_with, AnswersInit, InitsDisk, ready_line, list_lines, AnswersList, IsDone, IsKnown, GivesUnlessMemory, IsKeyed, IsInit, IsListed, one_meaning, one_list, bad_is_none, one_place, IsKeyForm-once, set_up-free}
use Rattle.std.specs.Prelude.{◌||◌}
use Rattle.device_defs.specs.Told.{Goes}
use Rattle.command_laws.proofs.Known.{unstarted-memory, none-written, written-well, known-once}
use Rattle.command_laws.proofs.JobEnds.{memory-well, read-all, front-short}
use Rattle.command_laws.proofs.Early.{early-done, list-cases}

-- ---- the key

-- a text of the form is shorter than what is read
form-length : (text key : List ℕ) → IsKeyForm text key → length text < longest_key
form-length text key F = (let behind : length F.behind ≤ 2 = elim F.line_end [
  | inl e ↦ omega (arith, ap length e)
  | inr (inl e) ↦ omega (arith, ap length e)
  | inr (inr e) ↦ omega (arith, ap length e)
] in
    omega (arith, ap length F.text_is, length-append F.digits F.behind, F.size))

-- what is read of a source is all of it, where one of the two is short
short-read : (old new : Option (List ℕ)) (bytes seen : List ℕ) → old ≡ Some bytes →
    length seen < longest_key → ReadsUpTo longest_key old new seen → bytes ≡ seen
short-read old new bytes seen is short R = sym (read-all old new bytes seen is
    (record { are_bytes = R.are_bytes; front = R.front }) (R.end short))

form-seen : (old new : Option (List ℕ)) (bytes seen key : List ℕ) → old ≡ Some bytes →
    ReadsUpTo longest_key old new seen → IsKeyForm bytes key → IsKeyForm seen key
form-seen old new bytes seen key is R F = subst (λ b. IsKeyForm b key)
    (short-read old new bytes seen is
    (omega (arith, front-short old new bytes seen is R.front, form-length bytes key F)) R) F

-- where what was read of the source has the key's form, the whole source has it
pub form-all : (old new : Option (List ℕ)) (bytes seen key : List ℕ) → old ≡ Some bytes →
    ReadsUpTo longest_key old new seen → IsKeyForm seen key → IsKeyForm bytes key
form-all old new bytes seen key is R F =
    rw (← (short-read old new bytes seen is (form-length seen key F) R)) at F

-- ---- what a disk reads, when a store is set up

-- records begin with a setup or otherwise
one-begin : (rs : List Record) → BeginsOtherwise rs → BeginsWithSetup rs → ⊥
one-begin (SetUp s ∷ []) other first = other
one-begin (r ∷ q ∷ rs) other first = one-begin (q ∷ rs) other first
one-begin rs other first = first

bad-once : (bytes : List ℕ) (at other : ℕ) → IsBadInit bytes at → IsBadInit bytes other → at ≡ other
bad-once bytes at other (inl a) (inl b) = one_place bytes at other a b
bad-once bytes at other (inl a) (inr b) = absurd (bad_is_none bytes at b.area b.records a b.stands)
bad-once bytes at other (inr a) (inl b) = absurd (bad_is_none bytes other a.area a.records b a.stands)
bad-once bytes at other (inr a) (inr b) = a.place
    ∙ (ap (λ area. base_of area + 1) (one_meaning bytes a.area b.area a.records b.records a.stands b.stands).0
    ∙ sym b.place)

bad-already : (bytes : List ℕ) (at : ℕ) → IsBadInit bytes at → IsSetUpAlready bytes → ⊥
bad-already bytes at (inl a) b = bad_is_none bytes at b.1.0 b.0 a b.1.1
bad-already bytes at (inr a) b =
    one-begin b.0 (rw (one_list bytes a.records b.0 (a.area, a.stands) b.1) at a.otherwise) b.2

read-short : (cells : Cells) → length (journal_read cells) ≤ length (reads cells)
read-short cells = omega (arith, length-take largest_journal (reads cells))

bad-free : (cells : Cells) (at : ℕ) → 9 < length (journal_read cells) → IsBadInit (journal_read cells) at →
    IsFree cells → ⊥
bad-free cells at long bad (inl short) = omega (arith, long, short, read-short cells)
bad-free cells at long (inl bad) (inr none) = bad_is_none (journal_read cells) at none.0 [] bad none.1
bad-free cells at long (inr bad) (inr none) =
    rw (one_list (journal_read cells) bad.records [] (bad.area, bad.stands) none) at bad.otherwise

already-free : (cells : Cells) → 9 < length (journal_read cells) → IsSetUpAlready (journal_read cells) →
    IsFree cells → ⊥
already-free cells long set_up (inl short) = omega (arith, long, short, read-short cells)
already-free cells long set_up (inr none) =
    rw (one_list (journal_read cells) set_up.0 [] set_up.1 none) at set_up.2

-- ---- which statuses an init may end with

abbrev pub line-may : ℕ → Bool
line-may n = (n == 0) || ((n == 15) || (n == 70))

-- whether this may be the status of an init that ended so
abbrev pub init-may : {numbers : Numbers} {old new : Seen} {end : Ending} → AnswersInit numbers old new end →
    ℕ → Bool
init-may (AnswersInit.bad_setup bad same r) n = n == 20
init-may (AnswersInit.too_few_providers good few same r) n = n == 22
init-may (AnswersInit.source_fault good enough rose taken r) n = n == 14
init-may (AnswersInit.bad_key seen good enough read none r) n = n == 18
init-may (AnswersInit.no_memory taken r) n = n == 70
init-may (AnswersInit.keyed seen key good enough read form (InitsDisk.disk_fault rose F)) n = n == 12
init-may (AnswersInit.keyed seen key good enough read form (InitsDisk.bad_journal at is r)) n = n == 8
init-may (AnswersInit.keyed seen key good enough read form (InitsDisk.already is r)) n = n == 10
init-may (AnswersInit.keyed seen key good enough read form (InitsDisk.no_memory F)) n = n == 70
init-may (AnswersInit.keyed seen key good enough read form (InitsDisk.ready R)) n = line-may n

line-ends : (text : List ℕ) (old new : Seen) (end : Ending) → WritesLine text end.status (sinking old new) →
    line-may end.status ≡ true
line-ends text old new end (inl w) = ap line-may w.0
line-ends text old new end (inr (inl w)) = ap line-may w.1
line-ends text old new end (inr (inr w)) = ap line-may w.0

init-ends : (numbers : Numbers) (old new : Seen) (end : Ending) (A : AnswersInit numbers old new end) →
    init-may A end.status ≡ true
init-ends numbers old new end (AnswersInit.bad_setup bad same r) = ap (λ n. n == 20) r.status_is
init-ends numbers old new end (AnswersInit.too_few_providers good few same r) = ap (λ n. n == 22) r.status_is
init-ends numbers old new end (AnswersInit.source_fault good enough rose taken r) = ap (λ n. n == 14) r.status_is
init-ends numbers old new end (AnswersInit.bad_key seen good enough read none r) = ap (λ n. n == 18) r.status_is
init-ends numbers old new end (AnswersInit.no_memory taken r) = ap (λ n. n == 70) r.status_is
init-ends numbers old new end (AnswersInit.keyed seen key good enough read form (InitsDisk.disk_fault rose F)) =
    ap (λ n. n == 12) F.status_is
init-ends numbers old new end (AnswersInit.keyed seen key good enough read form (InitsDisk.bad_journal at is r)) =
    ap (λ n. n == 8) r.status_is
init-ends numbers old new end (AnswersInit.keyed seen key good enough read form (InitsDisk.already is r)) =
    ap (λ n. n == 10) r.status_is
init-ends numbers old new end (AnswersInit.keyed seen key good enough read form (InitsDisk.no_memory F)) =
    ap (λ n. n == 70) F.status_is
init-ends numbers old new end (AnswersInit.keyed seen key good enough read form (InitsDisk.ready R)) =
    line-ends ready_line old new end R.written

-- an init does not end with a status that it may not have
pub init-not : (numbers : Numbers) (old new : Seen) (end : Ending) (A : AnswersInit numbers old new end)
    (n : ℕ) → end.status ≡ n → init-may A n ≡ false → ⊥
init-not numbers old new end A n is none =
    false≢true (sym none ∙ (ap (init-may A) (sym is) ∙ init-ends numbers old new end A))

-- ---- an init that is done

-- a done init set the store up with the numbers and the key of its source
pub init-done : (numbers : Numbers) (old new : Seen) (end : Ending) → AnswersInit numbers old new end →
    IsDone end → IsInit numbers old new end
init-done numbers old new end (AnswersInit.keyed seen key good enough read form (InitsDisk.ready R)) done =
    record {
      bytes = seen;
      key = key;
      good = good;
      enough = enough;
      read = read;
      whole = read.end (form-length seen key form);
      form = form;
      told = record { written = R.written; place = R.place };
      disk = R.disk;
      providers = R.providers;
    }
init-done numbers old new end A done = absurd (elim done [
  | inl e ↦ init-not numbers old new end A 0 e refl
  | inr e ↦ init-not numbers old new end A 15 e refl
])

-- ---- statuses only with their causes

-- an init ends with 20 only where its numbers are no setup
pub setup-only : (numbers : Numbers) (old new : Seen) (end : Ending) → AnswersInit numbers old new end →
    end.status ≡ 20 → is_setup (setup_with numbers []) ≡ false
setup-only numbers old new end (AnswersInit.bad_setup bad same r) is_20 = bad
setup-only numbers old new end (AnswersInit.keyed seen key good enough read form (InitsDisk.ready R)) is_20 =
    absurd (init-not numbers old new end
    (AnswersInit.keyed seen key good enough read form (InitsDisk.ready R)) 20 is_20 refl)
setup-only numbers old new end A is_20 = absurd (init-not numbers old new end A 20 is_20 refl)

-- an init ends with 22 only where too few providers are handed in
pub few-only : (numbers : Numbers) (old new : Seen) (end : Ending) → AnswersInit numbers old new end →
    end.status ≡ 22 → (is_setup (setup_with numbers []) ≡ true) × (length old.providers < numbers.n)
few-only numbers old new end (AnswersInit.too_few_providers good few same r) is_22 = (good, few)
few-only numbers old new end (AnswersInit.keyed seen key good enough read form (InitsDisk.ready R)) is_22 =
    absurd (init-not numbers old new end
    (AnswersInit.keyed seen key good enough read form (InitsDisk.ready R)) 22 is_22 refl)
few-only numbers old new end A is_22 = absurd (init-not numbers old new end A 22 is_22 refl)

-- an init whose source is a key does not end with 18
pub key-only : (numbers : Numbers) (bytes spelled : List ℕ) (old new : Seen) (end : Ending) →
    old.source ≡ Some bytes → IsKeyForm bytes spelled → AnswersInit numbers old new end → end.status ≡ 18 → ⊥
key-only numbers bytes spelled old new end told spells (AnswersInit.bad_key seen good enough read none r) is_18 =
    none spelled (form-seen old.source new.source bytes seen spelled told read spells)
key-only numbers bytes spelled old new end told spells (AnswersInit.keyed seen key good enough read form (InitsDisk.ready R)) is_18 =
    absurd (init-not numbers old new end
    (AnswersInit.keyed seen key good enough read form (InitsDisk.ready R)) 18 is_18 refl)
key-only numbers bytes spelled old new end told spells A is_18 =
    absurd (init-not numbers old new end A 18 is_18 refl)

-- an init ends with 8 only where the disk holds a journal that is bad at this place
pub journal-only : (numbers : Numbers) (cells : Cells) (old new : Seen) (end : Ending) →
    old.disk ≡ Some cells → AnswersInit numbers old new end → end.status ≡ 8 →
    (9 < length (journal_read cells)) × IsBadInit (journal_read cells) end.at
journal-only numbers cells old new end tells (AnswersInit.keyed seen key good enough read form (InitsDisk.bad_journal at is r)) is_8 =
    subst (λ k. (9 < length (journal_read cells)) × IsBadInit (journal_read cells) k) (sym r.place)
    (rw tells at is)
journal-only numbers cells old new end tells A is_8 = absurd (init-not numbers old new end A 8 is_8 refl)

-- an init ends with 10 only where the disk holds the journal of a store that is set up
pub already-only : (numbers : Numbers) (cells : Cells) (old new : Seen) (end : Ending) →
    old.disk ≡ Some cells → AnswersInit numbers old new end → end.status ≡ 10 →
    (9 < length (journal_read cells)) × IsSetUpAlready (journal_read cells)
already-only numbers cells old new end tells (AnswersInit.keyed seen key good enough read form (InitsDisk.already is r)) is_10 =
    (rw tells at is)
already-only numbers cells old new end tells A is_10 = absurd (init-not numbers old new end A 10 is_10 refl)

-- ---- and always with them

-- an init whose numbers are no setup ends with 20, or finds no memory
pub setup-always : (numbers : Numbers) (old new : Seen) (end : Ending) → AnswersInit numbers old new end →
    is_setup (setup_with numbers []) ≡ false → (end.status ≡ 20) ⊎ (end.status ≡ 70)
setup-always numbers old new end (AnswersInit.bad_setup bad same r) is = inl r.status_is
setup-always numbers old new end (AnswersInit.too_few_providers good few same r) is =
    absurd (false≢true (sym is ∙ good))
setup-always numbers old new end (AnswersInit.source_fault good enough rose taken r) is =
    absurd (false≢true (sym is ∙ good))
setup-always numbers old new end (AnswersInit.bad_key seen good enough read none r) is =
    absurd (false≢true (sym is ∙ good))
setup-always numbers old new end (AnswersInit.keyed seen key good enough read form D) is =
    absurd (false≢true (sym is ∙ good))
setup-always numbers old new end (AnswersInit.no_memory taken r) is = inr r.status_is

-- an init with too few providers ends with 22, or finds no memory
pub few-always : (numbers : Numbers) (old new : Seen) (end : Ending) → AnswersInit numbers old new end →
    is_setup (setup_with numbers []) ≡ true → length old.providers < numbers.n →
    (end.status ≡ 22) ⊎ (end.status ≡ 70)
few-always numbers old new end (AnswersInit.bad_setup bad same r) good is =
    absurd (false≢true (sym bad ∙ good))
few-always numbers old new end (AnswersInit.too_few_providers fine few same r) good is = inl r.status_is
few-always numbers old new end (AnswersInit.source_fault fine enough rose taken r) good is =
    absurd (omega (arith, enough, is))
few-always numbers old new end (AnswersInit.bad_key seen fine enough read none r) good is =
    absurd (omega (arith, enough, is))
few-always numbers old new end (AnswersInit.keyed seen key fine enough read form D) good is =
    absurd (omega (arith, enough, is))
few-always numbers old new end (AnswersInit.no_memory taken r) good is = inr r.status_is

-- an init whose source is no key ends with 18, or finds no memory
pub key-always : (numbers : Numbers) (bytes : List ℕ) (old new : Seen) (end : Ending) →
    AnswersInit numbers old new end → is_setup (setup_with numbers []) ≡ true →
    numbers.n ≤ length old.providers → old.source ≡ Some bytes → ((key : List ℕ) → IsKeyForm bytes key → ⊥) →
    (Rose old.source_faults new.source_faults → ⊥) → (end.status ≡ 18) ⊎ (end.status ≡ 70)
key-always numbers bytes old new end (AnswersInit.bad_setup bad same r) good enough told none calm =
    absurd (false≢true (sym bad ∙ good))
key-always numbers bytes old new end (AnswersInit.too_few_providers fine few same r) good enough told none calm =
    absurd (omega (arith, enough, few))
key-always numbers bytes old new end (AnswersInit.source_fault fine also rose taken r) good enough told none calm =
    absurd (calm rose)
key-always numbers bytes old new end (AnswersInit.bad_key seen fine also read lacks r) good enough told none calm =
    inl r.status_is
key-always numbers bytes old new end (AnswersInit.keyed seen key fine also read form D) good enough told none calm =
    absurd (none key (form-all old.source new.source bytes seen key told read form))
key-always numbers bytes old new end (AnswersInit.no_memory taken r) good enough told none calm =
    inr r.status_is

-- an init with a key comes to its disk, or finds no memory
keyed-disk : (numbers : Numbers) (key : List ℕ) (old new : Seen) (end : Ending) →
    AnswersInit numbers old new end → IsKeyed numbers key old →
    (Rose old.source_faults new.source_faults → ⊥) →
    InitsDisk (setup_with numbers key) old new end ⊎ IsRefused 70 0 old new end
keyed-disk numbers key old new end (AnswersInit.bad_setup bad same r) K calm =
    absurd (false≢true (sym bad ∙ K.good))
keyed-disk numbers key old new end (AnswersInit.too_few_providers fine few same r) K calm =
    absurd (omega (arith, K.enough, few))
keyed-disk numbers key old new end (AnswersInit.source_fault fine also rose taken r) K calm =
    absurd (calm rose)
keyed-disk numbers key old new end (AnswersInit.bad_key seen fine also read lacks r) K calm =
    absurd (lacks key (form-seen old.source new.source K.bytes seen key K.source read K.form))
keyed-disk numbers key old new end (AnswersInit.keyed seen other fine also read form D) K calm =
    inl (rw (IsKeyForm-once K.bytes other key
    (form-all old.source new.source K.bytes seen other K.source read form) K.form) at D)
keyed-disk numbers key old new end (AnswersInit.no_memory taken r) K calm = inr r

-- one that is done set it up on a free disk
ready-free : (s : Setup) (cells : Cells) (old new : Option Cells) → old ≡ Some cells →
    Goes (IsSetUpOn s) old new → IsFree cells
ready-free s cells None new tells g = absurd (cc tells)
ready-free s cells (Some before) None tells g = absurd g
ready-free s cells (Some before) (Some now) tells g =
    subst IsFree (let e = tells in cc) (set_up-free s before now g)

module _ (s : Setup) (cells : Cells) (old new : Seen) (end : Ending) (tells : old.disk ≡ Some cells)
    (calm : Rose old.disk_faults new.disk_faults → ⊥) where
  disk-bad : (at : ℕ) → 9 < length (journal_read cells) → IsBadInit (journal_read cells) at →
      InitsDisk s old new end → ((end.status ≡ 8) × (end.at ≡ at)) ⊎ (end.status ≡ 70)
  disk-bad at long bad (InitsDisk.disk_fault rose F) = absurd (calm rose)
  disk-bad at long bad (InitsDisk.bad_journal other is r) =
      inl (r.status_is, r.place ∙ bad-once (journal_read cells) other at (rw tells at is).1 bad)
  disk-bad at long bad (InitsDisk.already is r) =
      absurd (bad-already (journal_read cells) at bad (rw tells at is).1)
  disk-bad at long bad (InitsDisk.no_memory F) = inr F.status_is
  disk-bad at long bad (InitsDisk.ready R) =
      absurd (bad-free cells at long bad (ready-free s cells old.disk new.disk tells R.disk))

  disk-already : 9 < length (journal_read cells) → IsSetUpAlready (journal_read cells) →
      InitsDisk s old new end → (end.status ≡ 10) ⊎ (end.status ≡ 70)
  disk-already long set_up (InitsDisk.disk_fault rose F) = absurd (calm rose)
  disk-already long set_up (InitsDisk.bad_journal at is r) =
      absurd (bad-already (journal_read cells) at (rw tells at is).1 set_up)
  disk-already long set_up (InitsDisk.already is r) = inl r.status_is
  disk-already long set_up (InitsDisk.no_memory F) = inr F.status_is
  disk-already long set_up (InitsDisk.ready R) =
      absurd (already-free cells long set_up (ready-free s cells old.disk new.disk tells R.disk))

  disk-free : IsFree cells → (Rose old.sink_faults new.sink_faults → ⊥) → InitsDisk s old new end →
      GivesUnlessMemory ready_line old new end
  disk-free free sink (InitsDisk.disk_fault rose F) = absurd (calm rose)
  disk-free free sink (InitsDisk.bad_journal at is r) =
      absurd (let b = rw tells at is in bad-free cells at b.0 b.1 free)
  disk-free free sink (InitsDisk.already is r) =
      absurd (let b = rw tells at is in already-free cells b.0 b.1 free)
  disk-free free sink (InitsDisk.no_memory F) =
      inr (F.status_is, none-written ready_line old.sink new.sink F.sink)
  disk-free free sink (InitsDisk.ready R) = written-well ready_line old new end R.written sink

-- an init with a key over a bad journal ends with 8 and the bad place, or finds no memory
pub journal-always : (numbers : Numbers) (key : List ℕ) (cells : Cells) (at : ℕ) (old new : Seen)
    (end : Ending) → AnswersInit numbers old new end → IsKeyed numbers key old → old.disk ≡ Some cells →
    9 < length (journal_read cells) → IsBadInit (journal_read cells) at →
    (Rose old.source_faults new.source_faults → ⊥) → (Rose old.disk_faults new.disk_faults → ⊥) →
    ((end.status ≡ 8) × (end.at ≡ at)) ⊎ (end.status ≡ 70)
journal-always numbers key cells at old new end A K tells long bad source disk =
    elim (keyed-disk numbers key old new end A K source) [
      | inl D ↦ disk-bad (setup_with numbers key) cells old new end tells disk at long bad D
      | inr r ↦ inr r.status_is
    ]

-- an init with a key over a store that is set up ends with 10, or finds no memory
pub already-always : (numbers : Numbers) (key : List ℕ) (cells : Cells) (old new : Seen) (end : Ending) →
    AnswersInit numbers old new end → IsKeyed numbers key old → old.disk ≡ Some cells →
    9 < length (journal_read cells) → IsSetUpAlready (journal_read cells) →
    (Rose old.source_faults new.source_faults → ⊥) → (Rose old.disk_faults new.disk_faults → ⊥) →
    (end.status ≡ 10) ⊎ (end.status ≡ 70)
already-always numbers key cells old new end A K tells long set_up source disk =
    elim (keyed-disk numbers key old new end A K source) [
      | inl D ↦ disk-already (setup_with numbers key) cells old new end tells disk long set_up D
      | inr r ↦ inr r.status_is
    ]

-- an init with a key over a free disk and with no fault is done, or finds no memory
pub init-well : (numbers : Numbers) (key : List ℕ) (cells : Cells) (old new : Seen) (end : Ending) →
    AnswersInit numbers old new end → IsKeyed numbers key old → old.disk ≡ Some cells → IsFree cells →
    (Rose old.source_faults new.source_faults → ⊥) → (Rose old.disk_faults new.disk_faults → ⊥) →
    (Rose old.sink_faults new.sink_faults → ⊥) → GivesUnlessMemory ready_line old new end
init-well numbers key cells old new end A K tells free source disk sink =
    elim (keyed-disk numbers key old new end A K source) [
      | inl D ↦ disk-free (setup_with numbers key) cells old new end tells disk free sink D
      | inr r ↦ memory-well ready_line old new end r
    ]

-- ---- lists

-- a done list gave the lines of the files in effect
pub list-done : (old new : Seen) (end : Ending) → AnswersList old new end → IsDone end → IsListed old new end
list-done old new end A done = list-cases (λ E. absurd (early-done E done)) (λ records opened L. record {
  records = records;
  opened = opened;
  told = record { written = L.written; place = L.place };
  disk = L.disk;
  providers = L.providers;
}) A

-- a list over known records with no fault gives the lines of the files, or finds no memory
pub list-well : (records : List Record) (old new : Seen) (end : Ending) → AnswersList old new end →
    IsKnown old records → (Rose old.disk_faults new.disk_faults → ⊥) →
    (Rose old.sink_faults new.sink_faults → ⊥) → GivesUnlessMemory (list_lines (files_of records)) old new end
list-well records old new end (AnswersList.unstarted u) K disk sink =
    memory-well (list_lines (files_of records)) old new end (unstarted-memory K disk u)
list-well records old new end (AnswersList.no_memory r) K disk sink =
    memory-well (list_lines (files_of records)) old new end r
list-well records old new end (AnswersList.listed other opened L) K disk sink =
    rw (known-once old records other K opened.read) at (written-well (list_lines (files_of other)) old new end
    L.written sink)
