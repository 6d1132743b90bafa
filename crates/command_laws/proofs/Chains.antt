-- Commands one after the other.
use Rattle.command_laws.proofs.Words.{◌≡◌, ◌≢◌, ℕ, ◌+◌, ◌<◌, ◌≤◌, ◌⊎◌, Bool, true, false, cond, not, List, [], ◌∷◌, length, None, Some, refl, ap, sym, subst, ◌∙◌, inl, inr, arith, Option, is_some, nat_lt, cases_Bool, le-ltb, nat_tests, is_some-none, is_flagged, Cells, Rose, told_then, Record, Setup, SetUp, AuditStart, is_name, largest_file, largest_journal, Area, Due, next_audit, setup_of, file_of, due_of, exceeds, refused, PutJob, GetJob, DropJob, AuditJob, RepairJob, ToPut, is_too_full, Numbers, AuditAll, IsKeyForm, Seen, Ending, provider_at, IsFree, setup_in_effect, ready_line, stored_line, audit_lines, audit_records, IsTold, AnswersInit, setup_with, sight_over, refusal_over, AnswersScrub, AnswersPut, AnswersAlone, Answers, IsDone, IsKnown, GivesText, GivesUnlessMemory, after_put, after_drop, after_audit, after_repair, Follows, IsThen, HasRightFile, IsSure, IsUntouched, IsSteady, spoilt_below, IsFaultless, IsKeyed, find-files_of, same-refl, cond_true, cond_false, file-spelled}
use Rattle.std.specs.Prelude.{◌&&◌, ◌||◌}
use Rattle.record_defs.specs.Areas as areas
use Rattle.record_defs.proofs.Sizes.{is_name-short}
use Rattle.machine_defs.specs.Refusals as refusal
use Rattle.command_laws.proofs.Known.{known-once, known-always}
use Rattle.command_laws.proofs.GetEnds.{seen-complete, seen-right}
use Rattle.command_laws.proofs.JobEnds.{put-well, put-setup, put-audits, drop-done, repair-done}
use Rattle.command_laws.proofs.InitEnds.{init-well}
use Rattle.command_laws.proofs.Afterwards.{sure-next}
use Rattle.command_laws.proofs.DoneStores.{init-sure, put-sure, drop-sure, audit-sure, repair-sure, scrub-sure}
use Rattle.command_laws.proofs.FilesStay.{DoTell, put-has, next-has, bad-few}
use Rattle.command_laws.proofs.FilesKept.{reads-have, repair-has}
use Rattle.command_laws.proofs.ScrubFiles.{scrub-has}

-- ---- gets

module _ (name bytes : List ℕ) (records : List Record) (spoilt : ℕ → Bool) (old new : Seen) (end : Ending)
    (A : AnswersAlone (GetJob name) old new end) (K : IsKnown old records)
    (H : HasRightFile old records name bytes spoilt)
    (steady : IsSteady (setup_in_effect records).n spoilt old new) where
  -- a get with no fault gives the file's bytes where at most b providers are spoilt, or finds no memory
  pub get-complete : spoilt_below (setup_in_effect records).n spoilt ≤ (setup_in_effect records).b →
      (Rose old.disk_faults new.disk_faults → ⊥) → (Rose old.sink_faults new.sink_faults → ⊥) →
      GivesUnlessMemory bytes old new end
  get-complete few disk sink = seen-complete name bytes records H.file old new end K H.in_effect H.are_bytes
      H.size A (omega (arith, bad-few name bytes records spoilt old new H steady, few)) disk sink

  -- a get at status 0 gave the file's bytes where at most b + 1 providers are spoilt
  pub get-right : spoilt_below (setup_in_effect records).n spoilt ≤ (setup_in_effect records).b + 1 →
      end.status ≡ 0 → new.sink ≡ told_then old.sink bytes
  get-right few zero = (seen-right name bytes records H.file old new end K H.in_effect H.are_bytes H.size A
      (omega (arith, bad-few name bytes records spoilt old new H steady, few))).1 zero

get-refused : (area : Area) (name : List ℕ) (records : List Record) → is_name name ≡ true →
    file_of records name ≡ None → refusal_over area records (GetJob name) None ≡ Some refusal.NoSuchName
get-refused area name records named none = (λ i. cond (not (named i)) (Some refusal.BadName)
    (cond (not (is_some ((find-files_of records name ∙ none) i))) (Some refusal.NoSuchName) None))

-- a get of a name with no file says so, or finds no memory
pub get-missing : (name : List ℕ) (records : List Record) (old new : Seen) (end : Ending) →
    AnswersAlone (GetJob name) old new end → IsKnown old records → is_name name ≡ true →
    file_of records name ≡ None →
    (Rose old.disk_faults new.disk_faults → ⊥) → (end.status ≡ 3) ⊎ (end.status ≡ 70)
get-missing name records old new end A K named none disk =
    elim (known-always (GetJob name) records old new end refusal.NoSuchName A K disk
    (get-refused K.opened.area name records named none)) [
      | inl r ↦ inl r.status_is
      | inr r ↦ inr r.status_is
    ]

-- ---- a get after a put

-- what a get gives that follows another command, where at most b providers are spoilt
abbrev IsGot : Setup → List ℕ → (ℕ → Bool) → Seen → Seen → Seen → Ending → Type 0
IsGot s bytes spoilt d e f last = IsUntouched s.n spoilt d e → IsSteady s.n spoilt e f →
    spoilt_below s.n spoilt ≤ s.b → (Rose e.disk_faults f.disk_faults → ⊥) →
    (Rose e.sink_faults f.sink_faults → ⊥) → GivesUnlessMemory bytes e f last

then-get : (name bytes : List ℕ) (records : List Record) (spoilt : ℕ → Bool) (d e f : Seen) (last : Ending) →
    AnswersAlone (GetJob name) e f last → Follows d e → IsSure d records →
    HasRightFile d records name bytes spoilt → IsGot (setup_in_effect records) bytes spoilt d e f last
then-get name bytes records spoilt d e f last G N sure file untouched = get-complete name bytes records spoilt
    e f last G (sure-next records d e sure N).known (next-has name bytes records spoilt d e file untouched)

-- a get after a done put gives the bytes that were put, or finds no memory
pub put-get : (name bytes : List ℕ) (own : Option ℕ) (records : List Record) (spoilt : ℕ → Bool)
    (c d e f : Seen) (second last : Ending) → AnswersPut name own c d second →
    AnswersAlone (GetJob name) e f last → Follows d e → IsKnown c records → c.source ≡ Some bytes →
    IsDone second → DoTell (setup_in_effect records).n spoilt c →
    IsGot (setup_in_effect records) bytes spoilt d e f last
put-get name bytes own records spoilt c d e f second last P G N K source done tells =
    rw (put-setup records name (length bytes) own) at (then-get name bytes
    (after_put records name (length bytes) own) spoilt d e f last G N
    (put-sure name bytes own records c d second P done K source)
    (put-has name bytes own records spoilt c d second P done K source tells))

-- a get after a done init and a done put gives the bytes that were put, or finds no memory
pub init-put-get : (numbers : Numbers) (key name bytes : List ℕ) (own : Option ℕ) (spoilt : ℕ → Bool)
    (a b c d e f : Seen) (first second last : Ending) → AnswersInit numbers a b first →
    AnswersPut name own c d second → AnswersAlone (GetJob name) e f last → Follows b c → Follows d e →
    is_some a.disk ≡ true → ((text : List ℕ) × (a.source ≡ Some text) × IsKeyForm text key) →
    c.source ≡ Some bytes → IsDone first → IsDone second → DoTell numbers.n spoilt c →
    IsGot (setup_with numbers key) bytes spoilt d e f last
init-put-get numbers key name bytes own spoilt a b c d e f first second last I P G N M told text source done =
    (let records = SetUp (setup_with numbers key) ∷ [] in
    put-get name bytes own records spoilt c d e f second last P G M
    (sure-next records b c (init-sure numbers key a b first I done told text) N).known source)

-- ---- all three with no fault

ends-zero : (text : List ℕ) (old new : Seen) (end : Ending) → GivesUnlessMemory text old new end →
    end.status ≢ 70 → GivesText text old new end
ends-zero text old new end (inl gives) some = gives
ends-zero text old new end (inr (memory, front)) some = absurd (some memory)

-- over a store that was just set up a put that names no profile is not refused
pub first-begins : (area : Area) (s : Setup) (name bytes : List ℕ) → is_name name ≡ true →
    length bytes ≤ largest_file → refusal_over area (SetUp s ∷ []) (PutJob name bytes) None ≡ None
first-begins area s name bytes named short =
    (λ i. cond (not (named i)) (Some refusal.BadName) (cond ((le-ltb largest_file (length bytes) short) i)
    (Some refusal.TooLong) (cond (room area i || false) (Some refusal.JournalFull) None)))
  where
    room : (area : Area) → is_too_full (sight_over area (SetUp s ∷ [])) (ToPut name (length bytes)) ≡ false
    room areas.A = ap (nat_lt largest_journal) (omega arith)
        ∙ le-ltb largest_journal (51 + (11 + (length name + 14)))
        (omega (arith, is_name-short name named))
    room areas.B = ap (nat_lt largest_journal) (omega arith)
        ∙ le-ltb largest_journal (8388651 + (11 + (length name + 14)))
        (omega (arith, is_name-short name named))

-- an init, a put and a get with no fault and with memory are done, and give the bytes that were put
pub all-whole : (numbers : Numbers) (key name bytes : List ℕ) (spoilt : ℕ → Bool) (cells : Cells)
    (a b c d e f : Seen) (first second last : Ending) → AnswersInit numbers a b first →
    AnswersPut name None c d second →
    AnswersAlone (GetJob name) e f last → Follows b c → Follows d e → a.disk ≡ Some cells → IsFree cells →
    IsKeyed numbers key a → c.source ≡ Some bytes → is_name name ≡ true → length bytes ≤ largest_file →
    DoTell numbers.n spoilt c → IsUntouched numbers.n spoilt d e → IsSteady numbers.n spoilt e f →
    spoilt_below numbers.n spoilt ≤ numbers.b →
    IsFaultless a b → IsFaultless c d → IsFaultless e f → first.status ≢ 70 → second.status ≢ 70 →
    last.status ≢ 70 → (first.status ≡ 0) × (second.status ≡ 0) × GivesText bytes e f last
all-whole numbers key name bytes spoilt cells a b c d e f first second last I P G N M disk free K source named short tells untouched steady few calm quiet still some more most =
    (let records = SetUp (setup_with numbers key) ∷ [] in
    let zero = (ends-zero ready_line a b first
    (init-well numbers key cells a b first I K disk free calm.source calm.disk calm.sink) some).0 in
    let sure = sure-next records b c
    (init-sure numbers key a b first I (inl zero) (ap is_some disk) (K.bytes, K.source, K.form)) N in
    let put = (ends-zero (stored_line name (length bytes)) c d second
    (put-well name bytes None records c d second P sure.known source
    (first-begins sure.known.opened.area (setup_with numbers key) name bytes named short) quiet.disk
    (λ j below. quiet.stores j) quiet.source quiet.sink) more).0 in (
      zero,
      put,
      ends-zero bytes e f last (put-get name bytes None records spoilt c d e f second last P G M sure.known
          source (inl put) tells untouched steady few still.disk still.sink) most,
    ))

-- ---- a get after a drop

dropped-none : (records : List Record) (name : List ℕ) → file_of (after_drop records name) name ≡ None
dropped-none records name = cond_true _ None (file_of records name) (same-refl name)

-- a get after a done drop says that there is no such file, or finds no memory
pub drop-get : (name : List ℕ) (records : List Record) (c d e f : Seen) (second last : Ending) →
    AnswersAlone (DropJob name) c d second → AnswersAlone (GetJob name) e f last → Follows d e →
    IsKnown c records → IsDone second →
    (Rose e.disk_faults f.disk_faults → ⊥) → (last.status ≡ 3) ⊎ (last.status ≡ 70)
drop-get name records c d e f second last D G N K done disk = (let P = drop-done name c d second D done in
    get-missing name (after_drop records name) e f last G (sure-next (after_drop records name) d e
    (drop-sure name records c d second D done K) N).known (file-spelled P.records name P.file
    P.opened.read.in_grammar P.was_in_effect).0 (dropped-none records name) disk)

-- ---- a get after a repair

-- a get after a done repair gives the file's bytes, and the repaired providers may be counted on
pub repair-get : (name bytes : List ℕ) (records : List Record) (spoilt later : ℕ → Bool) (due : Due)
    (c d e f : Seen) (second last : Ending) → AnswersAlone RepairJob c d second →
    AnswersAlone (GetJob name) e f last → Follows d e →
    IsKnown c records → due_of records ≡ Some due → HasRightFile c records name bytes spoilt → IsDone second →
    IsSteady (setup_in_effect records).n spoilt c d →
    spoilt_below (setup_in_effect records).n spoilt ≤ (setup_in_effect records).b →
    ((j : ℕ) → j < (setup_in_effect records).n → is_flagged (setup_in_effect records).tolerance due.counts j
    ≡ true → is_some (provider_at c.providers j).held ≡ true) →
    ((j : ℕ) → later j ≡ false →
    (spoilt j && not (is_flagged (setup_in_effect records).tolerance due.counts j)) ≡ false) →
    IsGot (setup_in_effect records) bytes later d e f last
repair-get name bytes records spoilt later due c d e f second last R G N K is_due H done steady few tells less =
    (let H = repair-has name bytes records due spoilt c d second R done K is_due H steady few tells in
    then-get name bytes (after_repair records due) later d e f last G N
    (repair-sure records due c d second R done K is_due) (record {
      file = H.file;
      in_effect = H.in_effect;
      are_bytes = H.are_bytes;
      size = H.size;
      right = λ j below clean. H.right j below (less j clean);
    }))

-- what a get gives after a scrub at which at most b providers were spoilt
abbrev IsSwept : Setup → List ℕ → (ℕ → Bool) → (ℕ → Bool) → Seen → Seen → Seen → Seen → Ending → Type 0
IsSwept s bytes spoilt later c d e f last = IsSteady s.n spoilt c d → spoilt_below s.n spoilt ≤ s.b →
    DoTell s.n later c → IsGot s bytes later d e f last

-- a get after a done scrub gives the file's bytes, whichever b providers are spoilt by then
pub scrub-get : (name bytes : List ℕ) (records : List Record) (spoilt later : ℕ → Bool)
    (c d e f : Seen) (second last : Ending) → AnswersScrub c d second → AnswersAlone (GetJob name) e f last →
    Follows d e → IsKnown c records → HasRightFile c records name bytes spoilt → IsDone second →
    IsSwept (setup_in_effect records) bytes spoilt later c d e f last
scrub-get name bytes records spoilt later c d e f second last A G N K H done steady few tells =
    then-get name bytes records later d e f last G N (scrub-sure records c d second A (inl done) K)
    (scrub-has name bytes records spoilt later c d second A done K H steady few tells)

-- the store after a done put, and its file there, as the next command finds them
put-then : (name bytes : List ℕ) (own : Option ℕ) (records : List Record) (spoilt : ℕ → Bool)
    (a b c : Seen) (first : Ending) → AnswersPut name own a b first → Follows b c → IsKnown a records →
    a.source ≡ Some bytes → IsDone first → DoTell (setup_in_effect records).n spoilt a →
    IsUntouched (setup_in_effect records).n spoilt b c →
    IsKnown c (after_put records name (length bytes) own)
    × HasRightFile c (after_put records name (length bytes) own) name bytes spoilt
put-then name bytes own records spoilt a b c first P N K source done tells untouched =
    (let after = after_put records name (length bytes) own in (
      (sure-next after b c (put-sure name bytes own records a b first P done K source) N).known,
      next-has name bytes after spoilt b c
          (put-has name bytes own records spoilt a b first P done K source tells)
          (rw (sym (put-setup records name (length bytes) own)) at untouched),
    ))

-- a get after a done put and a done scrub gives the bytes that were put, whichever b providers are spoilt
pub put-scrub-get : (name bytes : List ℕ) (own : Option ℕ) (records : List Record) (spoilt later : ℕ → Bool)
    (a b c d e f : Seen) (first second last : Ending) → AnswersPut name own a b first →
    AnswersScrub c d second → AnswersAlone (GetJob name) e f last → Follows b c → Follows d e →
    IsKnown a records → a.source ≡ Some bytes → IsDone first → IsDone second →
    DoTell (setup_in_effect records).n spoilt a → IsUntouched (setup_in_effect records).n spoilt b c →
    IsSwept (setup_in_effect records) bytes spoilt later c d e f last
put-scrub-get name bytes own records spoilt later a b c d e f first second last P A G L N K source put scrubbed tells two =
    (let then = put-then name bytes own records spoilt a b c first P L K source put tells two in
    rw (put-setup records name (length bytes) own) at (scrub-get name bytes
    (after_put records name (length bytes) own) spoilt later c d e f second last A G N then.0 then.1 scrubbed))

-- ---- a put, an audit, a repair and a get

-- an audit's repair comes due by its own counts
audit-due : (rs : List Record) (undecided : ℕ) (counts : List ℕ) (due : Due) → due_of rs ≡ None →
    due_of (after_audit rs undecided counts) ≡ Some due → due.counts ≡ counts
audit-due rs undecided counts due none is = elim (cases_Bool (exceeds (setup_of rs) counts)) [
  | inl t ↦ (let e : Some (record { number = next_audit rs; counts = counts }) ≡ Some due =
      sym (cond_true (exceeds (setup_of rs) counts) _ (due_of rs) t) ∙ is in
      let f : record { number = next_audit rs; counts = counts } ≡ due = cc in
      sym (ap (λ d. d.counts) f))
  | inr f ↦ absurd (let e : None ≡ Some due = sym none
      ∙ (sym (cond_false (exceeds (setup_of rs) counts)
      (Some (record { number = next_audit rs; counts = counts })) (due_of rs) f) ∙ is) in cc)
]

-- an audit begins only where no repair is due
none-due : (rs : List Record) (number : ℕ) → refused rs (AuditStart number) ≡ None → due_of rs ≡ None
none-due rs number h = is_some-none (due_of rs) (grind (arith, nat_tests, h))

audit-then : (records : List Record) (undecided : ℕ) (counts : List ℕ) (c d : Seen) →
    IsThen AuditAll records c d (after_audit records undecided counts)
audit-then records undecided counts c d = inr (inl (record {
  kind = AuditJob;
  of_command = refl;
  own = audit_records records undecided counts;
  are_own = (undecided, counts, refl);
  count = 2;
  whole = λ l. tt;
  after_is = refl;
}))

-- what an audit, its repair and a get give over a store with this setup, whose next audit has this number
abbrev Mends : Setup → ℕ → List ℕ → (ℕ → Bool) → Seen → Seen → Seen → Seen → Seen → Seen → Ending → Ending →
    Type 0
Mends s number bytes spoilt c d e f g h second last = IsUntouched s.n spoilt d e → IsSteady s.n spoilt e f →
    spoilt_below s.n spoilt ≤ s.b → (undecided : ℕ) × (counts : List ℕ) × IsTold
    (audit_lines s.tolerance number undecided counts) c d second ×
    (((j : ℕ) → j < s.n → is_flagged s.tolerance counts j ≡ true → is_some (provider_at e.providers j).held ≡
    true) → (later : ℕ → Bool) → ((j : ℕ) → later j ≡ false →
    (spoilt j && not (is_flagged s.tolerance counts j)) ≡ false) → IsGot s bytes later f g h last)

audit-repair-get : (name bytes : List ℕ) (stored : List Record) (spoilt : ℕ → Bool) (c d e f g h : Seen)
    (second third last : Ending) → Answers AuditAll c d second → AnswersAlone RepairJob e f third →
    AnswersAlone (GetJob name) g h last → Follows d e → Follows f g → IsKnown c stored → IsDone second →
    IsDone third → HasRightFile c stored name bytes spoilt →
    Mends (setup_in_effect stored) (next_audit stored) bytes spoilt c d e f g h second last
audit-repair-get name bytes stored spoilt c d e f g h second third last A R G M L known audited repaired file-c two steady few =
    (let audit = audit-sure stored c d second A.0 audited known in
    let counted : List Record = after_audit stored audit.0 audit.1 in
    let sure-e = sure-next counted d e audit.2 M in
    let repair = repair-done e f third R repaired in
    let is_due : due_of counted ≡ Some repair.due =
    ap due_of (sym (known-once e counted repair.records sure-e.known repair.opened.read)) ∙ repair.is_due in
    let same : repair.due.counts ≡ audit.1 = audit-due stored audit.0 audit.1 repair.due
    (none-due stored (next_audit stored) sure-e.known.opened.read.accepted.1.0) is_due in (
      audit.0,
      audit.1,
      audit.3,
      λ tells later less. repair-get name bytes counted spoilt later repair.due e f g h third last R G L
          sure-e.known is_due (next-has name bytes counted spoilt d e (reads-have AuditAll name bytes stored
          counted spoilt c d second A refl file-c (audit-then stored audit.0 audit.1 c d)) two) repaired
          steady few (λ j below flagged. tells j below (rw same at flagged)) (rw (← same) at less),
    ))

-- a get after a put, an audit and its repair, all done, gives the bytes that were put
pub put-audit-repair-get : (name bytes : List ℕ) (own : Option ℕ) (records : List Record) (spoilt : ℕ → Bool)
    (a b c d e f g h : Seen) (first second third last : Ending) → AnswersPut name own a b first →
    Answers AuditAll c d second → AnswersAlone RepairJob e f third → AnswersAlone (GetJob name) g h last →
    Follows b c → Follows d e → Follows f g → IsKnown a records → a.source ≡ Some bytes → IsDone first →
    IsDone second → IsDone third → DoTell (setup_in_effect records).n spoilt a →
    IsUntouched (setup_in_effect records).n spoilt b c →
    Mends (setup_in_effect records) (next_audit records) bytes spoilt c d e f g h second last
put-audit-repair-get name bytes own records spoilt a b c d e f g h first second third last P A R G N M L K source put audited repaired told one =
    (let stored = after_put records name (length bytes) own in
    let then = put-then name bytes own records spoilt a b c first P N K source put told one in
    subst (λ s. Mends s (next_audit records) bytes spoilt c d e f g h second last)
    (put-setup records name (length bytes) own) (rw (put-audits records name (length bytes) own) at
    (audit-repair-get name bytes stored spoilt c d e f g h second third last A R G M L then.0 audited repaired
    then.1)))
