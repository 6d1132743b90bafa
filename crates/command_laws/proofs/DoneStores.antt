-- The records of a store after a command that is done, and after any command.
use Rattle.command_laws.proofs.Words.{◌≡◌, ℕ, ◌+◌, ◌<◌, ◌≤◌, ◌⊎◌, Bool, true, false, List, [], ◌∷◌, length, Option, None, Some, refl, ap, sym, subst, ◌∙◌, inl, inr, arith, is_some, IfSome, option_map, and_from, false≢true, nat_tests, is_some-option_map, Cells, reads, firm, synced, Stopped, EachImage, Record, Setup, SetUp, is_master, is_setup, is_in_grammar, largest_file, largest_journal, Area, end_in, other_area, StandsActive, StandsFor, AreAlike, packed, Due, next_audit, due_of, Kind, PutJob, GetJob, DropJob, AuditJob, RepairJob, UpgradeJob, Answer, Command, Numbers, PutUnder, PutAt, ListAll, ScrubAll, PackJournal, IsKeyForm, Seen, Ending, IsRefused, IsSynced, ReadsUpTo, journal_read, IsSetUpOn, IsOpened, setup_in_effect, refusal_over, pack_refusal_over, audit_lines, setup_with, AnswersInit, AnswersJob, SameOutside, outside, with_next, IsTold, put_stripe, after_begin, StopsReading, PartRuns, PartLeft, ScrubsAlone, AnswersScrub, PackedAlone, AnswersPack, AnswersPut, AnswersAlone, AnswersList, Answers, MayName, IsDone, IsKnown, profile_named, RunsKind, DiskHas, opens_store, after_put, after_drop, after_audit, after_repair, after_upgrade, IsAfter, IsSure, Follows, IsThen, reads-firm, image-firm, each_image-mono, IsImage-reads, active-front, one_list, same_value, is_some-at, IsKeyForm-once, set_up-firm, set_up-stands, RowOf, InitWith}
use Rattle.std.specs.Prelude.{IsTrue}
use Rattle.hex.proofs.HexLemmas.{decode_of-ok}
use Rattle.device_defs.specs.Told.{Goes}
use Rattle.record_defs.specs.Areas as areas
use Rattle.record_codec.proofs.Takes.{IsBytes-all}
use Rattle.machine_defs.specs.Answers as answer
use Rattle.command_laws.proofs.Known.{known-once, known-both, alone-known}
use Rattle.command_laws.proofs.JobEnds.{put-done, drop-done, audit-done, repair-done, upgrade-done, read-all, given-kind, images-have, cut-not, unstarted-cut, job-cut, short-never}
use Rattle.command_laws.proofs.InitEnds.{form-all, init-done, list-done}
use Rattle.command_laws.proofs.Images.{known-images}
use Rattle.command_laws.proofs.Failed.{put-fails, repair-fails, repair-loses}
use Rattle.command_laws.proofs.ScrubRuns.{scrub-handed}
use Rattle.command_laws.proofs.PackEnds.{pack-done, pack-alike}
use Rattle.command_laws.proofs.PackStores.{pack-good}
use Rattle.command_laws.proofs.Knowing.{IsGood, MayBeGood, sure-good, known-good, LeavesGood, HasBytes, ran-good, part-good, spelled-kind}
use Rattle.command_laws.proofs.Afterwards.{sure-refused, sure-next}
use Rattle.command_laws.proofs.Early.{pack-cases, IsEarly, early-at, early-why, early-done, early-not, unstarted-early, alone-cases, list-cases}

-- ---- statuses of a job that came to its end by itself

-- done, a row lost, or a store that failed
abbrev pub IsOver : ℕ → Type 0
IsOver status = ((status ≡ 0) ⊎ (status ≡ 15)) ⊎ ((status ≡ 4) ⊎ (status ≡ 13))

over-early : {old new : Seen} {end : Ending} → IsEarly old new end → IsOver end.status → ⊥
over-early E (inl done) = early-done E done
over-early E (inr (inl lost)) = early-not E 4 refl lost
over-early E (inr (inr store)) = early-not E 13 refl store

-- ---- a disk that told tells on

-- a disk tells after a job where it told before, by what it reads outside the text
pub tells-outside : (area : Area) (kind : Kind) (own : Option ℕ) (how : Answer) (before rs : List Record)
    (a b : Option Cells) → SameOutside area kind own how before rs a b → is_some b ≡ is_some a
tells-outside area kind own answer.DiskFault before rs a b h =
    (let all = with_next h.next rs in sym (is_some-option_map (outside area all) b)
    ∙ (ap is_some h.same ∙ is_some-option_map (outside area all) a))
tells-outside area kind own answer.Memory before rs a b h =
    (let all = with_next h.next rs in sym (is_some-option_map (outside area all) b)
    ∙ (ap is_some h.same ∙ is_some-option_map (outside area all) a))
tells-outside area kind own how before rs a b h =
    sym (is_some-option_map (outside area rs) b) ∙ (ap is_some h ∙ is_some-option_map (outside area rs) a)

-- ---- what a job leaves that came to its end

-- each image is good, and the disk tells as before
abbrev Left : List Record → Seen → Seen → Type 0
Left records old new = LeavesGood records old new × (is_some new.disk ≡ is_some old.disk)

-- a command is refused, or leaves what is good
abbrev Comes : List Record → Seen → Seen → Ending → Type 0
Comes records old new end = IsEarly old new end ⊎ Left records old new

job-comes : (kind : Kind) (records : List Record) (old new : Seen) (end : Ending) →
    (opened : IsOpened old records) → HasBytes kind → {own : Option ℕ} → MayName kind own →
    AnswersJob kind own opened.area records old new end → Comes records old new end
job-comes kind records old new end R are named (AnswersJob.refused why is synced r) = inl (early-why why r)
job-comes kind records old new end R are named (AnswersJob.no_memory synced r) =
    inl (early-at 70 0 refl refl r)
job-comes kind records old new end R are named (AnswersJob.ended how none runs left by) = inr (
  ran-good records kind how old new end.heard R (spelled-kind R.area records kind _ are none) named runs,
  tells-outside R.area kind _ how records left.after old.disk new.disk left.outside_text,
)

alone-comes : (kind : Kind) (records : List Record) (old new : Seen) (end : Ending) → IsKnown old records →
    HasBytes kind → AnswersAlone kind old new end → Comes records old new end
alone-comes kind records old new end K are A = elim (alone-known kind old new end records K A) [
  | inl (inl (rose, r)) ↦ inl (early-at 12 0 refl refl r)
  | inl (inr r) ↦ inl (early-at 70 0 refl refl r)
  | inr job ↦ job-comes kind records old new end K.opened are (MayName.none refl) job
]

-- a put that was given up leaves what is good
given-left : (name bytes : List ℕ) (own : Option ℕ) (records : List Record) (old new : Seen) (end : Ending) →
    (opened : IsOpened old records) → refusal_over opened.area records (PutJob name bytes) own ≡ None →
    StopsReading (put_stripe records own) bytes old new end →
    PartRuns opened.area records name bytes own old new →
    PartLeft opened.area records name bytes own old new → Left records old new
given-left name bytes own records old new end R none stops runs left = (
  part-good records name bytes own old new R (spelled-kind R.area records (PutJob name bytes) own
      (given-kind R.area name bytes own records old new end none stops).0 none) (MayName.put name bytes refl)
      runs,
  sym (is_some-option_map (outside R.area (after_begin records name)) new.disk)
      ∙ (ap is_some left.outside_text ∙ is_some-option_map (outside R.area (after_begin records name)) old.disk),
)

put-comes : (name : List ℕ) {own : Option ℕ} (records : List Record) (old new : Seen) (end : Ending) →
    IsKnown old records → AnswersPut name own old new end → Comes records old new end
put-comes name records old new end K (AnswersPut.unstarted u same) = inl (unstarted-early u)
put-comes name records old new end K (AnswersPut.source_fault other opened known rose synced taken r) =
    inl (early-at 14 0 refl refl r)
put-comes name records old new end K (AnswersPut.bad_profile other opened unknown synced same r) =
    inl (early-at 20 0 refl refl r)
put-comes name records old new end K (AnswersPut.no_memory taken r) = inl (early-at 70 0 refl refl r)
put-comes name records old new end K (AnswersPut.given_up other bytes opened known none stops runs left) =
    inr (rw (known-once old records other K opened.read) at (given-left name bytes _ other old new end opened
    none stops runs left))
put-comes name records old new end K (AnswersPut.begun other bytes opened known read few A whole one) =
    rw (known-once old records other K opened.read) at (job-comes (PutJob name bytes) other old new end opened
    read.are_bytes (MayName.put name bytes refl) A)

-- a command that is over, and is not refused, leaves what is good
comes-over : {old new : Seen} {end : Ending} {L : Type 0} → IsOver end.status → IsEarly old new end ⊎ L → L
comes-over over (inl E) = absurd (over-early E over)
comes-over over (inr L) = L

alone-over : (kind : Kind) (records : List Record) (old new : Seen) (end : Ending) → IsKnown old records →
    HasBytes kind → AnswersAlone kind old new end → IsOver end.status → Left records old new
alone-over kind records old new end K are A over =
    comes-over over (alone-comes kind records old new end K are A)

put-over : (name : List ℕ) {own : Option ℕ} (records : List Record) (old new : Seen) (end : Ending) →
    IsKnown old records → AnswersPut name own old new end → IsOver end.status → Left records old new
put-over name records old new end K A over = comes-over over (put-comes name records old new end K A)

sure-left : (records : List Record) (area : Area) (after : List Record) (old new : Seen) →
    IsKnown old records → Left records old new → DiskHas area after new → IsSure new after
sure-left records area after old new K L has = (let c = is_some-at new.disk (L.1 ∙ K.tells) in
    sure-good (setup_in_effect records) new c.0 area after c.1 L.0.0 L.0.1 has)

-- ---- what was read of a source that tells

-- what was read of a source that is then at its end is all that it held
pub whole-read : (most : ℕ) (old new : Option (List ℕ)) (bytes seen : List ℕ) → old ≡ Some bytes →
    ReadsUpTo most old new seen → IfSome new (λ left. left ≡ []) → seen ≡ bytes
whole-read most old new bytes seen is R whole =
    read-all old new bytes seen is (record { are_bytes = R.are_bytes; front = R.front }) whole

-- ---- each command that is done

-- after a done put the store is sure, with the put's two records
pub put-sure : (name bytes : List ℕ) (own : Option ℕ) (records : List Record) (old new : Seen)
    (end : Ending) → AnswersPut name own old new end → IsDone end → IsKnown old records →
    old.source ≡ Some bytes → IsSure new (after_put records name (length bytes) own)
put-sure name bytes own records old new end A done K source = (let P = put-done name own old new end A done in
    let read = whole-read (largest_file + 1) old.source new.source bytes P.bytes source P.read P.whole in
    sure-left records K.opened.area (after_put records name (length bytes) own) old new K
    (put-over name records old new end K A (inl done)) (known-both old records P.records K P.opened
    (λ a rs. DiskHas a (after_put rs name (length bytes) own) new)
    (subst (λ bs. DiskHas P.opened.area (after_put P.records name (length bs) own) new) read P.disk)))

-- after a done drop the store is sure, with the drop's record
pub drop-sure : (name : List ℕ) (records : List Record) (old new : Seen) (end : Ending) →
    AnswersAlone (DropJob name) old new end → IsDone end → IsKnown old records →
    IsSure new (after_drop records name)
drop-sure name records old new end A done K = (let P = drop-done name old new end A done in
    sure-left records K.opened.area (after_drop records name) old new K
    (alone-over (DropJob name) records old new end K tt A (inl done))
    (known-both old records P.records K P.opened (λ a rs. DiskHas a (after_drop rs name) new) P.disk))

-- after a done audit the store is sure, with the audit's two records, whose counts it told
pub audit-sure : (records : List Record) (old new : Seen) (end : Ending) → AnswersAlone AuditJob old new end →
    IsDone end → IsKnown old records → (undecided : ℕ) × (counts : List ℕ) ×
    IsSure new (after_audit records undecided counts)
    × IsTold (audit_lines (setup_in_effect records).tolerance (next_audit records) undecided counts) old new
    end
audit-sure records old new end A done K = (let P = audit-done old new end A done in
    let same = known-once old records P.records K P.opened.read in (
      P.undecided,
      P.counts,
      sure-left records K.opened.area (after_audit records P.undecided P.counts) old new K
          (alone-over AuditJob records old new end K tt A (inl done))
          (known-both old records P.records K P.opened
          (λ a rs. DiskHas a (after_audit rs P.undecided P.counts) new) P.disk),
      (rw same at P.told),
    ))

-- after a done repair the store is sure, with the repair's record
pub repair-sure : (records : List Record) (due : Due) (old new : Seen) (end : Ending) →
    AnswersAlone RepairJob old new end → IsDone end → IsKnown old records → due_of records ≡ Some due →
    IsSure new (after_repair records due)
repair-sure records due old new end A done K is_due = (let P = repair-done old new end A done in
    let due_is = same_value (due_of records) P.due due
    (ap due_of (sym (known-once old records P.records K P.opened.read)) ∙ P.is_due) is_due in
    sure-left records K.opened.area (after_repair records due) old new K
    (alone-over RepairJob records old new end K tt A (inl done)) (known-both old records P.records K P.opened
    (λ a rs. DiskHas a (after_repair rs due) new)
    (subst (λ d. DiskHas P.opened.area (after_repair P.records d) new) due_is P.disk)))

-- after a done upgrade the store is sure, with the upgrade's record
pub upgrade-sure : (records : List Record) (old new : Seen) (end : Ending) →
    AnswersAlone UpgradeJob old new end → IsDone end → IsKnown old records →
    IsSure new (after_upgrade records)
upgrade-sure records old new end A done K = (let P = upgrade-done old new end A done in
    sure-left records K.opened.area (after_upgrade records) old new K
    (alone-over UpgradeJob records old new end K tt A (inl done))
    (known-both old records P.records K P.opened (λ a rs. DiskHas a (after_upgrade rs) new) P.disk))

-- after a get that is over the store is sure, with the same records
pub get-sure : (name : List ℕ) (records : List Record) (old new : Seen) (end : Ending) →
    AnswersAlone (GetJob name) old new end → IsOver end.status → IsKnown old records → IsSure new records
get-sure name records old new end A over K = sure-left records K.opened.area records old new K
    (alone-over (GetJob name) records old new end K tt A over)
    (alone-cases (λ E. absurd (over-early E over)) (λ other opened how none left by.
    let L = left.leaves.by_kind in known-both old records other K opened (λ a rs. DiskHas a rs new)
    (images-have opened.area new.disk left.after left.doubt other L.records L.sure left.images)) A)

-- ---- a store that failed, and a row that a repair lost

-- after a put of which a store failed the store is sure, with the put's first record alone
pub failed-put-sure : (name : List ℕ) {own : Option ℕ} (records : List Record) (old new : Seen)
    (end : Ending) → AnswersPut name own old new end → end.status ≡ 13 → IsKnown old records →
    IsSure new (after_begin records name)
failed-put-sure name records old new end A failed K = (let P = put-fails name old new end A failed in
    sure-left records K.opened.area (after_begin records name) old new K
    (put-over name records old new end K A (inr (inr failed)))
    (known-both old records P.records K P.opened (λ a rs. DiskHas a (after_begin rs name) new) P.disk))

-- after a put whose source failed, or was too long, the store is sure, with the put's first record alone;
-- unless it failed before the begin
pub cut-put-sure : (name : List ℕ) (own : Option ℕ) (records : List Record) (old new : Seen) (end : Ending) →
    AnswersPut name own old new end → (end.status ≡ 14) ⊎ (end.status ≡ 16) → IsKnown old records →
    ((end.status ≡ 14) × IsRefused 14 0 old new end) ⊎ IsSure new (after_begin records name)
cut-put-sure name own records old new end (AnswersPut.unstarted u same) cut K =
    absurd (unstarted-cut old new end u cut)
cut-put-sure name own records old new end (AnswersPut.bad_profile other opened unknown synced same r) cut K =
    absurd (cut-not 20 r.status_is refl cut)
cut-put-sure name own records old new end (AnswersPut.source_fault other opened known rose synced taken r) cut K =
    inl (r.status_is, r)
cut-put-sure name own records old new end (AnswersPut.no_memory taken r) cut K =
    absurd (cut-not 70 r.status_is refl cut)
cut-put-sure name own records old new end (AnswersPut.begun other bytes opened known read few A whole one) cut K =
    absurd (job-cut (PutJob name bytes) own other old new end
    (short-never opened.area other name bytes own few) A cut)
cut-put-sure name own records old new end (AnswersPut.given_up other bytes opened known none stops runs left) cut K =
    inr (sure-left records K.opened.area (after_begin records name) old new K
    (rw (known-once old records other K opened.read) at (given-left name bytes own other old new end opened
    none stops runs left))
    (known-both old records other K opened (λ a rs. DiskHas a (after_begin rs name) new) left.images))

-- so it is after one whose source was too long
pub long-put-sure : (name : List ℕ) (own : Option ℕ) (records : List Record) (old new : Seen) (end : Ending) →
    AnswersPut name own old new end → end.status ≡ 16 → IsKnown old records →
    IsSure new (after_begin records name)
long-put-sure name own records old new end A long K =
    elim (cut-put-sure name own records old new end A (inr long) K) [
      | inl (short, r) ↦ absurd (omega (arith, sym short ∙ long))
      | inr sure ↦ sure
    ]

-- after a repair that failed at a store or a lost row the store is sure, with the same records
pub failed-repair-sure : (records : List Record) (old new : Seen) (end : Ending) →
    AnswersAlone RepairJob old new end → (end.status ≡ 4) ⊎ (end.status ≡ 13) → IsKnown old records →
    IsSure new records
failed-repair-sure records old new end A failed K = sure-left records K.opened.area records old new K
    (alone-over RepairJob records old new end K tt A (inr failed)) (elim failed [
      | inl lost ↦ (let P = repair-loses old new end A lost in
          known-both old records P.records K P.opened (λ a rs. DiskHas a rs new) P.disk)
      | inr store ↦ (let P = repair-fails old new end A store in
          known-both old records P.records K P.opened (λ a rs. DiskHas a rs new) P.disk)
    ])

firm-sure : (s : Setup) (new : Seen) (bytes : List ℕ) (area : Area) (rs : List Record) →
    new.disk ≡ Some (firm bytes) → IsGood s bytes area rs → s.n ≤ length new.providers → IsSure new rs
firm-sure s new bytes area rs told G enough = record {
  known = known-good s new (firm bytes) area rs told
      (subst (λ b. IsGood s b area rs) (sym (reads-firm bytes)) G) enough;
  images = subst (λ d. EachImage d (λ image. StandsActive image area rs)) (sym told)
      (λ image is. subst (λ b. StandsActive b area rs) (sym (image-firm bytes image is)) G.stands);
}

-- a disk that was synced, over known records
synced-sure : (records : List Record) (old new : Seen) → IsKnown old records →
    new.disk ≡ option_map synced old.disk → length new.providers ≡ length old.providers → IsSure new records
synced-sure records old new K after same = (let c = is_some-at old.disk K.tells in
    let R = K.opened.read in
    let area = K.opened.area in
    let looked : (9 < length (reads c.0)) × StandsActive (journal_read c.0) area records =
    subst (λ d. IfSome d (λ cells. (9 < length (reads cells)) × StandsActive (journal_read cells) area
    records)) c.1 R.reads_are in
    firm-sure (setup_in_effect records) new (reads c.0) area records (after ∙ ap (option_map synced) c.1)
    (record {
      some = R.some;
      accepted = R.accepted;
      room = R.room;
      setup = refl;
      stands = active-front largest_journal (reads c.0) area records looked.1;
    }) (let e = K.opened.enough in omega (arith, e, same)))

-- after a done list the store is sure, with the same records
pub list-sure : (records : List Record) (old new : Seen) (end : Ending) → AnswersList old new end →
    IsDone end → IsKnown old records → IsSure new records
list-sure records old new end A done K = (let P = list-done old new end A done in
    synced-sure records old new K P.disk (ap (λ ps. length ps) P.providers))

-- after a scrub that came to its end the store is sure, with the same records
ended-sure : (records other : List Record) (how : Answer) (old new : Seen) → IsKnown old records →
    (opened : IsOpened old other) → IsSynced old new → ScrubsAlone opened.area other how old new →
    IsSure new records
ended-sure records other how old new K opened sync runs =
    synced-sure records old new K sync (scrub-handed other how old new opened runs)

-- so it is after one that is over
pub scrub-sure : (records : List Record) (old new : Seen) (end : Ending) → AnswersScrub old new end →
    IsOver end.status → IsKnown old records → IsSure new records
scrub-sure records old new end (AnswersScrub.unstarted u) over K = absurd (over-early (unstarted-early u) over)
scrub-sure records old new end (AnswersScrub.no_memory other opened sync r) over K =
    absurd (over-early (early-at 70 0 refl refl r) over)
scrub-sure records old new end (AnswersScrub.ended other how opened sync heard runs left by) over K =
    ended-sure records other how old new K opened sync runs

-- ---- init

key-master : (text key : List ℕ) → IsKeyForm text key → is_master key ≡ true
key-master text key F = (let d = decode_of-ok F.digits key F.spelled in
    let long : length key ≡ 32 = (let a = d.2 in let b = F.size in omega (arith, a, b)) in
    let fits = IsBytes-all key d.3 in grind (arith, nat_tests, long, fits))

init-good : (s : Setup) (area : Area) (bytes : List ℕ) → StandsActive bytes area (SetUp s ∷ []) →
    IsGood s bytes area (SetUp s ∷ [])
init-good s area bytes stands = record {
  some = λ e. cc;
  accepted = (refl, tt);
  room = in_area area;
  setup = refl;
  stands = stands;
}
  where
    in_area : (area : Area) → end_in area (SetUp s ∷ []) ≤ largest_journal
    in_area areas.A = omega arith
    in_area areas.B = omega arith

set_up-at : (s : Setup) (a b : Option Cells) → is_some a ≡ true → Goes (IsSetUpOn s) a b →
    IsTrue (is_in_grammar (SetUp s)) →
    (area : Area) × (bytes : List ℕ) × (b ≡ Some (firm bytes)) × IsGood s bytes area (SetUp s ∷ [])
set_up-at s None b tells g fits = absurd (false≢true tells)
set_up-at s (Some a) None tells g fits = absurd g
set_up-at s (Some a) (Some b) tells g fits = (
  g.area,
  reads b,
  ap Some (set_up-firm s a b g),
  init-good s g.area (reads b) (set_up-stands s a b g fits),
)

-- after a done init the store is sure, and its one record is the setup
pub init-sure : (numbers : Numbers) (key : List ℕ) (old new : Seen) (end : Ending) →
    AnswersInit numbers old new end → IsDone end → is_some old.disk ≡ true →
    ((bytes : List ℕ) × (old.source ≡ Some bytes) × IsKeyForm bytes key) →
    IsSure new (SetUp (setup_with numbers key) ∷ [])
init-sure numbers key old new end A done tells (bytes, source, form) =
    (let I = init-done numbers old new end A done in
    let same = IsKeyForm-once bytes I.key key
    (form-all old.source new.source bytes I.bytes I.key source I.read I.form) form in
    let set_up = set_up-at (setup_with numbers key) old.disk new.disk tells
    (rw same at I.disk)
    (grind (
      arith,
      and_from (is_setup (setup_with numbers key)) (is_master key) I.good (key-master bytes key form),
    )) in
    firm-sure (setup_with numbers key) new set_up.1 set_up.0 (SetUp (setup_with numbers key) ∷ []) set_up.2
    set_up.3
    (rw (← I.providers) at I.enough))

-- ---- whatever comes of a command

list-comes : (records : List Record) (old new : Seen) (end : Ending) → IsKnown old records →
    AnswersList old new end → IsSure new records ⊎ Comes records old new end
list-comes records old new end K = list-cases (λ E. inr (inl E))
    (λ other opened L. inl (synced-sure records old new K L.disk (ap (λ ps. length ps) L.providers)))

scrub-comes : (records : List Record) (old new : Seen) (end : Ending) → IsKnown old records →
    AnswersScrub old new end → IsSure new records ⊎ Comes records old new end
scrub-comes records old new end K (AnswersScrub.unstarted u) = inr (inl (unstarted-early u))
scrub-comes records old new end K (AnswersScrub.no_memory other opened sync r) =
    inr (inl (early-at 70 0 refl refl r))
scrub-comes records old new end K (AnswersScrub.ended other how opened sync heard runs left by) =
    inl (ended-sure records other how old new K opened sync runs)

pack-left : (records : List Record) (how : Answer) (old new : Seen) (opened : IsOpened old records) →
    pack_refusal_over opened.area records ≡ None → PackedAlone opened.area records how old new →
    Left records old new
pack-left records how old new opened none left = (pack-good records old new opened none how left, left.tells)

pack-comes : (records : List Record) (old new : Seen) (end : Ending) → IsKnown old records →
    AnswersPack old new end → Comes records old new end
pack-comes records old new end K = pack-cases (λ E. inl E) (λ other how opened none left by. inr
    (rw (known-once old records other K opened.read) at (pack-left other how old new opened none left)))

-- after a done pack the store is sure, with the packed records
pub pack-sure : (records : List Record) (old new : Seen) (end : Ending) → AnswersPack old new end →
    IsDone end → IsKnown old records → IsSure new (packed records)
pack-sure records old new end A done K = (let P = pack-done old new end A done in
    sure-left records (other_area K.opened.area) (packed records) old new K
    (comes-over (inl done) (pack-comes records old new end K A))
    (known-both old records P.records K P.opened (λ a rs. DiskHas (other_area a) (packed rs) new) P.disk))

-- a pack that went on to its end put records in the place of others whose table is alike
pack-alike-of : (records : List Record) (old new : Seen) (end : Ending) → IsKnown old records →
    AnswersPack old new end → IsEarly old new end ⊎ AreAlike (packed records) records
pack-alike-of records old new end K = pack-cases (λ E. inl E)
    (λ other how opened none left by. inr (rw (known-once old records other K opened.read) at
    (pack-alike opened.area other opened.read.accepted none).1))

command-comes : (command : Command) (records : List Record) (old new : Seen) (end : Ending) →
    IsKnown old records → Answers command old new end → opens_store command ≡ true →
    IsSure new records ⊎ Comes records old new end
command-comes (RowOf n l b seen) records old new end K A opens = absurd (false≢true opens)
command-comes (InitWith numbers) records old new end K A opens = absurd (false≢true opens)
command-comes (PutUnder name) records old new end K A opens = inr (put-comes name records old new end K A)
command-comes (PutAt name profile) records old new end K A opens =
    inr (put-comes name records old new end K A)
command-comes ListAll records old new end K A opens = list-comes records old new end K A.0
command-comes ScrubAll records old new end K A opens = scrub-comes records old new end K A.0
command-comes PackJournal records old new end K A opens = inr (pack-comes records old new end K A.0)
command-comes command records old new end K A opens = inr (alone-comes _ records old new end K tt A.0)

-- a command is a pack
abbrev is_pack : Command → Bool
is_pack PackJournal = true
is_pack command = false

-- no other command is one
no-pack : {X : Type 0} (command : Command) → is_pack command ≡ false → command ≡ PackJournal → X
no-pack command other is = absurd (false≢true (sym other ∙ ap is_pack is))

-- a command is refused, or where it is a pack the table of what it put in place is alike
command-alike : (command : Command) (records : List Record) (old new : Seen) (end : Ending) →
    IsKnown old records → Answers command old new end →
    IsEarly old new end ⊎ (command ≡ PackJournal → AreAlike (packed records) records)
command-alike PackJournal records old new end K A = elim (pack-alike-of records old new end K A.0) [
  | inl refused ↦ inl refused
  | inr alike ↦ inr (λ is. alike)
]
command-alike command records old new end K A = inr (no-pack command refl)

-- what is told of each image: it is good, and stands for the records or for these with some of the job's
abbrev Told : Command → List Record → Seen → Seen → List ℕ → Type 0
Told command records old new image = (area : Area) × (rs : List Record) × IsGood (setup_in_effect records)
    image area rs × IsThen command records old new rs

image-told : (command : Command) (records : List Record) (old new : Seen) (image : List ℕ)
    (area : Area) (rs : List Record) → IsGood (setup_in_effect records) image area rs →
    (command ≡ PackJournal → AreAlike (packed records) records) →
    StandsFor image records
    ⊎ (((kind : Kind) × RunsKind command old new kind
    × IsAfter records kind (profile_named command) old new image)
    ⊎ ((command ≡ PackJournal) × StandsFor image (packed records))) →
    Told command records old new image
image-told command records old new image area rs G alike (inl stands) =
    (area, rs, G, inl (one_list image rs records (area, G.stands) stands))
image-told command records old new image area rs G alike (inr (inl (kind, is, after))) = (
  area,
  rs,
  G,
  inr (inl (record {
    kind = kind;
    of_command = is;
    own = after.own;
    are_own = after.are_own;
    count = after.count;
    whole = after.whole;
    after_is = one_list image rs _ (area, G.stands) after.stands;
  })),
)
image-told command records old new image area rs G alike (inr (inr (is, stands))) =
    (let same = one_list image rs (packed records) (area, G.stands) stands in (
      area,
      rs,
      G,
      inr (inr (record { of_command = is; after_is = same; alike = rw (← same) at (alike is) })),
    ))

-- the next command finds an image of the disk
pub next-image : (new next : Seen) → is_some new.disk ≡ true → Follows new next →
    (cells : Cells) × (next.disk ≡ Some cells) ×
    ((P : List ℕ → Type 0) → EachImage new.disk P → P (reads cells))
next-image new next tells N = elim N.disk [
  | inl same ↦ (let c = is_some-at new.disk tells in
      (c.0, same ∙ c.1, λ P h. (rw c.1 at h) (reads c.0) (IsImage-reads c.0)))
  | inr stopped ↦ stopped-at new.disk next.disk tells stopped
]
  where
    stopped-at : (a b : Option Cells) → is_some a ≡ true → Goes Stopped a b →
        (cells : Cells) × (b ≡ Some cells) × ((P : List ℕ → Type 0) → EachImage a P → P (reads cells))
    stopped-at None b tells g = absurd (false≢true tells)
    stopped-at (Some a) None tells g = absurd g
    stopped-at (Some a) (Some b) tells (image, of, is) =
        (firm image, ap Some is, λ P h. (rw (← (reads-firm image)) at (h image of)))

-- after any command the next one finds the store known, with some of the records of its job, or packed
pub known-always : (command : Command) (records : List Record) (old new next : Seen) (end : Ending) →
    Answers command old new end → opens_store command ≡ true → IsSure old records →
    Follows new next → (after : List Record) × IsKnown next after × IsThen command records old new after
known-always command records old new next end A opens S N =
    elim (command-comes command records old new end S.known A opens) [
      | inl sure ↦ (records, (sure-next records new next sure N).known, inl refl)
      | inr (inl E) ↦ by-early E
      | inr (inr good) ↦ elim (command-alike command records old new end S.known A) [
        | inl E ↦ by-early E
        | inr alike ↦ (let c = next-image new next (good.1 ∙ S.known.tells) N in
            let g = c.2 (MayBeGood (setup_in_effect records)) good.0.0 in
            let told = image-told command records old new (reads c.0) g.0 g.1 g.2 alike
            (c.2 _ (known-images command records old new end A opens S.known
            (each_image-mono old.disk _ _ (λ image s. (S.known.opened.area, s)) S.images))) in (
              told.1,
              known-good (setup_in_effect records) next c.0 told.0 told.1 c.1 told.2
                  (omega (arith, good.0.1, N.handed)),
              told.3,
            ))
      ]
    ]
  where
    by-early : IsEarly old new end →
        (after : List Record) × IsKnown next after × IsThen command records old new after
    by-early E = (
      records,
      (sure-next records new next (sure-refused E.status E.at records old new end E.refused S) N).known,
      inl refl,
    )
