-- How packs end, and what they have done where they are done.
use Rattle.command_laws.proofs.Words.{◌≡◌, ◌≢◌, ℕ, ◌⊎◌, ◌==◌, Bool, true, false, cond, List, Option, None, Some, refl, ap, sym, subst, ◌∙◌, inl, inr, false≢true, eq-eqb, Rose, Record, Area, other_area, text_length, version_of, setup_of, AreAccepted, AreAlike, packed, Answer, Refusal, PackJournal, Seen, Ending, IsRefused, provider_at, IsOpened, pack_refusal_over, status_of, packed_line, pack_text, EndsByAnswer, IsTold, PackLeaves, PackedAlone, AnswersPack, IsDone, IsKnown, GivesUnlessMemory, EndsInOrder, SameHolds, IsPacked, SameFetches, packed_are, same_value, is_some-at, version-either, second-set_up}
use Rattle.machine_defs.specs.Answers as answer
use Rattle.command_laws.proofs.Known.{unstarted-memory, EndStatus, status-ended, known-both, unstarted-known, none-written, written-well, own-status, told-refusal, ended-so, refusal_at}
use Rattle.command_laws.proofs.JobEnds.{memory-well, in-order, zero-or-memory, tells, done-tells}
use Rattle.command_laws.proofs.Early.{early-done, early-same, pack-cases}

-- ---- the packed records

first-off : (b : Bool) (x : Refusal) (rest : Option Refusal) → cond b (Some x) rest ≡ None → b ≡ false
first-off true x rest h = absurd (cc h)
first-off false x rest h = refl

-- a journal that may be packed has its second version
pub pack-second : (area : Area) (records : List Record) → pack_refusal_over area records ≡ None →
    version_of records ≡ 2
pack-second area records none = elim (version-either records) [
  | inl one ↦ absurd (false≢true (sym (first-off (version_of records == 1) _ _ none) ∙
      (eq-eqb (version_of records) 1 one)))
  | inr two ↦ two
]

-- so its packed records are accepted, and their table is alike
pub pack-alike : (area : Area) (records : List Record) → AreAccepted records →
    pack_refusal_over area records ≡ None → AreAccepted (packed records) × AreAlike (packed records) records
pack-alike area records accepted none = (let two = pack-second area records none in
    let up = is_some-at (setup_of records) (second-set_up records accepted two) in
    packed_are records accepted up.0 up.1 two)

-- ---- a pack that is done

module _ (records : List Record) (old new : Seen) (end : Ending) (opened : IsOpened old records)
    (none : pack_refusal_over opened.area records ≡ None) where
  packed-by : (how : Answer) → PackedAlone opened.area records how old new →
      PackLeaves opened.area records how old new →
      EndsByAnswer (pack_text how) how old new end → tells how ≡ true → IsPacked old new end
  packed-by (answer.Packed before after) P L by t = record {
    records = records;
    opened = opened;
    told = rw L.0 at (subst (λ n. IsTold (packed_line before n) old new end) L.1 by);
    disk = L.2;
    alike = (pack-alike opened.area records opened.read.accepted none).1;
    providers = P.providers;
  }
  packed-by how P L by t = absurd (first_of (assumption L, cc t))

-- a done pack put the packed records in the place of those before, in the other area
pub pack-done : (old new : Seen) (end : Ending) → AnswersPack old new end → IsDone end → IsPacked old new end
pack-done old new end A done = pack-cases (λ E. absurd (early-done E done))
    (λ records how opened none left by. packed-by records old new end opened none how left left.leaves by
    (done-tells _ old new end how by done)) A

-- ---- a pack that meets no fault

-- what a pack tells that is done
abbrev pub packed_text : Area → List Record → List ℕ
packed_text area records =
    packed_line (text_length area records) (text_length (other_area area) (packed records))

well-by : (area : Area) (records : List Record) (old new : Seen) (end : Ending) (how : Answer) →
    PackLeaves area records how old new → EndsByAnswer (pack_text how) how old new end →
    (Rose old.disk_faults new.disk_faults → ⊥) → (Rose old.sink_faults new.sink_faults → ⊥) →
    GivesUnlessMemory (packed_text area records) old new end
well-by area records old new end (answer.Packed before after) L by disk sink =
    (let told = rw L.0 at (subst (λ n. IsTold (packed_line before n) old new end) L.1 by) in
    written-well (packed_text area records) old new end told.written sink)
well-by area records old new end answer.DiskFault L by disk sink = absurd (disk L.0)
well-by area records old new end answer.Memory L by disk sink =
    inr (by.status_is, none-written (packed_text area records) old.sink new.sink by.sink)
well-by area records old new end how L by disk sink = absurd L

-- a pack that is not refused and meets no fault is done, or finds no memory
pub pack-well : (records : List Record) (old new : Seen) (end : Ending) → AnswersPack old new end →
    (K : IsKnown old records) → pack_refusal_over K.opened.area records ≡ None →
    (Rose old.disk_faults new.disk_faults → ⊥) → (Rose old.sink_faults new.sink_faults → ⊥) →
    GivesUnlessMemory (packed_text K.opened.area records) old new end
pack-well records old new end (AnswersPack.unstarted u) K begins disk sink =
    memory-well (packed_text K.opened.area records) old new end (unstarted-memory K disk u)
pack-well records old new end (AnswersPack.refused other why opened is synced r) K begins disk sink = absurd
    (cc (sym begins ∙ known-both old records other K opened (λ a rs. pack_refusal_over a rs ≡ Some why) is))
pack-well records old new end (AnswersPack.no_memory other opened synced r) K begins disk sink =
    memory-well (packed_text K.opened.area records) old new end r
pack-well records old new end (AnswersPack.ended other how opened none heard runs left by) K begins disk sink =
    well-by K.opened.area records old new end how
    (known-both old records other K opened (λ a rs. PackLeaves a rs how old new) left.leaves) by disk sink

-- a pack with no fault ends in order, over any disk
pub pack-order : (old new : Seen) (end : Ending) → AnswersPack old new end →
    (Rose old.disk_faults new.disk_faults → ⊥) → (Rose old.sink_faults new.sink_faults → ⊥) →
    EndsInOrder PackJournal old new end
pack-order old new end (AnswersPack.unstarted u) disk sink = EndsInOrder.unstarted u
pack-order old new end (AnswersPack.refused records why opened is synced r) disk sink =
    EndsInOrder.pack_refused records why opened refl is r
pack-order old new end (AnswersPack.no_memory records opened synced r) disk sink =
    EndsInOrder.no_memory r.status_is
pack-order old new end (AnswersPack.ended records how opened none heard runs left by) disk sink =
    in-order PackJournal old new end
    (zero-or-memory _ old new end (well-by opened.area records old new end how left.leaves by disk sink))

-- ---- a pack ends with the status of a refusal exactly where that one applies

-- no status of an end tells of a refusal
ended-not : (end : Ending) (why : Refusal) → EndStatus end.status → status_of why ≢ 70 →
    end.status ≡ status_of why → ⊥
ended-not end why e own is =
    own-status end why end.status (ended-so refusal_at refl refl refl refl refl refl e) refl own is

-- a pack ends with the status of a refusal only where that one is the first that applies
pub pack-only : (records : List Record) (old new : Seen) (end : Ending) (why : Refusal) →
    AnswersPack old new end → (K : IsKnown old records) → status_of why ≢ 70 →
    end.status ≡ status_of why → pack_refusal_over K.opened.area records ≡ Some why
pack-only records old new end why (AnswersPack.unstarted u) K own e =
    elim (unstarted-known old new end records K u) [
      | inl (rose, r) ↦ absurd (own-status end why 12 refl r.status_is own e)
      | inr r ↦ absurd (own-status end why 70 refl r.status_is own e)
    ]
pack-only records old new end why (AnswersPack.refused other cause opened is synced r) K own e =
    known-both old records other K opened (λ a rs. pack_refusal_over a rs ≡ Some why)
    (is ∙ told-refusal end cause why (λ f. own (sym e ∙ (r.status_is ∙ f))) r.status_is own e)
pack-only records old new end why (AnswersPack.no_memory other opened synced r) K own e =
    absurd (own-status end why 70 refl r.status_is own e)
pack-only records old new end why (AnswersPack.ended other how opened none heard runs left by) K own e =
    absurd (ended-not end why (status-ended _ how old new end by) own e)

-- a pack for which a refusal is the first that applies is refused so, or finds no memory
pub pack-always : (records : List Record) (old new : Seen) (end : Ending) (why : Refusal) →
    AnswersPack old new end → (K : IsKnown old records) →
    (Rose old.disk_faults new.disk_faults → ⊥) → pack_refusal_over K.opened.area records ≡ Some why →
    IsRefused (status_of why) 0 old new end ⊎ IsRefused 70 0 old new end
pack-always records old new end why (AnswersPack.unstarted u) K disk applies = inr (unstarted-memory K disk u)
pack-always records old new end why (AnswersPack.refused other cause opened is synced r) K disk applies =
    inl (rw (same_value (pack_refusal_over K.opened.area records) cause why
    (known-both old records other K opened (λ a rs. pack_refusal_over a rs ≡ Some cause) is) applies) at r)
pack-always records old new end why (AnswersPack.no_memory other opened synced r) K disk applies = inr r
pack-always records old new end why (AnswersPack.ended other how opened none heard runs left by) K disk applies =
    absurd (cc (sym (known-both old records other K opened
    (λ a rs. pack_refusal_over a rs ≡ None) none) ∙ applies))

-- ---- what stays as it was

-- a pack leaves what providers hold
pub pack-holds : (old new : Seen) (end : Ending) → AnswersPack old new end → SameHolds old new
pack-holds old new end = pack-cases (early-same (λ p. p.held))
    (λ records how opened none left by j. ap (λ ps. (provider_at ps j).held) left.providers)

-- a pack fetches nothing
pub pack-fetches : (old new : Seen) (end : Ending) → AnswersPack old new end → SameFetches old new
pack-fetches old new end = pack-cases (early-same (λ p. p.fetches))
    (λ records how opened none left by j. ap (λ ps. (provider_at ps j).fetches) left.providers)
