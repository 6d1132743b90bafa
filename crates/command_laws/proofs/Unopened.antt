-- The statuses that tell of a store that is not opened come exactly where their causes apply.
use Rattle.command_laws.proofs.Words.{◌≡◌, ℕ, ◌<◌, ◌⊎◌, true, false, List, length, Option, Some, ap, sym, subst, ◌∙◌, inl, inr, arith, None, IfSome, false≢true, Cells, Rose, Record, Area, HasNoSetup, Kind, Command, PutUnder, Seen, Ending, journal_read, IsRead, IsBadStart, IsOpened, Unstarted, setup_in_effect, AnswersScrub, AnswersPack, AnswersPut, AnswersAlone, AnswersList, Answers, opens_store, read-once, read-set_up, read-good, fresh-good, bad-once, refl}
use Rattle.command_laws.proofs.Known.{is_unopened, refused-opened, status-ended, job-opened, ended-so, written-so}
use Rattle.command_laws.proofs.JobEnds.{given-status}

-- how a command goes that looks at a store: it is not started, or it has a status of its own, over records
-- that were read or none
pub data Opening (old new : Seen) (end : Ending) : Type 0 where
  before : Unstarted old new end → Opening old new end
  no_room : end.status ≡ 70 → Opening old new end
  over : (records : List Record) → IsOpened old records → is_unopened end.status ≡ false → Opening old new end

put-opening : (name : List ℕ) (old new : Seen) (end : Ending) {own : Option ℕ} →
    AnswersPut name own old new end → Opening old new end
put-opening name old new end (AnswersPut.unstarted u same) = Opening.before u
put-opening name old new end (AnswersPut.source_fault records opened known rose synced taken r) =
    Opening.over records opened (ap is_unopened r.status_is)
put-opening name old new end (AnswersPut.bad_profile records opened unknown synced same r) =
    Opening.over records opened (ap is_unopened r.status_is)
put-opening name old new end (AnswersPut.no_memory taken r) = Opening.no_room r.status_is
put-opening name old new end (AnswersPut.given_up records bytes opened known none stops runs left) =
    Opening.over records opened (elim (given-status _ bytes old new end stops) [
      | inl e ↦ ap is_unopened e
      | inr e ↦ ap is_unopened e
    ])
put-opening name old new end (AnswersPut.begun records bytes opened known read few A whole one) =
    Opening.over records opened (job-opened _ _ records old new end A)

alone-opening : (kind : Kind) (old new : Seen) (end : Ending) → AnswersAlone kind old new end →
    Opening old new end
alone-opening kind old new end (AnswersAlone.unstarted u) = Opening.before u
alone-opening kind old new end (AnswersAlone.begun records opened A) =
    Opening.over records opened (job-opened kind None records old new end A)

list-opening : (old new : Seen) (end : Ending) → AnswersList old new end → Opening old new end
list-opening old new end (AnswersList.unstarted u) = Opening.before u
list-opening old new end (AnswersList.no_memory r) = Opening.no_room r.status_is
list-opening old new end (AnswersList.listed records opened L) =
    Opening.over records opened (written-so is_unopened _ old new end refl refl refl L.written)

scrub-opening : (old new : Seen) (end : Ending) → AnswersScrub old new end → Opening old new end
scrub-opening old new end (AnswersScrub.unstarted u) = Opening.before u
scrub-opening old new end (AnswersScrub.no_memory records opened synced r) = Opening.no_room r.status_is
scrub-opening old new end (AnswersScrub.ended records how opened synced heard runs left by) =
    Opening.over records opened (ended-so is_unopened {v = false} refl refl refl refl refl refl (status-ended _ how old new end by))

pack-opening : (old new : Seen) (end : Ending) → AnswersPack old new end → Opening old new end
pack-opening old new end (AnswersPack.unstarted u) = Opening.before u
pack-opening old new end (AnswersPack.refused records why opened is synced r) =
    Opening.over records opened (ap is_unopened r.status_is ∙ refused-opened why)
pack-opening old new end (AnswersPack.no_memory records opened synced r) = Opening.no_room r.status_is
pack-opening old new end (AnswersPack.ended records how opened none heard runs left by) =
    Opening.over records opened (ended-so is_unopened {v = false} refl refl refl refl refl refl (status-ended _ how old new end by))

pub opening-of : (command : Command) (old new : Seen) (end : Ending) → Answers command old new end →
    opens_store command ≡ true → Opening old new end
opening-of (PutUnder name) old new end A opens = put-opening name old new end A
opening-of command old new end A opens =
    first_of (cc, search (put-opening, alone-opening, list-opening, scrub-opening, pack-opening))

-- ---- only with the cause

module _ {old new : Seen} {end : Ending} where
  -- a command ends with 9 only where the disk holds no setup
  pub unset-only : (cells : Cells) → old.disk ≡ Some cells → Opening old new end →
      end.status ≡ 9 → HasNoSetup (journal_read cells)
  unset-only cells tells (Opening.before (Unstarted.not_set_up is sync r)) nine = (rw tells at is)
  unset-only cells tells (Opening.before (Unstarted.disk_fault rose r)) nine = absurd (omega arith)
  unset-only cells tells (Opening.before (Unstarted.bad_journal at is r)) nine = absurd (omega arith)
  unset-only cells tells (Opening.before (Unstarted.too_few_providers area records read few synced r)) nine =
      absurd (omega arith)
  unset-only cells tells (Opening.before (Unstarted.no_memory r)) nine = absurd (omega arith)
  unset-only cells tells (Opening.no_room is) nine = absurd (omega arith)
  unset-only cells tells (Opening.over records opened other) nine =
      absurd (false≢true (sym other ∙ ap is_unopened nine))

  -- a command ends with 8 only where the disk holds a journal that is bad at this place
  pub bad-only : (cells : Cells) → old.disk ≡ Some cells → Opening old new end →
      end.status ≡ 8 → (9 < length (journal_read cells)) × IsBadStart (journal_read cells) end.at
  bad-only cells tells (Opening.before (Unstarted.bad_journal at is r)) eight =
      subst (λ k. (9 < length (journal_read cells)) × IsBadStart (journal_read cells) k) (sym r.place)
      (rw tells at is)
  bad-only cells tells (Opening.before (Unstarted.disk_fault rose r)) eight = absurd (omega arith)
  bad-only cells tells (Opening.before (Unstarted.not_set_up is sync r)) eight = absurd (omega arith)
  bad-only cells tells (Opening.before (Unstarted.too_few_providers area records read few synced r)) eight =
      absurd (omega arith)
  bad-only cells tells (Opening.before (Unstarted.no_memory r)) eight = absurd (omega arith)
  bad-only cells tells (Opening.no_room is) eight = absurd (omega arith)
  bad-only cells tells (Opening.over records opened other) eight =
      absurd (false≢true (sym other ∙ ap is_unopened eight))

  -- a command ends with 22 only where too few providers are handed in
  pub few-only : Opening old new end → end.status ≡ 22 →
      (area : Area) × (records : List Record) × IsRead old.disk area records
      × (length old.providers < (setup_in_effect records).n)
  few-only (Opening.before (Unstarted.too_few_providers area records read few synced r)) is =
      (area, records, read, few)
  few-only (Opening.before (Unstarted.disk_fault rose r)) is = absurd (omega arith)
  few-only (Opening.before (Unstarted.not_set_up fresh sync r)) is = absurd (omega arith)
  few-only (Opening.before (Unstarted.bad_journal at bad r)) is = absurd (omega arith)
  few-only (Opening.before (Unstarted.no_memory r)) is = absurd (omega arith)
  few-only (Opening.no_room m) is = absurd (omega arith)
  few-only (Opening.over records opened other) is = absurd (false≢true (sym other ∙ ap is_unopened is))

-- ---- and always with it

module _ (cells : Cells) (old new : Seen) (end : Ending) (tells : old.disk ≡ Some cells)
    (calm : Rose old.disk_faults new.disk_faults → ⊥) where
  unset-always : HasNoSetup (journal_read cells) → Opening old new end → (end.status ≡ 9) ⊎ (end.status ≡ 70)
  unset-always fresh (Opening.before (Unstarted.disk_fault rose r)) = absurd (calm rose)
  unset-always fresh (Opening.before (Unstarted.not_set_up is sync r)) = inl r.status_is
  unset-always fresh (Opening.before (Unstarted.bad_journal at is r)) = absurd (let bad = rw tells at is in
      fresh-good (journal_read cells) at bad.0 fresh bad.1)
  unset-always fresh (Opening.before (Unstarted.too_few_providers area records read few synced r)) =
      absurd (read-set_up cells area records (rw tells at read) fresh)
  unset-always fresh (Opening.before (Unstarted.no_memory r)) = inr r.status_is
  unset-always fresh (Opening.no_room is) = inr is
  unset-always fresh (Opening.over records opened other) =
      absurd (read-set_up cells opened.area records (rw tells at opened.read) fresh)

  bad-always : (at : ℕ) → 9 < length (journal_read cells) → IsBadStart (journal_read cells) at →
      Opening old new end → ((end.status ≡ 8) × (end.at ≡ at)) ⊎ (end.status ≡ 70)
  bad-always at long bad (Opening.before (Unstarted.disk_fault rose r)) = absurd (calm rose)
  bad-always at long bad (Opening.before (Unstarted.not_set_up is sync r)) =
      absurd (fresh-good (journal_read cells) at long (rw tells at is) bad)
  bad-always at long bad (Opening.before (Unstarted.bad_journal other is r)) = (inl (
    r.status_is,
    r.place ∙ bad-once (journal_read cells) other at (subst (λ d. IfSome d
        (λ c. (9 < length (journal_read c)) × IsBadStart (journal_read c) other)) tells
        is).1 bad,
  ))
  bad-always at long bad (Opening.before (Unstarted.too_few_providers area records read few synced r)) =
      absurd (read-good cells at area records (rw tells at read) bad)
  bad-always at long bad (Opening.before (Unstarted.no_memory r)) = inr r.status_is
  bad-always at long bad (Opening.no_room is) = inr is
  bad-always at long bad (Opening.over records opened other) =
      absurd (read-good cells at opened.area records (rw tells at opened.read) bad)

  few-always : (here : Area) (records : List Record) → IsRead old.disk here records →
      length old.providers < (setup_in_effect records).n → Opening old new end →
      (end.status ≡ 22) ⊎ (end.status ≡ 70)
  few-always here records read few (Opening.before (Unstarted.disk_fault rose r)) = absurd (calm rose)
  few-always here records read few (Opening.before (Unstarted.not_set_up is sync r)) =
      absurd (read-set_up cells here records (rw tells at read) (rw tells at is))
  few-always here records read few (Opening.before (Unstarted.bad_journal at is r)) =
      absurd (read-good cells at here records (rw tells at read)
      (subst (λ d. IfSome d (λ c. (9 < length (journal_read c)) × IsBadStart (journal_read c) at)) tells
      is).1)
  few-always here records read few (Opening.before (Unstarted.too_few_providers area other also less synced r)) =
      inl r.status_is
  few-always here records read few (Opening.before (Unstarted.no_memory r)) = inr r.status_is
  few-always here records read few (Opening.no_room is) = inr is
  few-always here records read few (Opening.over other opened own) =
      absurd (let same = (read-once cells opened.area here other records
      (rw tells at opened.read) (rw tells at read)).1 in
      let enough = rw same at opened.enough in
      omega (arith, few, enough))

-- a command over a disk with no setup ends with 9, or finds no memory
pub fresh-always : (command : Command) (cells : Cells) (old new : Seen) (end : Ending) →
    Answers command old new end → opens_store command ≡ true → old.disk ≡ Some cells →
    HasNoSetup (journal_read cells) →
    (Rose old.disk_faults new.disk_faults → ⊥) → (end.status ≡ 9) ⊎ (end.status ≡ 70)
fresh-always command cells old new end A opens tells fresh calm =
    unset-always cells old new end tells calm fresh (opening-of command old new end A opens)

-- a command over a bad journal ends with 8 and the bad place, or finds no memory
pub broken-always : (command : Command) (cells : Cells) (old new : Seen) (end : Ending) (at : ℕ) →
    Answers command old new end → opens_store command ≡ true → old.disk ≡ Some cells →
    9 < length (journal_read cells) → IsBadStart (journal_read cells) at →
    (Rose old.disk_faults new.disk_faults → ⊥) → ((end.status ≡ 8) × (end.at ≡ at)) ⊎ (end.status ≡ 70)
broken-always command cells old new end at A opens tells long bad calm =
    bad-always cells old new end tells calm at long bad (opening-of command old new end A opens)

-- a command with too few providers ends with 22, or finds no memory
pub lacking-always : (command : Command) (cells : Cells) (old new : Seen) (end : Ending)
    (area : Area) (records : List Record) → Answers command old new end → opens_store command ≡ true →
    old.disk ≡ Some cells → IsRead old.disk area records →
    length old.providers < (setup_in_effect records).n → (Rose old.disk_faults new.disk_faults → ⊥) →
    (end.status ≡ 22) ⊎ (end.status ≡ 70)
lacking-always command cells old new end area records A opens tells read few calm =
    few-always cells old new end tells calm area records read few (opening-of command old new end A opens)
