-- How a command ends over a disk that tells its records: before its begin, or by its job.
use Rattle.command_laws.proofs.Words.{◌≡◌, ◌≢◌, ℕ, ◌==◌, ◌⊎◌, Bool, true, false, List, [], ◌∷◌, length, take, Option, None, Some, refl, ap, sym, subst, ◌∙◌, inl, inr, arith, append-nil, Rose, told_then, TakesFront, Record, Area, Kind, Answer, Refusal, WritesLine, Seen, Ending, IsRefused, sinking, IsRead, IsOpened, Unstarted, refusal_over, status_of, AnswersJob, EndsByAnswer, AnswersAlone, IsKnown, GivesUnlessMemory, same_value, is_some-at, read-once, read-set_up, read-good}
use Rattle.std.specs.Prelude.{if◌then◌else◌}
use Rattle.machine_defs.specs.Answers as answer
use Rattle.machine_defs.specs.Refusals as refusal

-- ---- what was written

told-nothing : (o : Option (List ℕ)) → told_then o [] ≡ o
told-nothing None = refl
told-nothing (Some bytes) = ap Some (append-nil bytes)

-- a sink as before took a front of any text: nothing of it
pub none-written : (text : List ℕ) (old new : Option (List ℕ)) → new ≡ old → TakesFront old new text
none-written text old new same = (0, omega arith, same ∙ sym (told-nothing old))

-- a line with no fault of the sink is written, or no memory is found
pub written-well : (text : List ℕ) (old new : Seen) (end : Ending) →
    WritesLine text end.status (sinking old new) → (Rose old.sink_faults new.sink_faults → ⊥) →
    GivesUnlessMemory text old new end
written-well text old new end (inl done) calm = inl done
written-well text old new end (inr (inl cut)) calm = absurd (calm cut.2)
written-well text old new end (inr (inr cut)) calm = inr cut

-- at status 0 the line stands behind what the sink held
pub written-zero : (text : List ℕ) (old new : Seen) (end : Ending) →
    WritesLine text end.status (sinking old new) → end.status ≡ 0 → new.sink ≡ told_then old.sink text
written-zero text old new end (inl done) zero = done.1
written-zero text old new end (inr (inl cut)) zero = absurd (omega (arith, sym cut.1 ∙ zero))
written-zero text old new end (inr (inr cut)) zero = absurd (omega (arith, sym cut.0 ∙ zero))

-- at any status the sink took at most a front of the line
pub written-front : (text : List ℕ) (old new : Seen) (end : Ending) →
    WritesLine text end.status (sinking old new) → TakesFront old.sink new.sink text
written-front text old new end (inl done) =
    (length text, omega arith, done.1 ∙ ap (told_then old.sink) (sym (take-whole text)))
  where
    take-whole : (l : List ℕ) → take (length l) l ≡ l
    take-whole [] = refl
    take-whole (x ∷ l) = ap (λ k. x ∷ k) (take-whole l)
written-front text old new end (inr (inl cut)) = cut.3
written-front text old new end (inr (inr cut)) = cut.1

-- ---- before the begin

-- a known store has one list of records, in one area
known-so : (old : Seen) (records other : List Record) {area : Area} (K : IsKnown old records) →
    IsRead old.disk area other → (area ≡ K.opened.area) × (other ≡ records)
known-so old records other {area = area} K R = (let c = is_some-at old.disk K.tells in
    read-once c.0 area K.opened.area other records (rw c.1 at R)
    (rw c.1 at K.opened.read))

-- a known store has one list of records
pub known-once : (old : Seen) (records other : List Record) {area : Area} → IsKnown old records →
    IsRead old.disk area other → other ≡ records
known-once old records other K R = (known-so old records other K R).1

-- what is so of the records that were read, in their area, is so of those that are known
pub known-both : (old : Seen) (records other : List Record) (K : IsKnown old records) (O : IsOpened old other)
    (P : Area → List Record → Type 0) → P O.area other → P K.opened.area records
known-both old records other K O P p = (let so = known-so old records other K O.read in
    subst (λ a. P a records) so.0 (rw so.1 at p))

-- a start that reads these records ends before the begin in a fault of the disk alone, or for want of memory
pub unstarted-known : (old new : Seen) (end : Ending) (records : List Record) → IsKnown old records →
    Unstarted old new end →
    (Rose old.disk_faults new.disk_faults × IsRefused 12 0 old new end) ⊎ IsRefused 70 0 old new end
unstarted-known old new end records K (Unstarted.disk_fault rose r) = inl (rose, r)
unstarted-known old new end records K (Unstarted.not_set_up is sync r) =
    absurd (let c = is_some-at old.disk K.tells in
    read-set_up c.0 K.opened.area records (rw c.1 at K.opened.read)
    (rw c.1 at is))
unstarted-known old new end records K (Unstarted.bad_journal at is r) =
    absurd (let c = is_some-at old.disk K.tells in
    let bad =
    rw c.1 at is in
    read-good c.0 at K.opened.area records (rw c.1 at K.opened.read)
    bad.1)
unstarted-known old new end records K (Unstarted.too_few_providers area other read few synced r) =
    absurd (let e = known-once old records other K read in
    let enough = rw (← e) at K.opened.enough in
    omega (arith, few, enough))
unstarted-known old new end records K (Unstarted.no_memory r) = inr r

-- with no fault of the disk it ends so for want of memory
pub unstarted-memory : {old new : Seen} {end : Ending} {records : List Record} → IsKnown old records →
    (Rose old.disk_faults new.disk_faults → ⊥) → Unstarted old new end → IsRefused 70 0 old new end
unstarted-memory K disk u =
    elim (unstarted-known _ _ _ _ K u) [ inl (rose, r) ↦ absurd (disk rose) | inr r ↦ r ]

-- so a command that runs a job runs it over these records, or ended before
pub alone-known : (kind : Kind) (old new : Seen) (end : Ending) (records : List Record)
    (K : IsKnown old records) → AnswersAlone kind old new end →
    ((Rose old.disk_faults new.disk_faults × IsRefused 12 0 old new end) ⊎ IsRefused 70 0 old new end) ⊎
    AnswersJob kind None K.opened.area records old new end
alone-known kind old new end records K (AnswersAlone.unstarted u) =
    inl (unstarted-known old new end records K u)
alone-known kind old new end records K (AnswersAlone.begun other opened A) =
    inr (known-both old records other K opened (λ a rs. AnswersJob kind None a rs old new end) A)

-- ---- statuses of refusals

-- which refusal a status tells of
abbrev pub refusal_at : ℕ → Option Refusal
refusal_at n = if n == 3 then Some refusal.NoSuchName else if n == 6 then Some refusal.RepairDue else if n
    == 7 then Some refusal.NothingDue else if n == 11 then Some refusal.JournalFull else if n == 16 then Some
    refusal.TooLong else if n == 17 then Some refusal.BadName else if n == 20 then Some refusal.BadProfile
    else if n == 23 then Some refusal.OldVersion else if n == 24 then Some refusal.NewVersion else if n == 21
    then Some refusal.TooManyFiles else if n == 26 then Some refusal.PackTooLong else None

-- any refusal but of those has the status of no memory, which is no refusal's
refused-at : (why : Refusal) → (status_of why ≡ 70) ⊎ (refusal_at (status_of why) ≡ Some why)
refused-at refusal.MustReopen = inl refl
refused-at why = search (inl, inr)

status-back : (why : Refusal) → status_of why ≢ 70 → refusal_at (status_of why) ≡ Some why
status-back why own = elim (refused-at why) [ inl lost ↦ absurd (own lost) | inr is ↦ is ]

-- no refusal ends a command at a status that tells of none
pub refused-not : (why : Refusal) (n : ℕ) → refusal_at n ≡ None → n ≢ 70 → status_of why ≡ n → ⊥
refused-not why n none other e = elim (refused-at why) [
  | inl lost ↦ other (sym e ∙ lost)
  | inr is ↦ (cc (sym none ∙ (ap refusal_at (sym e) ∙ is)))
]

-- ---- a job that began

-- the statuses with which a job ends that began
pub data EndStatus (n : ℕ) : Type 0 where
  by_done : n ≡ 0 → EndStatus n
  by_lost : n ≡ 4 → EndStatus n
  by_disk : n ≡ 12 → EndStatus n
  by_provider : n ≡ 13 → EndStatus n
  by_sink : n ≡ 15 → EndStatus n
  by_memory : n ≡ 70 → EndStatus n

-- what a line is told with
pub status-written : (text : List ℕ) (old new : Seen) (end : Ending) →
    WritesLine text end.status (sinking old new) → EndStatus end.status
status-written text old new end (inl w) = EndStatus.by_done w.0
status-written text old new end (inr (inl w)) = EndStatus.by_sink w.1
status-written text old new end (inr (inr w)) = EndStatus.by_memory w.0

-- a job that began ends with one of its own statuses
pub status-ended : (text : List ℕ) (how : Answer) (old new : Seen) (end : Ending) →
    EndsByAnswer text how old new end → EndStatus end.status
status-ended text (answer.Lost stripe row) old new end e = EndStatus.by_lost e.status_is
status-ended text (answer.ProviderFault j) old new end e = EndStatus.by_provider e.status_is
status-ended text answer.DiskFault old new end e = EndStatus.by_disk e.status_is
status-ended text answer.Memory old new end e = EndStatus.by_memory e.status_is
status-ended text how old new end e = status-written text old new end e.written

-- what is so of each of these is so of the status of a job that ended
pub ended-so : {A : Type 0} (f : ℕ → A) {v : A} {n : ℕ} → f 0 ≡ v → f 4 ≡ v → f 12 ≡ v → f 13 ≡ v → f 15 ≡ v →
    f 70 ≡ v → EndStatus n → f n ≡ v
ended-so f done lost disk provider sink memory (EndStatus.by_done e) = ap f e ∙ done
ended-so f done lost disk provider sink memory (EndStatus.by_lost e) = ap f e ∙ lost
ended-so f done lost disk provider sink memory (EndStatus.by_disk e) = ap f e ∙ disk
ended-so f done lost disk provider sink memory (EndStatus.by_provider e) = ap f e ∙ provider
ended-so f done lost disk provider sink memory (EndStatus.by_sink e) = ap f e ∙ sink
ended-so f done lost disk provider sink memory (EndStatus.by_memory e) = ap f e ∙ memory

-- so is it of one that told a text, of the statuses of a text
pub written-so : {A : Type 0} (f : ℕ → A) {v : A} (text : List ℕ) (old new : Seen) (end : Ending) →
    f 0 ≡ v → f 15 ≡ v → f 70 ≡ v → WritesLine text end.status (sinking old new) → f end.status ≡ v
written-so f text old new end done sink memory (inl w) = ap f w.0 ∙ done
written-so f text old new end done sink memory (inr (inl w)) = ap f w.1 ∙ sink
written-so f text old new end done sink memory (inr (inr w)) = ap f w.0 ∙ memory

-- ---- the refusals are exact

at-some : (why : Refusal) (end : Ending) → status_of why ≢ 70 → end.status ≡ status_of why →
    refusal_at end.status ≡ Some why
at-some why end own e = ap refusal_at e ∙ status-back why own

none-some : (n : ℕ) (why : Refusal) → refusal_at n ≡ None → refusal_at n ≡ Some why → ⊥
none-some n why none some = cc (sym none ∙ some)

-- a job ends with the status of a refusal only where that one is the first that applies
pub refused-only : (kind : Kind) (own : Option ℕ) {area : Area} (records : List Record) (old new : Seen)
    (end : Ending) (why : Refusal) → AnswersJob kind own area records old new end →
    status_of why ≢ 70 → end.status ≡ status_of why → refusal_over area records kind own ≡ Some why
refused-only kind own records old new end why (AnswersJob.refused other is synced r) tells e =
    elim (refused-at other) [
      | inl lost ↦ absurd (none-some end.status why (ap refusal_at (r.status_is ∙ lost))
          (at-some why end tells e))
      | inr at ↦ (is ∙ (sym (ap refusal_at r.status_is ∙ at)
          ∙ at-some why end tells e))
    ]
refused-only kind own records old new end why (AnswersJob.no_memory synced r) tells e =
    absurd (none-some end.status why (ap refusal_at r.status_is) (at-some why end tells e))
refused-only kind own records old new end why (AnswersJob.ended how none runs left by) tells e =
    absurd (none-some end.status why (ended-so refusal_at refl refl refl refl refl refl (status-ended _ how old new end by))
    (at-some why end tells e))

-- a job for which a refusal is the first that applies is refused so, or finds no memory
pub refused-always : (kind : Kind) (own : Option ℕ) {area : Area} (records : List Record) (old new : Seen)
    (end : Ending) (why : Refusal) → AnswersJob kind own area records old new end →
    refusal_over area records kind own ≡ Some why → IsRefused (status_of why) 0 old new end ⊎
    IsRefused 70 0 old new end
refused-always kind own records old new end why (AnswersJob.refused other is synced r) applies =
    inl (rw (same_value (refusal_over _ records kind own) other why is applies) at r)
refused-always kind own records old new end why (AnswersJob.no_memory synced r) applies = inr r
refused-always kind own records old new end why (AnswersJob.ended how none runs left by) applies =
    absurd (cc (sym none ∙ applies))

-- ---- and so are the statuses before the begin

-- a status that tells of a store that is not opened
abbrev pub is_unopened : ℕ → Bool
is_unopened n = if n == 8 then true else if n == 9 then true else n == 22

pub refused-opened : (why : Refusal) → is_unopened (status_of why) ≡ false
refused-opened refusal.NoSuchName = refl
refused-opened why = refl

-- a job over records that were read does not end as a store that is not opened
pub job-opened : {area : Area} (kind : Kind) (own : Option ℕ) (records : List Record) (old new : Seen)
    (end : Ending) → AnswersJob kind own area records old new end → is_unopened end.status ≡ false
job-opened kind own records old new end (AnswersJob.refused why is synced r) =
    ap is_unopened r.status_is ∙ refused-opened why
job-opened kind own records old new end (AnswersJob.no_memory synced r) = ap is_unopened r.status_is
job-opened kind own records old new end (AnswersJob.ended how none runs left by) =
    ended-so is_unopened refl refl refl refl refl refl (status-ended _ how old new end by)

-- ---- and they are exact of a command over a disk that tells

-- over a known store a command is refused only for the first cause that applies
pub known-only : (kind : Kind) (records : List Record) (old new : Seen) (end : Ending) (why : Refusal) →
    AnswersAlone kind old new end → (K : IsKnown old records) → status_of why ≢ 70 →
    end.status ≡ status_of why → refusal_over K.opened.area records kind None ≡ Some why
known-only kind records old new end why A K own e = elim (alone-known kind old new end records K A) [
  | inl (inl (rose, r)) ↦
      absurd (none-some end.status why (ap refusal_at r.status_is) (at-some why end own e))
  | inl (inr r) ↦ absurd (none-some end.status why (ap refusal_at r.status_is) (at-some why end own e))
  | inr job ↦ refused-only kind None records old new end why job own e
]

-- over a known store a command for which a cause applies is refused for it, or finds no memory
pub known-always : (kind : Kind) (records : List Record) (old new : Seen) (end : Ending) (why : Refusal) →
    AnswersAlone kind old new end → (K : IsKnown old records) →
    (Rose old.disk_faults new.disk_faults → ⊥) → refusal_over K.opened.area records kind None ≡ Some why →
    IsRefused (status_of why) 0 old new end ⊎ IsRefused 70 0 old new end
known-always kind records old new end why A K disk applies = elim (alone-known kind old new end records K A) [
  | inl (inl (rose, r)) ↦ absurd (disk rose)
  | inl (inr r) ↦ inr r
  | inr job ↦ refused-always kind None records old new end why job applies
]

-- a status of no refusal is none of these
pub own-status : (end : Ending) (why : Refusal) (n : ℕ) → refusal_at n ≡ None → end.status ≡ n →
    status_of why ≢ 70 → end.status ≡ status_of why → ⊥
own-status end why n none is own e =
    none-some end.status why (ap refusal_at is ∙ none) (at-some why end own e)

-- a status that tells of a refusal tells of no other
pub told-refusal : (end : Ending) (one why : Refusal) → status_of one ≢ 70 → end.status ≡ status_of one →
    status_of why ≢ 70 → end.status ≡ status_of why → Some one ≡ Some why
told-refusal end one why first is own e = sym (at-some one end first is) ∙ at-some why end own e
