-- How puts, drops, audits and repairs end, and what they have done where they are done.
use Rattle.command_laws.proofs.Words.{◌≡◌, ◌≢◌, ℕ, ◌+◌, ◌*◌, ◌<◌, ◌≤◌, ◌==◌, ◌⊎◌, Bool, true, false, cond, List, [], ◌∷◌, ◌++◌, length, drop, Option, None, Some, refl, ap, sym, subst, ◌∙◌, inl, inr, arith, length-append, IsSomeAnd, IfSome, nat_lt, cases_Bool, cases_lt, eq-eqb, false≢true, append-nil, take-append-drop, Cells, Rose, EachImage, then_told, Held, Provider, Setup, Record, PutStart, PutDone, PutDoneIn, is_byte, largest_file, Area, StandsActive, File, Due, version_of, next_id, next_audit, file_of, due_of, started_as, is_start_of, file_as, profile_in, setup_of, Kind, PutJob, GetJob, DropJob, AuditJob, RepairJob, UpgradeJob, ToPut, ToUpgrade, Answer, AreBytes, Entry, setup_or_none, chosen, Refusal, causes, Command, DropOf, AuditAll, UpgradeJournal, Seen, Ending, IsRefused, ReadsUpTo, ReadsFront, provider_at, IsOpened, Unstarted, setup_in_effect, sight_over, is_unknown, refusal_over, status_of, text_of, stored_line, dropped_line, upgraded_line, Ran, SameHeld, put_done, MayHaveEnd, PutLeaves, put_stripe, StopsReading, PartLeft, DropLeaves, AuditGives, RepairGives, AnswersJob, EndsByAnswer, LeftAlone, IsTold, MayBeWhole, AnswersPut, AnswersAlone, AnswersList, Answers, bad_seen, IsDone, IsKnown, GivesUnlessMemory, EndsInOrder, GivesUpPut, RunsKind, SameHolds, put_of, profile_named, put_refusal, after_put, IsWholePut, IsDropped, IsAudited, IsRepaired, IsUpgraded, rose-before, same-refl, cond_true, cond_false, same_value, version-either, put-end, drop-end, audit-end, upgrade-end, repair-end, each_image-mono}
use Rattle.std.specs.Prelude.{IsTrue}
use Rattle.machine_defs.specs.Appends.{done_record}
use Rattle.command_defs.specs.Upgrades.{UpgradeLeaves}
use Rattle.machine_defs.specs.Answers as answer
use Rattle.machine_defs.specs.Refusals as refusal
use Rattle.state_laws.proofs.Begun.{none-applies}
use Rattle.command_laws.proofs.Known.{unstarted-memory, EndStatus, status-ended, none-written, told-refusal, written-well, known-once, unstarted-known, refused-not, refused-only, refused-always, own-status, known-both, ended-so, written-so}
use Rattle.command_laws.proofs.GetEnds.{shape-at, ran_left}
use Rattle.command_laws.proofs.Early.{early-done, early-same, alone-cases, put-cases, list-cases, alone-order, alone-well}
use Rattle.std.proofs.Common.{◌||◌}

-- ---- what is common

-- images of a disk with nothing in doubt stand for the records
pub image-has : (area : Area) (image : List ℕ) (after : List Record) (doubt : Option Record)
    (records : List Record) → after ≡ records → doubt ≡ None →
    StandsActive image area after ⊎ IsSomeAnd doubt (λ entry. StandsActive image area (entry ∷ after)) →
    StandsActive image area records
image-has area image after doubt records is sure (inl stands) = rw is at stands
image-has area image after doubt records is sure (inr entry) = absurd (rw sure at entry)

-- where nothing is in doubt each image of the disk stands for the records after the job
pub images-have : (area : Area) (told : Option Cells) (after : List Record) (doubt : Option Record)
    (records : List Record) → after ≡ records → doubt ≡ None →
    EachImage told (λ image. StandsActive image area after ⊎
    IsSomeAnd doubt (λ entry. StandsActive image area (entry ∷ after))) →
    EachImage told (λ image. StandsActive image area records)
images-have area told after doubt records is sure =
    each_image-mono told _ _ (λ image. image-has area image after doubt records is sure)

-- what a command ends with, by the answer of its job
abbrev EndsWith : List Record → Kind → Answer → Seen → Seen → Ending → Type 0
EndsWith records kind how old new end =
    EndsByAnswer (text_of (setup_in_effect records).tolerance kind how) how old new end

-- a job that found no memory, or wrote its text
pub memory-well : (text : List ℕ) (old new : Seen) (end : Ending) → IsRefused 70 0 old new end →
    GivesUnlessMemory text old new end
memory-well text old new end r = inr (r.status_is, none-written text old.sink new.sink r.sink)

-- which answers of a job end a command at this status
abbrev pub fits : ℕ → Answer → Bool
fits n (answer.Lost stripe row) = n == 4
fits n (answer.ProviderFault j) = n == 13
fits n answer.DiskFault = n == 12
fits n answer.Memory = n == 70
fits n how = (n == 0) || (n == 15) || (n == 70)

-- the answer of a command's job is one that ends a command so
pub ends-at : (text : List ℕ) (old new : Seen) (end : Ending) (n : ℕ) (how : Answer) →
    EndsByAnswer text how old new end → end.status ≡ n → fits n how ≡ true
ends-at text old new end n (answer.Lost stripe row) by is = ap (λ k. k == 4) (sym is ∙ by.status_is)
ends-at text old new end n (answer.ProviderFault j) by is = ap (λ k. k == 13) (sym is ∙ by.status_is)
ends-at text old new end n answer.DiskFault by is = ap (λ k. k == 12) (sym is ∙ by.status_is)
ends-at text old new end n answer.Memory by is = ap (λ k. k == 70) (sym is ∙ by.status_is)
ends-at text old new end n how by is = ap (λ k. (k == 0) || (k == 15) || (k == 70)) (sym is)
    ∙ written-so (λ k. (k == 0) || (k == 15) || (k == 70)) text old new end refl refl refl by.written

-- which answers tell a text
abbrev pub tells : Answer → Bool
tells (answer.Lost stripe row) = false
tells (answer.ProviderFault j) = false
tells answer.DiskFault = false
tells answer.Memory = false
tells how = true

-- so does the answer of a job that is done
pub done-tells : (text : List ℕ) (old new : Seen) (end : Ending) (how : Answer) →
    EndsByAnswer text how old new end → IsDone end → tells how ≡ true
done-tells text old new end (answer.Lost stripe row) by (inl e) = absurd (omega arith)
done-tells text old new end (answer.Lost stripe row) by (inr e) = absurd (omega arith)
done-tells text old new end how by done = first_of (cc, grind arith)

-- a job that is done, or found no memory, gives its text unless there was no memory
well-ended : (text : Answer → List ℕ) (told how : Answer) (old new : Seen) (end : Ending) →
    (EndsByAnswer (text told) told old new end → IsTold (text told) old new end) →
    EndsByAnswer (text how) how old new end → (Rose old.sink_faults new.sink_faults → ⊥) →
    (how ≡ told) ⊎ (how ≡ answer.Memory) → GivesUnlessMemory (text told) old new end
well-ended text told how old new end is_told by sink (inl same) = (let w = is_told (rw same at by) in
    written-well (text told) old new end w.written sink)
well-ended text told how old new end is_told by sink (inr same) = (let w = rw same at by in
    inr (w.status_is, none-written (text told) old.sink new.sink w.sink))

-- a calm disk was calm once it was opened
pub calm-disk : {area : Area} (records : List Record) (kind : Kind) {own : Option ℕ} (how : Answer)
    (old new : Seen) (heard : List Entry) (left : LeftAlone area records kind own how old new heard) →
    (Rose old.disk_faults new.disk_faults → ⊥) → Rose left.faults new.disk_faults → ⊥
calm-disk records kind how old new heard left calm rose =
    calm (rose-before old.disk_faults left.faults new.disk_faults left.before left.leaves.counts.disk rose)

-- ---- puts

-- a put that is not refused has a file that is not too long, and names no profile that there is none of
pub put-begins : (area : Area) (records : List Record) (name bytes : List ℕ) (own : Option ℕ) →
    refusal_over area records (PutJob name bytes) own ≡ None →
    (is_unknown own ≡ false) × (length bytes ≤ largest_file)
put-begins area records name bytes own none = by-profile own none
  where
    at-most : (a b : ℕ) → nat_lt a b ≡ false → b ≤ a
    at-most a b e = grind (arith, e)

    by-profile : (own : Option ℕ) → refusal_over area records (PutJob name bytes) own ≡ None →
        (is_unknown own ≡ false) × (length bytes ≤ largest_file)
    by-profile None h = ((
      refl,
      at-most largest_file (length bytes) (none-applies (causes 1 (sight_over area records)
          (ToPut name (length bytes)) None) h).1.1.1.0,
    ))
    by-profile (Some p) h =
        (let off = none-applies (causes 1 (sight_over area records) (ToPut name (length bytes)) (Some p)) h in
        (off.1.1.1.0, at-most largest_file (length bytes) off.1.1.1.1.0))

-- the last record of a put is that of one version or the other
pub done-case : (P : Record → Type 0) (records : List Record) (size : ℕ) (own : Option ℕ) →
    P (PutDone (next_id records) size) →
    P (PutDoneIn (next_id records) size (chosen (setup_in_effect records) own)) →
    P (put_done records size own)
done-case P records size own first second = elim (cases_Bool (version_of records == 2)) [
  | inl t ↦ (rw (← (cond_true (version_of records == 2)
      (PutDoneIn (next_id records) size (chosen (setup_in_effect records) own))
      (PutDone (next_id records) size) t)) at second)
  | inr f ↦ (rw (← (cond_false (version_of records == 2)
      (PutDoneIn (next_id records) size (chosen (setup_in_effect records) own))
      (PutDone (next_id records) size) f)) at first)
]

-- a put leaves the setup in effect
pub put-setup : (records : List Record) (name : List ℕ) (size : ℕ) (own : Option ℕ) →
    setup_in_effect (after_put records name size own) ≡ setup_in_effect records
put-setup records name size own = done-case
    (λ r. setup_in_effect (r ∷ PutStart (next_id records) name ∷ records) ≡ setup_in_effect records)
    records size own refl refl

-- a put draws no number of an audit
pub put-audits : (records : List Record) (name : List ℕ) (size : ℕ) (own : Option ℕ) →
    next_audit (after_put records name size own) ≡ next_audit records
put-audits records name size own = done-case
    (λ r. next_audit (r ∷ PutStart (next_id records) name ∷ records) ≡ next_audit records)
    records size own refl refl

-- the profile that the setup in effect gives files
setup-profile : (o : Option Setup) → profile_in o ≡ (setup_or_none o).profile
setup-profile None = refl
setup-profile (Some s) = refl

-- in the first version a put that is not refused names no profile, so that its file has the setup's
first-profile : (area : Area) (records : List Record) (name bytes : List ℕ) (own : Option ℕ) →
    version_of records ≡ 1 → refusal_over area records (PutJob name bytes) own ≡ None →
    profile_in (setup_of records) ≡ chosen (setup_in_effect records) own
first-profile area records name bytes None one h = setup-profile (setup_of records)
first-profile area records name bytes (Some p) one h = absurd
    (let off = none-applies (causes 1 (sight_over area records) (ToPut name (length bytes)) (Some p)) h in
    let on = eq-eqb (version_of records) 1 one in
    false≢true (sym off.1.1.1.1.1.0 ∙ on))

-- after a put's two records its file is in effect under its name, with the profile that it names
pub put-in_effect : (area : Area) (records : List Record) (name bytes : List ℕ) (own : Option ℕ) →
    refusal_over area records (PutJob name bytes) own ≡ None →
    file_of (after_put records name (length bytes) own) name
    ≡ Some (file_as name (next_id records) (length bytes) (chosen (setup_in_effect records) own))
put-in_effect area records name bytes own begins = by-version (version-either records)
  where
    started : is_start_of name (started_as (PutStart (next_id records) name ∷ records) (next_id records))
        ≡ true
    started = ap (is_start_of name)
        (cond_true (next_id records == next_id records) (Some name) (started_as records (next_id records))
        (eq-eqb (next_id records) (next_id records) refl)) ∙ same-refl name

    by-version : (version_of records ≡ 1) ⊎ (version_of records ≡ 2) →
        file_of (after_put records name (length bytes) own) name
        ≡ Some (file_as name (next_id records) (length bytes) (chosen (setup_in_effect records) own))
    by-version (inl one) = ap (λ r. file_of (r ∷ PutStart (next_id records) name ∷ records) name)
        (ap (λ v. done_record v (next_id records) (length bytes) (chosen (setup_in_effect records) own)) one)
        ∙ (cond_true (is_start_of name
        (started_as (PutStart (next_id records) name ∷ records) (next_id records))) _ _ started
        ∙ ap (λ p. Some (file_as name (next_id records) (length bytes) p))
        (first-profile area records name bytes own one begins))
    by-version (inr two) = ap (λ r. file_of (r ∷ PutStart (next_id records) name ∷ records) name)
        (ap (λ v. done_record v (next_id records) (length bytes) (chosen (setup_in_effect records) own)) two)
        ∙ cond_true (is_start_of name
        (started_as (PutStart (next_id records) name ∷ records) (next_id records))) _ _ started

-- a front that leaves nothing is all up to any bound above it
reads-whole : (old new : Option (List ℕ)) (bytes : List ℕ) → ReadsFront old new bytes →
    length bytes ≤ largest_file → IfSome new (λ left. left ≡ []) → ReadsUpTo (largest_file + 1) old new bytes
reads-whole old new bytes R few whole = record {
  are_bytes = R.are_bytes;
  front = R.front;
  few = omega (arith, few);
  end = λ l. whole;
}

module _ (name bytes : List ℕ) (own : Option ℕ) (records : List Record) {old new : Seen} {end : Ending}
    (opened : IsOpened old records) (read : ReadsFront old.source new.source bytes)
    (few : length bytes ≤ largest_file) (none : refusal_over opened.area records (PutJob name bytes) own ≡ None) where
  put-by : (how : Answer) (left : LeftAlone opened.area records (PutJob name bytes) own how old new end.heard) →
      (MayHaveEnd records left.after left.doubt name (length bytes) own →
      IfSome new.source (λ rest. rest ≡ [])) →
      PutLeaves (ran_left records (PutJob name bytes) how old new end.heard left) own name bytes how →
      EndsWith records (PutJob name bytes) how old new end → tells how ≡ true → IsWholePut name own old new end
  put-by answer.Put left whole L by t = record {
    records = records;
    bytes = bytes;
    opened = opened;
    are_bytes = read.are_bytes;
    read = reads-whole old.source new.source bytes read few (whole (inl L.0.after));
    whole = whole (inl L.0.after);
    told = by;
    disk = images-have opened.area new.disk left.after left.doubt _ L.0.after L.0.sure left.images;
    in_effect = put-in_effect opened.area records name bytes own none;
    stored = L.1;
  }
  put-by how left whole L by t = absurd (first_of (assumption L, cc t))

-- ---- a put that is given up

-- it ends with one status or the other
pub given-status : (size : ℕ) (bytes : List ℕ) (old new : Seen) (end : Ending) →
    StopsReading size bytes old new end → (end.status ≡ 14) ⊎ (end.status ≡ 16)
given-status size bytes old new end S = elim S.cause [ inl c ↦ inl c.0 | inr c ↦ inr c.0 ]

-- a status that is neither is not of such a put
pub cut-not : (n : ℕ) {status : ℕ} → status ≡ n → ((n == 14) || (n == 16)) ≡ false →
    (status ≡ 14) ⊎ (status ≡ 16) → ⊥
cut-not n is off (inl e) = false≢true (sym off ∙ ap (λ k. (k == 14) || (k == 16)) (sym is ∙ e))
cut-not n is off (inr e) = false≢true (sym off ∙ ap (λ k. (k == 14) || (k == 16)) (sym is ∙ e))

-- so with no other
pub given-not : (size : ℕ) (bytes : List ℕ) (old new : Seen) (end : Ending) (n : ℕ) →
    StopsReading size bytes old new end → ((n == 14) || (n == 16)) ≡ false → end.status ≡ n → ⊥
given-not size bytes old new end n S off is = cut-not n is off (given-status size bytes old new end S)

-- what was read of a source that tells is no more than it holds
pub front-short : (old new : Option (List ℕ)) (bytes seen : List ℕ) → old ≡ Some bytes →
    old ≡ then_told seen new → length seen ≤ length bytes
front-short old None bytes seen is front = absurd (let e : Some bytes ≡ None = sym is ∙ front in cc)
front-short old (Some left) bytes seen is front =
    (let e : Some bytes ≡ Some (seen ++ left) = sym is ∙ front in
    let f : bytes ≡ seen ++ left = cc in
    let size = ap length f in let sum = length-append seen left in
    omega (arith, size, sum))

-- where no count of the source rose its source is too long
pub given-long : (size : ℕ) (bytes : List ℕ) (old new : Seen) (end : Ending)
    (S : StopsReading size bytes old new end) → (Rose old.source_faults new.source_faults → ⊥) →
    (end.status ≡ 16) × (length S.read ≡ largest_file + 1)
given-long size bytes old new end S source = elim S.cause [ inl c ↦ absurd (source c.2) | inr c ↦ c ]

-- a done put stored its whole source on every provider, and it is in effect
pub put-done : (name : List ℕ) (own : Option ℕ) (old new : Seen) (end : Ending) →
    AnswersPut name own old new end → IsDone end → IsWholePut name own old new end
put-done name own old new end A done = put-cases (λ E. absurd (early-done E done)) {own = own}
    (λ records bytes opened known none stops left. absurd (elim done [
      | inl zero ↦ given-not _ bytes old new end 0 stops refl zero
      | inr sink ↦ given-not _ bytes old new end 15 stops refl sink
    ]))
    (λ records bytes opened known read few how none left whole by. put-by name bytes own records opened read few
    none how left whole left.leaves.by_kind.0 by (done-tells _ old new end how by done)) A

-- what was read of a source that tells, and that is then at its end, is all that it held
pub read-all : (old new : Option (List ℕ)) (bytes seen : List ℕ) → old ≡ Some bytes →
    ReadsFront old new seen → IfSome new (λ left. left ≡ []) → seen ≡ bytes
read-all old None bytes seen is R whole = absurd (let e : Some bytes ≡ None = sym is ∙ R.front in cc)
read-all old (Some left) bytes seen is R whole =
    (let e : Some bytes ≡ Some (seen ++ left) = sym is ∙ R.front in
    let f : bytes ≡ seen ++ left = cc in
    sym (f ∙ (ap (λ l. seen ++ l) whole ∙ append-nil seen)))

-- a job of a put that meets no fault is done, or finds no memory, where the length told is this one
put-job-well : {area : Area} (name bytes : List ℕ) (size : ℕ) (own : Option ℕ) (records : List Record)
    (old new : Seen)
    (end : Ending) →
    refusal_over area records (PutJob name bytes) own ≡ None → (Rose old.disk_faults new.disk_faults → ⊥) →
    ((j : ℕ) → j < (setup_in_effect records).n →
    Rose (provider_at old.providers j).store_faults (provider_at new.providers j).store_faults → ⊥) →
    (Rose old.sink_faults new.sink_faults → ⊥) →
    (A : AnswersJob (PutJob name bytes) own area records old new end) →
    (MayBeWhole name bytes own area records A → length bytes ≡ size) →
    GivesUnlessMemory (stored_line name size) old new end
put-job-well name bytes size own records old new end begins disk stores sink (AnswersJob.refused why is synced r) all =
    absurd (cc (sym begins ∙ is))
put-job-well name bytes size own records old new end begins disk stores sink (AnswersJob.no_memory synced r) all =
    memory-well (stored_line name size) old new end r
put-job-well name bytes size own records old new end begins disk stores sink (AnswersJob.ended how none runs left by) all =
    elim (put-end (ran_left records (PutJob name bytes) how old new end.heard left) own name bytes how
    left.leaves.by_kind.0 (calm-disk records (PutJob name bytes) how old new end.heard left disk) stores) [
      | inl same ↦ (subst (λ n. GivesUnlessMemory (stored_line name n) old new end)
          (all (inl (subst (PutLeaves (ran_left records (PutJob name bytes) how old new end.heard left) own
          name bytes) same left.leaves.by_kind.0).0.after)) (written-well (stored_line name (length bytes))
          old new end (subst (λ h. EndsWith records (PutJob name bytes) h old new end) same by).written sink))
      | inr same ↦ (let told = rw same at by in
          inr (told.status_is, none-written (stored_line name size) old.sink new.sink told.sink))
    ]

-- ---- the refusals of a put do not look at its bytes

no-lt : (a b : ℕ) → b ≤ a → nat_lt a b ≡ false
no-lt a b l = grind (arith, l)

-- a file that is not too long is refused as one of no byte
short-is : (area : Area) (records : List Record) (name bytes : List ℕ) (own : Option ℕ) →
    length bytes ≤ largest_file →
    refusal_over area records (PutJob name bytes) own ≡ refusal_over area records (PutJob name []) own
short-is area records name bytes _ few = rw (no-lt largest_file (length bytes) few) refl

-- two files that are not too long are refused alike
pub same-refusal : (area : Area) (records : List Record) (name a b : List ℕ) (own : Option ℕ) →
    length a ≤ largest_file → length b ≤ largest_file →
    refusal_over area records (PutJob name a) own ≡ refusal_over area records (PutJob name b) own
same-refusal area records name a b own la lb =
    short-is area records name a own la ∙ sym (short-is area records name b own lb)

-- a first cause is none, nor any other
pub never : (b : Bool) (x : Refusal) (rest : Option Refusal) → (Some x ≡ Some refusal.TooLong → ⊥) →
    (rest ≡ Some refusal.TooLong → ⊥) → cond b (Some x) rest ≡ Some refusal.TooLong → ⊥
never true x rest here there e = here e
never false x rest here there e = there e

empty-never : (area : Area) (records : List Record) (name : List ℕ) (own : Option ℕ) →
    refusal_over area records (PutJob name []) own ≡ Some refusal.TooLong → ⊥
empty-never area records name None = never _ refusal.BadName _ (λ e. cc)
    (never _ refusal.TooManyFiles _ (λ e. cc) (never _ refusal.JournalFull None (λ e. cc) (λ e. cc)))
empty-never area records name (Some p) = never _ refusal.BadName _ (λ e. cc)
    (never _ refusal.BadProfile _ (λ e. cc) (never _ refusal.OldVersion _ (λ e. cc)
    (never _ refusal.TooManyFiles _ (λ e. cc) (never _ refusal.JournalFull None (λ e. cc) (λ e. cc)))))

-- none of these is refused for its length
pub short-never : (area : Area) (records : List Record) (name bytes : List ℕ) (own : Option ℕ) →
    length bytes ≤ largest_file → refusal_over area records (PutJob name bytes) own ≡ Some refusal.TooLong → ⊥
short-never area records name bytes own few is =
    empty-never area records name own (sym (short-is area records name bytes own few) ∙ is)

-- what no file is refused for that is not too long, no put is refused for
pub known-refusal : (area : Area) (records : List Record) (name bytes : List ℕ) (own : Option ℕ) →
    is_unknown own ≡ false → length bytes ≤ largest_file →
    put_refusal area records name own ≡ refusal_over area records (PutJob name bytes) own
known-refusal area records name bytes own known few = cond_false (is_unknown own) (Some refusal.BadProfile)
    (refusal_over area records (PutJob name []) own) known
    ∙ same-refusal area records name [] bytes own (omega arith) few

unknown-refusal : (area : Area) (records : List Record) (name : List ℕ) (own : Option ℕ) →
    is_unknown own ≡ true → put_refusal area records name own ≡ Some refusal.BadProfile
unknown-refusal area records name own unknown = cond_true (is_unknown own) (Some refusal.BadProfile)
    (refusal_over area records (PutJob name []) own) unknown

-- a put that is not refused and meets no fault is done, or finds no memory
pub put-well : (name bytes : List ℕ) (own : Option ℕ) (records : List Record) (old new : Seen)
    (end : Ending) →
    AnswersPut name own old new end → (K : IsKnown old records) → old.source ≡ Some bytes →
    refusal_over K.opened.area records (PutJob name bytes) own ≡ None →
    (Rose old.disk_faults new.disk_faults → ⊥) →
    ((j : ℕ) → j < (setup_in_effect records).n →
    Rose (provider_at old.providers j).store_faults (provider_at new.providers j).store_faults → ⊥) →
    (Rose old.source_faults new.source_faults → ⊥) → (Rose old.sink_faults new.sink_faults → ⊥) →
    GivesUnlessMemory (stored_line name (length bytes)) old new end
put-well name bytes own records old new end (AnswersPut.unstarted u same) K is begins disk stores source sink =
    memory-well (stored_line name (length bytes)) old new end (unstarted-memory K disk u)
put-well name bytes own records old new end (AnswersPut.source_fault other opened known rose synced taken r) K is begins disk stores source sink =
    absurd (source rose)
put-well name bytes own records old new end (AnswersPut.bad_profile other opened unknown synced same r) K is begins disk stores source sink =
    absurd (false≢true (sym (put-begins K.opened.area records name bytes own begins).0 ∙ unknown))
put-well name bytes own records old new end (AnswersPut.no_memory taken r) K is begins disk stores source sink =
    memory-well (stored_line name (length bytes)) old new end r
put-well name bytes own records old new end (AnswersPut.begun other seen opened known read few A whole one) K is begins disk stores source sink =
    (let same = known-once old records other K opened.read in
    put-job-well name seen (length bytes) own other old new end
    (same-refusal opened.area other name seen bytes own few
    (put-begins K.opened.area records name bytes own begins).1
    ∙ (known-both old records other K opened (λ a rs. refusal_over opened.area other (PutJob name bytes) own
    ≡ refusal_over a rs (PutJob name bytes) own) refl ∙ begins))
    disk (λ j l. stores j (subst (λ rs. j < (setup_in_effect rs).n) same l)) sink A
    (λ may. ap length (read-all old.source new.source bytes seen is read (whole may))))
put-well name bytes own records old new end (AnswersPut.given_up other seen opened known none stops runs left) K is begins disk stores source sink =
    absurd (let long = (given-long _ seen old new end stops source).1 in
    let short = front-short old.source new.source bytes stops.read is stops.front in
    let few = (put-begins K.opened.area records name bytes own begins).1 in
    omega (arith, long, short, few))

-- ---- a put ends with the status of a refusal exactly where that one applies

-- a put that began is not refused, whatever its source
pub given-taken : (area : Area) (records : List Record) (name bytes : List ℕ) (own : Option ℕ) →
    is_unknown own ≡ false →
    refusal_over area records (PutJob name bytes) own ≡ None → put_refusal area records name own ≡ None
given-taken area records name bytes own known none =
    known-refusal area records name bytes own known (put-begins area records name bytes own none).1 ∙ none

-- a put ends with the status of a refusal only where that one is the first that applies
pub put-only : (name : List ℕ) (own : Option ℕ) (records : List Record) (old new : Seen) (end : Ending)
    (why : Refusal) → AnswersPut name own old new end → (K : IsKnown old records) → status_of why ≢ 70 →
    status_of why ≢ 16 → end.status ≡ status_of why → put_refusal K.opened.area records name own ≡ Some why
put-only name own records old new end why (AnswersPut.unstarted u same) K tells short e =
    elim (unstarted-known old new end records K u) [
      | inl (rose, r) ↦ absurd (own-status end why 12 refl r.status_is tells e)
      | inr r ↦ absurd (own-status end why 70 refl r.status_is tells e)
    ]
put-only name own records old new end why (AnswersPut.bad_profile other opened unknown synced same r) K tells short e =
    unknown-refusal K.opened.area records name own unknown
    ∙ told-refusal end refusal.BadProfile why (λ f. omega (arith, f)) r.status_is tells e
put-only name own records old new end why (AnswersPut.source_fault other opened known rose synced taken r) K tells short e =
    absurd (own-status end why 14 refl r.status_is tells e)
put-only name own records old new end why (AnswersPut.no_memory taken r) K tells short e =
    absurd (own-status end why 70 refl r.status_is tells e)
put-only name own records old new end why (AnswersPut.begun other seen opened known read few A whole one) K tells short e =
    known-refusal K.opened.area records name seen own known few
    ∙ refused-only (PutJob name seen) own records old new end why
    (known-both old records other K opened (λ a rs. AnswersJob (PutJob name seen) own a rs old new end) A)
    tells e
put-only name own records old new end why (AnswersPut.given_up other seen opened known none stops runs left) K tells short e =
    elim (given-status _ seen old new end stops) [
      | inl is ↦ absurd (own-status end why 14 refl is tells e)
      | inr is ↦ absurd (short (sym e ∙ is))
    ]

-- a put for which a refusal is the first that applies is refused so, or finds no memory
pub put-always : (name : List ℕ) (own : Option ℕ) (records : List Record) (old new : Seen)
    (end : Ending) (why : Refusal) → AnswersPut name own old new end → (K : IsKnown old records) →
    (Rose old.disk_faults new.disk_faults → ⊥) →
    (Rose old.source_faults new.source_faults → ⊥) → put_refusal K.opened.area records name own ≡ Some why →
    IsRefused (status_of why) 0 old new end ⊎ IsRefused 70 0 old new end
put-always name own records old new end why (AnswersPut.unstarted u same) K disk source applies =
    inr (unstarted-memory K disk u)
put-always name own records old new end why (AnswersPut.bad_profile other opened unknown synced same r) K disk source applies =
    inl (subst (λ w. IsRefused (status_of w) 0 old new end)
    (same_value (put_refusal K.opened.area records name own) refusal.BadProfile why
    (unknown-refusal K.opened.area records name own unknown) applies) r)
put-always name own records old new end why (AnswersPut.source_fault other opened known rose synced taken r) K disk source applies =
    absurd (source rose)
put-always name own records old new end why (AnswersPut.no_memory taken r) K disk source applies = inr r
put-always name own records old new end why (AnswersPut.begun other seen opened known read few A whole one) K disk source applies =
    refused-always (PutJob name seen) own records old new end why
    (known-both old records other K opened (λ a rs. AnswersJob (PutJob name seen) own a rs old new end) A)
    (sym (known-refusal K.opened.area records name seen own known few) ∙ applies)
put-always name own records old new end why (AnswersPut.given_up other seen opened known none stops runs left) K disk source applies =
    absurd (let e : None ≡ Some why = sym (known-both old records other K opened
    (λ a rs. put_refusal a rs name own ≡ None) (given-taken opened.area other name seen own known none))
    ∙ applies in cc)

-- ---- a source that failed, or that is too long

-- no command ends so that did not start
pub unstarted-cut : (old new : Seen) (end : Ending) → Unstarted old new end →
    (end.status ≡ 14) ⊎ (end.status ≡ 16) → ⊥
unstarted-cut old new end (Unstarted.disk_fault rose r) = cut-not 12 r.status_is refl
unstarted-cut old new end (Unstarted.not_set_up is sync r) = cut-not 9 r.status_is refl
unstarted-cut old new end (Unstarted.bad_journal at is r) = cut-not 8 r.status_is refl
unstarted-cut old new end (Unstarted.too_few_providers area records read few synced r) =
    cut-not 22 r.status_is refl
unstarted-cut old new end (Unstarted.no_memory r) = cut-not 70 r.status_is refl

-- nor does a job that began
pub ended-cut : (status : ℕ) → EndStatus status → (status ≡ 14) ⊎ (status ≡ 16) → ⊥
ended-cut status e cut =
    cut-not status refl (ended-so (λ k. (k == 14) || (k == 16)) refl refl refl refl refl refl e) cut

-- nor one that is refused for no length
pub job-cut : {area : Area} (kind : Kind) (own : Option ℕ) (records : List Record) (old new : Seen)
    (end : Ending) → (refusal_over area records kind own ≡ Some refusal.TooLong → ⊥) →
    AnswersJob kind own area records old new end → (end.status ≡ 14) ⊎ (end.status ≡ 16) → ⊥
job-cut kind own records old new end short (AnswersJob.refused why is synced r) (inl e) =
    refused-not why 14 refl (λ k. omega (arith, k)) (sym r.status_is ∙ e)
job-cut kind own records old new end short (AnswersJob.refused why is synced r) (inr e) =
    short (refused-only kind own records old new end refusal.TooLong (AnswersJob.refused why is synced r)
    (λ k. omega (arith, k)) e)
job-cut kind own records old new end short (AnswersJob.no_memory synced r) cut =
    cut-not 70 r.status_is refl cut
job-cut kind own records old new end short (AnswersJob.ended how none runs left by) cut =
    ended-cut end.status (status-ended _ how old new end by) cut

-- over a known store a put that ends with 16 is not refused, and its source has more bytes than a file may
-- have
pub put-long : (name bytes : List ℕ) (own : Option ℕ) (records : List Record) (old new : Seen)
    (end : Ending) → AnswersPut name own old new end → (K : IsKnown old records) → old.source ≡ Some bytes →
    end.status ≡ 16 → (put_refusal K.opened.area records name own ≡ None) × (largest_file < length bytes)
put-long name bytes own records old new end (AnswersPut.unstarted u same) K is e =
    absurd (unstarted-cut old new end u (inr e))
put-long name bytes own records old new end (AnswersPut.bad_profile other opened unknown synced same r) K is e =
    absurd (cut-not 20 r.status_is refl (inr e))
put-long name bytes own records old new end (AnswersPut.source_fault other opened known rose synced taken r) K is e =
    absurd (let f : 14 ≡ 16 = sym r.status_is ∙ e in omega (arith, f))
put-long name bytes own records old new end (AnswersPut.no_memory taken r) K is e =
    absurd (cut-not 70 r.status_is refl (inr e))
put-long name bytes own records old new end (AnswersPut.begun other seen opened known read few A whole one) K is e =
    absurd (job-cut (PutJob name seen) own other old new end
    (short-never opened.area other name seen own few) A (inr e))
put-long name bytes own records old new end (AnswersPut.given_up other seen opened known none stops runs left) K is e = (
  known-both old records other K opened (λ a rs. put_refusal a rs name own ≡ None)
      (given-taken opened.area other name seen own known none),
  elim stops.cause [
    | inl c ↦ absurd (let f : 14 ≡ 16 = sym c.0 ∙ e in omega (arith, f))
    | inr c ↦ (let long = c.1 in
        let short = front-short old.source new.source bytes stops.read is stops.front in
        omega (arith, long, short))
  ],
)

-- a put of such a source that is not refused and meets no fault ends so, or finds no memory
pub long-put : (name bytes : List ℕ) (own : Option ℕ) (records : List Record) (old new : Seen)
    (end : Ending) → AnswersPut name own old new end → (K : IsKnown old records) → old.source ≡ Some bytes →
    largest_file < length bytes → put_refusal K.opened.area records name own ≡ None →
    (Rose old.disk_faults new.disk_faults → ⊥) →
    ((j : ℕ) → j < (setup_in_effect records).n →
    Rose (provider_at old.providers j).store_faults (provider_at new.providers j).store_faults → ⊥) →
    (Rose old.source_faults new.source_faults → ⊥) → (end.status ≡ 16) ⊎ (end.status ≡ 70)
long-put name bytes own records old new end (AnswersPut.unstarted u same) K is long taken disk stores source =
    inr (unstarted-memory K disk u).status_is
long-put name bytes own records old new end (AnswersPut.bad_profile other opened unknown synced same r) K is long taken disk stores source =
    absurd (cc (sym taken
    ∙ unknown-refusal K.opened.area records name own unknown))
long-put name bytes own records old new end (AnswersPut.source_fault other opened known rose synced read r) K is long taken disk stores source =
    absurd (source rose)
long-put name bytes own records old new end (AnswersPut.no_memory read r) K is long taken disk stores source =
    inr r.status_is
long-put name bytes own records old new end (AnswersPut.given_up other seen opened known none stops runs left) K is long taken disk stores source =
    inl (given-long _ seen old new end stops source).0
long-put name bytes own records old new end (AnswersPut.begun other seen opened known read few (AnswersJob.refused why cause synced r) whole one) K is long taken disk stores source =
    absurd (cc (sym taken ∙ known-both old records other K opened
    (λ a rs. put_refusal a rs name own ≡ Some why)
    (known-refusal opened.area other name seen own known few ∙ cause)))
long-put name bytes own records old new end (AnswersPut.begun other seen opened known read few (AnswersJob.no_memory synced r) whole one) K is long taken disk stores source =
    inr r.status_is
long-put name bytes own records old new end (AnswersPut.begun other seen opened known read few (AnswersJob.ended how none runs left by) whole one) K is long taken disk stores source =
    elim (put-end (ran_left other (PutJob name seen) how old new end.heard left) own name seen how
    left.leaves.by_kind.0 (calm-disk other (PutJob name seen) how old new end.heard left disk)
    (λ j l. stores j
    (rw (known-once old records other K opened.read) at l))) [
      | inl same ↦ absurd (let all = ap length (read-all old.source new.source bytes seen is read
          (whole (inl (subst (PutLeaves (ran_left other (PutJob name seen) how old new end.heard left) own
          name seen) same left.leaves.by_kind.0).0.after))) in
          omega (arith, all, few, long))
      | inr same ↦ inr ((subst (λ h. EndsWith other (PutJob name seen) h old new end) same by).status_is)
    ]

-- ---- drops

drop-by : (name : List ℕ) (records : List Record) {old new : Seen} {end : Ending} (opened : IsOpened old records)
    (how : Answer) (left : LeftAlone opened.area records (DropJob name) None how old new end.heard) →
    DropLeaves (ran_left records (DropJob name) how old new end.heard left) name how →
    EndsWith records (DropJob name) how old new end → tells how ≡ true → IsDropped name old new end
drop-by name records {old} {new} opened answer.Dropped left L by t = record {
  records = records;
  file = L.1.file;
  opened = opened;
  was_in_effect = L.1.in_effect;
  told = by;
  disk = images-have opened.area new.disk left.after left.doubt _ L.0.after L.0.sure left.images;
  gone = L.1.held;
}
drop-by name records opened how left L by t = absurd (first_of (assumption L, cc t))

-- a done drop took its file out of effect, and its blocks away but where a count rose
pub drop-done : (name : List ℕ) (old new : Seen) (end : Ending) → AnswersAlone (DropJob name) old new end →
    IsDone end → IsDropped name old new end
drop-done name old new end A done = alone-cases (λ E. absurd (early-done E done))
    (λ records opened how none left by. drop-by name records opened how left left.leaves.by_kind.0 by
    (done-tells _ old new end how by done)) A

drop-ended-well : {area : Area} (name : List ℕ) (records : List Record) (old new : Seen) (end : Ending) →
    (Rose old.disk_faults new.disk_faults → ⊥) → (Rose old.sink_faults new.sink_faults → ⊥) → (how : Answer)
    (left : LeftAlone area records (DropJob name) None how old new end.heard) →
    EndsWith records (DropJob name) how old new end → GivesUnlessMemory (dropped_line name) old new end
drop-ended-well name records old new end disk sink how left by =
    well-ended (text_of (setup_in_effect records).tolerance (DropJob name)) answer.Dropped how old new end
    (λ w. w) by sink (drop-end (ran_left records (DropJob name) how old new end.heard left) name how
    left.leaves.by_kind.0 (calm-disk records (DropJob name) how old new end.heard left disk))

-- a drop that is not refused and meets no fault is done, or finds no memory
pub drop-well : (name : List ℕ) (records : List Record) (old new : Seen) (end : Ending) →
    AnswersAlone (DropJob name) old new end → (K : IsKnown old records) →
    refusal_over K.opened.area records (DropJob name) None ≡ None → (Rose old.disk_faults new.disk_faults →
    ⊥) →
    (Rose old.sink_faults new.sink_faults → ⊥) → GivesUnlessMemory (dropped_line name) old new end
drop-well name records old new end A K begins disk sink = alone-well records K begins disk
    (memory-well (dropped_line name) old new end) (drop-ended-well name records old new end disk sink) A

-- ---- audits

audit-by : (records : List Record) {old new : Seen} {end : Ending} (opened : IsOpened old records) (how : Answer)
    (left : LeftAlone opened.area records AuditJob None how old new end.heard) →
    AuditGives (ran_left records AuditJob how old new end.heard left) how →
    EndsWith records AuditJob how old new end → tells how ≡ true → IsAudited old new end
audit-by records {old} {new} {end} opened (answer.Audited number undecided counts) left L by t =
    (let heard = rw L.0 at L.2 in record {
      records = records;
      undecided = undecided;
      counts = counts;
      opened = opened;
      told = rw L.0 at by;
      disk = images-have opened.area new.disk left.after left.doubt _ L.1.after L.1.sure left.images;
      heard = record { heard = heard.heard; truthful = heard.truthful };
      counted = rw L.0 at L.3;
    })
audit-by records opened how left L by t = absurd (first_of (assumption L, cc t))

-- a done audit told counts that are the verdicts on what it heard
pub audit-done : (old new : Seen) (end : Ending) → AnswersAlone AuditJob old new end → IsDone end →
    IsAudited old new end
audit-done old new end A done = alone-cases (λ E. absurd (early-done E done))
    (λ records opened how none left by. audit-by records opened how left left.leaves.by_kind.gives by
    (done-tells _ old new end how by done)) A

-- a text that was written whole, or cut for want of memory
pub zero-or-memory : (text : List ℕ) (old new : Seen) (end : Ending) → GivesUnlessMemory text old new end →
    (end.status ≡ 0) ⊎ (end.status ≡ 70)
zero-or-memory text old new end (inl w) = inl w.0
zero-or-memory text old new end (inr w) = inr w.0

-- a command at status 0, or one that found no memory, ended in order
pub in-order : (command : Command) (old new : Seen) (end : Ending) → (end.status ≡ 0) ⊎ (end.status ≡ 70) →
    EndsInOrder command old new end
in-order command old new end (inl is) = EndsInOrder.done is
in-order command old new end (inr is) = EndsInOrder.no_memory is

audit-ended-well : {area : Area} (records : List Record) (old new : Seen) (end : Ending) →
    (Rose old.disk_faults new.disk_faults → ⊥) → (Rose old.sink_faults new.sink_faults → ⊥) → (how : Answer)
    (left : LeftAlone area records AuditJob None how old new end.heard) →
    EndsWith records AuditJob how old new end → (end.status ≡ 0) ⊎ (end.status ≡ 70)
audit-ended-well records old new end disk sink how left by =
    elim (audit-end (ran_left records AuditJob how old new end.heard left) how left.leaves.by_kind.gives
    (calm-disk records AuditJob how old new end.heard left disk)) [
      | inl (number, undecided, counts, same) ↦ zero-or-memory _ old new end
          (well-ended text (answer.Audited number undecided counts) how old new end (λ w. w) by sink (inl same))
      | inr same ↦ zero-or-memory _ old new end
          (well-ended text answer.Put how old new end (λ w. w) by sink (inr same))
    ]
  where
    text : Answer → List ℕ
    text = text_of (setup_in_effect records).tolerance AuditJob

-- an audit that is not refused and meets no fault is done, or finds no memory
pub audit-well : (records : List Record) (old new : Seen) (end : Ending) → AnswersAlone AuditJob old new end →
    (K : IsKnown old records) →
    refusal_over K.opened.area records AuditJob None ≡ None → (Rose old.disk_faults new.disk_faults → ⊥) →
    (Rose old.sink_faults new.sink_faults → ⊥) → (end.status ≡ 0) ⊎ (end.status ≡ 70)
audit-well records old new end A K begins disk sink = alone-well records K begins disk (λ r. inr r.status_is)
    (audit-ended-well records old new end disk sink) A

-- ---- repairs

repair-by : (records : List Record) {old new : Seen} {end : Ending} (opened : IsOpened old records) (how : Answer)
    (left : LeftAlone opened.area records RepairJob None how old new end.heard) (due : Due) →
    due_of records ≡ Some due → RepairGives (ran_left records RepairJob how old new end.heard left) due how →
    EndsWith records RepairJob how old new end → tells how ≡ true → IsRepaired old new end
repair-by records {old} {new} {end} opened (answer.Repaired number) left due is_due L by t = record {
  records = records;
  due = due;
  opened = opened;
  is_due = is_due;
  told = rw L.0 at by;
  disk = images-have opened.area new.disk left.after left.doubt _ L.1.after L.1.sure left.images;
  rewritten = record {
    gave = L.2.gave;
    symbols = L.2.symbols;
    truth = L.2.truth;
    gives = L.2.gives;
    held = L.2.held;
  };
}
repair-by records opened how left due is_due L by t = absurd (first_of (assumption L, cc t))

-- after a done repair each flagged provider holds the columns of what was fetched, and none is due
pub repair-done : (old new : Seen) (end : Ending) → AnswersAlone RepairJob old new end → IsDone end →
    IsRepaired old new end
repair-done old new end A done = alone-cases (λ E. absurd (early-done E done))
    (λ records opened how none left by. let L = left.leaves.by_kind.0 in
    repair-by records opened how left L.due L.is_due L.gives by (done-tells _ old new end how by done)) A

-- a repair with no refusal, no fault and at most b bad providers a file is done, or finds no memory
pub repair-well : (records : List Record) (old new : Seen) (end : Ending) (bytes : ℕ → List ℕ) →
    AnswersAlone RepairJob old new end → (K : IsKnown old records) →
    refusal_over K.opened.area records RepairJob None ≡ None → (Rose old.disk_faults new.disk_faults → ⊥) →
    ((j : ℕ) → j < (setup_in_effect records).n →
    Rose (provider_at old.providers j).store_faults (provider_at new.providers j).store_faults → ⊥) →
    (Rose old.sink_faults new.sink_faults → ⊥) →
    ((name : List ℕ) (file : File) → file_of records name ≡ Some file →
    (length (bytes file.id) ≡ file.size) ×
    (bad_seen records old new file (bytes file.id) ≤ (setup_in_effect records).b)) →
    (end.status ≡ 0) ⊎ (end.status ≡ 70)
repair-well records old new end bytes A K begins disk stores sink safe =
    alone-well records K begins disk (λ r. inr r.status_is) ended A
  where
    text : Answer → List ℕ
    text = text_of (setup_in_effect records).tolerance RepairJob

    ended : (how : Answer) (left : LeftAlone K.opened.area records RepairJob None how old new end.heard) →
        EndsWith records RepairJob how old new end → (end.status ≡ 0) ⊎ (end.status ≡ 70)
    ended how left by =
        elim (repair-end (ran_left records RepairJob how old new end.heard left) K.opened.read.accepted
        (shape-at old records K.opened) bytes how left.leaves.by_kind.0
        (calm-disk records RepairJob how old new end.heard left disk) stores safe) [
          | inl (number, same) ↦ zero-or-memory _ old new end
              (well-ended text (answer.Repaired number) how old new end (λ w. w) by sink (inl same))
          | inr same ↦ zero-or-memory _ old new end
              (well-ended text answer.Put how old new end (λ w. w) by sink (inr same))
        ]

-- ---- upgrades

upgrade-by : (records : List Record) {old new : Seen} {end : Ending} (opened : IsOpened old records) →
    refusal_over opened.area records UpgradeJob None ≡ None →
    (how : Answer) (left : LeftAlone opened.area records UpgradeJob None how old new end.heard) →
    UpgradeLeaves (ran_left records UpgradeJob how old new end.heard left) how →
    EndsWith records UpgradeJob how old new end → SameHolds old new → tells how ≡ true → IsUpgraded old new end
upgrade-by records {old} {new} opened begins answer.Upgraded left L by same t = record {
  records = records;
  opened = opened;
  was_first = elim (version-either records) [
    | inl one ↦ one
    | inr two ↦ absurd (let on = eq-eqb (version_of records) 2 two in
        let off = none-applies (causes 1 (sight_over opened.area records) ToUpgrade None) begins in
        false≢true (sym off.1.1.0 ∙ on))
  ];
  told = by;
  disk = images-have opened.area new.disk left.after left.doubt _ L.0.after L.0.sure left.images;
  held = same;
}
upgrade-by records opened begins how left L by same t = absurd (first_of (assumption L, cc t))

upgrade-ended-well : {area : Area} (records : List Record) (old new : Seen) (end : Ending) →
    (Rose old.disk_faults new.disk_faults → ⊥) → (Rose old.sink_faults new.sink_faults → ⊥) → (how : Answer)
    (left : LeftAlone area records UpgradeJob None how old new end.heard) →
    EndsWith records UpgradeJob how old new end → GivesUnlessMemory upgraded_line old new end
upgrade-ended-well records old new end disk sink how left by =
    well-ended (text_of (setup_in_effect records).tolerance UpgradeJob) answer.Upgraded how old new end
    (λ w. w) by sink (upgrade-end (ran_left records UpgradeJob how old new end.heard left) how
    left.leaves.by_kind.0 (calm-disk records UpgradeJob how old new end.heard left disk))

-- an upgrade that is not refused and meets no fault is done, or finds no memory
pub upgrade-well : (records : List Record) (old new : Seen) (end : Ending) →
    AnswersAlone UpgradeJob old new end → (K : IsKnown old records) →
    refusal_over K.opened.area records UpgradeJob None ≡ None → (Rose old.disk_faults new.disk_faults → ⊥) →
    (Rose old.sink_faults new.sink_faults → ⊥) → GivesUnlessMemory upgraded_line old new end
upgrade-well records old new end A K begins disk sink = alone-well records K begins disk
    (memory-well upgraded_line old new end) (upgrade-ended-well records old new end disk sink) A

-- ---- puts, drops, audits and upgrades over any disk

-- the profile that a put names is that of its words
pub named-by : (name : List ℕ) (own : Option ℕ) → profile_named (put_of name own) ≡ own
named-by name None = refl
named-by name (Some p) = refl

-- a put ends as one that names its profile, or none
pub put-answers : (name : List ℕ) (own : Option ℕ) (old new : Seen) (end : Ending) →
    Answers (put_of name own) old new end → AnswersPut name own old new end
put-answers name None old new end A = A
put-answers name (Some p) old new end A = A

-- a put runs the job of a first part of what it read
pub front-kind : (name bytes rest : List ℕ) (own : Option ℕ) (old new : Seen) →
    ReadsFront old.source new.source (bytes ++ rest) → length bytes ≤ largest_file →
    RunsKind (put_of name own) old new (PutJob name bytes)
front-kind name bytes rest None old new read few = (bytes, rest, read, few, refl)
front-kind name bytes rest (Some p) old new read few = (bytes, rest, read, few, refl)

-- so it is where that is all of it
pub put-kind : (name bytes : List ℕ) (own : Option ℕ) (old new : Seen) →
    ReadsFront old.source new.source bytes → length bytes ≤ largest_file →
    RunsKind (put_of name own) old new (PutJob name bytes)
put-kind name bytes own old new read few = front-kind name bytes [] own old new
    (subst (ReadsFront old.source new.source) (sym (append-nil bytes)) read) few

-- ---- what a put leaves that is given up

-- it used its number, stored whole stripes, and changed neither the files nor what is due
pub given-gives : (name bytes : List ℕ) (own : Option ℕ) (records : List Record) (old new : Seen)
    (end : Ending) → (opened : IsOpened old records) → is_unknown own ≡ false →
    refusal_over opened.area records (PutJob name bytes) own ≡ None →
    StopsReading (put_stripe records own) bytes old new end →
    PartLeft opened.area records name bytes own old new → GivesUpPut name own old new end
given-gives name bytes own records old new end opened known none stops left = record {
  records = records;
  bytes = bytes;
  opened = opened;
  taken = given-taken opened.area records name bytes own known none;
  stops = stops;
  disk = left.images;
  stored = left.stored;
  others = left.others;
}

-- its bytes are a first part of what it read
pub given-front : (area : Area) (name bytes : List ℕ) (own : Option ℕ) (records : List Record)
    (old new : Seen)
    (end : Ending) → refusal_over area records (PutJob name bytes) own ≡ None →
    StopsReading (put_stripe records own) bytes old new end → (rest : List ℕ) × AreBytes bytes
    × ReadsFront old.source new.source (bytes ++ rest) × (length bytes ≤ largest_file)
given-front area name bytes own records old new end none stops = (
  rest,
  all-front bytes rest (subst AreBytes parts stops.are_bytes),
  record {
    are_bytes = subst AreBytes parts stops.are_bytes;
    front = stops.front ∙ ap (λ bs. then_told bs new.source) parts;
  },
  (put-begins area records name bytes own none).1,
)
  where
    rest : List ℕ
    rest = drop (stops.stripes * put_stripe records own) stops.read

    parts : stops.read ≡ bytes ++ rest
    parts = sym (take-append-drop (stops.stripes * put_stripe records own) stops.read)
        ∙ ap (λ bs. bs ++ rest) (sym stops.bytes_are)

    all-front : (a b : List ℕ) → AreBytes (a ++ b) → AreBytes a
    all-front [] b h = refl
    all-front (x ∷ a) b h = (let here : is_byte x ≡ true = grind (arith, h) in
        let more : AreBytes (a ++ b) = grind (arith, h) in
        let back = all-front a b more in grind (arith, here, back))

-- so is the job that it runs
pub given-kind : (area : Area) (name bytes : List ℕ) (own : Option ℕ) (records : List Record) (old new : Seen)
    (end : Ending) → refusal_over area records (PutJob name bytes) own ≡ None →
    StopsReading (put_stripe records own) bytes old new end → AreBytes bytes
    × RunsKind (put_of name own) old new (PutJob name bytes)
given-kind area name bytes own records old new end none stops =
    (let G = given-front area name bytes own records old new end none stops in
    (G.1, front-kind name bytes G.0 own old new G.2 G.3))

-- a put with no fault ends in order, over any disk
pub put-order : (name : List ℕ) (own : Option ℕ) (old new : Seen) (end : Ending) →
    AnswersPut name own old new end → (Rose old.disk_faults new.disk_faults → ⊥) →
    ((j : ℕ) → Rose (provider_at old.providers j).store_faults (provider_at new.providers j).store_faults →
    ⊥) →
    (Rose old.source_faults new.source_faults → ⊥) → (Rose old.sink_faults new.sink_faults → ⊥) →
    EndsInOrder (put_of name own) old new end
put-order name own old new end (AnswersPut.unstarted u same) disk stores source sink = EndsInOrder.unstarted u
put-order name own old new end (AnswersPut.bad_profile records opened unknown synced same r) disk stores source sink =
    EndsInOrder.bad_profile records opened
    (subst (λ o. IsTrue (is_unknown o)) (sym (named-by name own)) unknown) r
put-order name own old new end (AnswersPut.source_fault other opened known rose synced taken r) disk stores source sink =
    absurd (source rose)
put-order name own old new end (AnswersPut.no_memory taken r) disk stores source sink =
    EndsInOrder.no_memory r.status_is
put-order name own old new end (AnswersPut.given_up records bytes opened known none stops runs left) disk stores source sink =
    EndsInOrder.too_long name own refl (given-long _ bytes old new end stops source).0
    (given-gives name bytes own records old new end opened known none stops left)
put-order name own old new end (AnswersPut.begun records bytes opened known read few (AnswersJob.refused why is synced r) whole one) disk stores source sink =
    EndsInOrder.refused records (PutJob name bytes) why opened (put-kind name bytes own old new read few)
    (ap (refusal_over opened.area records (PutJob name bytes)) (named-by name own) ∙ is) r
put-order name own old new end (AnswersPut.begun records bytes opened known read few (AnswersJob.no_memory synced r) whole one) disk stores source sink =
    EndsInOrder.no_memory r.status_is
put-order name own old new end (AnswersPut.begun records bytes opened known read few (AnswersJob.ended how none runs left by) whole one) disk stores source sink =
    in-order (put_of name own) old new end (zero-or-memory _ old new end
    (put-job-well name bytes (length bytes) own records old new end none disk (λ j l. stores j) sink
    (AnswersJob.ended how none runs left by) (λ may. refl)))

-- a drop with no fault ends in order, over any disk
pub drop-order : (name : List ℕ) (old new : Seen) (end : Ending) → AnswersAlone (DropJob name) old new end →
    (Rose old.disk_faults new.disk_faults → ⊥) → (Rose old.sink_faults new.sink_faults → ⊥) →
    EndsInOrder (DropOf name) old new end
drop-order name old new end A disk sink = alone-order (DropOf name) refl refl (λ o. o)
    (λ records opened how none left by. in-order (DropOf name) old new end
    (zero-or-memory _ old new end (drop-ended-well name records old new end disk sink how left by))) A

-- an audit with no fault ends in order, over any disk
pub audit-order : (old new : Seen) (end : Ending) → AnswersAlone AuditJob old new end →
    (Rose old.disk_faults new.disk_faults → ⊥) → (Rose old.sink_faults new.sink_faults → ⊥) →
    EndsInOrder AuditAll old new end
audit-order old new end A disk sink = alone-order AuditAll refl refl (λ o. o)
    (λ records opened how none left by. in-order AuditAll old new end
    (audit-ended-well records old new end disk sink how left by)) A

-- an upgrade with no fault ends in order, over any disk
pub upgrade-order : (old new : Seen) (end : Ending) → AnswersAlone UpgradeJob old new end →
    (Rose old.disk_faults new.disk_faults → ⊥) → (Rose old.sink_faults new.sink_faults → ⊥) →
    EndsInOrder UpgradeJournal old new end
upgrade-order old new end A disk sink = alone-order UpgradeJournal refl refl (λ o. o)
    (λ records opened how none left by. in-order UpgradeJournal old new end
    (zero-or-memory _ old new end (upgrade-ended-well records old new end disk sink how left by))) A

-- ---- what providers hold

-- what a job leaves as it was at each provider of the setup is so at all
pub left-same : {area : Area} {X : Type 0} (of : Provider → X) (records : List Record) (kind : Kind)
    {own : Option ℕ}
    (how : Answer) (old new : Seen) (heard : List Entry)
    (left : LeftAlone area records kind own how old new heard) →
    ((j : ℕ) → j < (setup_in_effect records).n → of (provider_at new.providers j)
    ≡ of (provider_at old.providers j)) → (j : ℕ) →
    of (provider_at new.providers j) ≡ of (provider_at old.providers j)
left-same of records kind how old new heard left same j = elim (cases_lt j (setup_in_effect records).n) [
  | inl l ↦ same j l
  | inr l ↦ ap of (left.leaves.others j l)
]

-- what a provider tells that it holds
abbrev held_by : Provider → Option Held
held_by p = p.held

-- a get leaves what providers hold
pub get-holds : (name : List ℕ) (old new : Seen) (end : Ending) → AnswersAlone (GetJob name) old new end →
    SameHolds old new
get-holds name old new end = alone-cases (early-same held_by) (λ records opened how none left by.
    left-same held_by records (GetJob name) how old new end.heard left left.leaves.by_kind.held)

-- an audit leaves what providers hold
pub audit-holds : (old new : Seen) (end : Ending) → AnswersAlone AuditJob old new end → SameHolds old new
audit-holds old new end = alone-cases (early-same held_by) (λ records opened how none left by.
    left-same held_by records AuditJob how old new end.heard left left.leaves.by_kind.held)

-- a list leaves what providers hold
pub list-holds : (old new : Seen) (end : Ending) → AnswersList old new end → SameHolds old new
list-holds old new end =
    list-cases (early-same held_by) (λ records opened L j. ap (λ ps. (provider_at ps j).held) L.providers)

upgrade-same : (x : Ran) (how : Answer) → UpgradeLeaves x how → SameHeld x
upgrade-same x answer.Upgraded L = L.1
upgrade-same x answer.DiskFault L = L.2
upgrade-same x answer.Memory L = L.1
upgrade-same x how L = absurd L

-- an upgrade leaves what providers hold
pub upgrade-holds : (old new : Seen) (end : Ending) → AnswersAlone UpgradeJob old new end → SameHolds old new
upgrade-holds old new end = alone-cases (early-same held_by) (λ records opened how none left by.
    left-same held_by records UpgradeJob how old new end.heard left
    (upgrade-same (ran_left records UpgradeJob how old new end.heard left) how left.leaves.by_kind.0))

-- a done upgrade gave the journal its second version, and left the files and what providers hold
pub upgrade-done : (old new : Seen) (end : Ending) → AnswersAlone UpgradeJob old new end → IsDone end →
    IsUpgraded old new end
upgrade-done old new end A done = alone-cases (λ E. absurd (early-done E done))
    (λ records opened how none left by. upgrade-by records opened none how left left.leaves.by_kind.0 by
    (upgrade-holds old new end A) (done-tells _ old new end how by done)) A
