-- A command was refused and touched nothing, or came to an end of its own: each kind of answer in these cases.
use Rattle.command_laws.proofs.Words.{Some, ◌≡◌, ℕ, ◌≤◌, ◌==◌, ◌⊎◌, Bool, true, false, List, [], length, Option, None, refl, ap, sym, ◌∙◌, inl, inr, false≢true, IfSome, largest_file, Rose, provider_at, Provider, Record, Area, Numbers, PutJob, Kind, Answer, Refusal, Command, Seen, Ending, IsRefused, IsOpened, IsSynced, ReadsFront, Unstarted, setup_in_effect, refusal_over, pack_refusal_over, is_unknown, setup_with, status_of, text_of, scrub_text, pack_text, MayHaveEnd, put_stripe, StopsReading, PartLeft, EndsByAnswer, LeftAlone, ScrubbedAlone, PackedAlone, AnswersInit, InitsDisk, AnswersJob, AnswersPut, AnswersAlone, AnswersList, AnswersScrub, AnswersPack, ListsFiles, IsDone, IsKnown, EndsInOrder, RunsKind, profile_named, is_ending, Answers, RowOf, InitWith, PutUnder, PutAt, ListAll, ScrubAll, PackJournal}
use Rattle.std.specs.Prelude.{if◌then◌else◌}
use Rattle.command_defs.specs.Inits.{FailsToInit, IsInitDone}
use Rattle.machine_defs.specs.Refusals as refusal
use Rattle.command_laws.proofs.Known.{alone-known, EndStatus, status-ended, status-written}

-- a status with which nothing was done: of no job's end, and of no text
abbrev pub is_early : ℕ → Bool
is_early n = if n == 0 then false else if n == 4 then false else if n == 13 then false
    else if n == 15 then false else is_ending n

-- a command was refused before it did anything
pub record IsEarly (old new : Seen) (end : Ending) : Type 0 where
  pub status : ℕ
  pub at : ℕ
  pub early : is_early status ≡ true
  pub ending : is_ending status ≡ true
  pub refused : IsRefused status at old new end

-- a refusal at such a status is one
pub early-at : {old new : Seen} {end : Ending} (status at : ℕ) → is_early status ≡ true → is_ending status ≡ true →
    IsRefused status at old new end → IsEarly old new end
early-at status at early ending r =
    record { status = status; at = at; early = early; ending = ending; refused = r }

-- so is one for a cause
pub early-why : {old new : Seen} {end : Ending} (why : Refusal) → IsRefused (status_of why) 0 old new end →
    IsEarly old new end
early-why refusal.NoSuchName r = early-at _ 0 refl refl r
early-why why r = early-at _ 0 refl refl r

-- a command that did not start was refused so
pub unstarted-early : {old new : Seen} {end : Ending} → Unstarted old new end → IsEarly old new end
unstarted-early (Unstarted.disk_fault rose r) = early-at 12 0 refl refl r
unstarted-early (Unstarted.not_set_up is sync r) = early-at 9 0 refl refl r
unstarted-early (Unstarted.bad_journal at is r) = early-at 8 at refl refl r
unstarted-early (Unstarted.too_few_providers area records read few synced r) = early-at 22 0 refl refl r
unstarted-early (Unstarted.no_memory r) = early-at 70 0 refl refl r

-- ---- what none of these is, and what stays

-- it has no status of an end
pub early-not : {old new : Seen} {end : Ending} → IsEarly old new end → (n : ℕ) → is_early n ≡ false →
    end.status ≡ n → ⊥
early-not E n off is = false≢true (sym off ∙ (ap is_early (sym is ∙ E.refused.status_is) ∙ E.early))

-- it is not done
pub early-done : {old new : Seen} {end : Ending} → IsEarly old new end → IsDone end → ⊥
early-done E (inl zero) = early-not E 0 refl zero
early-done E (inr sink) = early-not E 15 refl sink

-- it leaves each provider as it was
pub early-same : {X : Type 0} (of : Provider → X) {old new : Seen} {end : Ending} → IsEarly old new end →
    (j : ℕ) → of (provider_at new.providers j) ≡ of (provider_at old.providers j)
early-same of E j = ap (λ ps. of (provider_at ps j)) E.refused.providers

-- ---- each kind of answer

module _ {old new : Seen} {end : Ending} {P : Type 0} (early : IsEarly old new end → P) where
  -- a job that began was refused, or ended
  pub job-cases : {kind : Kind} {own : Option ℕ} {area : Area} {records : List Record} →
      ((how : Answer) → refusal_over area records kind own ≡ None →
      (left : LeftAlone area records kind own how old new end.heard) →
      EndsByAnswer (text_of (setup_in_effect records).tolerance kind how) how old new end → P) →
      AnswersJob kind own area records old new end → P
  job-cases late (AnswersJob.refused why is synced r) = early (early-why why r)
  job-cases late (AnswersJob.no_memory synced r) = early (early-at 70 0 refl refl r)
  job-cases late (AnswersJob.ended how none runs left by) = late how none left by

  -- a command that runs a job was refused, or its job ended
  pub alone-cases : {kind : Kind} → ((records : List Record) (opened : IsOpened old records) (how : Answer) →
      refusal_over opened.area records kind None ≡ None →
      (left : LeftAlone opened.area records kind None how old new end.heard) →
      EndsByAnswer (text_of (setup_in_effect records).tolerance kind how) how old new end → P) →
      AnswersAlone kind old new end → P
  alone-cases late (AnswersAlone.unstarted u) = early (unstarted-early u)
  alone-cases late (AnswersAlone.begun records opened A) = job-cases (late records opened) A

  -- a put was refused, its source stopped, or its job ended
  pub put-cases : {name : List ℕ} {own : Option ℕ} →
      ((records : List Record) (bytes : List ℕ) (opened : IsOpened old records) → is_unknown own ≡ false →
      refusal_over opened.area records (PutJob name bytes) own ≡ None →
      StopsReading (put_stripe records own) bytes old new end →
      PartLeft opened.area records name bytes own old new → P) →
      ((records : List Record) (bytes : List ℕ) (opened : IsOpened old records) → is_unknown own ≡ false →
      ReadsFront old.source new.source bytes → length bytes ≤ largest_file → (how : Answer) →
      refusal_over opened.area records (PutJob name bytes) own ≡ None →
      (left : LeftAlone opened.area records (PutJob name bytes) own how old new end.heard) →
      (MayHaveEnd records left.after left.doubt name (length bytes) own →
      IfSome new.source (λ rest. rest ≡ [])) →
      EndsByAnswer (text_of (setup_in_effect records).tolerance (PutJob name bytes) how) how old new end →
      P) → AnswersPut name own old new end → P
  put-cases given late (AnswersPut.unstarted u same) = early (unstarted-early u)
  put-cases given late (AnswersPut.bad_profile records opened unknown synced same r) =
      early (early-at 20 0 refl refl r)
  put-cases given late (AnswersPut.source_fault records opened known rose synced taken r) =
      early (early-at 14 0 refl refl r)
  put-cases given late (AnswersPut.no_memory taken r) = early (early-at 70 0 refl refl r)
  put-cases given late (AnswersPut.given_up records bytes opened known none stops runs left) =
      given records bytes opened known none stops left
  put-cases given late (AnswersPut.begun records bytes opened known read few (AnswersJob.refused why is synced r) whole one) =
      early (early-why why r)
  put-cases given late (AnswersPut.begun records bytes opened known read few (AnswersJob.no_memory synced r) whole one) =
      early (early-at 70 0 refl refl r)
  put-cases given late (AnswersPut.begun records bytes opened known read few (AnswersJob.ended how none runs left by) whole one) =
      late records bytes opened known read few how none left whole by

  -- a list was refused, or written
  pub list-cases : ((records : List Record) → IsOpened old records → ListsFiles records old new end → P) →
      AnswersList old new end → P
  list-cases late (AnswersList.unstarted u) = early (unstarted-early u)
  list-cases late (AnswersList.no_memory r) = early (early-at 70 0 refl refl r)
  list-cases late (AnswersList.listed records opened L) = late records opened L

  -- a scrub was refused, or ended
  pub scrub-cases : ((records : List Record) (how : Answer) (opened : IsOpened old records) →
      IsSynced old new → (left : ScrubbedAlone records how old new) →
      EndsByAnswer (scrub_text how) how old new end → P) → AnswersScrub old new end → P
  scrub-cases late (AnswersScrub.unstarted u) = early (unstarted-early u)
  scrub-cases late (AnswersScrub.no_memory records opened sync r) = early (early-at 70 0 refl refl r)
  scrub-cases late (AnswersScrub.ended records how opened sync heard runs left by) =
      late records how opened sync left by

  -- a pack was refused, or ended
  pub pack-cases : ((records : List Record) (how : Answer) (opened : IsOpened old records) →
      pack_refusal_over opened.area records ≡ None → PackedAlone opened.area records how old new →
      EndsByAnswer (pack_text how) how old new end → P) → AnswersPack old new end → P
  pack-cases late (AnswersPack.unstarted u) = early (unstarted-early u)
  pack-cases late (AnswersPack.refused records why opened is synced r) = early (early-why why r)
  pack-cases late (AnswersPack.no_memory records opened synced r) = early (early-at 70 0 refl refl r)
  pack-cases late (AnswersPack.ended records how opened none heard runs left by) =
      late records how opened none left by

  -- an init was refused, failed on the disk or for want of memory, or set the store up
  pub init-cases : {numbers : Numbers} →
      ((key : List ℕ) (status : ℕ) → (status ≡ 12) ⊎ (status ≡ 70) →
      FailsToInit status (setup_with numbers key) old new end → P) →
      ((key : List ℕ) → IsInitDone (setup_with numbers key) old new end → P) →
      AnswersInit numbers old new end → P
  init-cases fails done (AnswersInit.bad_setup bad same r) = early (early-at 20 0 refl refl r)
  init-cases fails done (AnswersInit.too_few_providers good few same r) = early (early-at 22 0 refl refl r)
  init-cases fails done (AnswersInit.source_fault good enough rose taken r) =
      early (early-at 14 0 refl refl r)
  init-cases fails done (AnswersInit.bad_key seen good enough read none r) = early (early-at 18 0 refl refl r)
  init-cases fails done (AnswersInit.no_memory taken r) = early (early-at 70 0 refl refl r)
  init-cases fails done (AnswersInit.keyed seen key good enough read form (InitsDisk.disk_fault rose F)) =
      fails key 12 (inl refl) F
  init-cases fails done (AnswersInit.keyed seen key good enough read form (InitsDisk.no_memory F)) =
      fails key 70 (inr refl) F
  init-cases fails done (AnswersInit.keyed seen key good enough read form (InitsDisk.bad_journal at is r)) =
      early (early-at 8 at refl refl r)
  init-cases fails done (AnswersInit.keyed seen key good enough read form (InitsDisk.already is r)) =
      early (early-at 10 0 refl refl r)
  init-cases fails done (AnswersInit.keyed seen key good enough read form (InitsDisk.ready R)) = done key R

  -- a command was refused, ended with a status of a job or with its source, or is one of a row
  pub command-cases : (EndStatus end.status → P) → ((end.status ≡ 14) ⊎ (end.status ≡ 16) → P) →
      ((n l b : ℕ) (seen : List (Option ℕ)) → Answers (RowOf n l b seen) old new end → P) →
      (command : Command) → Answers command old new end → P
  command-cases late stopped row (RowOf n l b seen) A = row n l b seen A
  command-cases late stopped row (InitWith numbers) A = init-cases (λ key status two F. elim two [
    | inl e ↦ late (EndStatus.by_disk (F.status_is ∙ e))
    | inr e ↦ late (EndStatus.by_memory (F.status_is ∙ e))
  ]) (λ key R. late (status-written _ old new end R.written)) A
  command-cases late stopped row (PutUnder name) A = put-cases {own = None}
      (λ records bytes opened known none stops left. stopped
      (elim stops.cause [ inl c ↦ inl c.0 | inr c ↦ inr c.0 ]))
      (λ records bytes opened known read few how none left whole by.
      late (status-ended _ how old new end by)) A
  command-cases late stopped row (PutAt name profile) A = put-cases {own = Some profile}
      (λ records bytes opened known none stops left. stopped
      (elim stops.cause [ inl c ↦ inl c.0 | inr c ↦ inr c.0 ]))
      (λ records bytes opened known read few how none left whole by.
      late (status-ended _ how old new end by)) A
  command-cases late stopped row ListAll A =
      list-cases (λ records opened L. late (status-written _ old new end L.written)) A.0
  command-cases late stopped row ScrubAll A =
      scrub-cases (λ records how opened synced left by. late (status-ended _ how old new end by)) A.0
  command-cases late stopped row PackJournal A =
      pack-cases (λ records how opened none left by. late (status-ended _ how old new end by)) A.0
  command-cases late stopped row command A =
      alone-cases (λ records opened how none left by. late (status-ended _ how old new end by)) A.0

-- ---- in order, and over a known store

-- a command that runs a job and ended early did so in order
pub alone-order : {kind : Kind} {old new : Seen} {end : Ending} {P : Type 0} (command : Command) →
    RunsKind command old new kind → profile_named command ≡ None → (EndsInOrder command old new end → P) →
    ((records : List Record) (opened : IsOpened old records) (how : Answer) →
    refusal_over opened.area records kind None ≡ None →
    (left : LeftAlone opened.area records kind None how old new end.heard) →
    EndsByAnswer (text_of (setup_in_effect records).tolerance kind how) how old new end → P) →
    AnswersAlone kind old new end → P
alone-order command runs named early late (AnswersAlone.unstarted u) = early (EndsInOrder.unstarted u)
alone-order {kind} command runs named early late (AnswersAlone.begun records opened (AnswersJob.refused why is synced r)) =
    early (EndsInOrder.refused records kind why opened runs
    (ap (refusal_over opened.area records kind) named ∙ is) r)
alone-order command runs named early late (AnswersAlone.begun records opened (AnswersJob.no_memory synced r)) =
    early (EndsInOrder.no_memory r.status_is)
alone-order command runs named early late (AnswersAlone.begun records opened (AnswersJob.ended how none ran left by)) =
    late records opened how none left by

-- over a known store a command that is not refused, with no fault of the disk, finds no memory or its job ends
pub alone-well : {kind : Kind} {old new : Seen} {end : Ending} {P : Type 0} (records : List Record)
    (K : IsKnown old records) → refusal_over K.opened.area records kind None ≡ None →
    (Rose old.disk_faults new.disk_faults → ⊥) → (IsRefused 70 0 old new end → P) →
    ((how : Answer) (left : LeftAlone K.opened.area records kind None how old new end.heard) →
    EndsByAnswer (text_of (setup_in_effect records).tolerance kind how) how old new end → P) →
    AnswersAlone kind old new end → P
alone-well {kind} {old} {new} {end} {P} records K begins disk memory late A =
    elim (alone-known kind old new end records K A) [
      | inl (inl (rose, r)) ↦ absurd (disk rose)
      | inl (inr r) ↦ memory r
      | inr job ↦ by-job job
    ]
  where
    by-job : AnswersJob kind None K.opened.area records old new end → P
    by-job (AnswersJob.refused why is synced r) = absurd (cc (sym begins ∙ is))
    by-job (AnswersJob.no_memory synced r) = memory r
    by-job (AnswersJob.ended how none runs left by) = late how left by
