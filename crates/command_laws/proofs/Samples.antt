-- Stores with no file or one empty file, and commands over them that run no job.
use Rattle.command_laws.proofs.Words.{◌≡◌, ℕ, ◌<◌, ◌≤◌, false, List, [], None, Some, Option, refl, ap, sym, subst, ◌∙◌, inl, inr, arith, cases_Bool, is_wrong, stripes, Cells, firm, synced, Rose, last_count, Record, text, files_of, file_as, is_start_of, A, Kind, Refusal, object_of, IsResynced, ListAll, PutAt, PackJournal, list_lines, IsOpened, setup_in_effect, AnswersPack, refusal_over, pack_refusal_over, status_of, Seen, IsRefused, IsSynced, SameSource, NoCountFalls, provider_at, AnswersJob, AnswersAlone, AnswersList, AnswersPut, Answers, AreSafe, IsSure, HasRightFile, is_wrong_at, store, small_setup, idle_providers, held_name, held_file, set_up_records, held_records, started_records, upgraded_records, own_records, audited_records, due_records, repaired_records, scrubbed_store, with_sink, ends, bad_seen, reads-firm, cond_true, cond_false, each-not-wrong, always, four}
use Rattle.device_defs.specs.Told.{Goes}
use Rattle.machine_defs.specs.Refusals as refusal
use Rattle.command_laws.proofs.FilesStay.{bad-few}
use Rattle.command_laws.proofs.SureStores.{AreFitIn, fits, sure}

-- ---- the stores

-- of a journal that holds these records
abbrev over : (rs : List Record) → AreFitIn A rs → (setup_in_effect rs).n ≤ 4 → IsSure (store rs) rs
over rs fit few = sure (store rs) rs fit refl few

-- that was set up
pub set_up-fit : AreFitIn A set_up_records
set_up-fit = fits refl (refl, tt) (omega arith)

abbrev pub set_up-sure : IsSure (store set_up_records) set_up_records
set_up-sure = over set_up_records set_up-fit (omega arith)

-- after the first record of the put
pub started-fit : AreFitIn A started_records
started-fit = fits refl (refl, set_up-fit.accepted) (omega arith)

-- with the empty file
pub held-fit : AreFitIn A held_records
held-fit = fits refl (refl, started-fit.accepted) (omega arith)

abbrev pub held-sure : IsSure (store held_records) held_records
held-sure = over held_records held-fit (omega arith)

-- whose journal has its second version
pub upgraded-fit : AreFitIn A upgraded_records
upgraded-fit = fits refl (refl, set_up-fit.accepted) (omega arith)

abbrev pub upgraded-sure : IsSure (store upgraded_records) upgraded_records
upgraded-sure = over upgraded_records upgraded-fit (omega arith)

-- with the file that has its own profile
pub own-fit : AreFitIn A own_records
own-fit = fits refl (refl, (refl, upgraded-fit.accepted)) (omega arith)

abbrev pub own-sure : IsSure (store own_records) own_records
own-sure = over own_records own-fit (omega arith)

-- after an audit of no file
pub audited-fit : AreFitIn A audited_records
audited-fit = fits refl (refl, (refl, set_up-fit.accepted)) (omega arith)

-- with a repair due, and after it
pub due-fit : AreFitIn A due_records
due-fit = fits refl (refl, (refl, set_up-fit.accepted)) (omega arith)

abbrev pub due-sure : IsSure (store due_records) due_records
due-sure = over due_records due-fit (omega arith)

pub repaired-fit : AreFitIn A repaired_records
repaired-fit = fits refl (refl, due-fit.accepted) (omega arith)

-- ---- the file

-- the file has no stripes
no-stripe : (t : ℕ) → t < stripes (object_of small_setup 1) 0 → ⊥
no-stripe t l = (let e : stripes (object_of small_setup 1) 0 ≡ 0 = refl in omega (arith, e, l))

right-at : (j : ℕ) → j < 4 → is_wrong_at held_records (store held_records) held_file [] j ≡ false
right-at = four _ (right 0) (right 1) (right 2) (right 3)
  where
    right : (j : ℕ) → is_wrong (object_of small_setup 1) [] j (λ stripe. None) ≡ false
    right j = each-not-wrong (object_of small_setup 1) [] j (λ stripe. None)
        (λ t within. absurd (no-stripe t within))

-- the empty file is in effect and right on every provider
pub held-file : HasRightFile (store held_records) held_records held_name [] (λ j. false)
held-file = record {
  file = file_as held_name 1 0 0;
  in_effect = refl;
  are_bytes = refl;
  size = refl;
  right = λ j below clean. right-at j below;
}

-- a count that stays, below its last value, did not rise
pub never-rises : (n : ℕ) → n < last_count → Rose n n → ⊥
never-rises n low rose = omega (arith, rose low)

never : Rose 0 0 → ⊥
never = never-rises 0 (omega arith)

-- no provider is wrong or failed: each is right, and none failed
pub none-bad : bad_seen held_records (store held_records) (store held_records) held_file
    [] ≤ (setup_in_effect held_records).b
unfolding held-file
none-bad = (within _ _ (bad-few held_name [] held_records (λ j. false) (store held_records)
    (store held_records) held-file (λ j below clean rose. no-rise j below rose)) (omega arith))
  where
    within : (a n : ℕ) → a ≤ n → n ≤ 1 → a ≤ 1
    within a n l m = omega (arith, l, m)

    no-rise : (j : ℕ) → j < 4 →
        Rose (provider_at idle_providers j).other_faults (provider_at idle_providers j).other_faults → ⊥
    no-rise = four _ never never never never

-- so it is of each file in effect
pub all-safe : AreSafe held_records (store held_records) scrubbed_store (λ id. [])
all-safe name file is = elim (cases_Bool (is_start_of name (Some held_name))) [
  | inl t ↦ (let e : Some (file_as name 1 0 0) ≡ Some file =
      sym (cond_true (is_start_of name (Some held_name)) (Some (file_as name 1 0 0)) None t) ∙ is in
      let f : file_as name 1 0 0 ≡ file = cc in
      subst (λ g. (0 ≡ g.size) × (bad_seen held_records (store held_records) scrubbed_store g []
      ≤ (setup_in_effect held_records).b)) f (refl, none-bad))
  | inr n ↦ absurd (let e : None ≡ Some file =
      sym (cond_false (is_start_of name (Some held_name)) (Some (file_as name 1 0 0)) None n) ∙ is in cc)
]

-- of providers that were not handed in no count rises either
pub never-seen : (j : ℕ) →
    Rose (provider_at idle_providers j).store_faults (provider_at idle_providers j).store_faults → ⊥
never-seen = always _ never never never never (λ j. never)

-- ---- commands over it

-- syncing a disk with nothing loose leaves it
pub same-disk : (rs : List Record) → Some (firm (text rs)) ≡ Some (synced (firm (text rs)))
same-disk rs = ap (λ bytes. Some (firm bytes)) (sym (reads-firm (text rs)))

keeps : (told : Option Cells) → Goes IsResynced told told
keeps None = tt
keeps (Some cells) = inl refl

-- a command that changes nothing ended without a word
pub quiet : {status at : ℕ} {old new : Seen} → new.disk ≡ old.disk → new.providers ≡ old.providers →
    new.sink ≡ old.sink → (status ≡ 70 → new.disk_faults ≡ old.disk_faults) →
    IsRefused status at old new (record { status = status; at = at; heard = [] })
quiet {old} disk providers sink no_fault = record {
  status_is = refl;
  place = refl;
  heard = refl;
  disk = subst (λ told. Goes IsResynced old.disk told) (sym disk) (keeps old.disk);
  providers = providers;
  sink = sink;
  no_fault = no_fault;
}

-- its begin was refused
pub refused : {kind : Kind} {s : Seen} {rs : List Record} (why : Refusal) → (opened : IsOpened s rs) →
    refusal_over opened.area rs kind None ≡ Some why → IsSynced s s →
    AnswersAlone kind s s (ends (status_of why)) × SameSource s s
refused {rs} why opened is synced =
    (AnswersAlone.begun rs opened (AnswersJob.refused why is synced (quiet refl refl refl (λ e. refl))), (refl, refl))

-- so was that of a pack
pub pack-refused : {s : Seen} {rs : List Record} (why : Refusal) → (opened : IsOpened s rs) →
    pack_refusal_over opened.area rs ≡ Some why → IsSynced s s →
    Answers PackJournal s s (ends (status_of why))
pack-refused {rs} why opened is synced =
    (AnswersPack.refused rs why opened is synced (quiet refl refl refl (λ e. refl)), (refl, refl))

-- a put with a profile of its own is refused in a journal of the first version
pub old-refused : Answers (PutAt held_name 1) (store set_up_records) (store set_up_records) (ends 23)
old-refused = AnswersPut.begun set_up_records [] set_up-sure.known.opened refl
    (record { are_bytes = refl; front = refl }) (omega arith)
    (AnswersJob.refused refusal.OldVersion refl (same-disk set_up_records) (quiet refl refl refl (λ e. refl)))
    (λ may. refl) (λ b. omega arith)

-- and so is one with a profile that there is none of
pub unknown-refused : Answers (PutAt held_name 5) (store set_up_records) (store set_up_records) (ends 20)
unknown-refused = AnswersPut.bad_profile set_up_records set_up-sure.known.opened refl
    (same-disk set_up_records) (refl, refl) (quiet refl refl refl (λ e. refl))

-- a list of the store with the empty file is done
pub listed : Answers ListAll (store held_records)
    (with_sink (store held_records) (list_lines (files_of held_records))) (ends 0)
listed = (
  AnswersList.listed held_records held-sure.known.opened (record {
    written = inl (refl, refl);
    place = refl;
    heard = refl;
    disk = same-disk held_records;
    providers = refl;
  }),
  (refl, refl),
)

-- over the store no count falls
pub none-fell : NoCountFalls (store held_records) (store held_records)
none-fell = record {
  disk = omega arith;
  handed = refl;
  stores = λ j. omega arith;
  others = λ j. omega arith;
  source = omega arith;
  sink = omega arith;
}
