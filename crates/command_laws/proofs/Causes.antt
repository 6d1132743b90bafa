-- A status of a fault comes only where the count of that device rose.
use Rattle.command_laws.proofs.Words.{◌≡◌, ℕ, ◌==◌, Bool, true, false, List, Option, refl, ap, sym, ◌∙◌, subst, inl, inr, arith, false≢true, not_two, Rose, Record, Area, Kind, PutJob, GetJob, DropJob, AuditJob, RepairJob, UpgradeJob, Answer, Refusal, Command, Numbers, PutUnder, WritesLine, Seen, Ending, provider_at, sinking, Unstarted, status_of, Ran, AnswersJob, EndsByAnswer, LeavesBy, LeftAlone, AnswersInit, InitsDisk, ScrubbedAlone, AnswersScrub, PackLeaves, AnswersPack, AnswersPut, AnswersAlone, AnswersList, Answers, FaultsHaveCauses, opens_store, rose-before}
use Rattle.std.specs.Prelude.{if◌then◌else◌}
use Rattle.machine_defs.specs.Answers as answer
use Rattle.machine_defs.specs.Refusals as refusal
use Rattle.command_laws.proofs.GetEnds.{ran_left}

-- a status of a fault
abbrev is_fault : ℕ → Bool
is_fault n = if n == 12 then true else if n == 13 then true else if n == 14 then true else n == 15

module _ (old new : Seen) (end : Ending) where
  not-fault : (n m : ℕ) → is_fault n ≡ false → is_fault m ≡ true → end.status ≡ n → end.status ≡ m → ⊥
  not-fault n m sound bad is also = false≢true (sym sound ∙ (ap is_fault (sym is ∙ also) ∙ bad))

  none-rose : (n : ℕ) → is_fault n ≡ false → end.status ≡ n → FaultsHaveCauses old new end
  none-rose n sound is = record {
    disk = λ e. absurd (not-fault n 12 sound refl is e);
    provider = λ e. absurd (not-fault n 13 sound refl is e);
    source = λ e. absurd (not-fault n 14 sound refl is e);
    sink = λ e. absurd (not-fault n 15 sound refl is e);
  }

  disk-rose : end.status ≡ 12 → Rose old.disk_faults new.disk_faults → FaultsHaveCauses old new end
  disk-rose is rose = record {
    disk = λ e. rose;
    provider = λ e. absurd (not_two end.status 12 13 is e (λ k. omega (arith, k)));
    source = λ e. absurd (not_two end.status 12 14 is e (λ k. omega (arith, k)));
    sink = λ e. absurd (not_two end.status 12 15 is e (λ k. omega (arith, k)));
  }

  provider-rose : end.status ≡ 13 →
      Rose (provider_at old.providers end.at).store_faults (provider_at new.providers end.at).store_faults →
      FaultsHaveCauses old new end
  provider-rose is rose = record {
    disk = λ e. absurd (not_two end.status 13 12 is e (λ k. omega (arith, k)));
    provider = λ e. rose;
    source = λ e. absurd (not_two end.status 13 14 is e (λ k. omega (arith, k)));
    sink = λ e. absurd (not_two end.status 13 15 is e (λ k. omega (arith, k)));
  }

  source-rose : end.status ≡ 14 → Rose old.source_faults new.source_faults → FaultsHaveCauses old new end
  source-rose is rose = record {
    disk = λ e. absurd (not_two end.status 14 12 is e (λ k. omega (arith, k)));
    provider = λ e. absurd (not_two end.status 14 13 is e (λ k. omega (arith, k)));
    source = λ e. rose;
    sink = λ e. absurd (not_two end.status 14 15 is e (λ k. omega (arith, k)));
  }

  sink-rose : end.status ≡ 15 → Rose old.sink_faults new.sink_faults → FaultsHaveCauses old new end
  sink-rose is rose = record {
    disk = λ e. absurd (not_two end.status 15 12 is e (λ k. omega (arith, k)));
    provider = λ e. absurd (not_two end.status 15 13 is e (λ k. omega (arith, k)));
    source = λ e. absurd (not_two end.status 15 14 is e (λ k. omega (arith, k)));
    sink = λ e. rose;
  }

  written-causes : (text : List ℕ) → WritesLine text end.status (sinking old new) →
      FaultsHaveCauses old new end
  written-causes text (inl w) = none-rose 0 refl w.0
  written-causes text (inr (inl w)) = sink-rose w.1 w.2
  written-causes text (inr (inr w)) = none-rose 70 refl w.0

  unstarted-causes : Unstarted old new end → FaultsHaveCauses old new end
  unstarted-causes (Unstarted.disk_fault rose r) = disk-rose r.status_is rose
  unstarted-causes (Unstarted.not_set_up is sync r) = none-rose 9 refl r.status_is
  unstarted-causes (Unstarted.bad_journal at is r) = none-rose 8 refl r.status_is
  unstarted-causes (Unstarted.too_few_providers area records read few synced r) =
      none-rose 22 refl r.status_is
  unstarted-causes (Unstarted.no_memory r) = none-rose 70 refl r.status_is

  refused-none : (why : Refusal) → is_fault (status_of why) ≡ false
  refused-none refusal.NoSuchName = refl
  refused-none why = refl

  -- what a job left that ended in a fault
  disk-by : (x : Ran) (kind : Kind) (own : Option ℕ) → LeavesBy x kind own answer.DiskFault →
      Rose x.disk_before x.disk_after
  disk-by x (GetJob name) own L = absurd L.gives
  disk-by x AuditJob own L = L.gives.0
  disk-by x RepairJob own L = L.0.gives.0
  disk-by x _ own L = L.0.0

  provider-by : (x : Ran) (kind : Kind) (own : Option ℕ) (j : ℕ) →
      LeavesBy x kind own (answer.ProviderFault j) → Rose (x.old j).store_faults (x.new j).store_faults
  provider-by x (PutJob name bytes) own j L = L.0.1
  provider-by x (GetJob name) own j L = absurd L.gives
  provider-by x (DropJob name) own j L = absurd L.0
  provider-by x AuditJob own j L = absurd L.gives
  provider-by x RepairJob own j L = L.0.gives.2
  provider-by x UpgradeJob own j L = absurd L.0

  ended-causes : {area : Area} (kind : Kind) (own : Option ℕ) (records : List Record) (text : List ℕ)
      (how : Answer) → LeftAlone area records kind own how old new end.heard →
      EndsByAnswer text how old new end → FaultsHaveCauses old new end
  ended-causes kind own records text (answer.Lost stripe row) left by = none-rose 4 refl by.status_is
  ended-causes kind own records text (answer.ProviderFault j) left by = provider-rose by.status_is
      (subst (λ k. Rose (provider_at old.providers k).store_faults (provider_at new.providers k).store_faults)
      (sym by.place) (provider-by (ran_left records kind (answer.ProviderFault j) old new end.heard left) kind
      own j left.leaves.by_kind))
  ended-causes kind own records text answer.DiskFault left by = disk-rose by.status_is
      (rose-before old.disk_faults left.faults new.disk_faults left.before left.leaves.counts.disk
      (disk-by (ran_left records kind answer.DiskFault old new end.heard left) kind own left.leaves.by_kind))
  ended-causes kind own records text answer.Memory left by = none-rose 70 refl by.status_is
  ended-causes kind own records text how left by = written-causes text by.written

  job-causes : {area : Area} (kind : Kind) (records : List Record) {own : Option ℕ} →
      AnswersJob kind own area records old new end → FaultsHaveCauses old new end
  job-causes kind records (AnswersJob.refused why is synced r) =
      none-rose (status_of why) (refused-none why) r.status_is
  job-causes kind records (AnswersJob.no_memory synced r) = none-rose 70 refl r.status_is
  job-causes kind records (AnswersJob.ended how none runs left by) = ended-causes kind _ records _ how left by

  put-causes : (name : List ℕ) {own : Option ℕ} → AnswersPut name own old new end →
      FaultsHaveCauses old new end
  put-causes name (AnswersPut.unstarted u same) = unstarted-causes u
  put-causes name (AnswersPut.source_fault records opened known rose synced taken r) =
      source-rose r.status_is rose
  put-causes name (AnswersPut.bad_profile records opened unknown synced same r) =
      none-rose 20 refl r.status_is
  put-causes name (AnswersPut.no_memory taken r) = none-rose 70 refl r.status_is
  put-causes name (AnswersPut.begun records bytes opened known read few A whole one) = job-causes _ records A
  put-causes name (AnswersPut.given_up records bytes opened known none stops runs left) = elim stops.cause [
    | inl c ↦ source-rose c.0 c.2
    | inr c ↦ none-rose 16 refl c.0
  ]

  alone-causes : (kind : Kind) → AnswersAlone kind old new end → FaultsHaveCauses old new end
  alone-causes kind (AnswersAlone.unstarted u) = unstarted-causes u
  alone-causes kind (AnswersAlone.begun records opened A) = job-causes kind records A

  list-causes : AnswersList old new end → FaultsHaveCauses old new end
  list-causes (AnswersList.unstarted u) = unstarted-causes u
  list-causes (AnswersList.no_memory r) = none-rose 70 refl r.status_is
  list-causes (AnswersList.listed records opened L) = written-causes _ L.written

  scrub-by : (records : List Record) (text : List ℕ) (how : Answer) → ScrubbedAlone records how old new →
      EndsByAnswer text how old new end → FaultsHaveCauses old new end
  scrub-by records text (answer.Lost stripe row) left by = none-rose 4 refl by.status_is
  scrub-by records text (answer.ProviderFault j) left by =
      provider-rose by.status_is (rw (← by.place) at left.leaves.gives.1)
  scrub-by records text answer.Memory left by = none-rose 70 refl by.status_is
  scrub-by records text (answer.Scrubbed stripes symbols blocks) left by = written-causes text by.written
  scrub-by records text how left by = absurd left.leaves.gives

  scrub-causes : AnswersScrub old new end → FaultsHaveCauses old new end
  scrub-causes (AnswersScrub.unstarted u) = unstarted-causes u
  scrub-causes (AnswersScrub.no_memory records opened synced r) = none-rose 70 refl r.status_is
  scrub-causes (AnswersScrub.ended records how opened synced heard runs left by) =
      scrub-by records _ how left by

  pack-by : (area : Area) (records : List Record) (text : List ℕ) (how : Answer) →
      PackLeaves area records how old new → EndsByAnswer text how old new end → FaultsHaveCauses old new end
  pack-by area records text (answer.Packed before after) L by = written-causes text by.written
  pack-by area records text answer.DiskFault L by = disk-rose by.status_is L.0
  pack-by area records text answer.Memory L by = none-rose 70 refl by.status_is
  pack-by area records text how L by = absurd L

  pack-causes : AnswersPack old new end → FaultsHaveCauses old new end
  pack-causes (AnswersPack.unstarted u) = unstarted-causes u
  pack-causes (AnswersPack.refused records why opened is synced r) =
      none-rose (status_of why) (refused-none why) r.status_is
  pack-causes (AnswersPack.no_memory records opened synced r) = none-rose 70 refl r.status_is
  pack-causes (AnswersPack.ended records how opened none heard runs left by) =
      pack-by opened.area records _ how left.leaves by

  -- an init ends with a status of a fault only where the count of that device rose
  pub init-causes : (numbers : Numbers) → AnswersInit numbers old new end → FaultsHaveCauses old new end
  init-causes numbers (AnswersInit.bad_setup bad same r) = none-rose 20 refl r.status_is
  init-causes numbers (AnswersInit.too_few_providers good few same r) = none-rose 22 refl r.status_is
  init-causes numbers (AnswersInit.source_fault good enough rose taken r) = source-rose r.status_is rose
  init-causes numbers (AnswersInit.bad_key bytes good enough read bad r) = none-rose 18 refl r.status_is
  init-causes numbers (AnswersInit.keyed bytes key good enough read form (InitsDisk.disk_fault rose F)) =
      disk-rose F.status_is rose
  init-causes numbers (AnswersInit.keyed bytes key good enough read form (InitsDisk.bad_journal at is r)) =
      none-rose 8 refl r.status_is
  init-causes numbers (AnswersInit.keyed bytes key good enough read form (InitsDisk.already is r)) =
      none-rose 10 refl r.status_is
  init-causes numbers (AnswersInit.keyed bytes key good enough read form (InitsDisk.no_memory F)) =
      none-rose 70 refl F.status_is
  init-causes numbers (AnswersInit.keyed bytes key good enough read form (InitsDisk.ready R)) =
      written-causes _ R.written
  init-causes numbers (AnswersInit.no_memory taken r) = none-rose 70 refl r.status_is

  -- a command that looks at a store ends with a status of a fault only where that count rose
  pub store-causes : (command : Command) → Answers command old new end → opens_store command ≡ true →
      FaultsHaveCauses old new end
  store-causes (PutUnder name) A opens = put-causes name A
  store-causes command A opens =
      first_of (cc, search (put-causes, alone-causes, list-causes, scrub-causes, pack-causes))
