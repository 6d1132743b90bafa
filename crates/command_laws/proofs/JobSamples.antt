-- Commands over the sample stores that run a job, given by its turns from every state that was just opened.
use Rattle.command_laws.proofs.Words.{◌≡◌, ℕ, ◌==◌, List, [], ◌∷◌, length, None, Some, refl, inl, arith, Sums, Provider, AuditDone, A, spelling, actions_of, Put, Got, Audited, Repaired, Upgraded, PutJob, GetJob, AuditJob, RepairJob, UpgradeJob, State, setup_in, IsJustOpened, MayName, AnswersPut, Answers, PutUnder, PartRuns, refusal_over, store, small_setup, idle_provider, held_name, held_file, set_up_records, held_records, upgraded_records, own_records, no_counts, audited_records, due_records, repaired_records, put_store, given_up_store, own_store, audited_store, repaired_store, upgraded_store, ends, get_held, get_other, IsLater, IsChain, part-left, bytes_at-same, file-long, Run, PutRun, ran-over, ran-plain, put-so, part-so}
use Rattle.std.proofs.Common.{if◌then◌else◌}
use Rattle.made_runs.specs.Turns.{Notes, Gives}
use Rattle.machine_defs.specs.Refusals as refusal
use Rattle.made_runs.specs.Turns.{Goes}
use Rattle.command_laws.proofs.Chains.{first-begins}
use Rattle.command_laws.proofs.SureStores.{stands_for}
use Rattle.command_laws.proofs.Samples.{set_up-sure, started-fit, held-fit, held-sure, upgraded-fit, upgraded-sure, own-fit, audited-fit, due-sure, repaired-fit, none-fell, same-disk, refused}

-- ---- a get

-- object 1 stands for no bytes
abbrev pub no_bytes : (ℕ → List ℕ) → ℕ → List ℕ
no_bytes bytes id = if id == 1 then [] else bytes id

-- so it does over the store with the file
pub no_bytes-is : (w : State) {ps : List Provider} → IsJustOpened w A held_records 1 0 ps →
    no_bytes w.bytes ≡ w.bytes
no_bytes-is w V = bytes_at-same w.bytes 1 [] (none (w.bytes 1)
    (file-long A held_records held_name held_file w refl V))
  where
    none : (xs : List ℕ) → length xs ≡ 0 → [] ≡ xs
    none [] h = refl
    none (x ∷ xs) h = absurd (omega (arith, h))

-- of the empty file
pub got : Run A held_records (GetJob held_name) (Got []) (store held_records) (store held_records) (ends 0)
unfolding setup_in actions_of
got = ran-over no_bytes held_records [] (Gives (Got [])) held-sure.known.opened
    (refl, refl, refl, refl, refl, refl, (refl, refl)) (λ w V. no_bytes-is w V) (stands_for held-fit)
    (record { written = inl (refl, refl); place = refl })
    (λ w n. tt) (λ w n. (refl, (refl, refl))) (λ w n. refl) (λ w n. refl)

-- a get of the file, and one of a name that has none, are a chain of commands
pub chained : IsChain (store held_records) (get_held ∷ get_other ∷ [])
chained = (
  later,
  record { opens = refl; spelled = refl; answers = got.answers; counts = none-fell },
  (
    later,
    record {
      opens = refl;
      spelled = refl;
      answers = refused refusal.NoSuchName held-sure.known.opened refl (same-disk held_records);
      counts = none-fell;
    },
    tt,
  ),
)
  where
    later : IsLater (store held_records) (store held_records)
    later = record { disk = inl refl; faults = refl; events = []; replaced = refl }

-- ---- puts of the empty file

begins : refusal_over A set_up_records (PutJob held_name []) None ≡ None
begins = first-begins A small_setup held_name [] refl (omega arith)

-- one is done
pub stored : PutRun A set_up_records held_name [] None Put (store set_up_records) put_store 0
unfolding setup_in actions_of spelling
stored = put-so (MayName.none refl) held_records (Goes 8 ∷ []) (Gives Put) refl set_up-sure.known.opened
    (refl, refl, begins, (refl, refl), refl, refl, refl, refl, omega arith) (stands_for held-fit)
    (record { written = inl (refl, refl); place = refl })
    (λ w n. (refl, refl, tt)) (λ w n. (refl, (refl, tt))) (λ w n. refl) (λ w n. refl)

-- so is one with a profile of its own
pub own : PutRun A upgraded_records held_name [] (Some 1) Put (store upgraded_records) own_store 0
unfolding setup_in actions_of spelling
own = put-so {own = Some 1} (MayName.put held_name [] refl) own_records (Goes 8 ∷ []) (Gives Put) refl
    upgraded-sure.known.opened (refl, refl, refl, (refl, refl), refl, refl, refl, refl, omega arith)
    (stands_for own-fit) (record { written = inl (refl, refl); place = refl })
    (λ w n. (refl, refl, tt)) (λ w n. (refl, (refl, tt))) (λ w n. refl) (λ w n. refl)

-- one of which a read failed once its start was in effect is given up
part-runs : PartRuns A set_up_records held_name [] None (store set_up_records) given_up_store
unfolding spelling
part-runs = part-so 2 2 [] idle_provider (store set_up_records) given_up_store
    (refl, refl, refl, refl, begins, (refl, refl), refl) (stands_for started-fit)

pub given-up : Answers (PutUnder held_name) (store set_up_records) given_up_store (ends 14)
given-up = AnswersPut.given_up set_up_records [] set_up-sure.known.opened refl begins (record {
  read = [];
  are_bytes = refl;
  front = refl;
  stripes = 0;
  bytes_are = refl;
  whole = refl;
  rest = omega arith;
  cause = inl (refl, omega arith, omega arith);
  place = refl;
  heard = refl;
  sink = refl;
})
    part-runs
    (part-left set_up_records held_name [] None (store set_up_records) given_up_store
    set_up-sure.known.opened (refl, refl) (MayName.none refl) refl part-runs)

-- ---- an audit, a repair and an upgrade

-- an audit of no file counts nothing
abbrev none : Sums
none = record { counts = no_counts; undecided = 0 }

-- it is done
pub audit : Run A set_up_records AuditJob (Audited 1 0 no_counts) (store set_up_records) audited_store (ends 0)
unfolding setup_in actions_of spelling
audit = ran-plain audited_records (Goes 3 ∷ Notes (AuditDone 1 0 no_counts) ∷ Goes 4 ∷ [])
    (Gives (Audited 1 0 no_counts)) set_up-sure.known.opened (refl, refl, refl, refl, refl, tt, (refl, refl))
    (stands_for audited-fit) (record { written = inl (refl, refl); place = refl })
    (λ w n. (refl, refl, (refl, (refl, (refl, (none, refl, refl))), (refl, refl, tt))))
    (λ w n. (refl, (refl, (refl, refl)))) (λ w n. refl) (λ w n. refl)

-- so is a repair that was due
pub repair : Run A due_records RepairJob (Repaired 1) (store due_records) repaired_store (ends 0)
unfolding setup_in actions_of spelling
repair = ran-plain repaired_records (Goes 4 ∷ []) (Gives (Repaired 1)) due-sure.known.opened
    (refl, refl, refl, refl, refl, tt, (refl, refl)) (stands_for repaired-fit)
    (record { written = inl (refl, refl); place = refl })
    (λ w n. (refl, refl, tt)) (λ w n. (refl, (refl, refl))) (λ w n. refl) (λ w n. refl)

-- so is an upgrade
pub upgrade : Run A set_up_records UpgradeJob Upgraded (store set_up_records) upgraded_store (ends 0)
unfolding setup_in actions_of spelling
upgrade = ran-plain upgraded_records (Goes 4 ∷ []) (Gives Upgraded) set_up-sure.known.opened
    (refl, refl, refl, refl, refl, tt, (refl, refl)) (stands_for upgraded-fit)
    (record { written = inl (refl, refl); place = refl })
    (λ w n. (refl, refl, tt)) (λ w n. (refl, (refl, tt))) (λ w n. refl) (λ w n. refl)
