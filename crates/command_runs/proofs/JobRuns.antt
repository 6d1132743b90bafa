-- Gets, repairs, audits, an upgrade and a drop over the store with the file, from every state that was just
-- opened: done, cut off by a fault of the disk at their last move, failed at a store, and at a lost row.
use Rattle.command_runs.proofs.Words.{ℕ, List, [], ◌∷◌, Option, Some, None, refl, sym, inl, arith, none-lose, block_sized, symbols, own_work, byte_back, without_zero_give, without_two_give, right, same_first, no_answer, sums, judged, four, Drop, AuditStart, AuditDone, RepairDone, Version, spelling, actions_of, Got, Dropped, Audited, Repaired, Upgraded, Lost, ProviderFault, DiskFault, GetJob, DropJob, AuditJob, RepairJob, UpgradeJob, State, setup_in, counts, byte, ends, Turn, Goes, Works, Notes, Came, Heard, Gives, LosesOne, StoreFails, Cut, AreFitTurns, named, byte_records, dropped_records, byte_audited_records, byte_repaired_records, byte_upgraded_records, own_block, byte_kept, byte_upgraded, upgrade_cut, dropped, drop_cut, damaged, byte_audited, audit_cut, answers_heard, due, repaired, repair_cut, repair_failed, due_lost, repair_lost, mended, got, own_blocks_heard, robbed_later, got_later, later_heard, all_lost, found_lost, all_hidden, hidden_fetched, no_blocks, ends_at, ends_hearing, with_new}
use Rattle.command_runs.specs.Words.{A}
use Rattle.command_runs.proofs.Stores.{byte-fit, dropped-fit, audited-fit, repaired-fit, upgraded-fit, stored-sure, robbed-old, robbed_due-old, damaged-sure, due-sure, mended-sure, hidden, stands_for, sure}
use Rattle.command_runs.proofs.Made.{Run, before, ran, turn, next, behind}

-- a provider gives its own block
abbrev own : ℕ → Option (List ℕ)
own j = Some (own_block j)

-- what four fetches give, from provider 0 on
abbrev fetches : Option (List ℕ) → Option (List ℕ) → Option (List ℕ) → Option (List ℕ) → List Turn
fetches a b c d = Came d ∷ Came c ∷ Came b ∷ Came a ∷ []

-- ---- gets

-- over the mended store a get gives the byte, and has heard all own blocks
pub got-mended : Run A byte_repaired_records (GetJob named) (Got byte) mended got
    (ends_hearing 0 own_blocks_heard)
unfolding setup_in actions_of spelling
got-mended = ran byte_repaired_records (Works symbols ∷ fetches (own 0) (own 1) (own 2) (own 3))
    (Gives (Got byte)) mended-sure.known.opened (refl, refl, refl, refl, refl, refl, refl, (refl, refl))
    (stands_for repaired-fit) (record { written = inl (refl, refl); place = refl })
    (λ w n. turn own_work (turn (block_sized 3) (turn (block_sized 2)
    (turn (block_sized 1) (turn (block_sized 0) tt)))))
    (λ w n. (refl, (refl, byte_back))) (λ w n. refl) (λ w n. refl)

-- so it does where another provider has lost its block
pub got-robbed : Run A byte_records (GetJob named) (Got byte) robbed_later got_later
    (ends_hearing 0 later_heard)
unfolding setup_in actions_of spelling
got-robbed = ran byte_records (Works symbols ∷ fetches None (own 1) (own 2) (own 3)) (Gives (Got byte))
    (sure robbed_later byte_records byte-fit refl (omega arith)).known.opened
    (refl, refl, refl, refl, refl, refl, refl, (refl, refl)) (stands_for byte-fit)
    (record { written = inl (refl, refl); place = refl }) (λ w n. turn without_zero_give
    (turn (block_sized 3) (turn (block_sized 2) (turn (block_sized 1) (turn refl tt)))))
    (λ w n. (refl, (refl, byte_back))) (λ w n. refl) (λ w n. refl)

-- where all blocks are lost it finds a row lost, and has heard no block
pub got-lost : Run A byte_records (GetJob named) (Lost 0 0) all_lost found_lost (ends_hearing 4 no_blocks)
unfolding setup_in actions_of spelling
got-lost = ran byte_records (fetches None None None None) (LosesOne 0 0) robbed-old.known.opened
    (refl, refl, refl, refl, refl, refl, refl, (refl, refl)) (stands_for byte-fit)
    (record { status_is = refl; place = refl; sink = refl })
    (λ w n. turn refl (turn refl (turn refl (turn refl tt))))
    (λ w n. (refl, (refl, (refl, none-lose four.master)))) (λ w n. refl) (λ w n. refl)

-- so it may over devices that tell nothing
pub got-hidden : Run A byte_records (GetJob named) (Lost 0 0) all_hidden hidden_fetched
    (ends_hearing 4 no_blocks)
unfolding setup_in actions_of spelling
got-hidden = ran byte_records (fetches None None None None) (LosesOne 0 0) (hidden byte-fit (omega arith))
    (refl, refl, refl, refl, refl, refl, refl, (refl, refl)) tt
    (record { status_is = refl; place = refl; sink = refl }) (λ w n. turn tt (turn tt (turn tt (turn tt tt))))
    (λ w n. (refl, (refl, (refl, none-lose four.master)))) (λ w n. refl) (λ w n. refl)

-- ---- repairs

-- a repair fetches of each provider, and works
abbrev works : List Turn
works = Works symbols ∷ fetches (own 0) (own 1) None (own 3)

works-fit : (w : State) (n : ℕ) →
    AreFitTurns (with_new (before byte_audited_records due w) n RepairJob None) [] 1 works
unfolding setup_in actions_of
works-fit w n = turn without_two_give (turn (block_sized 3) (turn refl (turn (block_sized 1)
    (turn (block_sized 0) tt))))

-- it is done
pub repair : Run A byte_audited_records RepairJob (Repaired 1) due repaired (ends 0)
unfolding setup_in actions_of spelling
repair = ran byte_repaired_records (Goes 5 ∷ works) (Gives (Repaired 1)) due-sure.known.opened
    (refl, refl, refl, refl, refl, refl, tt, (refl, refl)) (stands_for repaired-fit)
    (record { written = inl (refl, refl); place = refl }) (λ w n. (refl, refl, works-fit w n))
    (λ w n. (refl, (refl, refl))) (λ w n. refl) (λ w n. refl)

-- a fault of the disk cuts it off
pub repair-cut : Run A byte_audited_records RepairJob DiskFault due repair_cut (ends 12)
unfolding setup_in actions_of spelling
repair-cut = ran byte_repaired_records (Goes 4 ∷ works) Cut due-sure.known.opened
    (refl, refl, refl, refl, refl, refl, tt, (refl, refl)) (stands_for repaired-fit)
    (record { status_is = refl; place = refl; sink = refl }) (λ w n. (refl, refl, works-fit w n))
    (λ w n. (refl, (refl, refl))) (λ w n. refl) (λ w n. behind (RepairDone 1) (next [] refl refl) refl)

-- its store on provider 2 fails
pub repair-failed : Run A byte_audited_records RepairJob (ProviderFault 2) due repair_failed (ends_at 13 2)
unfolding setup_in actions_of spelling
repair-failed = ran byte_audited_records works (StoreFails 2) due-sure.known.opened
    (refl, refl, refl, refl, refl, refl, tt, (refl, refl)) (stands_for audited-fit)
    (record { status_is = refl; place = refl; sink = refl }) works-fit
    (λ w n. (refl, (refl, refl))) (λ w n. refl) (λ w n. refl)

-- all blocks are lost, and it finds a row lost
pub repair-lost : Run A byte_audited_records RepairJob (Lost 0 0) due_lost repair_lost (ends 4)
unfolding setup_in actions_of spelling
repair-lost = ran byte_audited_records (fetches None None None None) (LosesOne 0 0)
    robbed_due-old.known.opened (refl, refl, refl, refl, refl, refl, tt, (refl, refl))
    (stands_for audited-fit) (record { status_is = refl; place = refl; sink = refl })
    (λ w n. turn refl (turn refl (turn refl (turn refl tt))))
    (λ w n. (refl, (refl, (refl, none-lose four.master)))) (λ w n. refl) (λ w n. refl)

-- ---- audits

-- the start of an audit comes into effect, it asks each provider, and it begins to append its counts
abbrev asks : List Turn
asks = Notes (AuditDone 1 0 counts) ∷ Heard (right 3) ∷ Heard None ∷ Heard (right 1) ∷ Heard (right 0)
    ∷ Goes 4 ∷ []

asks-fit : (w : State) (n : ℕ) →
    AreFitTurns (with_new (before byte_records damaged w) n AuditJob None) [] 1 asks
unfolding setup_in actions_of
asks-fit w n = (
  refl,
  (refl, (refl, (sums, (sums, (sums, judged, refl), refl), refl))),
  turn (same_first _ _ refl) (turn (sym (no_answer _ refl)) (turn (same_first _ _ refl)
      (turn (same_first _ _ refl) (refl, refl, tt)))),
)

-- it is done, and has heard the answers
pub audit : Run A byte_records AuditJob (Audited 1 0 counts) damaged byte_audited
    (ends_hearing 0 answers_heard)
unfolding setup_in actions_of spelling
audit = ran byte_audited_records (Goes 3 ∷ asks) (Gives (Audited 1 0 counts)) damaged-sure.known.opened
    (refl, refl, refl, refl, refl, refl, tt, (refl, refl)) (stands_for audited-fit)
    (record { written = inl (refl, refl); place = refl }) (λ w n. (refl, refl, asks-fit w n))
    (λ w n. (refl, (refl, (refl, (sums, (sums, judged, refl), refl))))) (λ w n. refl) (λ w n. refl)

-- a fault of the disk cuts it off
pub audit-cut : Run A byte_records AuditJob DiskFault damaged audit_cut (ends_hearing 12 answers_heard)
unfolding setup_in actions_of spelling
audit-cut = ran byte_audited_records (Goes 2 ∷ asks) Cut damaged-sure.known.opened
    (refl, refl, refl, refl, refl, refl, tt, (refl, refl)) (stands_for audited-fit)
    (record { status_is = refl; place = refl; sink = refl }) (λ w n. (refl, refl, asks-fit w n))
    (λ w n. (refl, (refl, refl))) (λ w n. refl)
    (λ w n. behind (AuditDone 1 0 counts) (0, counts, refl, next (AuditStart 1 ∷ []) refl refl) refl)

-- ---- an upgrade, and a drop

-- an upgrade is done
pub upgrade : Run A byte_records UpgradeJob Upgraded byte_kept byte_upgraded (ends 0)
unfolding setup_in actions_of spelling
upgrade = ran byte_upgraded_records (Goes 4 ∷ []) (Gives Upgraded) stored-sure.known.opened
    (refl, refl, refl, refl, refl, refl, tt, (refl, refl)) (stands_for upgraded-fit)
    (record { written = inl (refl, refl); place = refl }) (λ w n. (refl, refl, tt))
    (λ w n. (refl, (refl, tt))) (λ w n. refl) (λ w n. refl)

-- a fault of the disk cuts it off
pub upgrade-cut : Run A byte_records UpgradeJob DiskFault byte_kept upgrade_cut (ends 12)
unfolding setup_in actions_of spelling
upgrade-cut = ran byte_upgraded_records (Goes 3 ∷ []) Cut stored-sure.known.opened
    (refl, refl, refl, refl, refl, refl, tt, (refl, refl)) (stands_for upgraded-fit)
    (record { status_is = refl; place = refl; sink = refl }) (λ w n. (refl, refl, tt))
    (λ w n. (refl, (refl, refl))) (λ w n. refl) (λ w n. behind Version (next [] refl refl) refl)

-- a drop is done
pub drop : Run A byte_records (DropJob named) Dropped byte_kept dropped (ends 0)
unfolding setup_in actions_of spelling
drop = ran dropped_records (Goes 8 ∷ []) (Gives Dropped) stored-sure.known.opened
    (refl, refl, refl, refl, refl, refl, refl, (refl, refl)) (stands_for dropped-fit)
    (record { written = inl (refl, refl); place = refl }) (λ w n. (refl, refl, tt))
    (λ w n. (refl, (refl, tt))) (λ w n. refl) (λ w n. refl)

-- a fault of the disk cuts it off
pub drop-cut : Run A byte_records (DropJob named) DiskFault byte_kept drop_cut (ends 12)
unfolding setup_in actions_of spelling
drop-cut = ran dropped_records (Goes 3 ∷ []) Cut stored-sure.known.opened
    (refl, refl, refl, refl, refl, refl, refl, (refl, refl)) (stands_for dropped-fit)
    (record { status_is = refl; place = refl; sink = refl }) (λ w n. (refl, refl, tt))
    (λ w n. (refl, (refl, refl))) (λ w n. refl) (λ w n. behind (Drop named) (next [] refl refl) refl)
