-- Puts of one byte, from every state that was just opened; one leaves a disk whose last gate is loose.
use Rattle.command_runs.proofs.Words.{◌⊎◌, ℕ, true, List, [], ◌∷◌, ◌++◌, take, refl, ap, sym, subst, inl, inr, Some, None, arith, Cells, firm, Stopped, IsImage, PutDone, PutStart, spelling, magic, text, before_gate, IsSwitched, entries, StandsActive, PutJob, actions_of, Put, ProviderFault, DiskFault, Memory, setup_in, byte, other_name, Goes, Gives, StoreFails, Cut, started_records, byte_records, named, four_records, both_records, byte_upgraded_records, byte_own_records, to_put, byte_stored, put_failed, put_cut, put_torn, put_unmade, all_hidden, to_put_other, stored_other, to_put_own, stored_own, spelled, after_turns, PutRun, put-so, put-ends, alone-so, ends-by, next, behind}
use Rattle.std.proofs.lemmas.Bool.{false≢true}
use Rattle.device_defs.proofs.Lasting.{reads-firm}
use Rattle.device_defs.proofs.PickLaws.{IsImage-reads}
use Rattle.journal_core.proofs.CellLemmas.{IsImage-firm}
use Rattle.journal_core.proofs.ImageLemmas.{either-after}
use Rattle.command_runs.specs.Words.{A, MayName}
use Rattle.command_runs.proofs.Stores.{put_begins, started-fit, four-fit, byte-fit, both-fit, own-fit, put-old, hidden-fresh, to_put_other-sure, to_put_own-sure, stands_for}

-- the last record with its closed gate
abbrev last_entry : List ℕ
last_entry = spelling (PutDone 1 1) ++ 0 ∷ []

-- the disk
abbrev cells : Cells
cells = firm (before_gate started_records) ++ (1, true) ∷ firm last_entry

-- its front names the first area
switched : (image : List ℕ) → IsImage cells image → IsSwitched image A
unfolding spelling
switched image is = record {
  switch = 49;
  front = ap (take 8)
      (IsImage-firm magic (firm (entries started_records) ++ (1, true) ∷ firm last_entry) image is).1;
  names = refl;
}

-- each image of it stands for the records with the put's last one or without it
pub torn-image : (image : List ℕ) → IsImage cells image →
    StandsActive image A started_records ⊎ StandsActive image A byte_records
unfolding spelling
torn-image image is = elim (either-after A started_records (PutDone 1 1) started-fit.all refl 3 cells
    ([], refl) image is) [
      | inl h ↦ inl (record { active = switched image is; holds = h })
      | inr h ↦ inr (record { active = switched image is; holds = h })
    ]

-- any byte may stand there
gate-image : (a b : List ℕ) (g x : ℕ) → IsImage (firm a ++ (g, true) ∷ firm b) (a ++ x ∷ b)
gate-image [] b g x =
    (λ e. absurd (false≢true (sym e)), subst (IsImage (firm b)) (reads-firm b) (IsImage-reads (firm b)))
gate-image (y ∷ a) b g x = (λ e. refl, gate-image a b g x)

-- a stop may leave the gate closed
pub stopped-closed : Stopped cells (firm (before_gate started_records ++ 0 ∷ last_entry))
stopped-closed = (
  before_gate started_records ++ 0 ∷ last_entry,
  gate-image (before_gate started_records) last_entry 1 0,
  refl,
)

-- or open: the disk then reads the put's last record
pub stopped-open : Stopped cells (firm (text byte_records))
unfolding spelling
stopped-open = (text byte_records, gate-image (before_gate started_records) last_entry 1 1, refl)

-- a put is done
pub stored : PutRun A four_records named byte None Put to_put byte_stored 0
unfolding setup_in actions_of spelling
stored = put-so (MayName.none refl) byte_records (Goes 12 ∷ []) (Gives Put) refl put-old.known.opened
    (refl, refl, put_begins, (refl, refl), refl, refl, refl, refl, omega arith) (stands_for byte-fit)
    (record { written = inl (refl, refl); place = refl })
    (λ w n. (refl, refl, tt)) (λ w n. (refl, (refl, tt))) (λ w n. refl) (λ w n. refl)

-- its first store fails, at provider 0
pub failed : PutRun A four_records named byte None (ProviderFault 0) to_put put_failed 13
unfolding setup_in actions_of spelling
failed = put-so (MayName.none refl) started_records (Goes 4 ∷ []) (StoreFails 0) refl put-old.known.opened
    (refl, refl, put_begins, (refl, refl), refl, refl, refl, refl, omega arith) (stands_for started-fit)
    (record { status_is = refl; place = refl; sink = refl })
    (λ w n. (refl, refl, tt)) (λ w n. (refl, (refl, refl))) (λ w n. refl) (λ w n. refl)

-- a fault of the disk cuts it off at its last move
pub cut : PutRun A four_records named byte None DiskFault to_put put_cut 12
unfolding setup_in actions_of spelling
cut = put-so (MayName.none refl) byte_records (Goes 11 ∷ []) Cut refl put-old.known.opened
    (refl, refl, put_begins, (refl, refl), refl, refl, refl, refl, omega arith) (stands_for byte-fit)
    (record { status_is = refl; place = refl; sink = refl })
    (λ w n. (refl, refl, tt)) (λ w n. (refl, (refl, refl))) (λ w n. refl)
    (λ w n. behind (PutDone 1 1) (next (PutStart 1 named ∷ []) refl refl) refl)

-- so it is where it leaves the gate of its last record loose
pub torn : PutRun A four_records named byte None DiskFault to_put put_torn 12
unfolding setup_in actions_of spelling
torn = put-ends (MayName.none refl) put-old.known.opened (
  refl,
  refl,
  put_begins,
  (refl, refl),
  refl,
  refl,
  refl,
  refl,
  omega arith,
) (record { status_is = refl; place = refl; sink = refl })
    (alone-so A four_records (PutJob named byte) None DiskFault to_put put_torn [] (λ bytes. bytes)
    byte_records (Goes 11 ∷ []) _ (λ w V. refl) (refl, refl, put_begins, (refl, refl), MayName.none refl)
    (λ w n image is. elim (torn-image image is) [
      | inl h ↦ inl (inl h)
      | inr h ↦ inr (inl (record { doubt = _; in_doubt = refl; stands = h }))
    ]) (λ w n. (refl, refl, tt))
    (λ w n. ends-by (after_turns (spelled A four_records w.bytes to_put.providers w) n (PutJob named byte)
    None (Goes 11 ∷ [])) n Cut DiskFault refl (refl, (refl, refl))) (λ w n. refl)
    (λ w n. behind (PutDone 1 1) (next (PutStart 1 named ∷ []) refl refl) refl))

-- it finds no memory at its first move
pub unmade : PutRun A four_records named byte None Memory to_put put_unmade 70
unfolding setup_in actions_of spelling
unmade = put-ends (MayName.none refl) put-old.known.opened (
  refl,
  refl,
  put_begins,
  (refl, refl),
  refl,
  refl,
  refl,
  refl,
  omega arith,
) (record { status_is = refl; place = refl; sink = refl })
    (alone-so A four_records (PutJob named byte) None Memory to_put put_unmade [] (λ bytes. bytes)
    four_records [] _ (λ w V. refl) (refl, refl, put_begins, (refl, refl), MayName.none refl)
    (λ w n image is. inl (inl (stands_for four-fit image is))) (λ w n. tt) (λ w n. refl) (λ w n. refl)
    (λ w n. record { next = None; is_next = tt; same = refl }))

-- a put over devices that tell nothing
pub hidden : PutRun A four_records named byte None Put all_hidden all_hidden 0
unfolding setup_in actions_of spelling
hidden = put-so (MayName.none refl) byte_records (Goes 12 ∷ []) (Gives Put) refl hidden-fresh
    (refl, refl, put_begins, (refl, refl), refl, refl, refl, tt, omega arith) tt
    (record { written = inl (refl, refl); place = refl })
    (λ w n. (refl, refl, tt)) (λ w n. (refl, (refl, tt))) (λ w n. refl) (λ w n. refl)

-- a put of another file
pub other : PutRun A byte_records other_name byte None Put to_put_other stored_other 0
unfolding setup_in actions_of spelling
other = put-so (MayName.none refl) both_records (Goes 12 ∷ []) (Gives Put) refl to_put_other-sure.known.opened
    (refl, refl, refl, (refl, refl), refl, refl, refl, refl, omega arith) (stands_for both-fit)
    (record { written = inl (refl, refl); place = refl })
    (λ w n. (refl, refl, tt)) (λ w n. (refl, (refl, tt))) (λ w n. refl) (λ w n. refl)

-- a put of another file with a profile of its own, over the upgraded store
pub own : PutRun A byte_upgraded_records other_name byte (Some 1) Put to_put_own stored_own 0
unfolding setup_in actions_of spelling
own = put-so {own = Some 1} (MayName.put other_name byte refl) byte_own_records (Goes 12 ∷ []) (Gives Put) refl
    to_put_own-sure.known.opened (refl, refl, refl, (refl, refl), refl, refl, refl, refl, omega arith)
    (stands_for own-fit) (record { written = inl (refl, refl); place = refl })
    (λ w n. (refl, refl, tt)) (λ w n. (refl, (refl, tt))) (λ w n. refl) (λ w n. refl)
