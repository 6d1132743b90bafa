-- A get of the file over the store in which one block is lost, from every state that was just opened.
use Rattle.stories.proofs.Words.{[], ◌∷◌, Some, None, refl, inl, block_sized, symbols, byte_back, actions_of, Works, Came, Gives, without_two_give, byte-fit, stands_for, spelling, byte, named, byte_records, own_block, ends_hearing, damaged, damaged_got, three_heard}
use Rattle.damage_run.specs.Words.{GetJob, Got, setup_in}
use Rattle.command_runs.proofs.Made.{Run, ran, turn}
use Rattle.command_runs.proofs.Stores.{damaged-sure}
use Rattle.stories.specs.Words.{A}

-- it gives the byte, and has heard three own blocks
pub got : Run A byte_records (GetJob named) (Got byte) damaged damaged_got (ends_hearing 0 three_heard)
unfolding setup_in actions_of spelling
got = ran byte_records (Works symbols ∷ Came (Some (own_block 3)) ∷ Came None ∷ Came (Some (own_block 1))
    ∷ Came (Some (own_block 0)) ∷ []) (Gives (Got byte)) damaged-sure.known.opened
    (refl, refl, refl, refl, refl, refl, refl, (refl, refl)) (stands_for byte-fit)
    (record { written = inl (refl, refl); place = refl })
    (λ w n. turn without_two_give
    (turn (block_sized 3) (turn refl (turn (block_sized 1) (turn (block_sized 0) tt)))))
    (λ w n. (refl, (refl, byte_back))) (λ w n. refl) (λ w n. refl)
