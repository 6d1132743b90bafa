-- The replay in which a scrub mends a lost block: its run is computed from the turns of its jobs.
use Rattle.stories.proofs.Words.{◌and◌, ◌≡◌, ◌<◌, ◌^◌, ℕ, List, [], ◌∷◌, ◌++◌, Some, None, refl, arith, lit≤, reverse, digits, carries, block_sized, symbols, byte_back, Store, End, actions_of, Lose, Works, Came, Gives, Brings, Opens, Mends, Finds, lose, without_two_give, without_zero_give, finds, put-new, read, are-lines, byte, named, own_block, lines, IsSchedule, AnswersReplay, Once, RunJob, before_text, lost0, put_lost, swept_text, swept_lines, swept_commands, symbols_off, blocks_off, behind_swept, swept_end, three_given, done_by}
use Rattle.code_defs.proofs.Codewords.{differences-same}
use Rattle.damage_run.specs.Words.{GetJob, Got, Begin, BeginScrub, Replaced, State, setup_in, Moment, Instruction, Turns, Sweeps, Begins, Comes}
use Rattle.stories.proofs.Behind.{AreFitBehind}
use Rattle.stories.proofs.ByteReplay.{put, fit-put}
use Rattle.stories.proofs.Reopened as reopened
use Rattle.stories.proofs.Replayed as replayed

-- the text spells the commands
pub spelled : IsSchedule swept_text (reverse swept_commands)
unfolding read
spelled = are-lines (lines swept_text) (reverse swept_commands) refl

-- a block of provider 2 is lost behind the put
abbrev pub damaged : List Instruction
damaged = Comes (Lose 2 1 0) Replaced (lose 2) ∷ put

-- a get as a job of this number, behind the loss of a block of provider 0
abbrev pub get_lost : ℕ → List Instruction → List Instruction
get_lost n is = Turns n (Gives (Got byte) ∷ Works symbols ∷ Came (Some (own_block 3)) ∷ Came (Some (own_block 2))
    ∷ Came (Some (own_block 1)) ∷ Came None ∷ []) ∷ Begins (Begin (GetJob named))
    ∷ Comes (Lose 0 1 0) Replaced (lose 0) ∷ is

abbrev swept : List Instruction
swept = Sweeps 2 (Finds 1 symbols_off blocks_off ∷ Mends ∷ Opens symbols (Store 2 1 0 ∷ End ∷ [])
    ∷ Brings (Some (own_block 3)) ∷ Brings None ∷ Brings (Some (own_block 1)) ∷ Brings (Some (own_block 0)) ∷ [])
    ∷ Begins BeginScrub ∷ damaged

abbrev got : List Instruction
got = get_lost 3 swept

module _ (start : State) (before : List Moment) where
  abbrev first : List Moment
  first = reopened.first start before

  pub fit-damaged : AreFitBehind start first damaged
  unfolding setup_in actions_of
  fit-damaged = ((omega arith, (_, ((λ x. refl, λ x. refl), refl), refl)), fit-put start before)

  fit-swept : AreFitBehind start first swept
  unfolding setup_in actions_of
  fit-swept = (let f = finds (own_block 0) 0 (differences-same (own_block 0)) in (
    omega arith,
    (refl, (refl, (refl, f.1, f.2))) and (refl, (refl, tt)) and (refl, (refl, (without_two_give, f.0)))
        and (refl, (refl, block_sized 3)) and (refl, (refl, refl)) and (refl, (refl, block_sized 1))
        and (refl, (refl, block_sized 0)) and tt,
  ) and (tt, refl, refl) and fit-damaged)

  fits : AreFitBehind start first got
  unfolding setup_in actions_of
  fits = (omega arith, assumption (byte_back, without_zero_give, block_sized 3, block_sized 2, block_sized 1))
      and (assumption) and (omega arith, (_, ((λ x. refl, λ x. refl), refl), refl)) and fit-swept

-- the replay
pub swept-replayed : AnswersReplay (before_text swept_text) behind_swept swept_end
unfolding setup_in actions_of digits
swept-replayed = replayed.answers swept_text swept_lines (RunJob 3)
    (Once (Begin (GetJob named)) ∷ (lost0 ++ done_by BeginScrub 2 put_lost)) (three_given 3) behind_swept refl
    spelled (record { are_bytes = refl; front = refl; few = lit≤ tt; end = λ l. refl }) (lit≤ tt)
    (λ start before L. replayed.goes-so got _ _ _ _ start before L (fits start before)
    (carries (reopened.found start before) (replayed.alone-of got start before) refl) refl put-new.images refl refl refl refl)
