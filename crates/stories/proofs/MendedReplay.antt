-- The replay in which an audit flags a provider that lost its block, and a repair mends it: its run is computed from
-- the turns of its jobs.
use Rattle.stories.proofs.Words.{◌and◌, ◌≡◌, ℕ, true, String, Global, List, [], ◌∷◌, ◌++◌, Some, None, refl, sym, subst, inl, inr, arith, lit≤, reverse, digits, is_flagged, carries, block_sized, symbols, byte_back, counts, AuditStart, AuditDone, actions_of, Goes, Works, Notes, Came, Heard, Gives, few, without_two_give, without_zero_give, right, same_first, no_answer, sums, judged, mended-sure, read, are-lines, done_by, named, own_block, lines, IsSchedule, AnswersReplay, IsReplayForm, Once, RunJob, before_text, first_state, damaged2, lost0, audited_first, mended_text, mended_lines, mended_commands, mended_outcomes, mended_heard, behind_mended, mended_end, IsToldReplay}
use Rattle.algebra_laws.specs.Lists.{In}
use Rattle.damage_run.specs.Words.{GetJob, AuditJob, RepairJob, Audited, Repaired, Begin, State, setup_in, Moment, Instruction, Turns, Begins}
use Rattle.stories.proofs.Behind.{AreFitBehind}
use Rattle.stories.proofs.Reopened as reopened
use Rattle.stories.proofs.Replayed as replayed
use Rattle.stories.proofs.ToldBy.{told-by}
use Rattle.stories.proofs.SweptReplay.{damaged, fit-damaged, get_lost}

-- the text spells the commands
pub spelled : IsSchedule mended_text (reverse mended_commands)
unfolding read
spelled = are-lines (lines mended_text) (reverse mended_commands) refl

abbrev audited : List Instruction
audited = Turns 2 (Gives (Audited 1 0 counts) ∷ Goes 3 ∷ Notes (AuditDone 1 0 counts) ∷ Heard (right 3)
    ∷ Heard None ∷ Heard (right 1) ∷ Heard (right 0) ∷ Goes 3 ∷ Notes (AuditStart 1) ∷ [])
    ∷ Begins (Begin AuditJob) ∷ damaged

abbrev mended : List Instruction
mended = Turns 3 (Gives (Repaired 1) ∷ Goes 5 ∷ Works symbols ∷ Came (Some (own_block 3)) ∷ Came None
    ∷ Came (Some (own_block 1)) ∷ Came (Some (own_block 0)) ∷ []) ∷ Begins (Begin RepairJob) ∷ audited

abbrev got : List Instruction
got = get_lost 4 mended

module _ (start : State) (before : List Moment) where
  abbrev first : List Moment
  first = reopened.first start before

  fit-audited : AreFitBehind start first audited
  unfolding setup_in actions_of
  fit-audited = (
    omega arith,
    (refl, (refl, (refl, (sums, (sums, judged, refl), refl)))) and refl
        and (refl, (refl, (sums, (sums, (sums, judged, refl), refl), refl))) and (refl, (refl, same_first _ _ refl))
        and (refl, (refl, sym (no_answer _ refl))) and (refl, (refl, same_first _ _ refl))
        and (refl, (refl, same_first _ _ refl)) and refl and (assumption) and tt,
  )
      and (assumption) and fit-damaged start before

  fit-mended : AreFitBehind start first mended
  unfolding setup_in actions_of
  fit-mended = (omega arith, assumption (without_two_give, block_sized 3, block_sized 1, block_sized 0))
      and (assumption) and fit-audited

  fits : AreFitBehind start first got
  unfolding setup_in actions_of
  fits = (omega arith, assumption (byte_back, without_zero_give, block_sized 3, block_sized 2, block_sized 1))
      and (assumption) and (omega arith, (_, ((λ x. refl, λ x. refl), refl), refl)) and fit-mended

-- the replay
pub mended-replayed : AnswersReplay (before_text mended_text) behind_mended mended_end
unfolding setup_in actions_of digits
mended-replayed = replayed.answers mended_text mended_lines (RunJob 4)
    (Once (Begin (GetJob named)) ∷ (lost0 ++ done_by (Begin RepairJob) 3 audited_first)) mended_heard behind_mended
    refl spelled (record { are_bytes = refl; front = refl; few = lit≤ tt; end = λ l. refl }) (lit≤ tt)
    (λ start before L. replayed.goes-so got _ _ _ _ start before L (fits start before)
    (carries (reopened.found start before) (replayed.alone-of got start before) refl) refl mended-sure.images refl refl refl refl)

-- its text and what it wrote tell it
pub told : (words : List (String Global)) → IsReplayForm words →
    IsToldReplay words mended_text mended_commands mended_outcomes first_state [] (before_text mended_text)
    behind_mended mended_end
unfolding digits
told = told-by mended_text mended_commands mended_outcomes behind_mended mended_heard mended-replayed (assumption)
    spelled refl refl refl (tt and (omega arith) and tt and (omega arith) and (omega arith) and (omega arith)
    and (omega arith) and tt and tt and (omega arith) and tt and tt)

-- the audit flags provider 2
pub flags : (j : ℕ) → In j damaged2 → is_flagged 0 counts j ≡ true
flags j (inl is) = subst (λ j. is_flagged 0 counts j ≡ true) (sym is) refl
flags j (inr none) = absurd none
