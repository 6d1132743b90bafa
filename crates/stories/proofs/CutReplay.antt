-- The replay in which a stop cuts an audit: its run is computed from the turns of its jobs.
use Rattle.stories.proofs.Words.{◌and◌, ◌≡◌, ℕ, List, [], ◌∷◌, ◌++◌, refl, arith, lit≤, reverse, digits, carries, block_sized, own_work, byte_back, AuditStart, actions_of, Notes, put-new, read, are-lines, lines, IsSchedule, AnswersReplay, RunJob, before_text, cut_front, cut_text, cut_lines, cut_commands, four_given, behind_cut, cut_end}
use Rattle.damage_run.specs.Words.{AuditJob, Begin, State, setup_in, Moment, Instruction, Turned, Begins, Reopens, Stops}
use Rattle.stories.proofs.Behind.{AreFitBehind}
use Rattle.stories.proofs.ByteReplay.{put, get_all, fit-put}
use Rattle.stories.proofs.Reopened as reopened
use Rattle.stories.proofs.Replayed as replayed

abbrev cut : List Instruction
cut = Reopens ∷ Stops [] ∷ Turned 2 (Notes (AuditStart 1)) ∷ Begins (Begin AuditJob) ∷ put

abbrev got : List Instruction
got = get_all 3 cut

-- it can go so
fits : (start : State) (before : List Moment) → AreFitBehind start (reopened.first start before) got
unfolding setup_in actions_of
fits start before = (omega arith, assumption (byte_back, own_work, block_sized 3, block_sized 2, block_sized 1, block_sized 0))
    and (assumption) and (refl, refl) and refl and (omega arith, (assumption))
    and (assumption) and fit-put start before

-- the text spells the commands
pub spelled : IsSchedule cut_text (reverse cut_commands)
unfolding read
spelled = are-lines (lines cut_text) (reverse cut_commands) refl

-- the replay
pub cut-replayed : AnswersReplay (before_text cut_text) behind_cut cut_end
unfolding setup_in actions_of digits
cut-replayed = replayed.answers cut_text cut_lines (RunJob 3) cut_front (four_given 3) behind_cut refl spelled
    (record { are_bytes = refl; front = refl; few = lit≤ tt; end = λ l. refl }) (lit≤ tt)
    (λ start before L. replayed.goes-so got _ _ _ _ start before L (fits start before)
    (carries (reopened.found start before) (replayed.alone-of got start before) refl) refl
    put-new.images refl refl refl refl)
