-- The replay in which the journal gets its second version and is packed: its run is computed from the turns of its jobs.
use Rattle.stories.proofs.Words.{◌and◌, ◌≡◌, ◌^◌, ℕ, List, [], ◌∷◌, ◌++◌, length, refl, ◌∙◌, arith, lit≤, length-append, reverse, digits, drop_at, carries, block_sized, own_work, byte_back, B, actions_of, Goes, Gives, Moves, Tells, read, are-lines, StandsActive, spelling, lines, IsSchedule, AnswersReplay, RunJob, IsFilling, before_text, packed_front, packed_text, packed_lines, packed_commands, four_given, behind_packed, packed_end}
use Rattle.damage_run.specs.Words.{UpgradeJob, Upgraded, Begin, BeginPack, State, setup_in, Moment, Instruction, Turns, Sweeps, Begins}
use Rattle.command_runs.specs.Packed.{packed_records, named_second, second_text, in_second}
use Rattle.command_laws.proofs.SureStores.{stands}
use Rattle.stories.proofs.Behind.{AreFitBehind}
use Rattle.stories.proofs.ByteReplay.{put, get_all, fit-put}
use Rattle.stories.proofs.Reopened as reopened
use Rattle.stories.proofs.Replayed as replayed

-- the text spells the commands
pub spelled : IsSchedule packed_text (reverse packed_commands)
unfolding read
spelled = are-lines (lines packed_text) (reverse packed_commands) refl

-- the disk stands for the packed records, in its second area
second-stands : (filling : List ℕ) → IsFilling filling → StandsActive (in_second filling) B packed_records
unfolding spelling
second-stands filling fills = record {
  active = record { switch = 50; front = refl; names = refl };
  holds = record {
    in_grammar = refl;
    gate = 0;
    rest = [];
    closed = λ e. omega (arith, e);
    bytes_are = drop_at (named_second ++ filling) second_text (2 ^ 23) (length-append named_second filling
        ∙ (let l : length named_second ≡ 80 = refl in omega (arith, l, fills)));
  };
}

abbrev packed : List Instruction
packed = Sweeps 3 (Tells 80 81 ∷ Moves ∷ Moves ∷ Moves ∷ Moves ∷ []) ∷ Begins BeginPack
    ∷ Turns 2 (Gives Upgraded ∷ Goes 4 ∷ []) ∷ Begins (Begin UpgradeJob) ∷ put

abbrev got : List Instruction
got = get_all 4 packed

-- it can go so
fit-got : (start : State) (before : List Moment) → AreFitBehind start (reopened.first start before) got
unfolding setup_in actions_of
fit-got start before = (omega arith, assumption (byte_back, own_work, block_sized 3, block_sized 2, block_sized 1, block_sized 0))
    and (assumption) and (omega arith, (assumption)) and (assumption) and (omega arith, (assumption)) and (assumption)
    and fit-put start before

-- the replay
pub packed-replayed : (filling : List ℕ) → IsFilling filling →
    AnswersReplay (before_text packed_text) (behind_packed filling) packed_end
unfolding setup_in actions_of digits
packed-replayed filling fills = replayed.answers packed_text packed_lines (RunJob 4) packed_front (four_given 4)
    (behind_packed filling) refl spelled
    (record { are_bytes = refl; front = refl; few = lit≤ tt; end = λ l. refl }) (lit≤ tt)
    (λ start before L. replayed.goes-so got _ _ _ _ start before L (fit-got start before)
    (carries (reopened.found start before) (replayed.alone-of got start before) refl) refl
    (stands (in_second filling) (second-stands filling fills)) refl refl refl refl)
