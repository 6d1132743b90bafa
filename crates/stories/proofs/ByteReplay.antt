-- A replay that puts a file of one byte and gets it, over a store that was set up: its run is computed from
-- the turns of the two jobs.
use Rattle.stories.proofs.Words.{◌and◌, ◌∙◌, ℕ, List, [], ◌∷◌, ◌++◌, Some, None, refl, arith, lit≤, reverse, digits, carries, block_sized, symbols, own_work, byte_back, actions_of, Goes, Works, Came, Gives, put_begins, put-new, read, are-lines, byte, named, own_block, lines, IsSchedule, devices_of_seen, AnswersReplay, Replays, AreLeft, sinking, RunJob, byte_text, byte_front, byte_lines, byte_commands, before_byte, behind_byte, byte_heard, byte_end}
use Rattle.job_laws.proofs.BeginRefusals.{refusal-alone}
use Rattle.damage_run.specs.Words.{PutJob, GetJob, Put, Got, Begin, State, setup_in, Moment, Instruction, Turns, Begins}
use Rattle.stories.proofs.Behind.{AreFitBehind}
use Rattle.stories.proofs.Reopened as reopened
use Rattle.stories.proofs.Replayed as replayed

-- the text spells the commands
pub spelled : IsSchedule byte_text (reverse byte_commands)
unfolding read
spelled = are-lines (lines byte_text) (reverse byte_commands) refl

-- how the put goes, and the get
abbrev pub put : List Instruction
put = Turns 1 (Gives Put ∷ Goes 12 ∷ []) ∷ Begins (Begin (PutJob named byte)) ∷ []

-- a get as a job of this number, where all blocks are held
abbrev pub get_all : ℕ → List Instruction → List Instruction
get_all n is = Turns n (Gives (Got byte) ∷ Works symbols ∷ Came (Some (own_block 3)) ∷ Came (Some (own_block 2))
    ∷ Came (Some (own_block 1)) ∷ Came (Some (own_block 0)) ∷ []) ∷ Begins (Begin (GetJob named)) ∷ is

abbrev both : List Instruction
both = get_all 2 put

module _ (start : State) (before : List Moment) where
  abbrev opened : State
  opened = reopened.opened start before

  abbrev first : List Moment
  first = reopened.first start before

  pub fit-put : AreFitBehind start first put
  unfolding setup_in actions_of
  fit-put =
      ((omega arith, (assumption)), (((refl, refl), refl, refusal-alone opened (PutJob named byte) None ∙ put_begins), tt))

  fits : AreFitBehind start first both
  unfolding setup_in actions_of
  fits = (omega arith, assumption (byte_back, own_work, block_sized 3, block_sized 2, block_sized 1, block_sized 0))
      and (assumption) and fit-put

-- it goes so
goes : (start : State) (before : List Moment) → AreLeft start before (devices_of_seen before_byte) →
    replayed.Goes start before byte_commands byte_lines byte_heard behind_byte
unfolding setup_in actions_of digits
goes start before L = replayed.goes-so both byte_commands byte_lines byte_heard behind_byte start before L
    (fits start before) (carries (reopened.found start before) (replayed.alone-of both start before) refl) refl
    put-new.images refl refl refl refl

-- the replay of a text that puts a file of one byte and gets it
pub byte-run : (start : State) (before : List Moment) → AreLeft start before (devices_of_seen before_byte) →
    Replays start before (reverse byte_commands) 0 (sinking before_byte behind_byte) byte_heard
    (devices_of_seen behind_byte)
byte-run start before L = replayed.replayed byte_text byte_lines (RunJob 2) byte_front byte_heard behind_byte refl start before L
    (goes start before L)

-- the replay of a text that puts a file of one byte and gets it
pub byte-replayed : AnswersReplay before_byte behind_byte byte_end
byte-replayed = replayed.answers byte_text byte_lines (RunJob 2) byte_front byte_heard behind_byte refl spelled
    (record { are_bytes = refl; front = refl; few = lit≤ tt; end = λ l. refl }) (lit≤ tt) goes
