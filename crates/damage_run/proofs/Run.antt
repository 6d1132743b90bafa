-- The run, computed from its instructions, and what its schedule writes. What proofs of runs cite is passed
-- on.
use Rattle.std.proofs.Common.{◌≡◌, ℕ, ◌<◌, ◌^◌, List, [], ◌∷◌, Some, None, option_map, refl, sym, arith}
use Rattle.std.specs.Fmt.{digits}
use Rattle.machine_defs.specs.Transcripts.{CarriesOut}
use Rattle.made_runs.specs.Steps.{called}
pub use Rattle.made_runs.proofs.Instructions.{are-run}
pub use Rattle.run_laws.proofs.FirstHalf.{first_run}
use Rattle.made_runs.proofs.Written.{carries}
pub use Rattle.second_half_laws.proofs.ByteSteps.{block_sized, block, symbols, byte_back, own_work}
pub use Rattle.second_half_laws.proofs.ByteTold.{starts}
use Rattle.damage_run.specs.Words.{AuditStart, AuditDone, sized, PutJob, GetJob, AuditJob, RepairJob, actions_of, Put, Got, Audited, Repaired, Begin, Lose, Replaced, State, setup_in, Moment, IsRun, set_up, Goes, Works, Notes, Came, Heard, Gives, Instruction, Turned, Turns, Begins, Reopens, Comes, run_of, AreFit, without_block}
use Rattle.damage_run.specs.Schedule.{name, byte, schedule, written_lines}
use Rattle.damage_run.specs.Points.{counts}
use Rattle.damage_run.proofs.Values.{without_two_give, without_zero_give, right, same_first, no_answer, sums, judged}

-- the file's block of a provider is lost
abbrev pub lose : ℕ → State → State
lose j w = called w j (record (w.providers j) { held = option_map (without_block 1 0) (w.providers j).held })

-- a put
abbrev pub put : List Instruction
put = Turns 1 (Gives Put ∷ Goes 12 ∷ []) ∷ Begins (Begin (PutJob name byte)) ∷ Reopens ∷ []

-- a get begins and makes its fetches, and a block is lost
abbrev pub damaged : List Instruction
damaged = Comes (Lose 2 1 0) Replaced (lose 2) ∷ Turned 2 (Came (Some (block 3)))
    ∷ Turned 2 (Came (Some (block 2))) ∷ Turned 2 (Came (Some (block 1))) ∷ Turned 2 (Came (Some (block 0)))
    ∷ Begins (Begin (GetJob name)) ∷ put

-- an audit begins, and the get ends beside it
abbrev pub read : List Instruction
read = Turns 2 (Gives (Got byte) ∷ Works symbols ∷ [])
    ∷ Turned 3 (Notes (AuditStart 1)) ∷ Begins (Begin AuditJob) ∷ damaged

-- the audit goes on to its end
abbrev pub audited : List Instruction
audited = Turns 3 (Gives (Audited 1 0 counts) ∷ Goes 3 ∷ Notes (AuditDone 1 0 counts) ∷ Heard (right 3)
    ∷ Heard None ∷ Heard (right 1) ∷ Heard (right 0) ∷ Goes 3 ∷ []) ∷ read

-- a repair
abbrev pub repaired : List Instruction
repaired = Turns 4 (Gives (Repaired 1) ∷ Goes 5 ∷ Works symbols ∷ Came (Some (block 3)) ∷ Came None
    ∷ Came (Some (block 1)) ∷ Came (Some (block 0)) ∷ []) ∷ Begins (Begin RepairJob) ∷ audited

-- another block is lost, and another get
abbrev pub got_again : List Instruction
got_again = Turns 5 (Gives (Got byte) ∷ Works symbols ∷ Came (Some (block 3)) ∷ Came (Some (block 2))
    ∷ Came (Some (block 1)) ∷ Came None ∷ []) ∷ Begins (Begin (GetJob name))
    ∷ Comes (Lose 0 1 0) Replaced (lose 0) ∷ repaired

-- a number of a job fits its type
pub few : (1 < 2 ^ 32) × (2 < 2 ^ 32) × (3 < 2 ^ 32) × (4 < 2 ^ 32) × (5 < 2 ^ 32)
    × (6 < 2 ^ 32) × (7 < 2 ^ 32)
few = omega arith

-- so does each block of the byte its size
pub sizes : (Some (block 0) ≡ sized 6 (Some (block 0))) × (Some (block 1) ≡ sized 6 (Some (block 1)))
    × (Some (block 2) ≡ sized 6 (Some (block 2))) × (Some (block 3) ≡ sized 6 (Some (block 3)))
sizes = (block_sized 0, block_sized 1, block_sized 2, block_sized 3)

-- two facts, one behind the other
infixr 4 ◌and◌
pub ◌and◌ : {A B : Type 0} → A → B → A × B
◌and◌ a b = (a, b)

-- they can be carried out
fit_damaged : AreFit 8 set_up damaged
unfolding setup_in actions_of
fit_damaged = (omega arith, (_, ((λ x. refl, λ x. refl), refl), refl)) and assumption (few, sizes)

pub fit_read : AreFit 8 set_up read
unfolding setup_in actions_of
fit_read = assumption (few, byte_back, own_work) and assumption few and (assumption) and fit_damaged

fit_audited : AreFit 8 set_up audited
unfolding setup_in actions_of
fit_audited = (omega arith and (refl, (refl, (refl, (sums, (sums, judged, refl), refl)))) and refl and
    (refl, (refl, (sums, (sums, (sums, judged, refl), refl), refl))) and (refl, (refl, same_first _ _ refl))
    and (refl, (refl, sym (no_answer _ refl))) and (refl, (refl, same_first _ _ refl)) and
    (refl, (refl, same_first _ _ refl)) and refl and tt) and fit_read

pub fit_repaired : AreFit 8 set_up repaired
unfolding setup_in actions_of
fit_repaired = assumption (few, sizes, without_two_give) and (assumption) and fit_audited

pub fit : AreFit 8 set_up got_again
unfolding setup_in actions_of
fit = assumption (few, sizes, byte_back, without_zero_give) and (assumption)
    and (omega arith, (_, ((λ x. refl, λ x. refl), refl), refl)) and fit_repaired

-- the run
abbrev pub moments : List Moment
moments = run_of set_up got_again

-- the moments are a run, at limit 8
pub is_run : IsRun 8 set_up moments
is_run = are-run 8 set_up got_again fit

-- they carry out the schedule, and write its lines
pub writes : CarriesOut schedule moments written_lines
unfolding setup_in actions_of digits
writes = carries set_up got_again refl
