-- The states and steps of a put of one byte.
use Rattle.std.specs.Prelude.{[], ◌∷◌}
use Rattle.machine_defs.proofs.Words.{PutStart, PutDone, PutJob, State, begun_append, done_append, set_up}
use Rattle.machine_defs.specs.States.{ended}
use Rattle.machine_defs.proofs.RunParts.{reopened, begun, job_at, append_at, synced, gated, with_store}

-- a vault has opened
abbrev pub state_1 : State
state_1 = reopened set_up

-- a put of one byte has begun
abbrev pub state_2 : State
state_2 = begun state_1 1 (PutJob (97 ∷ []) (111 ∷ []))

-- the record of its start is written
abbrev pub state_3 : State
state_3 = begun_append state_2 (job_at state_2 1) (PutStart 1 (97 ∷ []))

-- that record is synced
abbrev pub state_4 : State
state_4 = synced state_3 1

-- the gate of that record is open, so that the record is in doubt
abbrev pub state_5 : State
state_5 = gated state_4 1

-- the start is in effect
abbrev pub state_6 : State
state_6 = done_append state_5 (job_at state_5 1) (append_at state_5)

-- the first provider has its block
abbrev pub state_7 : State
state_7 = with_store state_6 (job_at state_6 1) 0 0

-- the second provider has its block
abbrev pub state_8 : State
state_8 = with_store state_7 (job_at state_7 1) 1 0

-- the third provider has its block
abbrev pub state_9 : State
state_9 = with_store state_8 (job_at state_8 1) 2 0

-- the fourth provider has its block
abbrev pub state_10 : State
state_10 = with_store state_9 (job_at state_9 1) 3 0

-- the record of its end is written
abbrev pub state_11 : State
state_11 = begun_append state_10 (job_at state_10 1) (PutDone 1 1)

-- that record is synced
abbrev pub state_12 : State
state_12 = synced state_11 1

-- the gate of that record is open, so that the record is in doubt
abbrev pub state_13 : State
state_13 = gated state_12 1

-- the file is in effect
abbrev pub state_14 : State
state_14 = done_append state_13 (job_at state_13 1) (append_at state_13)

-- the put has ended
abbrev pub state_15 : State
state_15 = ended state_14 (job_at state_14 1)
