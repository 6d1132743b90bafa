-- A put of no bytes and a get of it, and a stop before the fourth move of the put's last append: runs that
-- are computed from their instructions.
use Rattle.made_runs.proofs.Words.{refl, inl, arith, List, [], ◌∷◌, codes, None, PutJob, GetJob, actions_of, Put, Got, Begin, Stop, Stopped, State, setup_in, reread, Happens, Moment, IsRun, now, set_up, Gives, Instruction, Turns, Begins, Reopens, Stops, stopped, run_of, AreFit}
use Rattle.made_runs.specs.Turns.{Goes}
use Rattle.made_runs.proofs.Instructions.{are-run}

-- a vault opens, and a put of no bytes begins
abbrev begun : List Instruction
begun = Begins (Begin (PutJob (codes "a") [])) ∷ Reopens ∷ []

-- the put, and then the get of its file
abbrev pub instructions : List Instruction
instructions = Turns 2 (Gives (Got []) ∷ []) ∷ Begins (Begin (GetJob (codes "a")))
    ∷ Turns 1 (Gives Put ∷ Goes 8 ∷ []) ∷ begun

fit : AreFit 1 set_up instructions
unfolding setup_in actions_of
fit = (
  (omega arith, ((refl, (refl, refl)), tt)),
  (
    (refl, refl, refl),
    ((omega arith, ((refl, (refl, tt)), (refl, tt))), (((refl, refl), refl, refl), ((refl, refl), tt))),
  ),
)

-- the put and the get are a run of the machine
pub is_run : IsRun 1 set_up (run_of set_up instructions)
is_run = are-run 1 set_up instructions fit

-- the put up to the third move of its last append, and a stop behind it
abbrev stop : List Instruction
stop = Stops [] ∷ Turns 1 (Goes 7 ∷ []) ∷ begun

fit_stop : AreFit 1 set_up stop
unfolding setup_in actions_of
fit_stop = (refl, ((omega arith, (refl, tt)), (((refl, refl), refl, refl), ((refl, refl), tt))))

-- the moments up to that third move
abbrev pub doubted_moments : List Moment
doubted_moments = run_of set_up (Turns 1 (Goes 7 ∷ []) ∷ begun)

-- the state there
abbrev doubted : State
doubted = now set_up doubted_moments

-- they are a run
pub doubted_run : IsRun 1 set_up doubted_moments
doubted_run = (are-run 1 set_up stop fit_stop).2

-- a stop there may leave the record in doubt in effect
pub stops_with : Happens 1 9 doubted (Stop []) Stopped (stopped doubted)
stops_with = (are-run 1 set_up stop fit_stop).1

-- the state without it
abbrev pub stopped_without : State
stopped_without = record (reread doubted doubted.journal doubted.area) { doubt = None }

-- a stop there may leave no trace of the record
pub stops_without : Happens 1 9 doubted (Stop []) Stopped stopped_without
stops_without = (doubted.journal, doubted.area, inl (refl, refl), inl refl)
