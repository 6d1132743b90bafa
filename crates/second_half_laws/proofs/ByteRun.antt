-- A put of one byte and a get of it are a run, the get computed from its turns, and what it writes.
use Rattle.second_half_laws.proofs.Words.{drop, codes, refl, arith, PutJob, GetJob, actions_of, Got, Begin, Step, Reopen, Begun, Ended, Happens, Moment, IsRun, now, setup_in, Once, RunJob, CarriesOut, set_up, begun, not_more, fits_two, state_15, stored, stored_lines}
use Rattle.std.specs.Prelude.{◌≡◌, ℕ, suc, ◌<◌, List, [], ◌∷◌, ◌++◌, take, Some}
use Rattle.std.specs.Fmt.{digits}
use Rattle.machine_defs.proofs.PutRun.{is_run as is_stored}
use Rattle.made_runs.specs.Turns.{Turn, Works, Came, Gives, job_run}
use Rattle.made_runs.specs.Instructions.{AreTurns}
use Rattle.made_runs.proofs.Instructions.{turns-run}
use Rattle.second_half_laws.proofs.ByteSteps.{block, block_sized, symbols, own_work, byte_back}

-- the get begins behind the put
abbrev pub get_begin : Moment
get_begin = record {
  event = Begin (GetJob (97 ∷ []));
  outcome = Begun 2;
  state = begun state_15 15 (GetJob (97 ∷ []));
}

begins : Happens 1 15 state_15 (Begin (GetJob (97 ∷ []))) (Begun 2) get_begin.state
unfolding setup_in actions_of
begins = (refl, refl, refl, refl)

-- its turns, the newest first
abbrev turns : List Turn
turns = Gives (Got (111 ∷ [])) ∷ Works symbols ∷ Came (Some (block 3)) ∷ Came (Some (block 2))
    ∷ Came (Some (block 1)) ∷ Came (Some (block 0)) ∷ []

-- the moments, the newest first
abbrev pub moments : List Moment
moments = job_run set_up (get_begin ∷ stored) 2 turns

-- the steps of the get, but for its end
abbrev pub steps : List Moment
steps = take 5 (drop 1 moments)

-- its end
abbrev pub get_end : Moment
get_end = record { event = Step 2; outcome = Ended (Got (111 ∷ [])); state = now set_up moments }

fit : AreTurns set_up (get_begin ∷ stored) 2 turns
unfolding setup_in actions_of
fit = (
  (refl, (refl, byte_back)),
  (
    (refl, (refl, own_work)),
    (
      (refl, (refl, block_sized 3)),
      ((refl, (refl, block_sized 2)), ((refl, (refl, block_sized 1)), ((refl, (refl, block_sized 0)), tt))),
    ),
  ),
)

-- the put of a byte and the get that gives it back are a run
pub is_run : IsRun 1 set_up moments
is_run = turns-run 1 set_up (get_begin ∷ stored) 2 turns fits_two fit (refl, begins, is_stored)

-- a schedule of the two is carried out by these moments and has this transcript
pub transcript : CarriesOut
    (RunJob 2 ∷ Once (Begin (GetJob (97 ∷ []))) ∷ RunJob 1 ∷ Once
    (Begin (PutJob (97 ∷ []) (111 ∷ []))) ∷ Once Reopen ∷ []) moments
    (((((codes "opened" ++ 10 ∷ []) ++ (codes "job 1" ++ 10 ∷ [])) ++ (codes "put" ++ 10 ∷ [])) ++ (codes
    "job 2" ++ 10 ∷ [])) ++ (codes "got 6f" ++ 10 ∷ []))
unfolding digits
transcript = (
  get_end,
  steps,
  get_begin ∷ stored,
  (((codes "opened" ++ 10 ∷ []) ++ (codes "job 1" ++ 10 ∷ [])) ++ (codes "put" ++ 10 ∷ [])) ++ (codes
      "job 2" ++ 10 ∷ []),
  refl,
  record {
    step = refl;
    over = not_more (Got (111 ∷ []));
    before = (refl, refl, (refl, refl, (refl, refl, (refl, refl, (refl, refl, tt)))));
  },
  (
    get_begin,
    stored,
    ((codes "opened" ++ 10 ∷ []) ++ (codes "job 1" ++ 10 ∷ [])) ++ (codes "put" ++ 10 ∷ []),
    refl,
    refl,
    stored_lines,
    refl,
  ),
  refl,
)

-- each provider was fetched from once
pub fetched : (j : ℕ) → j < 4 → ((now set_up moments).providers j).fetches ≡ 1
unfolding setup_in actions_of
fetched (suc (suc (suc (suc j)))) l = absurd (omega (arith, l))
fetched j l = refl
