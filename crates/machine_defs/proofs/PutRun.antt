-- A put of one byte is a run, and what it writes.
use Rattle.machine_defs.proofs.Words.{State, GoOn, codes, refl, digits, arith, inl, setup_in, actions_of, PutStart, PutDone, PutJob, Put, Begin, Step, Reopen, Opened, Begun, Ended, Moment, IsRun, Once, RunJob, CarriesOut, set_up}
use Rattle.std.specs.Prelude.{List, [], ◌∷◌, ◌++◌, None}
use Rattle.machine_defs.specs.States.{given_up}
use Rattle.machine_defs.proofs.RunParts.{job_at, stepped, not_more, fits, store_call}
use Rattle.machine_defs.proofs.PutSteps.{state_1, state_2, state_3, state_4, state_5, state_6, state_7, state_8, state_9, state_10, state_11, state_12, state_13, state_14, state_15}

-- the moments, the newest first
abbrev begun : List Moment
begun = record {
  event = Begin (PutJob (97 ∷ []) (111 ∷ []));
  outcome = Begun 1;
  state = state_2;
} ∷ record { event = Reopen; outcome = Opened; state = state_1 } ∷ []

-- the states that those steps leave, the newest first
abbrev states : List State
states = state_14 ∷ state_13 ∷ state_12 ∷ state_11 ∷ state_10 ∷ state_9 ∷ state_8 ∷ state_7 ∷ state_6 ∷ state_5 ∷
    state_4 ∷ state_3 ∷ []

abbrev all_stepped : List State → List Moment
all_stepped [] = []
all_stepped (w ∷ ws) = stepped 1 w ∷ all_stepped ws

went_on : (ws : List State) → GoOn 1 (all_stepped ws)
went_on [] = tt
went_on (w ∷ ws) = (refl, refl, went_on ws)

-- the steps of the put, but for its end
abbrev pub steps : List Moment
steps = all_stepped states

-- the opening of a vault and the put, to its end
abbrev pub moments : List Moment
moments = record { event = Step 1; outcome = Ended (Put); state = state_15 } ∷ (steps ++ begun)

-- the put is a run of the machine
pub is_run : IsRun 1 set_up moments
unfolding setup_in actions_of
is_run = (
  fits,
  (tt, refl),
  (
    fits,
    ((refl, refl), (state_13.disk_faults, omega arith, refl)),
    (
      fits,
      ((refl, refl), (state_12.disk_faults, omega arith, refl)),
      (
        fits,
        ((refl, refl), (state_11.disk_faults, omega arith, refl)),
        (
          fits,
          (PutDone 1 1, refl, (state_10.disk_faults, omega arith, refl)),
          (
            fits,
            store_call state_9 (job_at state_9 1) 3 0,
            (
              fits,
              store_call state_8 (job_at state_8 1) 2 0,
              (
                fits,
                store_call state_7 (job_at state_7 1) 1 0,
                (
                  fits,
                  store_call state_6 (job_at state_6 1) 0 0,
                  (
                    fits,
                    ((refl, refl), (state_5.disk_faults, omega arith, refl)),
                    (
                      fits,
                      ((refl, refl), (state_4.disk_faults, omega arith, refl)),
                      (
                        fits,
                        ((refl, refl), (state_3.disk_faults, omega arith, refl)),
                        (
                          fits,
                          (PutStart 1 (97 ∷ []), refl, (state_2.disk_faults, omega arith, refl)),
                          (
                            (refl, refl),
                            (refl, refl, refl, refl),
                            (
                              tt,
                              (
                                record (given_up set_up) { doubt = None },
                                (set_up.journal, set_up.area, inl (refl, refl), inl refl),
                                refl,
                                omega arith,
                                (set_up.disk_faults, omega arith, refl),
                              ),
                              tt,
                            ),
                          ),
                        ),
                      ),
                    ),
                  ),
                ),
              ),
            ),
          ),
        ),
      ),
    ),
  ),
)

-- the put, carried out as commands, writes these three lines
pub transcript : CarriesOut (RunJob 1 ∷ Once (Begin (PutJob (97 ∷ []) (111 ∷ []))) ∷ Once Reopen ∷ []) moments
    (((codes "opened" ++ 10 ∷ []) ++ (codes "job 1" ++ 10 ∷ [])) ++ (codes "put" ++ 10 ∷ []))
unfolding digits
transcript = (
  record { event = Step 1; outcome = Ended (Put); state = state_15 },
  steps,
  begun,
  (codes "opened" ++ 10 ∷ []) ++ (codes "job 1" ++ 10 ∷ []),
  refl,
  record {
    step = refl;
    over = not_more Put;
    before = went_on states;
  },
  (
    record { event = Begin (PutJob (97 ∷ []) (111 ∷ [])); outcome = Begun 1; state = state_2 },
    record { event = Reopen; outcome = Opened; state = state_1 } ∷ [],
    codes "opened" ++ 10 ∷ [],
    refl,
    refl,
    (record { event = Reopen; outcome = Opened; state = state_1 }, [], [], refl, refl, (refl, refl), refl),
    refl,
  ),
  refl,
)
