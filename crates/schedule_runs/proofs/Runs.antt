-- The runs that carry the schedules out, computed from their instructions.
use Rattle.std.proofs.Common.{◌≡◌, ℕ, suc, true, List, [], ◌∷◌, Some, None, refl, ap, sym, ◌∙◌, arith}
use Rattle.std.specs.Fmt.{digits}
use Rattle.made_runs.specs.Written.{are_whole, schedule_of, lines_made}
use Rattle.made_runs.proofs.Instructions.{are-run}
use Rattle.made_runs.proofs.Written.{carries}
use Rattle.second_half_laws.proofs.ByteSteps.{block, symbols, byte_back}
use Rattle.second_half_laws.proofs.ByteTold.{starts}
use Rattle.damage_run.specs.Words.{GetJob, actions_of, Got, Begin, BeginPack, Step, Ended, setup_in, Moment, now, first_moments, set_up, Works, Came, Gives, Moves, Instruction, Turns, Swept, Sweeps, Begins, Reopens, Stops, run_of, AreFit, sized, Tells}
use Rattle.damage_run.proofs.Told.{mine}
use Rattle.damage_run.proofs.Points.{event_of, is-event}
use Rattle.damage_run.proofs.Run.{got_again, few, sizes, fit}
use Rattle.damage_run.proofs.Values.{without_zero_give}
use Rattle.upgrade_run.specs.Schedule.{stored_records}
use Rattle.upgrade_run.proofs.Run.{put, swept, get, fit_put, fit_swept, scrub_calm}
use Rattle.upgrade_run.proofs.Values.{byte_back as own_back, block as own, own_sized, all_give}
use Rattle.schedule_runs.specs.Words.{packed, name, byte}
use Rattle.schedule_runs.specs.Schedule.{IsRunOf, IsStoppedRun, IsUpgradedRun, IsScrubbedRun, IsPackedRun}

-- instructions that can be carried out and end with a get of the byte are a run of their schedule
carried : (is : List Instruction) (k job : ℕ) → AreFit 8 set_up is → are_whole is ≡ true →
    first_moments (suc k) (run_of set_up is)
    ≡ event_of (run_of set_up is) k ∷ first_moments k (run_of set_up is) →
    (event_of (run_of set_up is) k).event ≡ Step job →
    (event_of (run_of set_up is) k).outcome ≡ Ended (Got byte) →
    IsRunOf (schedule_of is) (lines_made set_up is) k job (run_of set_up is)
carried is k job fits whole split event outcome = record {
  clean = starts;
  run = are-run 8 set_up is fits;
  carried_out = carries set_up is whole;
  last = is-event (run_of set_up is) k (Step job) (Ended (Got byte)) split event outcome;
}

-- ---- behind the run with damage a stop, a reopening, and a get that gives the file

abbrev stopped : List Instruction
stopped = Turns 6 (Gives (Got byte) ∷ Works symbols ∷ Came (Some (block 3)) ∷ Came (Some (block 2))
    ∷ Came (Some (block 1)) ∷ Came None ∷ []) ∷ Begins (Begin (GetJob name)) ∷ Reopens ∷ Stops [] ∷ got_again

fit_stopped : AreFit 8 set_up stopped
unfolding setup_in actions_of
fit_stopped =
    (assumption (few, sizes, byte_back, without_zero_give), (assumption, ((refl, refl), (refl, fit))))

abbrev pub stopped_moments : List Moment
stopped_moments = run_of set_up stopped

-- they carry out the schedule with the stop
pub is_stopped : IsStoppedRun stopped_moments
unfolding setup_in actions_of digits
is_stopped = carried stopped 65 6 fit_stopped refl refl refl refl

-- ---- behind the upgrade and the put of upgrade_run a get that gives the file

-- each block has its size
own_sizes : (Some (own 0) ≡ sized 16 (Some (own 0))) × (Some (own 1) ≡ sized 16 (Some (own 1)))
    × (Some (own 2) ≡ sized 16 (Some (own 2))) × (Some (own 3) ≡ sized 16 (Some (own 3)))
own_sizes = (own_sized 0, own_sized 1, own_sized 2, own_sized 3)

fit_upgraded : AreFit 8 set_up (get 3 put)
unfolding setup_in actions_of
fit_upgraded = (assumption (few, own_back, all_give, own_sizes), (assumption, fit_put))

abbrev pub upgraded_moments : List Moment
upgraded_moments = run_of set_up (get 3 put)

-- they carry out the schedule with the upgrade
pub is_upgraded : IsUpgradedRun upgraded_moments
unfolding setup_in actions_of digits
is_upgraded = assumption (carried (get 3 put) 27 3 fit_upgraded refl refl refl refl)

-- ---- the same behind the altered symbol and the scrub that mends its block

fit_scrubbed : AreFit 8 set_up (get 4 swept)
unfolding setup_in actions_of
fit_scrubbed = (assumption (few, own_back, all_give, own_sizes), (assumption, fit_swept))

abbrev pub scrubbed_moments : List Moment
scrubbed_moments = run_of set_up (get 4 swept)

-- they carry out the schedule with the scrub
pub is_scrubbed : IsScrubbedRun scrubbed_moments
unfolding setup_in actions_of digits
is_scrubbed = assumption (
  carried (get 4 swept) 36 4 fit_scrubbed refl refl refl refl,
  scrub_calm scrubbed_moments (are-run 8 set_up (get 4 swept) fit_scrubbed) (assumption (mine 0))
      (omega arith),
)

-- ---- the same behind a pack, of which the first step is told apart

abbrev packing : List Instruction
packing = Sweeps 3 (Tells 81 81 ∷ Moves ∷ Moves ∷ Moves ∷ []) ∷ Swept 3 Moves ∷ Begins BeginPack ∷ put

fit_packed : AreFit 8 set_up (get 4 packing)
unfolding setup_in actions_of
fit_packed = (
  assumption (few, own_back, all_give, own_sizes),
  (assumption, (assumption few, (assumption few, (assumption, fit_put)))),
)

abbrev pub packed_moments : List Moment
packed_moments = run_of set_up (get 4 packing)

-- the history ends with the put, and the disk holds it packed
history : (now set_up packed_moments).records ≡ stored_records
unfolding setup_in actions_of
history = refl

held : (now set_up packed_moments).journal ≡ packed stored_records
unfolding setup_in actions_of
held = refl

-- they carry out the schedule with the pack
pub is_packed : IsPackedRun packed_moments
unfolding setup_in actions_of digits
is_packed = record {
  goes = carried (get 4 packing) 33 4 fit_packed refl refl refl refl;
  area = refl;
  journal = held ∙ ap packed (sym history);
}
