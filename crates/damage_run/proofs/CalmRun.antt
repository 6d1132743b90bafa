-- The run is calm, and its audit missed no damage.
use Rattle.std.proofs.Common.{◌≡◌, ℕ, ◌||◌, Bool, true, List, [], ◌∷◌, ◌++◌, Some, None, not, nat_le, take, drop, refl, arith, leb-true}
use Rattle.std.specs.List.{list_all}
use Rattle.second_half_laws.proofs.Finished.{unscrubbed}
use Rattle.second_half_laws.proofs.Flagging.{flagging_misses_none}
use Rattle.damage_run.specs.Words.{Job, job_of, actions_of, State, setup_in, Moment, IsRun, first_moments, Mark, IsCalm, since, relies, NoneMissed, AllTell, set_up, run_of, FindsAll, IsCalmRun, replaced_count}
use Rattle.damage_run.specs.Schedule.{IsOutright}
use Rattle.damage_run.specs.Points.{counts}
use Rattle.damage_run.specs.SecondLoss.{damaged}
use Rattle.damage_run.proofs.Run as instructions
use Rattle.damage_run.proofs.Run.{moments, is_run, writes, are-run, starts}
use Rattle.damage_run.proofs.Points.{last_of}
use Rattle.damage_run.proofs.Told.{all_pass, each, mine, is_other, no_scrub, no_begun}

-- a job that runs passes a test that all pass
test_of : (test : Job → Bool) (js : List Job) (k : ℕ) (j : Job) → job_of js k ≡ Some j →
    list_all test js ≡ true → test j ≡ true
test_of test [] k j h all = (let e : None ≡ Some j = h in cc)
test_of test (x ∷ js) k j h all = grind (arith, test_of test js k j)

-- calm for a job, and for all that run behind a moment, as tests
abbrev pub is_calm_for : Mark → List Moment → State → Job → Bool
is_calm_for mark ms w job =
    not (relies job.kind) || nat_le (replaced_count w (mark (first_moments job.begun ms)) ms) (setup_in w).b

abbrev pub is_calm : Mark → Moment → List Moment → Bool
is_calm mark m older = list_all (is_calm_for mark (m ∷ older) m.state) m.state.jobs

-- a run that passes the test is calm by the mark
pub calm_by_test : (mark : Mark) (ms : List Moment) → all_pass (is_calm mark) ms ≡ true →
    IsCalm relies mark ms
calm_by_test mark = each (is_calm mark) (IsCalm relies mark) tt (λ m ms t rest. (
  λ number job at reads. (let h = test_of (is_calm_for mark (m ∷ ms) m.state) m.state.jobs number job at t in
      grind (arith, leb-true)),
  rest,
))

-- all providers tell
pub tell : AllTell set_up
tell j = refl

-- a run that passes the tests is calm, where no audit missed damage
pub calm-run : (ms : List Moment) → IsRun 8 set_up ms → all_pass (is_calm (since set_up)) ms ≡ true →
    all_pass (λ m older. is_other m.event) ms ≡ true → NoneMissed set_up ms → IsCalmRun 8 set_up ms
calm-run ms run calm other found = assumption (
  starts,
  tell,
  calm_by_test (since set_up) ms calm,
  unscrubbed 8 (since set_up) set_up ms starts run (no_scrub ms other),
)

-- ---- the audit and its repair

-- up to the loss, to the audit's end and to the repair's, and what comes then
abbrev pub older : List Moment
older = run_of set_up instructions.damaged

abbrev pub to_audit : List Moment
to_audit = run_of set_up instructions.audited

abbrev pub to_repair : List Moment
to_repair = run_of set_up instructions.repaired

abbrev pub later : List Moment
later = take 8 moments

-- the repair, from its begin to its end
abbrev pub repair_end : Moment
repair_end = last_of to_repair

abbrev pub repairing : List Moment
repairing = take 10 (drop 1 to_repair)

abbrev pub repair_begin : Moment
repair_begin = last_of (drop 11 to_repair)

-- and what comes between the audit's begin and its end
abbrev pub auditing : List Moment
auditing = take 14 (drop 1 to_audit)

pub finds : FindsAll (setup_in repair_end.state).tolerance damaged to_repair
unfolding setup_in actions_of
finds = record {
  later = repair_end ∷ (repairing ++ repair_begin ∷ []);
  end = last_of to_audit;
  auditing = auditing;
  begin = last_of (drop 15 to_audit);
  older = older;
  split = refl;
  audit = 3;
  number = 1;
  undecided = 0;
  counts = counts;
  begin_event = refl;
  begun = refl;
  end_event = refl;
  ended = refl;
  none_numbered = no_begun 3 auditing refl;
  none_before = assumption;
  none_beside = assumption;
  none_later = assumption;
  flags = λ j h. grind arith;
}

pub run_repaired : IsRun 8 set_up to_repair
run_repaired = are-run 8 set_up instructions.repaired instructions.fit_repaired

-- no audit of the run missed damage
pub found : NoneMissed set_up moments
unfolding setup_in actions_of
found = (let missed = flagging_misses_none 8 set_up to_repair damaged starts tell run_repaired
    (assumption (mine 2)) (omega arith) finds in
    (tt, (tt, (tt, (tt, (tt, (tt, (tt, (tt, missed)))))))))

-- the run carries out the schedule, is calm, and its audit missed no damage
pub outright : IsOutright moments
unfolding setup_in actions_of
outright = (let calm = calm-run moments is_run refl refl found in record {
  clean = starts;
  tell = tell;
  run = is_run;
  carried_out = writes;
  two_jobs = refl;
  calm = calm.calm;
  scrubs = calm.scrubs;
  found = found;
})
