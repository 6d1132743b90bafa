-- A get over a damaged store is one; at the repair's end the audit's begin is a mark, and the run goes on;
-- and a block is lost while the repair's record is in doubt.
use Rattle.std.proofs.Common.{◌≤◌, List, [], ◌∷◌, take, drop, refl, arith}
use Rattle.machine_defs.proofs.Damaged.{missed_back}
use Rattle.second_half_laws.proofs.ByteTold.{is_told}
use Rattle.second_half_laws.proofs.InRuns.{calm_marked}
use Rattle.damage_run.specs.Words.{actions_of, Got, Repaired, Lose, Replaced, setup_in, Moment, first_moments, Relies, NoneUnderWay, set_up, run_of, IsMended, IsCalmRun, given_up, ended}
use Rattle.damage_run.specs.Points.{byte, at, counts}
use Rattle.damage_run.specs.SecondLoss.{IsReadOver, MovesMark}
use Rattle.damage_run.proofs.Run as instructions
use Rattle.damage_run.proofs.Run.{lose, moments, is_run, fit_read, are-run, first_run, starts}
use Rattle.damage_run.proofs.CalmRun.{tell, calm-run, found, finds, run_repaired, older, later, auditing}
pub use Rattle.damage_run.proofs.CalmRun.{to_audit, to_repair, repair_end, repairing, repair_begin}
use Rattle.damage_run.proofs.Points.{last_of}
use Rattle.damage_run.proofs.Told.{mine, no_scrub, none_reads, unbegun_all, no_begun}

-- ---- the get over a damaged store

-- the put, and up to the end of the get
abbrev pub stored : List Moment
stored = run_of set_up instructions.put

abbrev to_get : List Moment
to_get = run_of set_up instructions.read

-- the get's begin and its end, and between them its fetches, the loss, the audit's begin and a step of it,
-- and the get's work
abbrev pub begin : Moment
begin = last_of (first_moments 16 to_get)

abbrev pub end : Moment
end = last_of to_get

abbrev pub gaps : List Moment
gaps = take 8 (drop 1 to_get)

pub is_read : IsReadOver stored gaps begin end
unfolding setup_in actions_of
is_read = (let one : 1 ≤ 1 = omega arith in assumption (
  starts,
  tell,
  are-run 8 set_up instructions.read fit_read,
  is_told,
  no_begun 2 gaps refl,
  mine 2,
  one,
))

-- ---- the mark at the repair's end

abbrev pub recent : List Moment
recent = take 28 to_repair

is_mended : IsMended older to_repair
unfolding setup_in actions_of
is_mended = record {
  repair_end = repair_end;
  repairing = repairing;
  repair_begin = repair_begin;
  between = [];
  audit_end = last_of to_audit;
  auditing = auditing;
  audit_begin = last_of (drop 15 to_audit);
  split = refl;
  number = 1;
  undecided = 0;
  counts = counts;
  audit = 3;
  audit_event = refl;
  audit_begun = refl;
  none_audit = no_begun 3 auditing refl;
  audit_step = refl;
  audited = refl;
  repair = 4;
  repair_event = refl;
  repair_begun = refl;
  none_repair = no_begun 4 repairing refl;
  repair_step = refl;
  repaired = refl;
}

-- no get or repair runs behind the put, nor once the get and the repair have ended
under_get : NoneUnderWay Relies to_get
unfolding setup_in actions_of
under_get = ended end begin gaps stored 2 (Got byte) refl refl (none_reads gaps refl) refl
    (unbegun_all Relies (take 14 stored) (first_moments 1 stored) (none_reads (take 14 stored) refl)
    (given_up (last_of (first_moments 1 stored)) [] tt))

under_repair : NoneUnderWay Relies to_repair
unfolding setup_in actions_of
under_repair = ended repair_end repair_begin repairing to_audit 4 (Repaired 1) refl refl
    (none_reads repairing refl) refl (unbegun_all Relies (take 12 to_audit) to_get
    (none_reads (take 12 to_audit) refl) under_get)

pub moves : MovesMark later recent older
unfolding setup_in actions_of
moves = (let calm = calm-run to_repair run_repaired refl refl (missed_back set_up later to_repair found) in
    let h = calm_marked 8 set_up to_repair calm in record {
      tell = tell;
      few_damaged = (assumption (mine 2), omega arith);
      finds = finds;
      unaudited = assumption;
      calm = calm;
      mended = is_mended;
      marked = h;
      moment = h.marks.0;
      none = under_repair;
      run = is_run;
      scrubs = no_scrub moments refl;
      damages = assumption (mine 0);
      few = omega arith;
    })

-- ---- the loss while the repair's record is in doubt

abbrev pub robbed_moments : List Moment
robbed_moments =
    record { event = Lose 2 1 0; outcome = Replaced; state = lose 2 (at 47 moments) }
    ∷ first_moments 47 moments

-- the run up to there, with one more loss, is calm, and its audit missed no damage
pub robbed_calm : IsCalmRun 8 set_up robbed_moments
unfolding setup_in actions_of
robbed_calm = calm-run robbed_moments
    (omega arith, (_, ((λ x. refl, λ x. refl), refl), refl), first_run 8 set_up 47 moments is_run) refl refl
    (tt, missed_back set_up (take 10 moments) (first_moments 47 moments) found)
