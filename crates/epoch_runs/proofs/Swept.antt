-- A scrub that is given outright, told by events and outcomes.
use Rattle.std.proofs.Common.{◌≡◌, ℕ, ◌≤◌, List, [], ◌∷◌, ◌++◌, length, Some, refl, ap, sym, ◌∙◌, inl, append_assoc, option_map, arith}
use Rattle.machine_defs.proofs.Damaged.{both_only}
use Rattle.machine_defs.specs.Began.{NoneBegan}
use Rattle.machine_defs.specs.Answers.{Scrubbed}
use Rattle.machine_defs.specs.Damaged.{DamagesOnly}
use Rattle.machine_defs.specs.Events.{Alter, Lose, BeginScrub, Step, Begun, Ended, More, Replaced}
use Rattle.machine_defs.specs.Examples.{set_up}
use Rattle.machine_defs.specs.Runs.{Moment, IsRun, now}
use Rattle.machine_defs.specs.States.{State, setup_in}
use Rattle.machine_defs.specs.Actions.{Store, End, actions_of}
use Rattle.made_runs.specs.Steps.{called}
use Rattle.made_runs.specs.Sweeps as step-swept
use Rattle.made_runs.specs.Sweeps.{Sweep, Brings, Opens, Mends, Finds, Tells, swept_so}
use Rattle.made_runs.specs.Instructions.{Instruction, AreFit, Comes, moment, begun_by, run_of, sweep_run}
use Rattle.damage_run.specs.Words.{with_symbol, without_block}
use Rattle.damage_run.proofs.Run.{◌and◌, are-run}
use Rattle.damage_run.proofs.Told.{mine}
use Rattle.upgrade_run.proofs.Run.{put, swept, fit_swept}
use Rattle.upgrade_run.proofs.Values.{symbols, block}
use Rattle.upgrade_run.proofs.Values as values
use Rattle.epoch_laws.specs.Epochs.{IsSwept}
use Rattle.epoch_runs.specs.Swept.{altered, robbed}

-- steps of what runs alone stand in front of the moments before them, begin no job and damage nobody
swept-apart : (start : State) (ms : List Moment) (n k : ℕ) (ps : List ℕ) (sweeps : List Sweep) →
    (xs : List Moment) × (sweep_run start ms n sweeps ≡ xs ++ ms) × NoneBegan k xs × DamagesOnly ps xs
swept-apart start ms n k ps [] = ([], refl, tt, tt)
swept-apart start ms n k ps (sweep ∷ sweeps) = (let P = swept-apart start ms n k ps sweeps in (
  newest ∷ P.0,
  ap (λ l. newest ∷ l) P.1,
  (none sweep, P.2),
  (tt, P.3),
))
  where
    newest : Moment
    newest = moment (Step n) (swept_so sweep) (step-swept.swept (now start (sweep_run start ms n sweeps)) sweep)

    none : (s : Sweep) → swept_so s ≡ Begun k → ⊥
    none (Finds a xs ys) is = (let e : Ended (Scrubbed a xs ys) ≡ Begun k = is in cc)
    none (Tells a b) is = cc is
    none s is = cc is

-- ---- the run

-- one symbol of a block that provider 0 holds is altered
abbrev alter : State → State
alter w = called w 0 (record (w.providers 0) { held = option_map (with_symbol 1 0 0 5) (w.providers 0).held })

-- up to the begin of the scrub, with that begin, and with its first step
abbrev pub older : List Moment
older = run_of set_up (Comes (Alter 0 1 0 0 5) Replaced alter ∷ put)

abbrev pub begun : Moment
begun = moment BeginScrub (Begun (now set_up older).next_job) (begun_by (now set_up older) (length older) BeginScrub)

abbrev pub first : Moment
first = moment (Step 3) More (step-swept.swept (now set_up (begun ∷ older)) (Brings (Some values.altered)))

-- the other steps, and the last
abbrev rest : List Sweep
rest = Mends ∷ Opens symbols (Store 0 1 0 ∷ End ∷ []) ∷ Brings (Some (block 3)) ∷ Brings (Some (block 2))
    ∷ Brings (Some (block 1)) ∷ []

abbrev pub off : List ℕ
off = 1 ∷ 0 ∷ 0 ∷ 0 ∷ []

abbrev pub last : Moment
last = moment (Step 3) (Ended (Scrubbed 1 off off))
    (step-swept.swept (now set_up (sweep_run set_up (first ∷ begun ∷ older) 3 rest)) (Finds 1 off off))

pub parts : (xs : List Moment) × (sweep_run set_up (first ∷ begun ∷ older) 3 rest ≡ xs ++ (first ∷ begun ∷ older))
    × NoneBegan 3 xs × DamagesOnly robbed xs
parts = swept-apart set_up (first ∷ begun ∷ older) 3 3 robbed rest

both-none : (xs ys : List Moment) → NoneBegan 3 xs → NoneBegan 3 ys → NoneBegan 3 (xs ++ ys)
both-none [] ys a b = b
both-none (x ∷ xs) ys a b = (a.0, both-none xs ys a.1 b)

-- the scrub, and behind it a block of provider 1 that is lost
abbrev pub recent : List Moment
recent = last ∷ (parts.0 ++ first ∷ begun ∷ [])

abbrev lose : State → State
lose w = called w 1 (record (w.providers 1) { held = option_map (without_block 1 0) (w.providers 1).held })

abbrev pub lost : List Instruction
lost = Comes (Lose 1 1 0) Replaced lose ∷ swept

abbrev pub later : List Moment
later = moment (Lose 1 1 0) Replaced (lose (now set_up (run_of set_up swept))) ∷ []

pub recent-is : run_of set_up swept ≡ recent ++ older
unfolding setup_in actions_of
recent-is = ap (λ l. last ∷ l) (parts.1 ∙ sym (append_assoc parts.0 (first ∷ begun ∷ []) older))

pub is-swept : IsSwept older (recent ++ older)
unfolding setup_in actions_of
is-swept = record {
  end = last;
  sweeping = parts.0 ++ first ∷ [];
  begin = begun;
  split = ap (λ l. last ∷ l) (append_assoc parts.0 (first ∷ begun ∷ []) older
      ∙ sym (append_assoc parts.0 (first ∷ []) (begun ∷ older)));
  number = 3;
  stripes = 1;
  symbols = off;
  blocks = off;
  begin_event = refl;
  begun = refl;
  none = both-none parts.0 (first ∷ []) parts.2 ((λ is. (let e : More ≡ Begun 3 = is in cc)), tt);
  end_event = refl;
  ended = refl;
}

-- it is a run
fit_lost : AreFit 8 set_up lost
unfolding setup_in actions_of
fit_lost = (omega arith, (_, ((λ x. refl, λ x. refl), refl), refl)) and fit_swept

pub run : IsRun 8 set_up (run_of set_up lost)
run = are-run 8 set_up lost fit_lost

pub run_swept : IsRun 8 set_up (run_of set_up swept)
run_swept = are-run 8 set_up swept fit_swept

pub only : DamagesOnly altered (run_of set_up swept)
unfolding setup_in actions_of
only = assumption (mine 0)

pub few : length altered ≤ (setup_in (now set_up (run_of set_up swept))).b
unfolding setup_in actions_of
few = omega arith

pub few_lost : length robbed ≤ (setup_in (now set_up (run_of set_up lost))).b
unfolding setup_in actions_of
few_lost = omega arith

pub since : DamagesOnly robbed (later ++ recent)
since = (inl refl, (tt, both_only robbed parts.0 (first ∷ begun ∷ []) parts.3 (tt, (tt, tt))))
