-- The run, computed from its instructions, and what it comes to.
use Rattle.std.proofs.Common.{ℕ, ◌+◌, ◌<◌, ◌≤◌, ◌==◌, List, [], ◌∷◌, ◌++◌, map, flat_map, slice_index, Some, None, option_map, if◌then◌else◌, refl, ap, sym, inl, inr, arith}
use Rattle.machine_defs.specs.Openings.{reread}
use Rattle.made_runs.specs.Steps.{called}
use Rattle.second_half_laws.proofs.FewDamaged.{few_calm, few_scrubs}
use Rattle.damage_run.specs.Words.{Version, upto, GetJob, UpgradeJob, Action, Store, End, actions_of, Put, Got, Upgraded, Scrubbed, Begin, BeginAt, BeginScrub, BeginPack, Step, Alter, Stop, Begun, Ended, Replaced, Stopped, State, setup_in, Moment, IsRun, now, scrubbed, IsScrubCalm, DamagesOnly, set_up, Goes, Works, Notes, Came, Gives, Brings, Opens, Mends, Finds, Moves, Instruction, Turned, Turns, Swept, Sweeps, Begins, Reopens, Comes, run_of, AreFit, with_symbol, other_area, packed}
use Rattle.damage_run.specs.Schedule.{name, byte}
use Rattle.damage_run.proofs.Run.{◌and◌, few, are-run, starts}
use Rattle.damage_run.proofs.Points.{is-event}
use Rattle.damage_run.proofs.Values.{whole}
use Rattle.upgrade_run.specs.Schedule.{HasAll}
use Rattle.upgrade_run.proofs.Values.{symbols, byte_back, block, length-block, own_sized, altered, altered_so, all_off, damaged_give, all_give}

-- one symbol of a block that provider 0 holds is altered
abbrev alter : State → State
alter w = called w 0 (record (w.providers 0) { held = option_map (with_symbol 1 0 0 5) (w.providers 0).held })

-- a stop leaves the packed journal in effect, in the other area
abbrev pack_stays : State → State
pack_stays w = record (reread w (packed w.journal) (other_area w.area)) { doubt = None }

-- an upgrade, and a put of a file with a profile of its own
abbrev pub put : List Instruction
put = Turns 2 (Gives Put ∷ Goes 12 ∷ []) ∷ Begins (BeginAt 1 name byte) ∷ Turns 1
    (Gives Upgraded ∷ Goes 3 ∷ []) ∷ Turned 1 (Notes Version) ∷ Begins (Begin UpgradeJob) ∷ Reopens ∷ []

-- damage, and a scrub that mends it
abbrev pub swept : List Instruction
swept = Sweeps 3 (Finds 1 (1 ∷ 0 ∷ 0 ∷ 0 ∷ []) (1 ∷ 0 ∷ 0 ∷ 0 ∷ []) ∷ Mends ∷ Opens symbols
    (Store 0 1 0 ∷ End ∷ []) ∷ Brings (Some (block 3)) ∷ Brings (Some (block 2)) ∷ Brings (Some (block 1)) ∷
    []) ∷ Swept 3 (Brings (Some altered)) ∷ Begins BeginScrub ∷ Comes (Alter 0 1 0 0 5) Replaced alter ∷ put

-- a get of the file as a job of this number
abbrev pub get : ℕ → List Instruction → List Instruction
get n is = Turns n (Gives (Got byte) ∷ Works symbols ∷ Came (Some (block 3)) ∷ Came (Some (block 2))
    ∷ Came (Some (block 1)) ∷ Came (Some (block 0)) ∷ []) ∷ Begins (Begin (GetJob name)) ∷ is

-- a pack, with a stop in its third move
abbrev packed_too : List Instruction
packed_too = Reopens ∷ Comes (Stop []) Stopped pack_stays
    ∷ Sweeps 4 (Moves ∷ Moves ∷ Moves ∷ []) ∷ Begins BeginPack ∷ swept

-- where provider 0 alone is damaged, a run is calm, counted from finished scrubs
pub scrub_calm : (ms : List Moment) → IsRun 8 set_up ms → DamagesOnly (0 ∷ []) ms →
    1 ≤ (setup_in (now set_up ms)).b → IsScrubCalm set_up ms
scrub_calm ms run only few = record {
  jobs = few_calm 8 (scrubbed set_up) set_up (0 ∷ []) starts ms run only (inr few);
  scrubs = few_scrubs 8 (scrubbed set_up) set_up (0 ∷ []) starts ms run only (inr few);
}

-- they can be carried out
pub fit_put : AreFit 8 set_up put
unfolding setup_in actions_of
fit_put = (let small : 1 < 256 = omega arith in assumption (few, small))

pub fit_swept : AreFit 8 set_up swept
unfolding setup_in actions_of
fit_swept = (omega arith and
    (refl, (refl, (refl, sym (ap (map (λ n. 0 + n)) all_off), sym (ap (map found) all_off)))) and
    (refl, (refl, tt)) and (refl, (refl, (damaged_give, ap todo all_off))) and assumption
    (own_sized 1, own_sized 2, own_sized 3)) and assumption (few, whole altered 16 altered_so.0) and
    (assumption) and (
      omega arith,
      (_, ((λ x. (let e = length-block 0 in omega (arith, e)), λ x. refl), refl), refl),
    ) and fit_put
  where
    found : ℕ → ℕ
    found n = 0 + (if n == 0 then 0 else 1)

    todo : List ℕ → List Action
    todo ds = flat_map (λ j. if slice_index ds j == 0 then [] else Store j 1 0 ∷ []) (upto 4) ++ End ∷ []

fit : AreFit 8 set_up (get 5 packed_too)
unfolding setup_in actions_of
fit = assumption (few, own_sized 0, own_sized 1, own_sized 2, own_sized 3, byte_back, all_give)
    and (assumption) and (assumption) and (refl, (_, _, inr (refl, refl, refl), inl refl)) and assumption few
    and (assumption) and fit_swept

-- the run
abbrev pub moments : List Moment
moments = run_of set_up (get 5 packed_too)

-- all that the second version of the journal brings happens in the run
pub outright : HasAll moments
unfolding setup_in actions_of
outright = assumption (
  starts,
  are-run 8 set_up (get 5 packed_too) fit,
  is-event moments 6 (Step 1) (Ended Upgraded) refl refl refl,
  is-event moments 7 (BeginAt 1 name byte) (Begun 2) refl refl refl,
  is-event moments 20 (Step 2) (Ended Put) refl refl refl,
  is-event moments 21 (Alter 0 1 0 0 5) Replaced refl refl refl,
  is-event moments 29 (Step 3) (Ended (Scrubbed 1 (1 ∷ 0 ∷ 0 ∷ 0 ∷ []) (1 ∷ 0 ∷ 0 ∷ 0 ∷ []))) refl refl refl,
  is-event moments 34 (Stop []) Stopped refl refl refl,
  is-event moments 42 (Step 5) (Ended (Got byte)) refl refl refl,
)
