-- In the run with damage no count rises while the repair runs.
use Rattle.outcome_laws.proofs.Words.{◌≡◌, ℕ, ◌<◌, refl, arith, set_up, run_of, lose, audited, repaired, NoneRose}
use Rattle.device_defs.specs.Faults.{Rose, last_count}
use Rattle.damage_run.specs.Words.{State, now}
use Rattle.made_runs.specs.Counts.{SameCounts, AreWell}
use Rattle.made_runs.proofs.Counts.{called-same, counts-stay}

-- a count that is 0 at both ends did not rise
still : (a b : ℕ) → a ≡ 0 → b ≡ 0 → Rose a b → ⊥
still a b is_a is_b rose =
    (let low : a < last_count = omega (arith, is_a) in let g = rose low in omega (arith, g, is_b))

-- no call fails up to the repair's begin, and up to its end
lose-same : (j : ℕ) (w : State) → SameCounts w (lose j w)
lose-same j w = called-same w j _ refl refl

well_audited : AreWell audited
well_audited = (
  refl,
  (refl, (refl, (tt, (lose-same 2, (refl, (refl, (refl, (refl, (tt, (refl, (tt, (tt, tt)))))))))))),
)

well_repaired : AreWell repaired
well_repaired = (refl, (tt, well_audited))

-- so that all counts are those of the start
before : SameCounts set_up (now set_up (run_of set_up audited))
before = counts-stay set_up audited well_audited

after : SameCounts set_up (now set_up (run_of set_up repaired))
after = counts-stay set_up repaired well_repaired

-- no count rises from the repair's begin to its end
pub none_rose : NoneRose (now set_up (run_of set_up audited)) (now set_up (run_of set_up repaired))
none_rose = record {
  disk = still _ _ before.0 after.0;
  stores = λ j. still _ _ (before.1 j).0 (after.1 j).0;
  others = λ j. still _ _ (before.1 j).1 (after.1 j).1;
}
