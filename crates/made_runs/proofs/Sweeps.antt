-- A step of a scrub or a pack that can go so happens.
use Rattle.made_runs.proofs.Words.{refl, arith, inl, ap, sym, ◌≡◌, ℕ, zero, suc, ◌==◌, ◌&&◌, Bool, true, false, not, List, [], ◌∷◌, Option, None, Some, false≢true, Action, Store, Fetch, Work, End, opened_scrub, scrubbing, block_to_scrub, Scrubs, StepsScrub, Packs, StepsAlone, Step, Happens, State, Scrub, Pack, Alone, Scrubbing, Packing, StepsMine, StepsOne, StepsOpen, Steps, stored, fetched, Sweep, Brings, Opens, Mends, Finds, Tells, swept_so, FitsScrub, scrubbed_on, FitsPack, packed_on, FitsTodo, after_todo, FitsAlone, after_alone, FitsSweep, swept}
use Rattle.made_runs.specs.Sweeps.{Moves}

-- an action of a scrub
scrubs : (w : State) (scrub : Scrub) (action : Action) (rest : List Action) (sweep : Sweep) →
    FitsScrub w scrub action rest sweep →
    Scrubs w scrub action rest (swept_so sweep) (scrubbed_on w scrub action rest sweep)
scrubs w scrub (Fetch j object stripe) rest (Brings block) f = (
  block,
  (
    fetched (w.providers j),
    record {
      held = refl;
      counts = record { store_faults = refl; other_faults = omega arith; fetches = refl };
      gives = inl f;
    },
    refl,
  ),
)
scrubs w scrub (Work object stripe) rest (Opens symbols todo) f = (
  symbols,
  f.0,
  ap (λ (left : List Action). scrubbing w (record (opened_scrub w scrub object stripe rest symbols)
      { todo = left })) (sym f.1),
)
scrubs w scrub (Store j object stripe) rest Mends f = (
  stored object stripe (block_to_scrub w scrub j object stripe) (w.providers j),
  record { held = refl; counts = record { store_faults = omega arith; other_faults = refl; fetches = refl } },
  refl,
)
scrubs w scrub End rest (Finds stripes symbols blocks) f = (f.0, f.1, f.2, refl)
scrubs w scrub action rest sweep f = absurd f

-- the next of them
todo : (w : State) (scrub : Scrub) (left : List Action) (sweep : Sweep) → FitsTodo w scrub left sweep →
    StepsScrub w scrub left (swept_so sweep) (after_todo w scrub left sweep)
todo w scrub [] sweep f = absurd f
todo w scrub (action ∷ rest) sweep f = scrubs w scrub action rest sweep f

-- a move of a pack, or its end
packs : (w : State) (pack : Pack) (moves : ℕ) (sweep : Sweep) → FitsPack w pack moves sweep →
    Packs w pack moves (swept_so sweep) (packed_on w pack moves)
packs w pack zero Moves f = (w.disk_faults, omega arith, refl)
packs w pack (suc zero) Moves f = (w.disk_faults, omega arith, refl)
packs w pack (suc (suc zero)) Moves f = (w.disk_faults, omega arith, refl)
packs w pack (suc (suc (suc zero))) Moves f = (w.disk_faults, omega arith, refl)
packs w pack (suc (suc (suc (suc zero)))) (Tells before after) f = (f.0, f.1, refl)
packs w pack moves sweep f = absurd f

-- a step of what has the number
mine : (w : State) (n : ℕ) (alone : Alone) (sweep : Sweep) (is_its : Bool) → is_its ≡ true →
    StepsAlone w alone (swept_so sweep) (after_alone w (Some alone) sweep) →
    StepsMine w n alone is_its (swept_so sweep) (after_alone w (Some alone) sweep)
mine w n alone sweep true c s = s
mine w n alone sweep false c s = absurd (false≢true c)

-- a step of what runs alone
one : (w : State) (n : ℕ) (alone : Option Alone) (sweep : Sweep) → FitsAlone w n alone sweep →
    StepsOne w n alone (swept_so sweep) (after_alone w alone sweep)
one w n None sweep f = absurd f
one w n (Some (Scrubbing scrub)) sweep f =
    mine w n (Scrubbing scrub) sweep (scrub.number == n) f.0 (todo w scrub scrub.todo sweep f.1)
one w n (Some (Packing pack)) sweep f =
    mine w n (Packing pack) sweep (pack.number == n) f.0 (packs w pack pack.moves sweep f.1)

-- where no disk call has failed
unbarred : (w : State) (n : ℕ) (sweep : Sweep) (barred : Bool) → not barred ≡ true →
    FitsAlone w n w.alone sweep → StepsOpen w n barred (swept_so sweep) (swept w sweep)
unbarred w n sweep true c f = absurd (false≢true c)
unbarred w n sweep false c f = one w n w.alone sweep f

-- in a vault that is open
opened : (w : State) (n : ℕ) (sweep : Sweep) (is_open : Bool) → (is_open && not w.is_barred) ≡ true →
    FitsAlone w n w.alone sweep → Steps w n is_open (swept_so sweep) (swept w sweep)
opened w n sweep true c f = unbarred w n sweep w.is_barred c f
opened w n sweep false c f = absurd (false≢true c)

-- a step of what runs alone that can go so happens
pub sweeps-so : (limit m : ℕ) (w : State) (n : ℕ) (sweep : Sweep) → FitsSweep w n sweep →
    Happens limit m w (Step n) (swept_so sweep) (swept w sweep)
sweeps-so limit m w n sweep f = opened w n sweep w.is_open f.0 f.1
