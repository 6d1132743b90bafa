-- What a pack that runs alone comes to, from a state at rest whose vault is open, whatever its history.
--
--   packed_over w journal area switching barred faults
--                           == the state, but that the disk holds this journal in this area; a job number is
--                              used, and nothing runs
--   PackEnds w answer new   == a pack that began in the state ended with this answer and left the new one
use Rattle.job_laws.proofs.Words.{◌≡◌, ℕ, zero, suc, ◌+◌, ◌≤◌, Bool, true, false, List, [], ◌∷◌, length, None, Some, refl, ap, sym, subst, ◌∙◌, arith, eq-eqb, Rose, rose-before, Record, Area, other_area, text_length, packed, Packs, Answer, Step, More, Ended, Outcome, Happens, Moment, now, State, Pack, Packing, StepsOpen, Steps, IsOpenAtRest, AreSteps, GoesOnTo, RunsPack}
use Rattle.machine_defs.specs.Answers as answer

-- the state, but that the disk holds this journal in this area
abbrev pub packed_over : State → List Record → Area → Bool → Bool → ℕ → State
packed_over w journal area switching barred faults = record w {
  journal = journal;
  area = area;
  is_switching = switching;
  next_job = w.next_job + 1;
  alone = None;
  is_barred = barred;
  disk_faults = faults;
}

-- what a pack left, by its answer: packed, the packed journal in the other area; at a fault of the disk or
-- for want of memory, the journal as it was; after a fault the switch may be under way
abbrev pub PackEnds : State → Answer → State → Type 0
PackEnds w (answer.Packed before after) new = (before ≡ text_length w.area w.journal) ×
    (after ≡ text_length (other_area w.area) (packed w.journal)) × (w.disk_faults ≤ new.disk_faults) ×
    (new ≡ packed_over w (packed w.journal) (other_area w.area) false false new.disk_faults)
PackEnds w answer.DiskFault new = Rose w.disk_faults new.disk_faults × (w.disk_faults ≤ new.disk_faults) ×
    (switching : Bool) × (new ≡ packed_over w w.journal w.area switching true new.disk_faults)
PackEnds w answer.Memory new =
    (w.disk_faults ≤ new.disk_faults) × (new ≡ packed_over w w.journal w.area false false new.disk_faults)
PackEnds w how new = ⊥

module _ (w : State) {first : ℕ} (O : IsOpenAtRest w first) where
  -- the pack after so many moves
  abbrev pack_at : ℕ → Pack
  pack_at moves = record { number = w.next_job; moves = moves; before = text_length w.area w.journal }

  -- the journal that the disk holds after so many moves, and its area
  abbrev journal_at : ℕ → List Record
  journal_at (suc (suc (suc (suc more)))) = packed w.journal
  journal_at h = w.journal

  abbrev area_at : ℕ → Area
  area_at (suc (suc (suc (suc more)))) = other_area w.area
  area_at h = w.area

  -- the switch is under way between the third move and the fourth
  abbrev switching_at : ℕ → Bool
  switching_at (suc (suc (suc zero))) = true
  switching_at (suc (suc (suc (suc more)))) = false
  switching_at h = w.is_switching

  -- the state in which so many moves are made
  abbrev at : ℕ → ℕ → State
  at moves faults = record w {
    journal = journal_at moves;
    area = area_at moves;
    is_switching = switching_at moves;
    next_job = w.next_job + 1;
    alone = Some (Packing (pack_at moves));
    disk_faults = faults;
  }

  -- a state in which some moves are made
  record Stage (v : State) : Type 0 where
    pub moves : ℕ
    pub faults : ℕ
    pub low : w.disk_faults ≤ faults
    pub is : v ≡ at moves faults

  steps-pack : (moves faults k : ℕ) (outcome : Outcome) (new : State) →
      Happens 8 k (at moves faults) (Step w.next_job) outcome new →
      Packs (at moves faults) (pack_at moves) moves outcome new
  steps-pack moves faults k outcome new h =
      rw (eq-eqb w.next_job w.next_job refl) at (subst (λ b. StepsOpen (at moves faults) w.next_job b outcome
      new) O.rest.idle.2 (subst (λ b. Steps (at moves faults) w.next_job b outcome new) O.opened h))

  -- a move that goes on
  on : (moves faults : ℕ) (new : State) → w.disk_faults ≤ faults →
      Packs (at moves faults) (pack_at moves) moves More new → Stage new
  on zero faults new low (f, l, is) =
      record { moves = 1; faults = f; low = omega (arith, low, l); is = is }
  on (suc zero) faults new low (f, l, is) =
      record { moves = 2; faults = f; low = omega (arith, low, l); is = is }
  on (suc (suc zero)) faults new low (f, l, is) =
      record { moves = 3; faults = f; low = omega (arith, low, l); is = is }
  on (suc (suc (suc zero))) faults new low (f, l, is) =
      record { moves = 4; faults = f; low = omega (arith, low, l); is = is }
  on (suc (suc (suc (suc zero)))) faults new low h = absurd h
  on (suc (suc (suc (suc (suc more))))) faults new low h = absurd h

  -- the state that a pack leaves, with its flags as they are known
  past : (journal : List Record) (area : Area) (s switching b barred : Bool) (faults : ℕ) (new : State) →
      new ≡ packed_over w journal area s b faults → s ≡ switching → b ≡ barred →
      new ≡ packed_over w journal area switching barred new.disk_faults
  past journal area s switching b barred faults new is same_switch same_bar =
      is ∙ (λ i. packed_over w journal area (same_switch i) (same_bar i)
      (sym (ap (λ (v : State). v.disk_faults) is) i))

  -- the journal is as it was: a disk call failed
  failed : (old f : ℕ) (switching : Bool) (new : State) → w.disk_faults ≤ old → old ≤ f → Rose old f →
      new ≡ packed_over w w.journal w.area switching true f → PackEnds w answer.DiskFault new
  failed old f switching new low l rose is = (let e = ap (λ (v : State). v.disk_faults) is in (
    subst (Rose w.disk_faults) (sym e) (rose-before w.disk_faults old f low l rose),
    omega (arith, low, l, e),
    switching,
    past w.journal w.area switching switching true true f new is refl refl,
  ))

  -- or there was no memory
  unmade : (f : ℕ) (new : State) → w.disk_faults ≤ f →
      new ≡ packed_over w w.journal w.area w.is_switching w.is_barred f → PackEnds w answer.Memory new
  unmade f new low is = (let e = ap (λ (v : State). v.disk_faults) is in (
    omega (arith, low, e),
    past w.journal w.area w.is_switching false w.is_barred false f new is O.rest.unswitched O.rest.idle.2,
  ))

  -- the last move
  ends : (moves faults : ℕ) (how : Answer) (new : State) → w.disk_faults ≤ faults →
      Packs (at moves faults) (pack_at moves) moves (Ended how) new → PackEnds w how new
  ends zero faults answer.DiskFault new low (f, l, rose, is) =
      failed faults f w.is_switching new low l rose is
  ends zero faults answer.Memory new low is = unmade faults new low is
  ends (suc zero) faults answer.DiskFault new low (f, l, rose, is) =
      failed faults f w.is_switching new low l rose is
  ends (suc (suc zero)) faults answer.DiskFault new low (f, l, rose, is) =
      failed faults f true new low l rose is
  ends (suc (suc zero)) faults answer.Memory new low is = unmade faults new low is
  ends (suc (suc (suc zero))) faults answer.DiskFault new low (f, l, rose, is) =
      failed faults f true new low l rose is
  ends (suc (suc (suc (suc zero)))) faults (answer.Packed before after) new low (b, a, is) = (
    b,
    a,
    (let e = ap (λ (v : State). v.disk_faults) is in omega (arith, low, e)),
    past (packed w.journal) (other_area w.area) false false w.is_barred false faults new is refl
        O.rest.idle.2,
  )
  ends moves faults how new low h = absurd h

  -- steps that all go on
  steps : (v : State) (moment : ℕ) (ms : List Moment) → Stage v → AreSteps v moment w.next_job ms →
      Stage (now v ms)
  steps v moment [] S h = S
  steps v moment (m ∷ ms) S (event, outcome, happens, rest) = (let r = steps v moment ms S rest in
      on r.moves r.faults m.state r.low
      (steps-pack r.moves r.faults (moment + length ms) More m.state
      (subst (λ (u : State). Happens 8 (moment + length ms) u (Step w.next_job) More m.state) r.is happens)))

  -- a pack that runs alone
  pub pack-ends : (new : State) (moment : ℕ) (how : Answer) → RunsPack w moment how new → PackEnds w how new
  pack-ends new moment how r = (let b = r.begins in
      let g : GoesOnTo r.begun (moment + 1) w.next_job how [] new =
      subst (λ k. GoesOnTo r.begun (moment + 1) k how [] new) b.2 r.goes_on in
      let z : Stage (now r.begun g.steps) = steps r.begun (moment + 1) g.steps
      (record { moves = 0; faults = w.disk_faults; low = omega arith; is = b.3 }) g.are_steps in
      ends z.moves z.faults how new z.low
      (steps-pack z.moves z.faults ((moment + 1) + length g.steps) (Ended how) new
      (subst (λ (u : State). Happens 8 ((moment + 1) + length g.steps) u (Step w.next_job) (Ended how) new)
      z.is g.ends)))
