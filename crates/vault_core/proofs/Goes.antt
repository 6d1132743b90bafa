-- A job as it is kept stays so when it goes on.
use Rattle.vault_core.proofs.Words.{◌≡◌, ℕ, zero, suc, ◌+◌, ◌-◌, ◌<◌, ◌≤◌, Bool, true, false, cond, List, [], ◌∷◌, ◌++◌, Some, None, length, map, inl, inr, refl, ap, sym, subst, ◌∙◌, arith, Global, ◌⊎◌, ◌==◌, nat_lt, sum_by, slice_get, if◌then◌else◌, All, cases_Bool, false≢true, and_parts, eqb-true, lt-ltb, length-drop, sum_by-cons, All-map, Setup, Aim, ToPut, ToAudit, Action, WriteBody, SyncGate, Remove, End, append_actions, plan_actions, ends_append, removes_older, most_after, Counts, IsPadded, Kept, Wish, Cursor, Task, CoreJob, core_pins, plan_in, planned, planned_by, rest_in, appends_in, numbers, tasks_from, rest_from, rest_of, closing_of, targets_of, stripes_in, turns_for, tasks_made, most_of, is_move, number_as, taken_as, aimed, is_taker, decides_on, drawn_tasks, listed_older, removals_of, LeavesBehind, comes_to, is_caller, plan_kept, core_job, IsSteadyJob, IsJobKept, size_of_turn, aim_of_wish}
use Rattle.std.proofs.Common.{◌*◌, Option, drop, length-append, Vec}
use Rattle.std.specs.Prelude.{◌&&◌}
use Rattle.vault_core.specs.declared.pinned.Pinned.{Pinned}
use Rattle.vault_core.specs.declared.wish.Wish.TheVariants as wish
use Rattle.vault_core.specs.declared.cursor.Move.TheVariants as move
use Rattle.vault_core.specs.declared.cursor.Cursor.TheVariants as at
use Rattle.vault_core.specs.declared.job.Job.{Job}
use Rattle.vault_core.proofs.Rests.{rest_is, by_call}
use Rattle.vault_core.proofs.Counts.{gates, gates-append, gates_behind, last_appends, moves_gates, closing_gates, removes_none, MayHave, moves_have}
use Rattle.vault_core.proofs.Gates.{set_with, action_at, cursor_at, move_at, rest_some, takes, removals_length}
use Rattle.vault_core.proofs.Whole.{whole, behind_last}
use Rattle.vault_core.proofs.Turns.{length-from}

-- ---- lists

-- behind one more action
pub drop_one : {X : Type 0} (p : ℕ) (xs : List X) → drop 1 (drop p xs) ≡ drop (p + 1) xs
drop_one zero xs = refl
drop_one (suc p) [] = none (suc p + 1)
  where
    none : {Y : Type 0} (q : ℕ) → [] ≡ drop {A = Y} q []
    none zero = refl
    none (suc q) = refl
drop_one (suc p) (x ∷ xs) =
    drop_one p xs ∙ ap (λ (k : ℕ). drop k (x ∷ xs)) (let e : suc (p + 1) ≡ suc p + 1 = omega arith in e)

-- only before the first action a list is all there
all_there : {X : Type 0} (p : ℕ) (xs : List X) → 0 < length xs → drop p xs ≡ xs → p ≡ 0
all_there p xs l e = omega (arith, ap (λ (ys : List _). length ys) e, length-drop p xs, l)

-- ---- what is counted of a job

-- the removals that count where a gate is left
abbrev pub extra : Bool → ℕ → ℕ → ℕ
extra b k n = if b && nat_lt 0 k then n else 0

pub extra_more : (b : Bool) (k m n : ℕ) → 0 < k → 0 < m → extra b k n ≡ extra b m n
extra_more b k m n l h = rw (lt-ltb 0 k l, lt-ltb 0 m h) refl

pub extra_none : (b : Bool) (n : ℕ) → extra b 0 n ≡ 0
extra_none true n = refl
extra_none false n = refl

-- a list of as many actions with as many gates leaves as many steps
pub most_same : (s : Setup) (aim : Aim) (xs ys : List Action) → length xs ≡ length ys → gates xs ≡ gates ys →
    most_after s aim xs ≡ most_after s aim ys
most_same s aim xs ys l g = ap (λ k. k + extra (removes_older aim) (gates xs) s.n) l
    ∙ ap (λ k. length ys + extra (removes_older aim) k s.n) g

module _ {s : Setup} {job : Job} (kept : IsJobKept s job) where
  -- its appends are the gates from its cursor on
  pub appends_here : job.appends ≡ gates (rest_of s.n job)
  appends_here = kept.appends ∙ ap gates (sym kept.listed)

  -- the steps that it may still make are told from its cursor on
  pub left_here : job.left ≡ most_after s (aim_of_wish job.wish) (rest_of s.n job)
  left_here = kept.left ∙ ap (most_after s (aim_of_wish job.wish)) (sym kept.listed)

  -- some step is left
  pub left_some : 0 < job.left
  left_some = omega (arith, left_here, rest_some kept.steady)

  -- where its next action is a move of an append, it has one or two appends
  pub may_have : (a : Action) → slice_get (rest_of s.n job) 0 ≡ Some a → is_move (Some a) ≡ true →
      MayHave job.wish job.appends
  unfolding rest_of
  may_have a h m = moves_have s.n job.wish job.flagged job.tasks.items job.cursor job.appends
      (move_at job.wish job.cursor (ap (λ x. is_move (Some x)) (cursor_at kept.steady h) ∙ m))
      kept.steady.comes appends_here

-- ---- an action that ends no append

-- a job goes on behind an action that is no gate
pub moved_kept : (s : Setup) (job : Job) (c : Cursor) (a : Action) → IsJobKept s job →
    IsSteadyJob s.n (record job { cursor = c; place = job.place + 1; left = job.left - 1 }) →
    rest_of s.n (record job { cursor = c; place = job.place + 1; left = job.left - 1 })
    ≡ drop 1 (rest_of s.n job) → slice_get (rest_of s.n job) 0 ≡ Some a → ends_append a ≡ false →
    IsJobKept s (record job { cursor = c; place = job.place + 1; left = job.left - 1 })
moved_kept s job c a kept steady rest head plain =
    let new = record job { cursor = c; place = job.place + 1; left = job.left - 1 } in
    let listed : rest_of s.n new ≡ rest_in s (core_job new) =
    rest ∙ (ap (drop 1) kept.listed ∙ drop_one job.place (planned s (plan_kept job))) in
    let g : gates (rest_of s.n job) ≡ gates (drop 1 (rest_of s.n job)) =
    let b = gates_behind (rest_of s.n job) a head in
    let x = ap (λ t. cond {A = ℕ} t 1 0) plain in omega (arith, b, x) in
    let appends : job.appends ≡ appends_in s (core_job new) =
    appends_here kept ∙ (g ∙ ap gates (sym rest ∙ listed)) in
    let most : job.left - 1 ≡ most_of s (core_job new) =
    let l = left_here kept in
    let n = rest_some kept.steady in
    let d = length-drop 1 (rest_of s.n job) in
    let e = ap (λ k. extra (removes_older (aim_of_wish job.wish)) k s.n) g in
    let f = ap (most_after s (aim_of_wish job.wish)) (sym rest ∙ listed) in
    omega (arith, l, n, d, e, f) in
    record {
      steady = steady;
      tasks = kept.tasks;
      listed = listed;
      appends = appends;
      left = most;
      fits = (let l = left_some kept in let f = kept.fits in omega (arith, l, f));
      undecided = kept.undecided;
    }

-- an audit that has its sums is kept as before
pub judged_kept : (s : Setup) (job : Job) (u : ℕ) (cs : Counts) → IsJobKept s job → cs.n ≡ s.n → IsPadded cs →
    IsJobKept s (record job { undecided = u; counts = cs })
unfolding rest_of
judged_kept s job u cs kept e padded = record {
  steady = record {
    stays = set_with (record job { undecided = u; counts = cs }) refl refl refl
        kept.steady.stays.tasks kept.steady.stays.idle e padded kept.steady.stays;
    comes = kept.steady.comes;
    within = kept.steady.within;
  };
  tasks = kept.tasks;
  listed = kept.listed;
  appends = kept.appends;
  left = kept.left;
  fits = kept.fits;
  undecided = kept.undecided;
}

-- its actions stay
pub judged_rest : (n : ℕ) (job : Job) (u : ℕ) (cs : Counts) →
    rest_of n (record job { undecided = u; counts = cs }) ≡ rest_of n job
unfolding rest_of
judged_rest n job u cs = refl

-- ---- the first move of an append

-- the tasks of a put that takes a number
aimed_made : (s : Setup) (v : Wish) (profile o k : ℕ) (pins : List Pinned) →
    drawn_tasks k v (tasks_made (turns_for s v) (targets_of v profile o pins))
    ≡ tasks_made (turns_for s v) (targets_of v profile k pins)
aimed_made s (wish.Put name size own) profile o k pins =
    elim (cases_Bool (nat_lt 0 (stripes_in s (record { id = o; length = size; profile = profile })))) [
      | inl t ↦ rw t refl
      | inr f ↦ rw f refl
    ]
aimed_made s v profile o k pins = refl

drawn_turns : (k : ℕ) (w : Wish) (ts : List Task) → All (λ (t : Task). 0 < t.turns) ts →
    All (λ (t : Task). 0 < t.turns) (drawn_tasks k w ts)
drawn_turns k (wish.Put name size own) ts h = All-map (λ t. 0 < t.turns) (aimed k) ts h
drawn_turns k w ts h = h

drawn_idle : (k : ℕ) (w : Wish) (ts : List Task) → ts ≡ [] → drawn_tasks k w ts ≡ []
drawn_idle k (wish.Put name size own) ts e = ap (map (aimed k)) e
drawn_idle k w ts e = e

drawn_sizes : (k m : ℕ) (w : Wish) (ts : List Task) →
    sum_by (λ (t : Task). t.turns * m) (drawn_tasks k w ts) ≡ sum_by (λ (t : Task). t.turns * m) ts
drawn_sizes k m (wish.Put name size own) ts = by ts
  where
    by : (us : List Task) → sum_by (λ t. t.turns * m) (map (aimed k) us) ≡ sum_by (λ t. t.turns * m) us
    by [] = refl
    by (u ∷ us) = (omega (
      arith,
      sum_by-cons (λ (t : Task). t.turns * m) (aimed k u) (map (aimed k) us),
      sum_by-cons (λ (t : Task). t.turns * m) u us,
      by us,
    ))
drawn_sizes k m w ts = refl

-- a job whose next action begins an append is at the first move of its first append or of its last one
pub at_start : (w : Wish) (c : Cursor) → action_at w c ≡ WriteBody →
    (c ≡ at.Opening move.Body) ⊎ (c ≡ at.Closing move.Body)
at_start w (at.Opening move.Body) h = inl refl
at_start w (at.Calling spot j) h =
    absurd (by_call (λ x. x ≡ WriteBody → ⊥) w spot.object spot.turn j (λ e. cc) (λ e. cc) (λ e. cc) h)
at_start w (at.Closing move.Body) h = inr refl
at_start w c h = cc

-- one that has a single append before it draws no number
number_one : (t : Kept) (subject : ℕ) (aim : Aim) → number_as t 1 subject aim ≡ subject
number_one t subject (ToPut name size) = refl
number_one t subject ToAudit = refl
number_one t subject aim = refl

module _ (s : Setup) (job : Job) (k : ℕ) (v : Vec Task Global) (kept : IsJobKept s job)
    (is : v.items ≡ drawn_tasks k job.wish job.tasks.items) where
  abbrev taken : Job
  taken = record job { subject = k; tasks = v }

  tasks_taken : v.items ≡ tasks_made (turns_for s job.wish)
      (targets_of job.wish job.profile k job.pinned.items)
  tasks_taken = is ∙ (ap (drawn_tasks k job.wish) kept.tasks
      ∙ aimed_made s job.wish job.profile job.subject k job.pinned.items)

  steady_taken : IsSteadyJob s.n taken
  steady_taken = record {
    stays = set_with taken refl refl refl (rw (← is) at (drawn_turns k job.wish job.tasks.items
        kept.steady.stays.tasks)) (λ h. is ∙ drawn_idle k job.wish job.tasks.items (kept.steady.stays.idle h))
        kept.steady.stays.counts kept.steady.stays.padded kept.steady.stays;
    comes = kept.steady.comes;
    within = kept.steady.within;
  }

  -- with as many actions and gates before it, all else stays
  kept_taken : rest_of s.n taken ≡ rest_in s (core_job taken) →
      length (rest_of s.n taken) ≡ length (rest_of s.n job) →
      gates (rest_of s.n taken) ≡ gates (rest_of s.n job) → IsJobKept s taken
  kept_taken listed l g = record {
    steady = steady_taken;
    tasks = tasks_taken;
    listed = listed;
    appends = appends_here kept ∙ (sym g ∙ ap gates listed);
    left = left_here kept ∙ (sym (most_same s (aim_of_wish job.wish) (rest_of s.n taken) (rest_of s.n job) l
        g) ∙ ap (most_after s (aim_of_wish job.wish)) listed);
    fits = kept.fits;
    undecided = kept.undecided;
  }

  -- at its first append
  opens : job.cursor ≡ at.Opening move.Body → IsJobKept s taken
  opens c =
      let front =
      ap (λ b. if b then append_actions else []) (subst (λ (x : Cursor). comes_to job.wish x ≡ true) c
      kept.steady.comes) in
      let old =
      rest_is s.n job c in
      let now =
      rest_is s.n taken c in
      let older = kept.undecided (let a = appends_here kept ∙ ap gates old in
      let b = moves_gates s.n job.wish job.flagged job.tasks.items move.Body in omega (arith, a, b)) in
      let first = old
      ∙ (ap (λ xs. xs ++ tasks_from s.n job.wish job.flagged job.tasks.items) (sym front)
      ∙ whole s job older kept.steady.stays.idle kept.tasks) in
      kept_taken ((now
      ∙ (ap (λ (xs : List Action). xs ++ tasks_from s.n job.wish job.flagged v.items) (sym front)
      ∙ whole s taken older steady_taken.stays.idle tasks_taken)) ∙ ap (λ p. drop p
      (planned s (plan_kept taken))) (sym (all_there job.place (planned s (plan_kept job))
      (let n = rest_some kept.steady in let e = ap (λ (xs : List Action). length xs) first in
      omega (arith, n, e))
      (sym kept.listed ∙ first)))) (let a = ap (λ (xs : List Action). length xs) old in
      let b = ap (λ (xs : List Action). length xs) now in
      let c = length-append append_actions (tasks_from s.n job.wish job.flagged job.tasks.items) in
      let d = length-append append_actions (tasks_from s.n job.wish job.flagged v.items) in
      let e = length-from s.n job.wish job.flagged job.tasks.items in
      let f = length-from s.n job.wish job.flagged v.items in
      let g = ap (λ (ts : List Task). sum_by
      (λ (t : Task). t.turns * size_of_turn s.n job.wish job.flagged) ts) is
      ∙ drawn_sizes k (size_of_turn s.n job.wish job.flagged) job.wish job.tasks.items in
      omega (arith, a, b, c, d, e, f, g)) (let a = ap gates old in
      let b = ap gates now in
      let c = moves_gates s.n job.wish job.flagged job.tasks.items move.Body in
      let d = moves_gates s.n job.wish job.flagged v.items move.Body in
      omega (arith, a, b, c, d))

  -- at its last append its number stays
  closes : job.cursor ≡ at.Closing move.Body → k ≡ job.subject → IsJobKept s taken
  closes c e =
      let old = rest_is s.n job c in
      let now = rest_is s.n taken c in
      kept_taken (now ∙ (sym old ∙ (kept.listed
      ∙ ap (λ i. drop job.place (planned s (record (plan_kept job) { subject = i }))) (sym e))))
      (ap (λ xs. length xs) (now ∙ sym old)) (ap gates (now ∙ sym old))

  -- the number that the append draws, or has drawn
  pub drawn_kept : (t : Kept) → slice_get (rest_of s.n job) 0 ≡ Some WriteBody →
      k ≡ number_as t job.appends job.subject (aim_of_wish job.wish) → IsJobKept s taken
  drawn_kept t h e = elim (at_start job.wish job.cursor (cursor_at kept.steady h)) [
    | inl c ↦ opens c
    | inr c ↦ closes c (e ∙ (ap (λ (a : ℕ). number_as t a job.subject (aim_of_wish job.wish))
        (appends_here kept ∙ (ap gates (rest_is s.n job c) ∙ closing_gates s.n job.wish job.flagged
        job.tasks.items move.Body)) ∙ number_one t job.subject (aim_of_wish job.wish)))
  ]

-- ---- the last move of an append

-- a job at the fourth move of an append is at that of its first append or of its last one
at_gate : (w : Wish) (c : Cursor) → action_at w c ≡ SyncGate →
    (c ≡ at.Opening move.GateSync) ⊎ (c ≡ at.Closing move.GateSync)
at_gate w (at.Opening move.GateSync) h = inl refl
at_gate w (at.Calling spot j) h =
    absurd (by_call (λ x. x ≡ SyncGate → ⊥) w spot.object spot.turn j (λ e. cc) (λ e. cc) (λ e. cc) h)
at_gate w (at.Closing move.GateSync) h = inr refl
at_gate w c h = cc

-- who takes an older object away and has more than its last append before it has two: it is a put
two_left : (w : Wish) (k : ℕ) → MayHave w k → is_taker w ≡ true → (k ≡ 1 → ⊥) → k ≡ 2
two_left (wish.Put name size own) k (inl p) t n = p.0
two_left (wish.Drop name) k (inl p) t n = absurd (n p.0)
two_left w k (inr p) t n = absurd (n p.0)
two_left w k (inl p) t n = absurd (false≢true t)

module _ (s : Setup) (job : Job) (kept : IsJobKept s job) (gate : slice_get (rest_of s.n job)
    0 ≡ Some SyncGate)
  where
    has : MayHave job.wish job.appends
    has = may_have kept SyncGate gate refl

    -- it has this append before it
    pub gate_some : 0 < job.appends
    gate_some = omega (arith, (appends_here kept), gates_behind (rest_of s.n job) SyncGate gate)

    -- it takes nothing away yet
    pub gate_older : job.older ≡ None
    gate_older = kept.undecided gate_some

    -- where the append decides, it is the last one, of a put or a drop
    decided_parts : decides_on job ≡ true → (job.appends ≡ 1) × (is_taker job.wish ≡ true)
    decided_parts d =
        let p = and_parts (job.appends - 1 == 0) (is_taker job.wish) d in
        ((omega (arith, eqb-true (job.appends - 1) 0 p.0, gate_some)), p.1)

    -- and where it does not, nothing is taken away, or a further append is left
    pub undecided_more : decides_on job ≡ false → removes_older (aim_of_wish job.wish) ≡ true →
        job.appends ≡ 2
    undecided_more d r = two_left job.wish job.appends has (taker job.wish r) (λ e. false≢true (sym d
        ∙ (ap (λ (k : ℕ). (k - 1 == 0) && is_taker job.wish) e ∙ taker job.wish r)))
      where
        taker : (w : Wish) → removes_older (aim_of_wish w) ≡ true → is_taker w ≡ true
        taker (wish.Put name size own) h = refl
        taker (wish.Drop name) h = refl
        taker w h = absurd (false≢true h)

    pub undecided_none : (t : Kept) (jobs : List CoreJob) → decides_on job ≡ false →
        taken_as t jobs job.appends (aim_of_wish job.wish) ≡ []
    undecided_none t jobs d = by job.wish refl
      where
        by : (w : Wish) → job.wish ≡ w → taken_as t jobs job.appends (aim_of_wish w) ≡ []
        by (wish.Put name size own) e = ap (λ (k : ℕ). taken_as t jobs k (ToPut name size))
            (undecided_more d (ap (λ (w : Wish). removes_older (aim_of_wish w)) e))
        by (wish.Drop name) e = absurd (let k = undecided_more d
            (ap (λ (w : Wish). removes_older (aim_of_wish w)) e) in drops k (rw e at has))
          where
            drops : job.appends ≡ 2 → MayHave (wish.Drop name) job.appends → ⊥
            drops k (inl p) = (let q = p.0 in omega (arith, k, q))
            drops k (inr p) = (let q = p.0 in omega (arith, k, q))
        by w e = refl

    -- what is left of a job that decides
    decides_rest : decides_on job ≡ true → rest_of s.n job ≡ SyncGate ∷ End ∷ []
    decides_rest d =
        let p = decided_parts d in
        elim (at_gate job.wish job.cursor (cursor_at kept.steady gate)) [
          | inr c ↦ rest_is s.n job c
          | inl c ↦ rest_is s.n job c ∙ by job.wish refl p.1 p.0 (appends_here kept
              ∙ ap gates (rest_is s.n job c))
        ]
      where
        by : (w : Wish) → job.wish ≡ w → is_taker w ≡ true → job.appends ≡ 1 →
            job.appends ≡ gates (rest_from s.n job.wish job.flagged job.tasks.items
            (at.Opening move.GateSync)) →
            SyncGate ∷ tasks_from s.n job.wish job.flagged job.tasks.items ≡ SyncGate ∷ End ∷ []
        by (wish.Put name size own) e t one g = absurd
            (let a = moves_gates s.n job.wish job.flagged job.tasks.items move.GateSync in
            let b = ap last_appends e in let c : last_appends (wish.Put name size own) ≡ 1 = refl in
            omega (arith, one, g, a, b, c))
        by (wish.Drop name) e t one g = ap (λ ts. SyncGate ∷ tasks_from s.n job.wish job.flagged ts)
            (kept.steady.stays.idle (ap is_caller e))
            ∙ ap (λ w. SyncGate ∷ closing_of w) e
        by w e t one g = absurd (false≢true t)

    -- so many steps are left of one that decides: this one, a removal each, and its end
    pub decides_left : decides_on job ≡ true → job.left ≡ 2 + s.n
    decides_left d = left_here kept ∙ rw (decides_rest d, takes job.wish (decided_parts d).1) refl

module _ (s : Setup) (job : Job) (kept : IsJobKept s job) (gate : slice_get (rest_of s.n job)
    0 ≡ Some SyncGate)
    (older : Option ℕ) (c : Cursor) (l : ℕ) where
  -- the job behind the last move of its append
  abbrev pub finished : Job
  finished = record job {
    older = older;
    cursor = c;
    appends = job.appends - 1;
    place = job.place + 1;
    left = l;
  }

  -- the actions of a plan that takes nothing away
  bare : planned s (plan_kept job) ≡ plan_actions core_pins s
      (record (plan_in (plan_kept job)) { older = [] })
      (aim_of_wish job.wish)
  unfolding planned_by
  bare = ap (λ o. plan_actions core_pins s (record (plan_in (plan_kept job)) { older = listed_older o })
      (aim_of_wish job.wish)) (gate_older s job kept gate)

  no_gates : (o : Option ℕ) → gates (removals_of s.n o) ≡ 0
  no_gates None = refl
  no_gates (Some object) = (omega (
    arith,
    gates-append (map (λ j. Remove j object) (numbers 0 s.n)) (End ∷ []),
    removes_none object (numbers 0 s.n),
  ))

  few : (o : Option ℕ) → length (removals_of s.n o) ≤ 1 + s.n
  few None = omega arith
  few (Some object) = omega (arith, removals_length s.n object)

  -- one that has decided on what it takes away
  decided_kept : decides_on job ≡ true → IsSteadyJob s.n finished →
      (rest_of s.n finished ≡ removals_of s.n older) × (l ≡ length (removals_of s.n older)) →
      IsJobKept s finished
  unfolding planned_by
  decided_kept d steady h =
      let p = decided_parts s job kept gate d in
      let listed = h.0
      ∙ sym (behind_last s (plan_in (plan_kept job)) job.wish job.place older p.1
      (ap (drop job.place) (sym bare) ∙ (sym kept.listed ∙ decides_rest s job kept gate d))) in
      let none_left = ap gates (sym listed ∙ h.0)
      ∙ no_gates older in
      let most =
      h.1 ∙ (ap (λ xs. length xs) (sym h.0 ∙ listed)
      ∙ (let a = ap (λ k. extra (removes_older (aim_of_wish job.wish)) k s.n) none_left in
      let b = extra_none (removes_older (aim_of_wish job.wish)) s.n in
      omega (arith, a, b))) in
      record {
        steady = steady;
        tasks = kept.tasks;
        listed = listed;
        appends = omega (arith, p.0, none_left);
        left = most;
        fits = omega (arith, kept.fits, decides_left s job kept gate d, h.1, few older);
        undecided = λ some. absurd (omega (arith, p.0, some));
      }

  extras : (b : Bool) → (b ≡ true → job.appends ≡ 2) → extra b (job.appends - 1) s.n ≡ extra b job.appends s.n
  extras false h = refl
  extras true h = (let k = h refl in
      extra_more true (job.appends - 1) job.appends s.n (omega (arith, k)) (omega (arith, k)))

  -- one that takes nothing away by it
  undecided_kept : decides_on job ≡ false → older ≡ None → IsSteadyJob s.n finished →
      (rest_of s.n finished ≡ drop 1 (rest_of s.n job)) × (l ≡ job.left - 1) → IsJobKept s finished
  unfolding planned_by
  undecided_kept d none steady h =
      let listed : rest_of s.n finished ≡ rest_in s (core_job finished) = h.0 ∙ (ap (drop 1) kept.listed
      ∙ (drop_one job.place (planned s (plan_kept job)) ∙
      ap (drop (job.place + 1)) (sym (ap (λ (o : Option ℕ). plan_actions core_pins s
      (record (plan_in (plan_kept job))
      { older = listed_older o })
      (aim_of_wish job.wish)) (none ∙ sym (gate_older s job kept gate)))))) in
      let fewer : gates (rest_in s (core_job finished)) ≡ job.appends - 1 =
      omega (
        arith,
        (appends_here kept),
        ap gates (sym listed ∙ h.0),
        gates_behind (rest_of s.n job) SyncGate gate,
      ) in
      record {
        steady = steady;
        tasks = kept.tasks;
        listed = listed;
        appends = sym fewer;
        left = h.1 ∙ (let a = left_here kept in
            let b = ap (λ (xs : List Action). length xs) (sym listed ∙ h.0) in
            let e = length-drop 1 (rest_of s.n job) in
            let n = rest_some kept.steady in
            let x = extras (removes_older (aim_of_wish job.wish)) (undecided_more s job kept gate d) in
            let y = ap (λ (k : ℕ). extra (removes_older (aim_of_wish job.wish)) k s.n) fewer in
            let z = ap (λ (k : ℕ). extra (removes_older (aim_of_wish job.wish)) k s.n)
            (sym (appends_here kept)) in
            omega (arith, a, b, e, n, x, y, z));
        fits = omega (arith, kept.fits, left_some kept, h.1);
        undecided = λ some. none;
      }

  -- a job behind the last move of an append is kept
  pub finished_kept : IsSteadyJob s.n finished → LeavesBehind s.n older (decides_on job) job finished →
      (decides_on job ≡ false → older ≡ None) → IsJobKept s finished
  finished_kept steady behind none = elim (cases_Bool (decides_on job)) [
    | inl d ↦ decided_kept d steady (subst (λ b. LeavesBehind s.n older b job finished) d behind)
    | inr d ↦ undecided_kept d (none d) steady (subst (λ b. LeavesBehind s.n older b job finished) d behind)
  ]
