-- A stream that waits for a stripe and is told the length of its file is a put of this length as it is kept.
use Rattle.vault_core.proofs.Words.{◌≡◌, ℕ, ◌+◌, ◌-◌, ◌/◌, ◌^◌, ◌<◌, ◌≤◌, Bool, true, false, List, [], ◌∷◌, ◌++◌, Some, None, length, inl, inr, refl, ap, sym, subst, ◌∙◌, arith, Global, ◌⊎◌, nat_lt, if◌then◌else◌, All, flat_map, range_with_len, cases_lt, false≢true, lt-ltb, le-ltb, ne_eqb, eq-eqb, drop_at, le-div, Setup, profiled, stripes_of, Aim, ToPut, Action, Store, End, append_actions, on_each_provider, plan_actions, removes_older, most_after, room_left, is_upgrade, Wish, Spot, Task, core_pins, plan_in, planned_by, rest_in, appends_in, stripe_size, IsLongest, IsToldAs, of_length, cut_tasks, cursor_behind, steps_behind, turn_of, turns_from, rest_from, rest_of, reserved_of, starts_of, starts_by, targets_of, stripes_in, turns_for, tasks_made, most_of, listed_older, plan_kept, core_job, is_caller, comes_to, IsWithin, IsSteadyJob, IsJobKept, HasName, IsShort, aim_of_wish, profile_named}
use Rattle.std.proofs.Common.{◌*◌, drop, Vec}
use Rattle.std.specs.Prelude.{Option, ◌&&◌}
use Rattle.std.proofs.Math.Nat.{div-mul-le_self}
use Rattle.vault_core.specs.declared.wish.Wish.TheVariants as wish
use Rattle.vault_core.specs.declared.cursor.Move.TheVariants as move
use Rattle.vault_core.specs.declared.cursor.Cursor.TheVariants as at
use Rattle.vault_core.specs.declared.job.Job.{Job}
use Rattle.vault_core.proofs.Begun.{tasks-all}
use Rattle.vault_core.proofs.Counts.{gates}
use Rattle.vault_core.proofs.Whole.{flat-same, put-turn}
use Rattle.vault_core.proofs.Rests.{rest_is, turns_here, turn_joined}
use Rattle.vault_core.proofs.Fronts.{front, behind, front-behind, front-long, one-gate, behind-long, fits}

-- ---- a put

-- a wish of the longest file is a put
record IsStreamWish (w : Wish) : Type 0 where
  pub name : List ℕ
  pub own : Option ℕ
  pub is : w ≡ wish.Put name (2 ^ 22) own

stream-wish : (w : Wish) → IsLongest (aim_of_wish w) → IsStreamWish w
stream-wish (wish.Put name size own) e =
    record { name = name; own = own; is = ap (λ n. wish.Put name n own) e }
stream-wish w e = absurd e

-- what a put has before it behind its first stripes
rest-put : (s : Setup) (job : Job) (name : List ℕ) (size : ℕ) (own : Option ℕ) (k : ℕ) →
    job.wish ≡ wish.Put name size own → job.place ≡ 4 + k * s.n →
    k ≤ stripes_of (profiled s job.profile) size →
    rest_in s (core_job job)
    ≡ behind s job.subject (stripes_of (profiled s job.profile) size) k (listed_older job.older)
unfolding planned_by
rest-put s job name size own k e place l =
    let all = stripes_of (profiled s job.profile) size in
    (λ i. drop (place i) ((ap (λ (w : Wish). plan_actions core_pins s (plan_in (plan_kept job))
    (aim_of_wish w)) e
    ∙ front-behind s job.subject all k (listed_older job.older) l) i))
    ∙ drop_at (front s job.subject k) (behind s job.subject all k (listed_older job.older)) (4 + k * s.n)
    (front-long s job.subject k)

-- how many steps a put may still make with one append left
most-put : (s : Setup) (aim : Aim) (xs : List Action) → removes_older aim ≡ true → gates xs ≡ 1 →
    most_after s aim xs ≡ length xs + s.n
most-put s aim xs r g = ap {B = ℕ} (λ b. length xs + (if b && nat_lt 0 (gates xs) then s.n else 0)) r
    ∙ ap {B = ℕ} (λ m. length xs + (if nat_lt 0 m then s.n else 0)) g

-- the one task of a put, cut to fewer stripes
cut-one : (object all stripes : ℕ) → stripes ≤ all →
    cut_tasks stripes (if nat_lt 0 all then record { object = object; turns = all } ∷ [] else [])
    ≡ (if nat_lt 0 stripes then record { object = object; turns = stripes } ∷ [] else [])
cut-one object all stripes l = elim (cases_lt 0 stripes) [
  | inl h ↦ rw (
    lt-ltb 0 all (omega (arith, l, h)),
    lt-ltb 0 stripes h,
    ne_eqb stripes 0 (λ e. absurd (omega (arith, e, h))),
  ) refl
  | inr h ↦ rw (le-ltb 0 stripes h, eq-eqb stripes 0 (omega (arith, h))) refl
]

-- from a stripe on, a put has the stores of each further stripe before it
stores-from : (s : Setup) (name : List ℕ) (size : ℕ) (own : Option ℕ) (fl : List Bool) (object k all : ℕ) →
    turns_from k s.n (wish.Put name size own) fl object all
    ≡ flat_map (λ t. on_each_provider s (λ j. Store j object t)) (range_with_len k (all - k))
stores-from s name size own fl object k all = flat-same (turn_of s.n (wish.Put name size own) fl object)
    (λ t. on_each_provider s (λ j. Store j object t)) (range_with_len k (all - k))
    (put-turn s name size own fl object)

-- the actions from the cursor of a put behind its first stripes
rest-cursor : (s : Setup) (name : List ℕ) (size : ℕ) (own : Option ℕ) (fl : List Bool) (ts : List Task)
    (object k all : ℕ) → k ≤ all →
    ts ≡ (if nat_lt 0 all then record { object = object; turns = all } ∷ [] else []) →
    rest_from s.n (wish.Put name size own) fl ts (cursor_behind object k all) ≡ behind s object all k []
rest-cursor s name size own fl ts object k all l e = elim (cases_lt k all) [
  | inl h ↦ (let w = wish.Put name size own in
      let one : ts ≡ record { object = object; turns = all } ∷ [] =
      e ∙ ap {B = List Task} (λ b. if b then record { object = object; turns = all } ∷ [] else [])
      (lt-ltb 0 all (omega (arith, h))) in
      let spot : Spot = record { object = object; turn = k; turns = all; behind = 1 } in
      ap (λ b. rest_from s.n w fl ts (if b then at.Calling spot 0 else at.Closing move.Body))
      (lt-ltb k all h)
      ∙ (ap (λ us. rest_from s.n w fl us (at.Calling spot 0)) one
      ∙ (sym (turn_joined s.n w fl object k (turns_from (k + 1) s.n w fl object all)
      (append_actions ++ End ∷ []))
      ∙ (ap (λ xs. xs ++ (append_actions ++ End ∷ []))
      (sym (turns_here k s.n w fl object all h))
      ∙ ap (λ xs. xs ++ (append_actions ++ End ∷ []))
      (stores-from s name size own fl object k all)))))
  | inr h ↦ (let z : 0 ≡ all - k = omega (arith, l, h) in
      ap (λ b. rest_from s.n (wish.Put name size own) fl ts
      (if b then at.Calling (record { object = object; turn = k; turns = all; behind = 1 }) 0
      else at.Closing move.Body)) (le-ltb k all h)
      ∙ ap (λ n. flat_map (λ t. on_each_provider s (λ j. Store j object t)) (range_with_len k n)
      ++ (append_actions ++ End ∷ [])) z)
]

-- a longer file has no fewer stripes
more-stripes : (s : Setup) (profile a b : ℕ) → 0 < stripe_size s profile → a ≤ b →
    stripes_of (profiled s profile) a ≤ stripes_of (profiled s profile) b
more-stripes s profile a b some l =
    let d = stripe_size s profile in
    le-div ((a + (d - 1)) / d) (b + (d - 1)) d some (omega (arith, div-mul-le_self (a + (d - 1)) d, l))

fewer-steps : (n k a b : ℕ) → a ≤ b → steps_behind n k a ≤ steps_behind n k b
fewer-steps n k a b l =
    let e : (b - k) * n ≡ (a - k) * n + ((b - k) - (a - k)) * n =
    ap (λ x. x * n) (let f : b - k ≡ (a - k) + ((b - k) - (a - k)) = omega (arith, l) in f)
    ∙ (let g : ((a - k) + ((b - k) - (a - k))) * n ≡ (a - k) * n + ((b - k) - (a - k)) * n = omega arith in g)
    in
    omega (arith, e)

-- ---- the stream

module _ {s : Setup} {job : Job} (kept : IsJobKept s job) (k size : ℕ) {stripes : ℕ} (v : Vec Task Global)
    (some : 0 < s.n) (within : IsToldAs s (core_job job) (Some k)) (place : job.place ≡ 4 + k * s.n)
    (least : k * stripe_size s job.profile ≤ size) (most : size ≤ 2 ^ 22)
    (all : stripes ≡ stripes_in s (record { id = job.subject; length = size; profile = job.profile }))
    (cut : v.items ≡ cut_tasks stripes job.tasks.items) where
  -- the job that was told the length of its file
  abbrev pub ended : Job
  ended = record job {
    wish = of_length size job.wish;
    tasks = v;
    cursor = cursor_behind job.subject k stripes;
    left = steps_behind s.n k stripes;
    told = None;
  }

  abbrev longest_stripes : ℕ
  longest_stripes = stripes_of (profiled s job.profile) (2 ^ 22)

  abbrev own_stripes : ℕ
  own_stripes = stripes_of (profiled s job.profile) size

  is-put : IsStreamWish job.wish
  is-put = stream-wish job.wish within.3

  old-wish : job.wish ≡ wish.Put is-put.name (2 ^ 22) is-put.own
  old-wish = is-put.is

  new-wish : ended.wish ≡ wish.Put is-put.name size is-put.own
  new-wish = ap (of_length size) is-put.is

  old-fits : k ≤ longest_stripes
  old-fits = fits s job.profile k (2 ^ 22) within.1 within.2

  new-fits : k ≤ own_stripes
  new-fits = fits s job.profile k size within.1 least

  fewer : own_stripes ≤ longest_stripes
  fewer = more-stripes s job.profile size (2 ^ 22) within.1 most

  old-rest : rest_in s (core_job job) ≡ behind s job.subject longest_stripes k (listed_older job.older)
  old-rest = rest-put s job is-put.name (2 ^ 22) is-put.own k old-wish place old-fits

  one-left : job.appends ≡ 1
  one-left = kept.appends ∙ (ap gates old-rest
      ∙ one-gate s job.subject longest_stripes k (listed_older job.older))

  none-older : job.older ≡ None
  none-older = kept.undecided (omega (arith, one-left))

  new-rest : rest_in s (core_job ended) ≡ behind s job.subject own_stripes k []
  new-rest = rest-put s ended is-put.name size is-put.own k new-wish place new-fits
      ∙ ap (λ o. behind s job.subject own_stripes k (listed_older o)) none-older

  new-gates : gates (rest_in s (core_job ended)) ≡ 1
  new-gates = ap gates new-rest ∙ one-gate s job.subject own_stripes k []

  task-of : ℕ → List Task
  task-of n = if nat_lt 0 n then record { object = job.subject; turns = n } ∷ [] else []

  old-tasks : job.tasks.items
      ≡ (if nat_lt 0 longest_stripes then record { object = job.subject; turns = longest_stripes } ∷ []
      else [])
  old-tasks = kept.tasks
      ∙ ap (λ w. tasks_made (turns_for s w) (targets_of w job.profile job.subject job.pinned.items))
      old-wish

  new-tasks : v.items
      ≡ (if nat_lt 0 own_stripes then record { object = job.subject; turns = own_stripes } ∷ [] else [])
  new-tasks = cut ∙ ((λ i. cut_tasks (all i) (old-tasks i))
      ∙ cut-one job.subject longest_stripes own_stripes fewer)

  made : v.items
      ≡ tasks_made (turns_for s ended.wish) (targets_of ended.wish job.profile job.subject job.pinned.items)
  made = new-tasks
      ∙ ap (λ w. tasks_made (turns_for s w) (targets_of w job.profile job.subject job.pinned.items))
      (sym new-wish)

  listed : rest_of s.n ended ≡ rest_in s (core_job ended)
  listed = rest_is s.n ended refl ∙ ((λ i. rest_from s.n (new-wish i) job.flagged v.items (cursor_behind
      job.subject k (all i))) ∙ (rest-cursor s is-put.name size is-put.own job.flagged v.items job.subject k
      own_stripes new-fits new-tasks ∙ sym new-rest))

  -- it may make so many steps
  new-left : steps_behind s.n k stripes ≡ most_of s (core_job ended)
  new-left = omega (
    arith,
    most-put s ended_aim (rest_in s (core_job ended)) (ap removes_older (ap aim_of_wish new-wish)) new-gates,
    ap (λ (xs : List Action). length xs) new-rest,
    behind-long s job.subject own_stripes k,
    ap (steps_behind s.n k) all,
  )
    where
      ended_aim : Aim
      ended_aim = aim_of_wish ended.wish

  old-left : job.left ≡ steps_behind s.n k longest_stripes
  old-left = omega (
    arith,
    most-put s (aim_of_wish job.wish) (rest_in s (core_job job)) (ap removes_older (ap aim_of_wish old-wish))
        (ap gates old-rest ∙ one-gate s job.subject longest_stripes k (listed_older job.older)),
    ap (λ (xs : List Action). length xs) (old-rest
        ∙ ap (λ (o : Option ℕ). behind s job.subject longest_stripes k (listed_older o)) none-older),
    behind-long s job.subject longest_stripes k,
    kept.left,
  )

  -- not more than before
  pub ended-left : steps_behind s.n k stripes ≤ job.left
  ended-left =
      let a = old-left in
      let b = ap (steps_behind s.n k) all in
      let c = fewer-steps s.n k own_stripes longest_stripes fewer in
      omega (arith, a, b, c)

  ended-steady : IsSteadyJob s.n ended
  ended-steady = record {
    stays = record {
      tasks = subst (All (λ (t : Task). 0 < t.turns)) (sym made) (tasks-all (turns_for s ended.wish)
          (targets_of ended.wish job.profile job.subject job.pinned.items));
      idle = λ h. absurd (false≢true (sym h ∙ ap is_caller new-wish));
      wishable = (
        subst HasName (sym new-wish) (subst HasName old-wish kept.steady.stays.wishable.0),
        subst IsShort (sym new-wish) most,
      );
      known = kept.steady.stays.known;
      own = λ p e. kept.steady.stays.own p (ap profile_named old-wish
          ∙ (sym (ap profile_named new-wish) ∙ e));
      flags = kept.steady.stays.flags;
      counts = kept.steady.stays.counts;
      padded = kept.steady.stays.padded;
    };
    comes = ap (λ (w : Wish). comes_to w (cursor_behind job.subject k stripes)) new-wish
        ∙ comes (nat_lt k stripes);
    within = inside (cases_lt k stripes);
  }
    where
      comes : (b : Bool) → comes_to (wish.Put is-put.name size is-put.own)
          (if b then at.Calling (record { object = job.subject; turn = k; turns = stripes; behind = 1 }) 0
          else at.Closing move.Body) ≡ true
      comes true = refl
      comes false = refl

      inside : (k < stripes) ⊎ (stripes ≤ k) → IsWithin s.n job.flagged (cursor_behind job.subject k stripes)
      inside (inl l) = subst (λ (b : Bool). IsWithin s.n job.flagged
          (if b then at.Calling (record { object = job.subject; turn = k; turns = stripes; behind = 1 }) 0
          else at.Closing move.Body)) (sym (lt-ltb k stripes l)) (some, l)
      inside (inr l) = subst (λ (b : Bool). IsWithin s.n job.flagged
          (if b then at.Calling (record { object = job.subject; turn = k; turns = stripes; behind = 1 }) 0
          else at.Closing move.Body)) (sym (le-ltb k stripes l)) tt

  -- it is a job as it is kept
  pub ended-kept : IsJobKept s ended
  ended-kept = record {
    steady = ended-steady;
    tasks = made;
    listed = listed;
    appends = one-left ∙ sym new-gates;
    left = new-left;
    fits = (let a = kept.fits in let b = ended-left in omega (arith, a, b));
    undecided = λ h. none-older;
  }

  -- it needs the room that it needed
  pub ended-room : (i : ℕ) → reserved_of i s (core_job ended) ≤ reserved_of i s (core_job job)
  ended-room i =
      let a = ap (λ w. room_left i s (aim_of_wish w) (appends_in s (core_job ended))) new-wish in
      let b = ap (room_left i s (ToPut is-put.name size))
      (new-gates ∙ (sym one-left ∙ kept.appends)) in
      let d = ap (λ w. room_left i s (aim_of_wish w) (appends_in s (core_job job))) old-wish in
      let e : room_left i s (ToPut is-put.name size) (appends_in s (core_job job))
      ≡ room_left i s (ToPut is-put.name (2 ^ 22)) (appends_in s (core_job job)) = refl in
      omega (arith, a, b, d, e)

  -- and no PutStart
  pub ended-starts : starts_of s (core_job ended) ≤ starts_of s (core_job job)
  ended-starts =
      let a = ap (λ w. starts_by (aim_of_wish w) (appends_in s (core_job ended))) new-wish in
      let b = ap (starts_by (ToPut is-put.name size)) new-gates in
      let z : starts_by (ToPut is-put.name size) 1 ≡ 0 = refl in
      omega (arith, a, b, z)

  -- it is an upgrade as little as before
  pub ended-aim : is_upgrade (aim_of_wish ended.wish) ≡ is_upgrade (aim_of_wish job.wish)
  ended-aim = ap (λ w. is_upgrade (aim_of_wish w)) new-wish
      ∙ sym (ap (λ w. is_upgrade (aim_of_wish w)) old-wish)
