-- The first of the actions that a job has not yet made, and where a job is behind it.
use Rattle.vault_core.proofs.Words.{◌≡◌, ℕ, ◌+◌, ◌-◌, ◌<◌, true, false, List, [], ◌∷◌, Some, None, length, map, inl, inr, refl, ap, sym, ◌∙◌, arith, ◌⊎◌, ◌==◌, All, is_some, slice_get, option_map, false≢true, length-map, length-range_with_len, slice_get_within, Action, WriteBody, SyncBody, WriteGate, SyncGate, Store, Ask, Work, Remove, End, removes_older, Wish, Move, Cursor, numbers, call_of, rest_at, rest_of, find_file, Kept, begins_append, is_last_ask, is_move, is_gone, is_idle, is_taker, removals_of, comes_to, is_start, is_over, is_caller, core_job, IsWithin, IsSet, MayBeAt, IsSteadyJob, IsPadded, Task, profile_named, aim_of_wish}
use Rattle.std.proofs.Common.{drop}
use Rattle.std.specs.Prelude.{◌&&◌, not, Option}
use Rattle.std.proofs.lemmas.List.{length-append}
use Rattle.vault_core.specs.declared.wish.Wish.TheVariants as wish
use Rattle.vault_core.specs.declared.cursor.Move.TheVariants as move
use Rattle.vault_core.specs.declared.cursor.Cursor.TheVariants as at
use Rattle.vault_core.specs.declared.job.Job.{Job}
use Rattle.vault_core.proofs.Rests.{numbers_here, calls_here, rewrites_take, first_work, first_of_front, by_call}

-- the action at a cursor
abbrev pub action_at : Wish → Cursor → Action
action_at w (at.Opening move.Body) = WriteBody
action_at w (at.Opening move.BodySync) = SyncBody
action_at w (at.Opening move.Gate) = WriteGate
action_at w (at.Opening move.GateSync) = SyncGate
action_at w (at.Calling spot j) = call_of w spot.object spot.turn j
action_at w (at.Working spot) = Work spot.object spot.turn
action_at w (at.Rewriting spot j) = Store j spot.object spot.turn
action_at w (at.Closing move.Body) = WriteBody
action_at w (at.Closing move.BodySync) = SyncBody
action_at w (at.Closing move.Gate) = WriteGate
action_at w (at.Closing move.GateSync) = SyncGate
action_at w (at.Removing object j) = Remove j object
action_at w at.Ending = End

-- the first action from a cursor on is the one that the cursor tells
pub first_at : (n : ℕ) (job : Job) (c : Cursor) → comes_to job.wish c ≡ true → IsWithin n job.flagged c →
    slice_get (rest_at n job c) 0 ≡ Some (action_at job.wish c)
first_at n job (at.Calling spot j) h w =
    first_of_front _ _ _ (calls_here j n job.wish spot.object spot.turn w.0)
first_at n job (at.Working spot) h w = first_work n job.wish job.flagged spot.object spot.turn _ h
first_at n job (at.Rewriting spot j) h w =
    first_of_front _ _ _ (rewrites_take j n job.flagged spot.object spot.turn w.0 w.1)
first_at n job (at.Removing object j) h w =
    first_of_front _ _ _ (ap (map (λ k. Remove k object)) (numbers_here j n w))
first_at n job (at.Opening move.Body) h w = refl
first_at n job (at.Closing move.Body) h w = refl
first_at n job c h w = refl

-- the first action that a kept job has not yet made is the one that its cursor tells
pub first_is : (n : ℕ) (job : Job) → IsSteadyJob n job →
    slice_get (rest_of n job) 0 ≡ Some (action_at job.wish job.cursor)
unfolding rest_of
first_is n job kept = first_at n job job.cursor kept.comes kept.within

-- so that a job whose first action is this one has its cursor there
pub cursor_at : {n : ℕ} {job : Job} {a : Action} → IsSteadyJob n job → slice_get (rest_of n job) 0 ≡ Some a →
    action_at job.wish job.cursor ≡ a
cursor_at {n} {job} kept h = let s = sym (first_is n job kept) ∙ h in cc

-- a kept job has an action before it
pub rest_some : {n : ℕ} {job : Job} → IsSteadyJob n job → 0 < length (rest_of n job)
rest_some {n} {job} kept =
    slice_get_within (rest_of n job) 0 (action_at job.wish job.cursor) (first_is n job kept)

-- a job whose next action is a move of an append is at a move of its first append or of its last one
pub move_at : (w : Wish) (c : Cursor) → is_move (Some (action_at w c)) ≡ true →
    ((m : Move) × (c ≡ at.Opening m)) ⊎ ((m : Move) × (c ≡ at.Closing m))
move_at w (at.Opening m) h = inl (m, refl)
move_at w (at.Calling spot j) h = absurd (by_call (λ x. is_move (Some x) ≡ true → ⊥) w spot.object spot.turn j
    (λ e. false≢true e) (λ e. false≢true e) (λ e. false≢true e) h)
move_at w (at.Closing m) h = inr (m, refl)
move_at w c h = absurd (false≢true h)

-- ---- asks

call_begins : (w : Wish) (o t j : ℕ) → begins_append (Some (call_of w o t j)) ≡ false
call_begins w o t j = by_call (λ a. begins_append (Some a) ≡ false) w o t j refl refl refl

begins_is : (w : Wish) (c : Cursor) → begins_append (Some (action_at w c)) ≡ is_start c
begins_is w (at.Calling spot j) = call_begins w spot.object spot.turn j
begins_is w (at.Opening move.Body) = refl
begins_is w (at.Closing move.Body) = refl
begins_is w c = refl

-- the second of a list is the first of what is behind its head
pub second_of : (xs : List Action) → slice_get xs 1 ≡ slice_get (drop 1 xs) 0
second_of [] = refl
second_of (x ∷ xs) = refl

-- behind an ask stands the cursor's action
pub asks_last : {n : ℕ} {job : Job} {c : Cursor} (j o t : ℕ) →
    slice_get (rest_of n job) 0 ≡ Some (Ask j o t) → MayBeAt n job c (drop 1 (rest_of n job)) →
    is_start c ≡ is_last_ask (rest_of n job)
asks_last {n} {job} {c} j o t e is =
    rw (e, second_of (rest_of n job), ← is.rest, first_at n job c is.comes is.within)
    (sym (begins_is job.wish c))

-- a kept job whose next action is not its end is not over
pub not_over : (n : ℕ) (job : Job) (a : Action) → IsSteadyJob n job → slice_get (rest_of n job) 0 ≡ Some a →
    (a ≡ End → ⊥) → is_over job.cursor ≡ false
not_over n job a kept e h = by job.cursor (cursor_at kept e)
  where
    by : (c : Cursor) → action_at job.wish c ≡ a → is_over c ≡ false
    by at.Ending f = absurd (h (sym f))
    by c f = refl

-- ---- a job that has gone on

-- what stays of a job stays of one with the same wish, profile and flags, whatever its tasks and counts
pub set_with : {n : ℕ} {old : Job} (new : Job) → new.wish ≡ old.wish → new.profile ≡ old.profile →
    new.flagged ≡ old.flagged → All (λ (t : Task). 0 < t.turns) new.tasks.items →
    (is_caller new.wish ≡ false → new.tasks.items ≡ []) → new.counts.n ≡ n → IsPadded new.counts →
    IsSet n old → IsSet n new
set_with new w p f tasks idle counts padded is = record {
  tasks = tasks;
  idle = idle;
  wishable = rw (← w) at is.wishable;
  known = rw (← p) at is.known;
  own = λ x named. p ∙ is.own x (ap profile_named (sym w) ∙ named);
  flags = ap (λ fs. length fs) f ∙ is.flags;
  counts = counts;
  padded = padded;
}

-- a steady job stays so at a cursor where it may be, whatever was counted
pub steady_at : {n : ℕ} {job : Job} {c : Cursor} (p l : ℕ) {xs : List Action} → IsSteadyJob n job →
    MayBeAt n job c xs → IsSteadyJob n (record job { cursor = c; place = p; left = l })
steady_at {n} {job} {c} p l kept is = record {
  stays = set_with (record job { cursor = c; place = p; left = l }) refl refl refl kept.stays.tasks
      kept.stays.idle kept.stays.counts kept.stays.padded kept.stays;
  comes = is.comes;
  within = is.within;
}

-- so it does with another object to take away, and other appends
pub steady_with : {n : ℕ} {job : Job} (older : Option ℕ) (k : ℕ) → IsSteadyJob n job →
    IsSteadyJob n (record job { older = older; appends = k })
steady_with {n} {job} older k kept = record {
  stays = set_with (record job { older = older; appends = k }) refl refl refl kept.stays.tasks
      kept.stays.idle kept.stays.counts kept.stays.padded kept.stays;
  comes = kept.comes;
  within = kept.within;
}

-- its actions are those from the cursor on
pub rest_moved : {n : ℕ} {job : Job} {c : Cursor} (p l : ℕ) {xs : List Action} → MayBeAt n job c xs →
    rest_of n (record job { cursor = c; place = p; left = l }) ≡ xs
unfolding rest_of
rest_moved p l is = is.rest

-- its actions stay with another object to take away, and other appends
pub rest_with : (n : ℕ) (job : Job) (older : Option ℕ) (k : ℕ) →
    drop 1 (rest_of n (record job { older = older; appends = k })) ≡ drop 1 (rest_of n job)
unfolding rest_of
rest_with n job older k = refl

-- a put or a drop takes an older object away
pub takes : (w : Wish) → is_taker w ≡ true → removes_older (aim_of_wish w) ≡ true
takes (wish.Put name size own) h = refl
takes (wish.Drop name) h = refl
takes w h = absurd (false≢true h)

-- a job that has decided to remove an object is steady at the first removal
pub decided : (n : ℕ) (job : Job) (object p l : ℕ) → 0 < n → IsSteadyJob n job → is_taker job.wish ≡ true →
    IsSteadyJob n (record job { cursor = at.Removing object 0; place = p; left = l })
decided n job object p l some kept t = steady_at p l kept
    (record { comes = takes job.wish t; within = some; rest = refl })

-- a job that is put to its end is steady
pub ended : (n : ℕ) (job : Job) (p l : ℕ) → IsSteadyJob n job →
    IsSteadyJob n (record job { cursor = at.Ending; place = p; left = l })
ended n job p l kept = steady_at p l kept (record { comes = refl; within = tt; rest = refl })

-- the removals of an object are one for each provider, and the end
pub removals_length : (n object : ℕ) → length (removals_of n (Some object)) ≡ 1 + n
removals_length n object =
    let a = length-append (map (λ k. Remove k object) (numbers 0 n)) (End ∷ []) in
    let b : length (map (λ k. Remove k object) (numbers 0 n)) ≡ length (numbers 0 n) = simp length-map in
    let c = length-range_with_len 0 (n - 0) in
    omega (arith, a, b, c)

-- a drop of a name that is not in effect is idle until its first move
pub idle_is : (job : Job) (t : Kept) (name : List ℕ) → job.wish ≡ wish.Drop name →
    find_file t.files name ≡ None → (job.place == 0) ≡ is_idle t (core_job job)
idle_is job t name w e = ap (λ b. b && (job.place == 0))
    (sym (ap (λ v. is_gone t (aim_of_wish v)) w ∙ ap (λ o. not (is_some o)) e))

-- what is made of an absent value is absent
pub map_none : {X Y : Type 0} (f : X → Y) (o : Option X) → is_some o ≡ false → option_map f o ≡ None
map_none f None h = refl
map_none f (Some x) h = absurd (false≢true (sym h))
