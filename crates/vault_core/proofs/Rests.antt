-- How the actions that a job has not yet made follow one another.
use Rattle.vault_core.proofs.Words.{◌≡◌, ℕ, zero, suc, ◌+◌, ◌-◌, ◌<◌, ◌≤◌, Bool, true, false, List, [], ◌∷◌, ◌++◌, Some, length, map, take, set, get_or, inl, inr, refl, ap, sym, subst, ◌∙◌, append_assoc, arith, slice_get, cases_Bool, All-get_or, drop_all, get_or_from_slice_get, slice_get_within, flat_map, range_with_len, drop-get, Action, Store, Work, Remove, End, Ask, Fetch, Wish, Move, Spot, Cursor, Task, flag_at, numbers, call_of, calls_from, rewrite_of, rewrites_from, work_of, turn_of, turns_from, tasks_of, moves_from, actions_after, closing_of, tasks_on, beyond, rest_at, rest_of, comes_to, is_caller, is_worker, is_rewriter, IsWithin, IsSet, MayBeAt}
use Rattle.std.proofs.Common.{drop}
use Rattle.vault_core.specs.declared.wish.Wish.TheVariants as wish
use Rattle.vault_core.specs.declared.cursor.Move.TheVariants as move
use Rattle.vault_core.specs.declared.cursor.Cursor.TheVariants as at
use Rattle.vault_core.specs.declared.job.Job.{Job}

-- numbers from a on start with a
pub numbers_here : (a b : ℕ) → a < b → numbers a b ≡ a ∷ numbers (a + 1) b
numbers_here a b l = let e : b - a ≡ suc (b - (a + 1)) = omega arith in ap (range_with_len a) e

numbers_none : (a b : ℕ) → b ≤ a → numbers a b ≡ []
numbers_none a b l = let e : b - a ≡ 0 = omega arith in ap (range_with_len a) e

-- what a store, an ask and a fetch each have, a call has
pub by_call : (P : Action → Type 0) (w : Wish) (o t j : ℕ) → P (Store j o t) → P (Ask j o t) →
    P (Fetch j o t) → P (call_of w o t j)
by_call P (wish.Put name size own) o t j stores asks fetches = stores
by_call P wish.Audit o t j stores asks fetches = asks
by_call P w o t j stores asks fetches = fetches

-- the calls from a provider on start with that provider's
pub calls_here : (j n : ℕ) (w : Wish) (o t : ℕ) → j < n →
    calls_from j n w o t ≡ call_of w o t j ∷ calls_from (j + 1) n w o t
calls_here j n w o t l = ap (map (call_of w o t)) (numbers_here j n l)

-- behind the last provider there is no call
pub calls_none : (j n : ℕ) (w : Wish) (o t : ℕ) → n ≤ j → calls_from j n w o t ≡ []
calls_none j n w o t l = ap (map (call_of w o t)) (numbers_none j n l)

-- the stores of a repair from a flagged provider on start with that provider's
pub rewrites_take : (j n : ℕ) (fl : List Bool) (o t : ℕ) → j < n → flag_at fl j ≡ true →
    rewrites_from j n fl o t ≡ Store j o t ∷ rewrites_from (j + 1) n fl o t
rewrites_take j n fl o t l f = ap (flat_map (rewrite_of fl o t)) (numbers_here j n l) ∙ rw f refl

-- the stores of a repair from a provider that is not flagged are those from the next one on
pub rewrites_skip : (j n : ℕ) (fl : List Bool) (o t : ℕ) → j < n → flag_at fl j ≡ false →
    rewrites_from j n fl o t ≡ rewrites_from (j + 1) n fl o t
rewrites_skip j n fl o t l f = ap (flat_map (rewrite_of fl o t)) (numbers_here j n l) ∙ rw f refl

-- behind the last provider there is no store of a repair
pub rewrites_none : (j n : ℕ) (fl : List Bool) (o t : ℕ) → n ≤ j → rewrites_from j n fl o t ≡ []
rewrites_none j n fl o t l = ap (flat_map (rewrite_of fl o t)) (numbers_none j n l)

-- the actions from a stripe or round on start with those at it
pub turns_here : (a n : ℕ) (w : Wish) (fl : List Bool) (o b : ℕ) → a < b →
    turns_from a n w fl o b ≡ turn_of n w fl o a ++ turns_from (a + 1) n w fl o b
turns_here a n w fl o b l = ap (flat_map (turn_of n w fl o)) (numbers_here a b l)

-- behind the last stripe or round there is no action on the object
pub turns_none : (a n : ℕ) (w : Wish) (fl : List Bool) (o b : ℕ) → b ≤ a → turns_from a n w fl o b ≡ []
turns_none a n w fl o b l = ap (flat_map (turn_of n w fl o)) (numbers_none a b l)

-- ---- the first of them

-- the actions of a job are those from its cursor on
pub rest_is : (n : ℕ) (job : Job) {c : Cursor} → job.cursor ≡ c → rest_of n job ≡ rest_at n job c
unfolding rest_of
rest_is n job e = ap (rest_at n job) e

-- the first of two lists in a row is the head of the front one
pub first_of_front : (x : Action) {xs : List Action} (ys zs : List Action) → xs ≡ x ∷ ys → slice_get (xs ++
    zs) 0 ≡ Some x
first_of_front x ys zs e = rw e refl

-- a job at a call has that call next
pub first_calling : (n : ℕ) (job : Job) (spot : Spot) (j : ℕ) → job.cursor ≡ at.Calling spot j →
    IsWithin n job.flagged job.cursor →
    slice_get (rest_of n job) 0 ≡ Some (call_of job.wish spot.object spot.turn j)
first_calling n job spot j e h =
    let w = rw e at h in
    ap (λ xs. slice_get xs 0) (rest_is n job e)
    ∙ first_of_front _ _ _ (calls_here j n job.wish spot.object spot.turn w.0)

-- a job at a store of a repair has that store next
pub first_rewriting : (n : ℕ) (job : Job) (spot : Spot) (j : ℕ) → job.cursor ≡ at.Rewriting spot j →
    IsWithin n job.flagged job.cursor → slice_get (rest_of n job) 0 ≡ Some (Store j spot.object spot.turn)
first_rewriting n job spot j e h =
    let w = rw e at h in
    ap (λ xs. slice_get xs 0) (rest_is n job e)
    ∙ first_of_front _ _ _ (rewrites_take j n job.flagged spot.object spot.turn w.0 w.1)

-- work on a stripe starts with the stripe's own work
pub first_work : (n : ℕ) (w : Wish) (fl : List Bool) (o t : ℕ) (zs : List Action) → is_worker w ≡ true →
    slice_get (work_of n w fl o t ++ zs) 0 ≡ Some (Work o t)
first_work n (wish.Get name) fl o t zs h = refl
first_work n wish.Repair fl o t zs h = refl
first_work n w fl o t zs h = cc

-- a job at work on a stripe has that work next
pub first_working : (n : ℕ) (job : Job) (spot : Spot) → job.cursor ≡ at.Working spot →
    comes_to job.wish job.cursor ≡ true → slice_get (rest_of n job) 0 ≡ Some (Work spot.object spot.turn)
first_working n job spot e h = ap (λ (xs : List Action). slice_get xs 0) (rest_is n job e) ∙ first_work n
    job.wish job.flagged spot.object spot.turn _ (rw e at h)

-- a job at a removal has that removal next
pub first_removing : (n : ℕ) (job : Job) (object j : ℕ) → job.cursor ≡ at.Removing object j →
    IsWithin n job.flagged job.cursor → slice_get (rest_of n job) 0 ≡ Some (Remove j object)
first_removing n job object j e h =
    let w = rw e at h in
    ap (λ xs. slice_get xs 0) (rest_is n job e)
    ∙ first_of_front _ _ _ (ap (map (λ k. Remove k object)) (numbers_here j n w))

-- a job at its end has its end next
pub first_ending : (n : ℕ) (job : Job) → job.cursor ≡ at.Ending → slice_get (rest_of n job) 0 ≡ Some End
first_ending n job e = ap (λ xs. slice_get xs 0) (rest_is n job e)

-- a job at a move of its first append has that move next
pub first_opening : (n : ℕ) (job : Job) (m : Move) (x : Action) (xs : List Action) →
    job.cursor ≡ at.Opening m → moves_from m ≡ x ∷ xs → slice_get (rest_of n job) 0 ≡ Some x
first_opening n job m x xs e h = ap (λ ys. slice_get ys 0) (rest_is n job e) ∙ first_of_front x xs _ h

-- a job at a move of its last append has that move next
pub first_closing : (n : ℕ) (job : Job) (m : Move) (x : Action) (xs : List Action) →
    job.cursor ≡ at.Closing m → moves_from m ≡ x ∷ xs → slice_get (rest_of n job) 0 ≡ Some x
first_closing n job m x xs e h = ap (λ ys. slice_get ys 0) (rest_is n job e) ∙ first_of_front x xs _ h

-- ---- the cursors behind

-- those at one are its calls and its work
pub turn_joined : (n : ℕ) (w : Wish) (fl : List Bool) (o t : ℕ) (more rest : List Action) →
    (turn_of n w fl o t ++ more) ++ rest ≡ calls_from 0 n w o t ++ (work_of n w fl o t ++ (more ++ rest))
turn_joined n w fl o t more rest = simp append_assoc

-- a caller may be at the first call of a task that has turns
pub task_here : (n : ℕ) (job : Job) (place : ℕ) (t : Task) → 0 < n → is_caller job.wish ≡ true → 0 < t.turns →
    slice_get job.tasks.items place ≡ Some t →
    MayBeAt n job (at.Calling (record { object = t.object; turn = 0; turns = t.turns; behind = place + 1 }) 0)
    (tasks_on n job (drop place job.tasks.items))
task_here n job place t l w some e = record {
  comes = w;
  within = (l, some);
  rest = sym (
      ap (tasks_on n job) (drop-get job.tasks.items place t e)
      ∙ (ap (λ xs. (xs ++ tasks_of n job.wish job.flagged
      (drop (place + 1) job.tasks.items)) ++ closing_of job.wish)
      (turns_here 0 n job.wish job.flagged t.object t.turns some)
      ∙ (append_assoc _ (tasks_of n job.wish job.flagged (drop (place + 1) job.tasks.items))
      (closing_of job.wish)
      ∙ turn_joined n job.wish job.flagged t.object 0 (turns_from 1 n job.wish job.flagged t.object t.turns)
      (tasks_on n job (drop (place + 1) job.tasks.items))))
      );
}

-- behind its last task, a job is where its closing actions start
pub tasks_over : {n : ℕ} {job : Job} (place : ℕ) {c : Cursor} → length job.tasks.items ≤ place →
    MayBeAt n job c (closing_of job.wish) → MayBeAt n job c (tasks_on n job (drop place job.tasks.items))
tasks_over {n} {job} place e h = rw (← (ap (tasks_on n job) (drop_all place job.tasks.items e))) at h

-- a caller may be at the first call of the next turn of its task
pub turn_here : (n : ℕ) (job : Job) (spot : Spot) → 0 < n → is_caller job.wish ≡ true →
    spot.turn + 1 < spot.turns →
    MayBeAt n job (at.Calling (record spot { turn = spot.turn + 1 }) 0) (beyond n job spot)
turn_here n job spot l w h = record {
  comes = w;
  within = (l, h);
  rest = sym (
      ap (λ xs. xs ++ tasks_on n job (drop spot.behind job.tasks.items))
      (turns_here (spot.turn + 1) n job.wish job.flagged spot.object spot.turns h)
      ∙ turn_joined n job.wish job.flagged spot.object (spot.turn + 1)
      (turns_from (spot.turn + 1 + 1) n job.wish job.flagged spot.object spot.turns)
      (tasks_on n job (drop spot.behind job.tasks.items))
      );
}

-- behind the last turn of a task, a job is at the tasks behind it
pub turns_over : {n : ℕ} {job : Job} (spot : Spot) {c : Cursor} → spot.turns ≤ spot.turn + 1 →
    MayBeAt n job c (tasks_on n job (drop spot.behind job.tasks.items)) → MayBeAt n job c (beyond n job spot)
turns_over {n} {job} spot h is = rw (← (ap (λ (xs : List Action). xs ++ tasks_on n job (drop spot.behind
    job.tasks.items)) (turns_none (spot.turn + 1) n job.wish job.flagged spot.object spot.turns h))) at is

-- a job may be at a cursor for any list that equals one for which it may
pub at_along : {n : ℕ} {job : Job} {c : Cursor} {xs ys : List Action} → xs ≡ ys → MayBeAt n job c xs →
    MayBeAt n job c ys
at_along e h = rw e at h

-- a job with tasks may be at the first call of the task at a place
pub task_found : {n : ℕ} {job : Job} (place : ℕ) {t : Task} → 0 < n → IsSet n job →
    slice_get job.tasks.items place ≡ Some t →
    MayBeAt n job (at.Calling (record { object = t.object; turn = 0; turns = t.turns; behind = place + 1 }) 0)
    (tasks_on n job (drop place job.tasks.items))
task_found {n} {job} place {t} l stays e = task_here n job place t l (calls job.tasks.items stays.idle e)
    (rw (get_or_from_slice_get job.tasks.items place t t e) at (All-get_or (λ (x : Task). 0 < x.turns)
    job.tasks.items place t (slice_get_within job.tasks.items place t e) stays.tasks)) e
  where
    calls : (xs : List Task) → (is_caller job.wish ≡ false → xs ≡ []) → slice_get xs place ≡ Some t →
        is_caller job.wish ≡ true
    calls xs idle f = elim (cases_Bool (is_caller job.wish)) [
      | inl h ↦ h
      | inr h ↦ (let k = subst (λ (ys : List Task). slice_get ys place ≡ Some t) (idle h) f in
          cc)
    ]

-- a job that works on no stripes goes on to the next turn
pub no_work : {n : ℕ} {job : Job} (spot : Spot) {c : Cursor} →
    ((name : List ℕ) → job.wish ≡ wish.Get name → ⊥) → (job.wish ≡ wish.Repair → ⊥) →
    MayBeAt n job c (beyond n job spot) →
    MayBeAt n job c (work_of n job.wish job.flagged spot.object spot.turn ++ beyond n job spot)
no_work {n} {job} spot get repair h = at_along
    (ap (λ xs. xs ++ beyond n job spot) (sym (none job.wish get repair))) h
  where
    none : (w : Wish) → ((name : List ℕ) → w ≡ wish.Get name → ⊥) → (w ≡ wish.Repair → ⊥) →
        work_of n w job.flagged spot.object spot.turn ≡ []
    none (wish.Get name) g r = absurd (g name refl)
    none wish.Repair g r = absurd (r refl)
    none w g r = refl

-- ---- what is left behind the next action

moves_shift : (m : Move) (more : List Action) → drop 1 (moves_from m ++ more) ≡ actions_after m ++ more
moves_shift move.Body more = refl
moves_shift m more = refl

drop_front : (x : Action) (xs ys zs : List Action) → xs ≡ x ∷ ys → drop 1 (xs ++ zs) ≡ ys ++ zs
drop_front x xs ys zs e = ap (λ l. drop 1 (l ++ zs)) e

-- behind a move of the first append come the moves behind it, and all tasks
pub rest_opening : (n : ℕ) (job : Job) (m : Move) → job.cursor ≡ at.Opening m →
    drop 1 (rest_of n job) ≡ actions_after m ++ tasks_on n job job.tasks.items
rest_opening n job m e = ap (drop 1) (rest_is n job e) ∙ moves_shift m (tasks_on n job job.tasks.items)

-- behind a move of the last append come the moves behind it, and the end
pub rest_closing : (n : ℕ) (job : Job) (m : Move) → job.cursor ≡ at.Closing m →
    drop 1 (rest_of n job) ≡ actions_after m ++ End ∷ []
rest_closing n job m e = ap (drop 1) (rest_is n job e) ∙ moves_shift m (End ∷ [])

-- behind a call come the calls of the providers behind it, the work, and what is beyond
pub rest_calling : (n : ℕ) (job : Job) (spot : Spot) (j : ℕ) → job.cursor ≡ at.Calling spot j →
    IsWithin n job.flagged job.cursor →
    drop 1 (rest_of n job) ≡ calls_from (j + 1) n job.wish spot.object
    spot.turn ++ (work_of n job.wish job.flagged spot.object spot.turn ++ beyond n job spot)
rest_calling n job spot j e h =
    let w = rw e at h in
    ap (drop 1) (rest_is n job e) ∙ drop_front _ _ _ _ (calls_here j n job.wish spot.object spot.turn w.0)

-- behind a store of a repair come those of the providers behind it, and what is beyond
pub rest_rewriting : (n : ℕ) (job : Job) (spot : Spot) (j : ℕ) → job.cursor ≡ at.Rewriting spot j →
    IsWithin n job.flagged job.cursor →
    drop 1 (rest_of n job) ≡ rewrites_from (j + 1) n job.flagged spot.object spot.turn ++ beyond n job spot
rest_rewriting n job spot j e h =
    let w = rw e at h in
    ap (drop 1) (rest_is n job e)
    ∙ drop_front _ _ _ _ (rewrites_take j n job.flagged spot.object spot.turn w.0 w.1)

work_shift : (n : ℕ) (w : Wish) (fl : List Bool) (o t : ℕ) (more : List Action) → is_worker w ≡ true →
    drop 1 (work_of n w fl o t ++ more) ≡ drop 1 (work_of n w fl o t) ++ more
work_shift n (wish.Get name) fl o t more h = refl
work_shift n wish.Repair fl o t more h = refl
work_shift n w fl o t more h = cc

-- behind the work on a stripe come the stores of a repair, and what is beyond
pub rest_working : (n : ℕ) (job : Job) (spot : Spot) → job.cursor ≡ at.Working spot →
    is_worker job.wish ≡ true →
    drop 1 (rest_of n job) ≡ drop 1 (work_of n job.wish job.flagged spot.object spot.turn) ++ beyond n job
    spot
rest_working n job spot e h = ap (drop 1) (rest_is n job e)
    ∙ work_shift n job.wish job.flagged spot.object spot.turn (beyond n job spot) h

-- behind a removal come those of the providers behind it, and the end
pub rest_removing : (n : ℕ) (job : Job) (object j : ℕ) → job.cursor ≡ at.Removing object j →
    IsWithin n job.flagged job.cursor →
    drop 1 (rest_of n job) ≡ map (λ k. Remove k object) (numbers (j + 1) n) ++ End ∷ []
rest_removing n job object j e h =
    let w = rw e at h in
    ap (drop 1) (rest_is n job e) ∙ drop_front _ _ _ _ (ap (map (λ k. Remove k object)) (numbers_here j n w))

-- ---- where a job is behind its next action

-- behind a move of the first append a job may be at the next one
pub opened_on : (n : ℕ) (job : Job) (m next : Move) → job.cursor ≡ at.Opening m →
    comes_to job.wish job.cursor ≡ true → moves_from next ≡ actions_after m →
    MayBeAt n job (at.Opening next) (drop 1 (rest_of n job))
opened_on n job m next e h f = record {
  comes = rw e at h;
  within = tt;
  rest = ap (λ xs. xs ++ tasks_on n job job.tasks.items) f ∙ sym (rest_opening n job m e);
}

-- behind the first append a job may be where its tasks start
pub opened : (n : ℕ) (job : Job) (m : Move) (c : Cursor) → job.cursor ≡ at.Opening m → [] ≡ actions_after m →
    MayBeAt n job c (tasks_on n job job.tasks.items) → MayBeAt n job c (drop 1 (rest_of n job))
opened n job m c e f h = at_along (ap (λ xs. xs ++ tasks_on n job job.tasks.items) f
    ∙ sym (rest_opening n job m e)) h

-- behind a move of the last append a job may be at the next one
pub closed_on : (n : ℕ) (job : Job) (m next : Move) → job.cursor ≡ at.Closing m →
    comes_to job.wish job.cursor ≡ true → moves_from next ≡ actions_after m →
    MayBeAt n job (at.Closing next) (drop 1 (rest_of n job))
closed_on n job m next e h f = record {
  comes = rw e at h;
  within = tt;
  rest = ap (λ xs. xs ++ End ∷ []) f ∙ sym (rest_closing n job m e);
}

-- behind the last append a job may be at its end
pub closed : (n : ℕ) (job : Job) (m : Move) → job.cursor ≡ at.Closing m → [] ≡ actions_after m →
    MayBeAt n job at.Ending (drop 1 (rest_of n job))
closed n job m e f = record {
  comes = refl;
  within = tt;
  rest = ap (λ xs. xs ++ End ∷ []) f ∙ sym (rest_closing n job m e);
}

-- behind a removal a job may be at that from the next provider
pub removed_on : (n : ℕ) (job : Job) (object j : ℕ) → job.cursor ≡ at.Removing object j →
    comes_to job.wish job.cursor ≡ true → IsWithin n job.flagged job.cursor →
    j + 1 < n → MayBeAt n job (at.Removing object (j + 1)) (drop 1 (rest_of n job))
removed_on n job object j e h w l = record {
  comes = rw e at h;
  within = l;
  rest = sym (rest_removing n job object j e w);
}

-- behind the last removal a job may be at its end
pub removed : (n : ℕ) (job : Job) (object j : ℕ) → job.cursor ≡ at.Removing object j →
    IsWithin n job.flagged job.cursor → n ≤ j + 1 → MayBeAt n job at.Ending (drop 1 (rest_of n job))
removed n job object j e w l = record {
  comes = refl;
  within = tt;
  rest = ap (λ xs. map (λ k. Remove k object) xs ++ End ∷ []) (sym (numbers_none (j + 1) n l))
      ∙ sym (rest_removing n job object j e w);
}

-- calls of no further provider
pub called : (n : ℕ) (job : Job) (spot : Spot) (j : ℕ) (c : Cursor) → n ≤ j →
    MayBeAt n job c (work_of n job.wish job.flagged spot.object spot.turn ++ beyond n job spot) →
    MayBeAt n job c (calls_from j n job.wish spot.object
    spot.turn ++ (work_of n job.wish job.flagged spot.object spot.turn ++ beyond n job spot))
called n job spot j c l h = at_along (ap (λ xs. xs ++ (work_of n job.wish job.flagged spot.object
    spot.turn ++ beyond n job spot)) (sym (calls_none j n job.wish spot.object spot.turn l))) h

-- stores on no further provider
pub rewritten : {n : ℕ} {job : Job} (spot : Spot) (j : ℕ) {c : Cursor} →
    rewrites_from j n job.flagged spot.object spot.turn ≡ [] → MayBeAt n job c (beyond n job spot) →
    MayBeAt n job c (rewrites_from j n job.flagged spot.object spot.turn ++ beyond n job spot)
rewritten {n} {job} spot j {c} e h = at_along (ap (λ xs. xs ++ beyond n job spot) (sym e)) h

-- a get has no stores behind its work
pub worked : {n : ℕ} {job : Job} (spot : Spot) {c : Cursor} → (job.wish ≡ wish.Repair → ⊥) →
    is_worker job.wish ≡ true → MayBeAt n job c (beyond n job spot) →
    MayBeAt n job c (drop 1 (work_of n job.wish job.flagged spot.object spot.turn) ++ beyond n job spot)
worked {n} {job} spot {c} repair works h = at_along
    (ap (λ xs. xs ++ beyond n job spot) (sym (none job.wish repair works))) h
  where
    none : (w : Wish) → (w ≡ wish.Repair → ⊥) → is_worker w ≡ true →
        drop 1 (work_of n w job.flagged spot.object spot.turn) ≡ []
    none wish.Repair r f = absurd (r refl)
    none w r f = refl

-- a wish that rewrites stripes calls providers
pub rewriter_calls : (w : Wish) → is_rewriter w ≡ true → is_caller w ≡ true
rewriter_calls (wish.Drop name) h = cc
rewriter_calls wish.Upgrade h = cc
rewriter_calls w h = refl

-- a wish that works on stripes calls providers
pub worker_calls : (w : Wish) → is_worker w ≡ true → is_caller w ≡ true
worker_calls (wish.Drop name) h = cc
worker_calls wish.Upgrade h = cc
worker_calls w h = refl

-- ---- the object of a put's own file

abbrev pub front_each : (Task → Task) → ℕ → List Task → List Task
front_each f i xs = map f (take i xs) ++ drop i xs

each_first : (f : Task → Task) (d : Task) (xs : List Task) (i : ℕ) → i < length xs →
    set (front_each f i xs) i (f (get_or (front_each f i xs) i d)) ≡ front_each f (suc i) xs
each_first f d [] i l = absurd (omega arith)
each_first f d (x ∷ xs) zero l = refl
each_first f d (x ∷ xs) (suc i) l = ap (λ ys. f x ∷ ys) (each_first f d xs i (omega arith))

-- the tasks changed so far and one more are the tasks changed up to there
pub each_more : (f : Task → Task) (d : Task) (xs : List Task) {ys : List Task} (i : ℕ) → i < length xs →
    ys ≡ front_each f i xs → set ys i (f (get_or ys i d)) ≡ front_each f (i + 1) xs
each_more f d xs i l e = rw (← e) at (each_first f d xs i l ∙ ap (λ (k : ℕ). front_each f k xs)
    (let k : suc i ≡ i + 1 = omega arith in k))
