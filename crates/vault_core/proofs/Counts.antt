-- How many gates are among the actions that a job has not yet made.
use Rattle.vault_core.proofs.Words.{◌≡◌, ℕ, ◌+◌, Bool, true, false, cond, List, [], ◌∷◌, ◌++◌, Some, map, inl, inr, refl, ap, ◌∙◌, arith, ◌⊎◌, sum, count_by, slice_get, if◌then◌else◌, flat_map, cases_Bool, sum_by-cons, sum_by-append, Action, Work, Remove, End, ends_append, Wish, Move, Cursor, Task, flag_at, numbers, call_of, calls_from, rewrite_of, rewrites_from, work_of, turn_of, turns_from, tasks_of, moves_from, closing_of, tasks_from, rest_from, is_opener, is_closer, comes_to}
use Rattle.std.proofs.Common.{drop}
use Rattle.vault_core.specs.declared.wish.Wish.TheVariants as wish
use Rattle.vault_core.specs.declared.cursor.Move.TheVariants as move
use Rattle.vault_core.specs.declared.cursor.Cursor.TheVariants as at
use Rattle.vault_core.proofs.Rests.{by_call}

-- how many gates are among these actions
abbrev pub gates : List Action → ℕ
gates xs = count_by ends_append xs

-- the gates of two lists in a row are the sum of both
pub gates-append : (xs ys : List Action) → gates (xs ++ ys) ≡ gates xs + gates ys
gates-append xs ys = sum_by-append (λ x. cond (ends_append x) 1 0) xs ys

-- the gates of a list are those behind its head, and one more if the head is one
pub gates-cons : (x : Action) (xs : List Action) → gates (x ∷ xs) ≡ cond (ends_append x) 1 0 + gates xs
gates-cons x xs = sum_by-cons (λ x. cond (ends_append x) 1 0) x xs

-- the same where the head is read
pub gates_behind : (xs : List Action) (x : Action) → slice_get xs 0 ≡ Some x →
    gates xs ≡ cond (ends_append x) 1 0 + gates (drop 1 xs)
gates_behind [] x e = cc
gates_behind (y ∷ ys) x e = gates-cons y ys ∙ ap (λ z. cond {A = ℕ} (ends_append z) 1 0 + gates ys) cc

-- lists that a function makes have no gate where its values are none
pub none_map : (f : ℕ → Action) (ks : List ℕ) → ((k : ℕ) → ends_append (f k) ≡ false) → gates (map f ks) ≡ 0
none_map f [] h = refl
none_map f (k ∷ ks) h = omega (
  arith,
  gates-cons (f k) (map f ks),
  none_map f ks h,
  ap (λ (b : Bool). cond {A = ℕ} b 1 0) (h k),
)

-- so for a function of lists
pub none_flat : {X : Type 0} (f : X → List Action) (ks : List X) → ((k : X) → gates (f k) ≡ 0) →
    gates (flat_map f ks) ≡ 0
none_flat f [] h = refl
none_flat f (k ∷ ks) h = omega (arith, gates-append (f k) (flat_map f ks), none_flat f ks h, (h k))

call_none : (w : Wish) (o t j : ℕ) → ends_append (call_of w o t j) ≡ false
call_none w o t j = by_call (λ a. ends_append a ≡ false) w o t j refl refl refl

calls_none : (j n : ℕ) (w : Wish) (o t : ℕ) → gates (calls_from j n w o t) ≡ 0
calls_none j n w o t = none_map (call_of w o t) (numbers j n) (call_none w o t)

rewrite_none : (fl : List Bool) (o t j : ℕ) → gates (rewrite_of fl o t j) ≡ 0
rewrite_none fl o t j = elim (cases_Bool (flag_at fl j)) [
  | inl h ↦ rw h refl
  | inr h ↦ rw h refl
]

work_none : (n : ℕ) (w : Wish) (fl : List Bool) (o t : ℕ) → gates (work_of n w fl o t) ≡ 0
work_none n wish.Repair fl o t = omega (
  arith,
  gates-cons (Work o t) (rewrites_from 0 n fl o t),
  none_flat (rewrite_of fl o t) (numbers 0 n) (rewrite_none fl o t),
)
work_none n w fl o t = refl

turn_none : (n : ℕ) (w : Wish) (fl : List Bool) (o t : ℕ) → gates (turn_of n w fl o t) ≡ 0
turn_none n w fl o t = omega (
  arith,
  gates-append (calls_from 0 n w o t) (work_of n w fl o t),
  calls_none 0 n w o t,
  work_none n w fl o t,
)

-- the actions on files have no gate
tasks_none : (n : ℕ) (w : Wish) (fl : List Bool) (ts : List Task) → gates (tasks_of n w fl ts) ≡ 0
tasks_none n w fl ts = none_flat (λ t. turns_from 0 n w fl t.object t.turns) ts
    (λ t. none_flat (turn_of n w fl t.object) (numbers 0 t.turns) (turn_none n w fl t.object))

-- removals have no gate
pub removes_none : (object : ℕ) (ks : List ℕ) → gates (map (λ k. Remove k object) ks) ≡ 0
removes_none object ks = none_map (λ k. Remove k object) ks (λ k. refl)

-- how many appends a job has behind its files: its last one, where it has one
abbrev pub last_appends : Wish → ℕ
last_appends w = if is_closer w then 1 else 0

closing_one : (w : Wish) → gates (closing_of w) ≡ last_appends w
closing_one (wish.Put name size own) = refl
closing_one w = refl

-- from its files on, a job has its last append before it
pub tasks_gates : (n : ℕ) (w : Wish) (fl : List Bool) (ts : List Task) →
    gates (tasks_from n w fl ts) ≡ last_appends w
tasks_gates n w fl ts = let e = gates-append (tasks_of n w fl ts) (closing_of w) in
    let a = tasks_none n w fl ts in let b = closing_one w in omega (arith, e, a, b)

moves_one : (m : Move) → gates (moves_from m) ≡ 1
moves_one move.Body = refl
moves_one m = refl

-- at a move of an append, a job has this append before it, and its last one behind a first one
pub moves_gates : (n : ℕ) (w : Wish) (fl : List Bool) (ts : List Task) (m : Move) →
    gates (rest_from n w fl ts (at.Opening m)) ≡ 1 + last_appends w
moves_gates n w fl ts m = let e = gates-append (moves_from m) (tasks_from n w fl ts) in
    let a = moves_one m in let b = tasks_gates n w fl ts in omega (arith, e, a, b)

-- at a move of its last append it has this one alone
pub closing_gates : (n : ℕ) (w : Wish) (fl : List Bool) (ts : List Task) (m : Move) →
    gates (rest_from n w fl ts (at.Closing m)) ≡ 1
closing_gates n w fl ts m = omega (arith, gates-append (moves_from m) (End ∷ []), moves_one m)

-- the appends that a job may have before it at a move of one of them
abbrev pub MayHave : Wish → ℕ → Type 0
MayHave w k = ((k ≡ 1 + last_appends w) × (is_opener w ≡ true)) ⊎ ((k ≡ 1) × (is_closer w ≡ true))

-- a job at a move of an append has as many appends before it as one at that cursor
pub moves_have : (n : ℕ) (w : Wish) (fl : List Bool) (ts : List Task) (c : Cursor) (k : ℕ) →
    ((m : Move) × (c ≡ at.Opening m)) ⊎ ((m : Move) × (c ≡ at.Closing m)) → comes_to w c ≡ true →
    k ≡ gates (rest_from n w fl ts c) → MayHave w k
moves_have n w fl ts c k (inl p) h e = inl (
  e ∙ (ap (λ x. gates (rest_from n w fl ts x)) p.1 ∙ moves_gates n w fl ts p.0),
  (rw p.1 at h),
)
moves_have n w fl ts c k (inr p) h e = inr (
  e ∙ (ap (λ x. gates (rest_from n w fl ts x)) p.1 ∙ closing_gates n w fl ts p.0),
  (rw p.1 at h),
)

-- a sum of one number
pub one : (k : ℕ) → k ≡ sum (k ∷ [])
one k = omega (arith, sum_by-cons (λ x. x) k [])

-- a sum of two numbers
pub two : (a b : ℕ) → a + b ≡ sum (a ∷ b ∷ [])
two a b = omega (arith, sum_by-cons (λ (x : ℕ). x) a (b ∷ []), one b)
