-- A job as it is made is kept: where it is, and how many steps it may still make.
use Rattle.vault_core.proofs.Words.{◌≡◌, ℕ, zero, suc, ◌+◌, ◌-◌, ◌<◌, ◌≤◌, ◌^◌, Bool, true, false, List, [], ◌∷◌, ◌++◌, length, take, get_or, inl, inr, refl, ap, sym, subst, ◌∙◌, arith, nat_lt, IsTrue, sum_by, slice_get, if◌then◌else◌, All, cases_Bool, ltb-true, false≢true, Setup, all_profiles, chosen, removes_older, IsPadded, Kept, Wish, Task, planned, rest_in, closing_of, tasks_from, tasks_on, rest_of, targets_of, turns_for, tasks_made, most_of, plan_kept, core_job, is_caller, comes_to, IsWithin, MayBeAt, IsJobKept, IsShort, HasName, is_opener, aim_of_wish, profile_named, pins_for, size_of_turn, other_actions, subject_for, appends_for, cursor_on, cursor_first, IsMade}
use Rattle.std.proofs.Common.{◌*◌, drop, length-append}
use Rattle.std.specs.Prelude.{replicate}
use Rattle.vault_core.specs.declared.pinned.Pinned.{Pinned}
use Rattle.vault_core.specs.declared.wish.Wish.TheVariants as wish
use Rattle.vault_core.specs.declared.cursor.Move.TheVariants as move
use Rattle.vault_core.specs.declared.cursor.Cursor.TheVariants as at
use Rattle.vault_core.specs.declared.job.Job.{Job}
use Rattle.vault_core.proofs.Rests.{rest_is, task_here}
use Rattle.vault_core.proofs.Counts.{gates, gates-append, last_appends, tasks_gates}
use Rattle.vault_core.proofs.Whole.{front_of, whole, HasTasks}
use Rattle.vault_core.proofs.Turns.{length-from}
use Rattle.vault_core.proofs.Goes.{extra}

-- ---- tasks

all_none : {X : Type 0} (P : X → Type 0) → All P []
all_none P = λ k d l. absurd (omega (arith, l))

all_more : {X : Type 0} (P : X → Type 0) (x : X) (xs : List X) → P x → All P xs → All P (x ∷ xs)
all_more P x xs p all = λ k d l. by k d l
  where
    by : (k : ℕ) (d : _) → k < length (x ∷ xs) → P (get_or (x ∷ xs) k d)
    by zero d l = p
    by (suc k) d l = all k d (omega arith)

-- each task that is made has something to do
pub tasks-all : (f : Pinned → ℕ) (ps : List Pinned) → All (λ (t : Task). 0 < t.turns) (tasks_made f ps)
tasks-all f [] = all_none (λ t. 0 < t.turns)
tasks-all f (p ∷ ps) = elim (cases_Bool (nat_lt 0 (f p))) [
  | inl h ↦ subst (All (λ t. 0 < t.turns)) (sym (ap (λ b. if b then record { object = p.id; turns = f p } ∷
      tasks_made f ps else tasks_made f ps) h)) (all_more (λ t. 0 < t.turns)
      (record { object = p.id; turns = f p }) (tasks_made f ps) (ltb-true 0 (f p) h) (tasks-all f ps))
  | inr h ↦ subst (All (λ t. 0 < t.turns)) (sym (ap (λ b. if b then record { object = p.id; turns = f p } ∷
      tasks_made f ps else tasks_made f ps) h)) (tasks-all f ps)
]

-- ---- where a new job is

all_first : (t : Task) (ts : List Task) → All (λ (x : Task). 0 < x.turns) (t ∷ ts) → 0 < t.turns
all_first t ts h = h 0 t (omega arith)

first-at : (n : ℕ) (job : Job) (w : Wish) → 0 < n → job.wish ≡ w →
    All (λ (t : Task). 0 < t.turns) job.tasks.items → (is_caller w ≡ false → job.tasks.items ≡ []) →
    MayBeAt n job (cursor_first w job.tasks.items) (front_of w ++ tasks_on n job job.tasks.items)
first-at n job (wish.Get name) l e all idle = by job.tasks.items refl all
  where
    by : (ts : List Task) → job.tasks.items ≡ ts → All (λ t. 0 < t.turns) ts →
        MayBeAt n job (cursor_on at.Ending ts) (tasks_on n job ts)
    by [] f h = record { comes = refl; within = tt; rest = sym (ap closing_of e) }
    by (t ∷ ts) f h = (rw (ap (λ (xs : List Task). tasks_on n job xs) f) at
        (task_here n job 0 t l (ap is_caller e) (all_first t ts h)
        (ap (λ (xs : List Task). slice_get xs 0) f)))
first-at n job wish.Repair l e all idle = by job.tasks.items refl all
  where
    by : (ts : List Task) → job.tasks.items ≡ ts → All (λ t. 0 < t.turns) ts →
        MayBeAt n job (cursor_on (at.Closing move.Body) ts) (tasks_on n job ts)
    by [] f h = record {
      comes = ap (λ w. comes_to w (at.Closing move.Body)) e;
      within = tt;
      rest = sym (ap closing_of e);
    }
    by (t ∷ ts) f h = (rw (ap (λ (xs : List Task). tasks_on n job xs) f) at
        (task_here n job 0 t l (ap is_caller e) (all_first t ts h)
        (ap (λ (xs : List Task). slice_get xs 0) f)))
first-at n job wish.Upgrade l e all idle = record {
  comes = ap (λ w. comes_to w (at.Closing move.Body)) e;
  within = tt;
  rest = sym (ap (λ ts. tasks_on n job ts) (idle refl) ∙ ap closing_of e);
}
first-at n job w l e all idle = record { comes = ap is_opener e; within = tt; rest = refl }

-- a job of this wish has as many appends before it as it has at all
front-gates : (n : ℕ) (v : Wish) (fl : List Bool) (ts : List Task) →
    gates (front_of v ++ tasks_from n v fl ts) ≡ appends_for v
front-gates n v fl ts =
    let a = gates-append (front_of v) (tasks_from n v fl ts) in
    let b = tasks_gates n v fl ts in
    a ∙ (ap (λ (k : ℕ). gates (front_of v) + k) b ∙ by v)
  where
    by : (w : Wish) → gates (front_of w) + last_appends w ≡ appends_for w
    by (wish.Put name size own) = refl
    by w = refl

few-more : (n : ℕ) (v : Wish) → extra (removes_older (aim_of_wish v)) (appends_for v) n
    + (length (front_of v) + length (closing_of v)) ≡ other_actions n v
few-more n (wish.Put name size own) = let e : n + 9 ≡ 9 + n = omega arith in e
few-more n (wish.Drop name) = omega arith
few-more n w = refl

no-tasks : (t : Kept) (s : Setup) (v : Wish) (profile : ℕ) (pins : List Pinned) → pins ≡ pins_for t v →
    is_caller v ≡ false → tasks_made (turns_for s v) (targets_of v profile 0 pins) ≡ []
no-tasks t s (wish.Drop name) profile pins e h = ap (tasks_made (turns_for s (wish.Drop name))) e
no-tasks t s wish.Upgrade profile pins e h = ap (tasks_made (turns_for s wish.Upgrade)) e
no-tasks t s v profile pins e h = absurd (false≢true (sym h))

targets-same : (t : Kept) (v : Wish) {q p k : ℕ} (pins : List Pinned) → p ≡ q → k ≡ subject_for t v →
    targets_of v q 0 pins ≡ targets_of v p k pins
targets-same t (wish.Put name size own) pins e f =
    (λ i. record { id = sym f i; length = size; profile = sym e i } ∷ [])
targets-same t v pins e f = refl

-- the first n of k zeros are n zeros
pub take-zeros : (n k : ℕ) → n ≤ k → take n (replicate {A = ℕ} k 0) ≡ replicate n 0
take-zeros zero k l = refl
take-zeros (suc n) zero l = absurd (omega arith)
take-zeros (suc n) (suc k) l = ap (λ xs. 0 ∷ xs) (take-zeros n k (omega arith))

drop-zeros : (n k : ℕ) → drop n (replicate {A = ℕ} k 0) ≡ replicate (k - n) 0
drop-zeros zero k = ap (λ m. replicate m 0) (let e : k ≡ k - 0 = omega arith in e)
drop-zeros (suc n) zero = ap (λ m. replicate m 0) (let e : 0 ≡ 0 - suc n = omega arith in e)
drop-zeros (suc n) (suc k) =
    drop-zeros n k ∙ ap (λ m. replicate m 0) (let e : k - n ≡ suc k - suc n = omega arith in e)

-- ---- a job as it is made

module _ {t : Kept} {s : Setup} {k : ℕ} {w : Wish} {job : Job} (made : IsMade t s k w job) (least : 4 ≤ s.n)
    (most : s.n ≤ 16) where
  made-all : All (λ (x : Task). 0 < x.turns) job.tasks.items
  made-all = subst (All (λ (x : Task). 0 < x.turns)) (sym made.tasks)
      (tasks-all (turns_for s w) (targets_of w job.profile 0 job.pinned.items))

  made-idle : is_caller job.wish ≡ false → job.tasks.items ≡ []
  made-idle h = made.tasks ∙ no-tasks t s w job.profile job.pinned.items made.pinned
      (ap is_caller (sym made.wish) ∙ h)

  made-first : MayBeAt s.n job (cursor_first w job.tasks.items)
      (front_of w ++ tasks_on s.n job job.tasks.items)
  made-first = first-at s.n job w (omega arith) made.wish made-all
      (λ h. made-idle (ap is_caller made.wish ∙ h))

  -- a new job has before it its first append, if it has one, and then all that its tasks ask for
  made-rest : rest_of s.n job ≡ front_of w ++ tasks_from s.n w job.flagged job.tasks.items
  made-rest = rest_is s.n job made.cursor ∙ (made-first.rest ∙ ap (λ v. front_of w ++ tasks_from s.n v
      job.flagged job.tasks.items) made.wish)

  made-tasks : HasTasks s job
  made-tasks = made.tasks ∙ ap (tasks_made (turns_for s w)) (targets-same t w job.pinned.items refl
      made.subject) ∙ ap (λ v. tasks_made (turns_for s v) (targets_of v job.profile job.subject
      job.pinned.items)) (sym made.wish)

  made-listed : rest_of s.n job ≡ rest_in s (core_job job)
  made-listed = made-rest
      ∙ (ap (λ v. front_of v ++ tasks_from s.n v job.flagged job.tasks.items) (sym made.wish)
      ∙ (whole s job made.older made-idle made-tasks
      ∙ ap (λ p. drop p (planned s (plan_kept job))) (sym made.place)))

  made-gates : gates (rest_of s.n job) ≡ appends_for w
  made-gates = ap gates made-rest ∙ front-gates s.n w job.flagged job.tasks.items

  made-most : job.left ≡ sum_by (λ (x : Task). x.turns * size_of_turn s.n w job.flagged)
      job.tasks.items + other_actions s.n w → job.left ≡ most_of s (core_job job)
  made-most l =
      let a = ap (λ xs. length xs) made-rest in
      let b = length-append (front_of w) (tasks_from s.n w job.flagged job.tasks.items) in
      let d = length-from s.n w job.flagged job.tasks.items in
      let f = few-more s.n w in
      let g = ap (λ m. extra (removes_older (aim_of_wish w)) m s.n) made-gates in
      let h = ap (λ v. extra (removes_older (aim_of_wish v)) (gates (rest_of s.n job)) s.n) made.wish
      in
      (omega (arith, a, b, d, f, g, h, l)) ∙ ap (λ xs. length xs
      + extra (removes_older (aim_of_wish job.wish)) (gates xs) s.n) made-listed

  -- a job as it is made is a job as it is kept
  pub made-kept : HasName w → IsShort w → IsTrue (nat_lt (chosen s (profile_named w)) all_profiles) →
      length job.flagged ≡ 16 →
      job.left ≡ sum_by (λ (x : Task). x.turns * size_of_turn s.n w job.flagged)
      job.tasks.items + other_actions s.n w → job.left < 2 ^ 64 → IsJobKept s job
  made-kept named short known long l fits = record {
    steady = record {
      stays = record {
        tasks = made-all;
        idle = made-idle;
        wishable = subst (λ v. HasName v × IsShort v) (sym made.wish) (named, short);
        known = subst (λ p. IsTrue (nat_lt p all_profiles)) (sym made.profile) known;
        own = λ p e. made.profile ∙ ap (chosen s) (ap profile_named (sym made.wish) ∙ e);
        flags = long;
        counts = ap (λ x. x.n) made.counts;
        padded = subst IsPadded (sym made.counts)
            (record { room = refl; at_most = most; zeros = drop-zeros s.n 16 });
      };
      comes = subst (λ c. comes_to job.wish c ≡ true) (sym made.cursor) made-first.comes;
      within = subst (IsWithin s.n job.flagged) (sym made.cursor) made-first.within;
    };
    tasks = made-tasks;
    listed = made-listed;
    appends = made.appends ∙ (sym made-gates ∙ ap gates made-listed);
    left = made-most l;
    fits = (let p = made.place in omega (arith, p, fits));
    undecided = λ some. made.older;
  }
