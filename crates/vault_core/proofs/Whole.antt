-- What a job has before it at its begin are the actions of its plan.
use Rattle.vault_core.proofs.Words.{◌≡◌, ℕ, ◌+◌, ◌≤◌, Bool, true, false, List, [], ◌∷◌, ◌++◌, Some, None, length, map, inl, inr, refl, ap, sym, ◌∙◌, append_assoc, arith, nat_lt, ◌==◌, if◌then◌else◌, flat_map, range_with_len, cases_Bool, false≢true, nat_tests, append-nil, length-drop, upto, Setup, profiled, Aim, Action, SyncGate, Store, Ask, Work, Remove, End, append_actions, on_each_provider, on_each_stripe, store_plan, open_actions, rewrite_plan, rounds_of, remove_plan, Plan, plan_actions, Wish, core_pins, plan_in, planned, planned_by, flag_at, numbers, call_of, calls_from, rewrite_of, turn_of, turns_from, tasks_of, tasks_from, tasks_on, targets_of, stripes_in, turns_for, tasks_made, is_taker, listed_older, removals_of, aim_of_wish, is_opener, is_caller, plan_kept}
use Rattle.std.proofs.Common.{Option, drop}
use Rattle.std.proofs.Math.Seq.{drop-append-add}
use Rattle.std.proofs.lemmas.List.{length-append}
use Rattle.vault_core.specs.declared.pinned.Pinned.{Pinned}
use Rattle.vault_core.specs.declared.wish.Wish.TheVariants as wish
use Rattle.vault_core.specs.declared.job.Job.{Job}
use Rattle.vault_core.proofs.Rests.{turns_none}

-- the moves of a first append
abbrev pub front_of : Wish → List Action
front_of w = if is_opener w then append_actions else []

numbers-upto : (n : ℕ) → numbers 0 n ≡ upto n
numbers-upto n = ap (range_with_len 0) (omega arith)

-- lists of lists are the same where each of them is
pub flat-same : {X : Type 0} (f g : X → List Action) (ks : List X) → ((k : X) → f k ≡ g k) →
    flat_map f ks ≡ flat_map g ks
flat-same f g [] h = refl
flat-same f g (k ∷ ks) h = rw (h k, flat-same f g ks h) refl

tasks-pins : (n : ℕ) (w : Wish) (fl : List Bool) (f : Pinned → ℕ) (ps : List Pinned) →
    tasks_of n w fl (tasks_made f ps) ≡ flat_map (λ (p : Pinned). turns_from 0 n w fl p.id (f p)) ps
tasks-pins n w fl f [] = refl
tasks-pins n w fl f (p ∷ ps) = elim (cases_Bool (nat_lt 0 (f p))) [
  | inl t ↦ rw (t, tasks-pins n w fl f ps) refl
  | inr e ↦ ap (λ b. tasks_of n w fl
      (if b then record { object = p.id; turns = f p } ∷ tasks_made f ps else tasks_made f ps)) e
      ∙ (tasks-pins n w fl f ps
      ∙ ap (λ xs. xs ++ flat_map (λ p. turns_from 0 n w fl p.id (f p)) ps)
      (sym (turns_none 0 n w fl p.id (f p) (none (f p) e))))
]
  where
    none : (k : ℕ) → nat_lt 0 k ≡ false → k ≤ 0
    none k h = grind (arith, nat_tests, h)

-- those of a file, over what is done at one stripe or round
turns-each : (n : ℕ) (w : Wish) (fl : List Bool) (o k : ℕ) (g : ℕ → List Action) →
    ((t : ℕ) → turn_of n w fl o t ≡ g t) → turns_from 0 n w fl o k ≡ flat_map g (upto k)
turns-each n w fl o k g h =
    ap (flat_map (turn_of n w fl o)) (numbers-upto k) ∙ flat-same (turn_of n w fl o) g (upto k) h

calls-each : (n : ℕ) (w : Wish) (o t : ℕ) → calls_from 0 n w o t ≡ map (call_of w o t) (upto n)
calls-each n w o t = ap (map (call_of w o t)) (numbers-upto n)

-- at a stripe a put stores it on each provider
pub put-turn : (s : Setup) (name : List ℕ) (size : ℕ) (own : Option ℕ) (fl : List Bool) (o t : ℕ) →
    turn_of s.n (wish.Put name size own) fl o t ≡ on_each_provider s (λ j. Store j o t)
put-turn s name size own fl o t = append-nil (calls_from 0 s.n (wish.Put name size own) o t)
    ∙ calls-each s.n (wish.Put name size own) o t

get-turn : (s : Setup) (name : List ℕ) (fl : List Bool) (o t : ℕ) →
    turn_of s.n (wish.Get name) fl o t ≡ open_actions s o t
get-turn s name fl o t = ap (λ xs. xs ++ Work o t ∷ []) (calls-each s.n (wish.Get name) o t)

audit-turn : (s : Setup) (fl : List Bool) (o t : ℕ) →
    turn_of s.n wish.Audit fl o t ≡ on_each_provider s (λ j. Ask j o t)
audit-turn s fl o t = append-nil (calls_from 0 s.n wish.Audit o t) ∙ calls-each s.n wish.Audit o t

repair-turn : (s : Setup) (fl : List Bool) (o t : ℕ) →
    turn_of s.n wish.Repair fl o t ≡ open_actions s o t ++ rewrite_plan s (flag_at fl) o t
repair-turn s fl o t = (λ i. (calls-each s.n wish.Repair o t) i ++ Work o t ∷
    (ap (flat_map (rewrite_of fl o t)) (numbers-upto s.n)) i)
    ∙ sym (append_assoc (map (call_of wish.Repair o t) (upto s.n)) (Work o t ∷ [])
    (rewrite_plan s (flag_at fl) o t))

rounds-are : (s : Setup) (f : Pinned) →
    upto (turns_for s wish.Audit f) ≡ rounds_of (profiled s f.profile) f.length
rounds-are s f = elim (cases_Bool (stripes_in s f == 0)) [
  | inl t ↦ rw t refl
  | inr e ↦ rw e refl
]

-- the actions on files, over what is done at each of them
files-are : (s : Setup) (v : Wish) (fl : List Bool) (g : Pinned → List Action) →
    ((f : Pinned) → turns_from 0 s.n v fl f.id (turns_for s v f) ≡ g f) → (ps : List Pinned) →
    tasks_of s.n v fl (tasks_made (turns_for s v) ps) ≡ flat_map g ps
files-are s v fl g h ps = tasks-pins s.n v fl (turns_for s v) ps
    ∙ flat-same (λ f. turns_from 0 s.n v fl f.id (turns_for s v f)) g ps h

-- a plan of these parts, which takes nothing away
abbrev plan_as : Aim → ℕ → ℕ → List Bool → List Pinned → Plan Pinned
plan_as aim profile subject fl pins = record {
  aim = aim;
  profile = profile;
  subject = subject;
  older = [];
  flagged = flag_at fl;
  pins = pins;
}

actions-are : (s : Setup) (profile subject : ℕ) (fl : List Bool) (pins : List Pinned) (v : Wish)
    (aim : Aim) → (is_caller v ≡ false → tasks_made (turns_for s v) (targets_of v profile subject pins) ≡ [])
    →
    front_of v ++ tasks_from s.n v fl (tasks_made (turns_for s v) (targets_of v profile subject pins))
    ≡ plan_actions core_pins s (plan_as aim profile subject fl pins) (aim_of_wish v)
actions-are s profile subject fl pins (wish.Put name size own) aim idle =
    ap (λ xs. append_actions ++ (xs ++ (append_actions ++ End ∷ []))) (files-are s (wish.Put name size own) fl
    (λ f. on_each_stripe (profiled s f.profile) f.length
    (λ stripe. on_each_provider s (λ j. Store j f.id stripe))) (λ f. turns-each s.n (wish.Put name size own)
    fl f.id (stripes_in s f) (λ stripe. on_each_provider s (λ j. Store j f.id stripe))
    (put-turn s name size own fl f.id)) (record { id = subject; length = size; profile = profile } ∷ [])
    ∙ append-nil (store_plan s profile subject size))
actions-are s profile subject fl pins (wish.Get name) aim idle =
    ap (λ xs. xs ++ End ∷ []) (files-are s (wish.Get name) fl (λ f. on_each_stripe (profiled s f.profile)
    f.length (open_actions s f.id)) (λ f. turns-each s.n (wish.Get name) fl f.id (stripes_in s f)
    (open_actions s f.id) (get-turn s name fl f.id)) pins)
actions-are s profile subject fl pins (wish.Drop name) aim idle =
    ap (λ ts. append_actions ++ (tasks_of s.n (wish.Drop name) fl ts ++ End ∷ [])) (idle refl)
actions-are s profile subject fl pins wish.Audit aim idle =
    ap (λ xs. append_actions ++ (xs ++ (append_actions ++ End ∷ [])))
    (files-are s wish.Audit fl (λ f. flat_map (λ round. on_each_provider s (λ j. Ask j f.id round))
    (rounds_of (profiled s f.profile) f.length)) (λ f. turns-each s.n wish.Audit fl f.id
    (turns_for s wish.Audit f) (λ round. on_each_provider s (λ j. Ask j f.id round)) (audit-turn s fl f.id)
    ∙ ap (flat_map (λ round. on_each_provider s (λ j. Ask j f.id round))) (rounds-are s f)) pins)
actions-are s profile subject fl pins wish.Repair aim idle = ap (λ xs. xs ++ (append_actions ++ End ∷ []))
    (files-are s wish.Repair fl (λ f. on_each_stripe (profiled s f.profile) f.length
    (λ stripe. open_actions s f.id stripe ++ rewrite_plan s (flag_at fl) f.id stripe))
    (λ f. turns-each s.n wish.Repair fl f.id (stripes_in s f)
    (λ stripe. open_actions s f.id stripe ++ rewrite_plan s (flag_at fl) f.id stripe)
    (λ t. repair-turn s fl f.id t)) pins)
actions-are s profile subject fl pins wish.Upgrade aim idle =
    ap (λ ts. tasks_of s.n wish.Upgrade fl ts ++ (append_actions ++ End ∷ [])) (idle refl)

-- the tasks of a job are those of its plan
abbrev pub HasTasks : Setup → Job → Type 0
HasTasks s job = job.tasks.items
    ≡ tasks_made (turns_for s job.wish) (targets_of job.wish job.profile job.subject job.pinned.items)

-- a first append and all tasks, of a job that takes nothing away, are the actions of its plan
pub whole : (s : Setup) (job : Job) → job.older ≡ None → (is_caller job.wish ≡ false → job.tasks.items ≡ []) →
    HasTasks s job → front_of job.wish ++ tasks_on s.n job job.tasks.items ≡ planned s (plan_kept job)
unfolding planned_by
whole s job none idle made = ap (λ ts. front_of job.wish ++ tasks_from s.n job.wish job.flagged ts) made
    ∙ (actions-are s job.profile job.subject job.flagged job.pinned.items job.wish (aim_of_wish job.wish)
    (λ h. sym made ∙ idle h)
    ∙ ap (λ o. plan_actions core_pins s
    (record (plan_in (plan_kept job)) { older = listed_older o }) (aim_of_wish job.wish)) (sym none))

-- ---- what a job takes away

removals-are : (s : Setup) (o : Option ℕ) → remove_plan s (listed_older o) ++ End ∷ [] ≡ removals_of s.n o
removals-are s None = refl
removals-are s (Some object) = ap (λ xs. xs ++ End ∷ [])
    (append-nil (on_each_provider s (λ j. Remove j object))
    ∙ ap (map (λ j. Remove j object)) (sym (numbers-upto s.n)))

reassoc : (a b c d : List Action) → a ++ (b ++ (c ++ d)) ≡ (a ++ (b ++ c)) ++ d
reassoc a b c d = sym (append_assoc a (b ++ c) d ∙ ap (λ l. a ++ l) (append_assoc b c d))

-- where a list has its last two actions left, another one with the same front has what is behind it
tail-is : (front : List Action) (p : ℕ) (ys : List Action) →
    drop p (front ++ End ∷ []) ≡ SyncGate ∷ End ∷ [] → drop (p + 1) (front ++ ys) ≡ ys
tail-is front p ys h =
    let e : p + 1 ≡ length front + 0 = omega (
      arith,
      ap (λ (xs : List Action). length xs) h,
      length-drop p (front ++ End ∷ []),
      length-append front (End ∷ []),
    ) in
    ap (λ k. drop k (front ++ ys)) e ∙ drop-append-add front ys 0

-- behind the last gate of a put or a drop its plan has the removals of what it takes away
pub behind_last : (s : Setup) (plan : Plan Pinned) (v : Wish) (p : ℕ) (o : Option ℕ) → is_taker v ≡ true →
    drop p (plan_actions core_pins s (record plan { older = [] }) (aim_of_wish v)) ≡ SyncGate ∷ End ∷ [] →
    drop (p + 1) (plan_actions core_pins s (record plan { older = listed_older o }) (aim_of_wish v))
    ≡ removals_of s.n o
behind_last s plan (wish.Put name size own) p o t h =
    let stores = store_plan s plan.profile plan.subject size in
    ap (drop (p + 1)) (reassoc append_actions stores append_actions
    (remove_plan s (listed_older o) ++ End ∷ []))
    ∙ (tail-is (append_actions ++ (stores ++ append_actions)) p (remove_plan s (listed_older o) ++ End ∷ [])
    (ap (drop p) (sym (reassoc append_actions stores append_actions (End ∷ []))) ∙ h)
    ∙ removals-are s o)
behind_last s plan (wish.Drop name) p o t h =
    tail-is append_actions p (remove_plan s (listed_older o) ++ End ∷ []) h ∙ removals-are s o
behind_last s plan v p o t h = absurd (false≢true t)
