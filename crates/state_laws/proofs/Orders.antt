-- The actions of each job are in order, and each of its actions goes one on in it.
use Rattle.state_laws.proofs.Words.{◌≡◌, zero, suc, ◌-◌, ◌<◌, true, false, cond, ◌++◌, length, drop, refl, ap, sym, subst, ◌∙◌, inl, inr, arith, count_by, slice_get, flat_map, sum_by-cons, sum_by-append, sum_by-take-drop, Each, each_get, each_append, each_map, each_flat, drop-get, upto, Setup, Kind, PutJob, GetJob, DropJob, AuditJob, RepairJob, UpgradeJob, Pinned, Job, Action, WriteBody, SyncBody, WriteGate, SyncGate, Store, Fetch, Ask, Work, Remove, End, append_actions, on_each_provider, on_each_stripe, store_actions, open_actions, read_actions, rewrite_actions, repair_actions, rounds_of, ask_actions, remove_actions, actions_by, actions_of, actions_left, ends_append, appends_left, profiled, stripes_of, State, setup_in, next_action, split_get, next_stands, same_value, moves_before, moves_after, IsInOrder}
use Rattle.std.proofs.Common.{ℕ, ◌+◌, ◌≤◌, List, [], ◌∷◌, Some}

-- ---- lists of actions

-- an action that is neither a move of an append nor an End
abbrev pub IsOther : Action → Type 0
IsOther WriteBody = ⊥
IsOther SyncBody = ⊥
IsOther WriteGate = ⊥
IsOther SyncGate = ⊥
IsOther End = ⊥
IsOther action = Unit {0}

in_order-others : (xs ys : List Action) → Each IsOther xs → IsInOrder 0 ys → IsInOrder 0 (xs ++ ys)
in_order-others [] ys h o = o
in_order-others (Store j object stripe ∷ xs) ys h o = (refl, in_order-others xs ys h.1 o)
in_order-others (Fetch j object stripe ∷ xs) ys h o = (refl, in_order-others xs ys h.1 o)
in_order-others (Ask j object round ∷ xs) ys h o = (refl, in_order-others xs ys h.1 o)
in_order-others (Work object stripe ∷ xs) ys h o = (refl, in_order-others xs ys h.1 o)
in_order-others (Remove j object ∷ xs) ys h o = (refl, in_order-others xs ys h.1 o)
in_order-others xs ys h o = absurd h.0

in_order-append : (ys : List Action) → IsInOrder 0 ys → IsInOrder 0 (append_actions ++ ys)
in_order-append ys o = (refl, (refl, (refl, (refl, o))))

in_order-end : IsInOrder 0 (End ∷ [])
in_order-end = (refl, refl)

-- an action that is not the End goes on in the order
pub in_order-step : (moves : ℕ) (action : Action) (actions : List Action) → (action ≡ End → ⊥) →
    IsInOrder moves (action ∷ actions) →
    (moves ≡ moves_before action) × IsInOrder (moves_after action) actions
in_order-step moves End actions n o = absurd (n refl)
in_order-step moves action actions n o = o

-- in a list in order, the moves made are those before its first action
pub moves-first : (moves : ℕ) (action : Action) (actions : List Action) → IsInOrder moves (action ∷ actions) →
    moves ≡ moves_before action
moves-first moves WriteBody actions o = o.0
moves-first moves action actions o = o.0

-- some action is first
pub in_order-first : (moves : ℕ) (actions : List Action) → IsInOrder moves actions →
    (action : Action) × (slice_get actions 0 ≡ Some action)
in_order-first moves [] o = absurd o
in_order-first moves (action ∷ actions) o = (action, refl)

-- what stands at a place is first when all before it is dropped
pub get-drop : {X : Type 0} (xs : List X) (p : ℕ) → slice_get (drop p xs) 0 ≡ slice_get xs p
get-drop [] (suc p) = refl
get-drop (x ∷ xs) (suc p) = get-drop xs p
get-drop xs zero = refl

-- ---- the lists of jobs

-- no removal is a move of an append or an End
pub others-removals : (s : Setup) (job : Job) → Each IsOther (remove_actions s job)
others-removals s job = each_flat IsOther (λ object. on_each_provider s (λ j. Remove j object)) job.older
    (λ object. each_map IsOther (λ j. Remove j object) (upto s.n) (λ j. tt))

others-stores : (s : Setup) (job : Job) (bytes : List ℕ) → Each IsOther (store_actions s job bytes)
others-stores s job bytes = each_flat IsOther (λ stripe. on_each_provider s (λ j. Store j job.subject stripe))
    (upto (stripes_of (profiled s job.profile) (length bytes)))
    (λ stripe. each_map IsOther (λ j. Store j job.subject stripe) (upto s.n) (λ j. tt))

others-open : (s : Setup) (object stripe : ℕ) → Each IsOther (open_actions s object stripe)
others-open s object stripe = each_append IsOther (on_each_provider s (λ j. Fetch j object stripe))
    (Work object stripe ∷ []) (each_map IsOther (λ j. Fetch j object stripe) (upto s.n) (λ j. tt)) (tt, tt)

others-reads : (s : Setup) (pinned : List Pinned) → Each IsOther (read_actions s pinned)
others-reads s pinned = each_flat IsOther (λ f. on_each_stripe (profiled s f.profile) (length f.bytes)
    (open_actions s f.id)) pinned (λ f. each_flat IsOther (open_actions s f.id)
    (upto (stripes_of (profiled s f.profile) (length f.bytes))) (λ stripe. others-open s f.id stripe))

others-cond : (b : _) (action : Action) → IsOther action → Each IsOther (cond b (action ∷ []) [])
others-cond true action h = (h, tt)
others-cond false action h = tt

-- nothing that a repair does on its files is a move of an append or an End
pub others-repairs : (s : Setup) (job : Job) → Each IsOther (repair_actions s job)
others-repairs s job = each_flat IsOther (λ f. on_each_stripe (profiled s f.profile) (length f.bytes)
    (λ stripe. open_actions s f.id stripe ++ rewrite_actions s job f.id stripe)) job.pinned
    (λ f. each_flat IsOther (λ stripe. open_actions s f.id stripe ++ rewrite_actions s job f.id stripe)
    (upto (stripes_of (profiled s f.profile) (length f.bytes))) (λ stripe. each_append IsOther
    (open_actions s f.id stripe) (rewrite_actions s job f.id stripe) (others-open s f.id stripe)
    (each_flat IsOther (λ j. cond (job.flagged j) (Store j f.id stripe ∷ []) []) (upto s.n)
    (λ j. others-cond (job.flagged j) (Store j f.id stripe) tt))))

-- what each ask is, those of a job are
pub each-ask : (P : Action → Type 0) → ((j object round : ℕ) → P (Ask j object round)) →
    (s : Setup) (job : Job) → Each P (ask_actions s job)
each-ask P h s job = each_flat P (λ (f : Pinned). flat_map
    (λ round. on_each_provider s (λ j. Ask j f.id round)) (rounds_of (profiled s f.profile) (length f.bytes)))
    job.pinned (λ f. each_flat P (λ round. on_each_provider s (λ j. Ask j f.id round))
    (rounds_of (profiled s f.profile) (length f.bytes))
    (λ round. each_map P (λ j. Ask j f.id round) (upto s.n) (λ j. h j f.id round)))

others-asks : (s : Setup) (job : Job) → Each IsOther (ask_actions s job)
others-asks s job = each-ask IsOther (λ j object round. tt) s job

-- what comes behind the first append of a put, a drop and an audit
abbrev pub put_rest : Setup → Job → List ℕ → List Action
put_rest s job bytes = store_actions s job bytes ++ (append_actions ++ (remove_actions s job ++ End ∷ []))

-- what comes behind the append of a drop: its removals and the end
abbrev pub drop_rest : Setup → Job → List Action
drop_rest s job = remove_actions s job ++ End ∷ []

-- what comes behind the first append of an audit: its asks, the second append and the end
abbrev pub audit_rest : Setup → Job → List Action
audit_rest s job = ask_actions s job ++ (append_actions ++ End ∷ [])

-- removals and an end are in order
pub in_order-removals : (s : Setup) (job : Job) → IsInOrder 0 (drop_rest s job)
in_order-removals s job =
    in_order-others (remove_actions s job) (End ∷ []) (others-removals s job) in_order-end

in_order-by : (s : Setup) (job : Job) (kind : Kind) → IsInOrder 0 (actions_by s job kind)
in_order-by s job (PutJob name bytes) = in_order-append (put_rest s job bytes)
    (in_order-others (store_actions s job bytes) (append_actions ++ drop_rest s job)
    (others-stores s job bytes) (in_order-append (drop_rest s job) (in_order-removals s job)))
in_order-by s job (GetJob name) =
    in_order-others (read_actions s job.pinned) (End ∷ []) (others-reads s job.pinned) in_order-end
in_order-by s job (DropJob name) = in_order-append (drop_rest s job) (in_order-removals s job)
in_order-by s job AuditJob = in_order-append (audit_rest s job)
    (in_order-others (ask_actions s job) (append_actions ++ End ∷ []) (others-asks s job)
    (in_order-append (End ∷ []) in_order-end))
in_order-by s job RepairJob = in_order-others (repair_actions s job) (append_actions ++ End ∷ [])
    (others-repairs s job) (in_order-append (End ∷ []) in_order-end)
in_order-by s job UpgradeJob = in_order-append (End ∷ []) in_order-end

-- the actions of a job are in order
pub in_order : (s : Setup) (job : Job) → IsInOrder 0 (actions_of s job)
unfolding actions_of
in_order s job = in_order-by s job job.kind

-- ---- how many appends are left

-- one for the fourth move of an append, and none for another action
abbrev pub gates : Action → ℕ
gates action = cond (ends_append action) 1 0

-- how many appends end in a list of actions
abbrev pub appends_in : List Action → ℕ
appends_in actions = count_by ends_append actions

-- where no action is a move of an append, no append ends
pub appends-others : (xs : List Action) → Each IsOther xs → appends_in xs ≡ 0
appends-others [] h = refl
appends-others (x ∷ xs) h = sum_by-cons gates x xs ∙ omega (arith, first x h.0, appends-others xs h.1)
  where
    first : (x : Action) → IsOther x → gates x ≡ 0
    first WriteBody i = absurd i
    first SyncBody i = absurd i
    first WriteGate i = absurd i
    first SyncGate i = absurd i
    first End i = absurd i
    first x i = refl

-- one action more in front adds an append exactly if it is a fourth move
pub appends-cons : (action : Action) (actions : List Action) →
    appends_in (action ∷ actions) ≡ gates action + appends_in actions
appends-cons action actions = sum_by-cons gates action actions

-- within an append its fourth move is left
pub appends-order : (moves : ℕ) (actions : List Action) → 0 < moves → IsInOrder moves actions →
    0 < appends_in actions
appends-order moves [] l o = absurd o
appends-order moves (SyncBody ∷ actions) l o =
    (omega (arith, appends-order 2 actions (omega arith) o.1, appends-cons SyncBody actions))
appends-order moves (WriteGate ∷ actions) l o =
    (omega (arith, appends-order 3 actions (omega arith) o.1, appends-cons WriteGate actions))
appends-order moves (SyncGate ∷ actions) l o = omega (arith, appends-cons SyncGate actions)
appends-order moves actions l o = absurd (omega (arith, l, o.0))

-- the appends of two lists, one behind the other, add up
pub appends-append : (xs ys : List Action) → appends_in (xs ++ ys) ≡ appends_in xs + appends_in ys
appends-append xs ys = sum_by-append gates xs ys

appends-drop : (xs : List Action) (p : ℕ) → appends_in (drop p xs) ≤ appends_in xs
appends-drop xs p = omega (arith, sum_by-take-drop gates xs p)

-- four moves in front are one append more
pub appends-move : (ys : List Action) → appends_in (append_actions ++ ys) ≡ 1 + appends_in ys
appends-move ys = appends-append append_actions ys

-- among removals and an end no append ends
pub appends-removals : (s : Setup) (job : Job) → appends_in (drop_rest s job) ≡ 0
appends-removals s job = appends-append (remove_actions s job) (End ∷ [])
    ∙ omega (arith, appends-others (remove_actions s job) (others-removals s job))

appends-put_rest : (s : Setup) (job : Job) (bytes : List ℕ) → appends_in (put_rest s job bytes) ≡ 1
appends-put_rest s job bytes = appends-append (store_actions s job bytes) (append_actions ++ drop_rest s job)
    ∙ (let e = appends-others (store_actions s job bytes) (others-stores s job bytes) in
    omega (arith, e, appends-move (drop_rest s job), appends-removals s job))

appends-audit_rest : (s : Setup) (job : Job) → appends_in (audit_rest s job) ≡ 1
appends-audit_rest s job = appends-append (ask_actions s job) (append_actions ++ End ∷ [])
    ∙ (omega (arith, appends-others (ask_actions s job) (others-asks s job), appends-move (End ∷ [])))

-- within the first append of a list, and behind it
appends-within : (ys : List Action) (p : ℕ) → p < 4 →
    appends_in (drop p (append_actions ++ ys)) ≡ 1 + appends_in ys
appends-within ys zero l = appends-move ys
appends-within ys (suc zero) l = appends-append (SyncBody ∷ WriteGate ∷ SyncGate ∷ []) ys
appends-within ys (suc (suc zero)) l = appends-append (WriteGate ∷ SyncGate ∷ []) ys
appends-within ys (suc (suc (suc zero))) l = appends-append (SyncGate ∷ []) ys
appends-within ys (suc (suc (suc (suc p)))) l = absurd (omega (arith, l))

appends-behind : (ys : List Action) (p : ℕ) → 4 ≤ p →
    appends_in (drop p (append_actions ++ ys)) ≤ appends_in ys
appends-behind ys (suc (suc (suc (suc p)))) l = appends-drop ys p
appends-behind ys p l = absurd (omega (arith, l))

-- how many appends a job has left, by its kind and place
abbrev pub appends_by : Setup → Job → Kind → ℕ
appends_by s job kind = appends_in (drop job.place (actions_by s job kind))

appends_left-by : (s : Setup) (job : Job) → appends_left s job ≡ appends_by s job job.kind
unfolding actions_of
appends_left-by s job = refl

module _ (s : Setup) (job : Job) where
  -- a put has two appends left until its first one is done
  pub put-first : (name bytes : List ℕ) → job.kind ≡ PutJob name bytes → job.place < 4 →
      appends_left s job ≡ 2
  put-first name bytes kind l = appends_left-by s job
      ∙ (ap (appends_by s job) kind
      ∙ (appends-within (put_rest s job bytes) job.place l
      ∙ ap (λ n. 1 + n) (appends-put_rest s job bytes)))

  -- a put has at most one append left once its first one is done
  pub put-later : (name bytes : List ℕ) → job.kind ≡ PutJob name bytes → 4 ≤ job.place →
      appends_left s job ≤ 1
  put-later name bytes kind l = (let e = appends_left-by s job ∙ ap (appends_by s job) kind in
      omega (arith, e, appends-behind (put_rest s job bytes) job.place l, appends-put_rest s job bytes))

  -- an audit has two appends left until its first one is done
  pub audit-first : job.kind ≡ AuditJob → job.place < 4 → appends_left s job ≡ 2
  audit-first kind l = appends_left-by s job
      ∙ (ap (appends_by s job) kind
      ∙ (appends-within (audit_rest s job) job.place l ∙ ap (λ n. 1 + n) (appends-audit_rest s job)))

  -- an audit has at most one append left once its first one is done
  pub audit-later : job.kind ≡ AuditJob → 4 ≤ job.place → appends_left s job ≤ 1
  audit-later kind l = (let e = appends_left-by s job ∙ ap (appends_by s job) kind in
      omega (arith, e, appends-behind (audit_rest s job) job.place l, appends-audit_rest s job))

  -- a drop has at most one append left
  pub drop-first : (name : List ℕ) → job.kind ≡ DropJob name → appends_left s job ≤ 1
  drop-first name kind = (let e = appends_left-by s job ∙ ap (appends_by s job) kind in let b = appends-drop
      (append_actions ++ drop_rest s job) job.place in
      omega (arith, e, b, appends-move (drop_rest s job), appends-removals s job))

  -- a repair has at most one append left
  pub repair-first : job.kind ≡ RepairJob → appends_left s job ≤ 1
  repair-first kind = (let b = appends-drop (repair_actions s job ++ (append_actions ++ End ∷ [])) job.place
      in let m = appends-append (repair_actions s job) (append_actions ++ End ∷ []) in let o = appends-others
      (repair_actions s job) (others-repairs s job) in
      omega (arith, appends_left-by s job ∙ ap (appends_by s job) kind, b, m, o, appends-move (End ∷ [])))

  -- an upgrade has at most one append left
  pub upgrade-first : job.kind ≡ UpgradeJob → appends_left s job ≤ 1
  upgrade-first kind = (let b = appends-drop (append_actions ++ End ∷ []) job.place in
      omega (arith, appends_left-by s job ∙ ap (appends_by s job) kind, b, appends-move (End ∷ [])))

  -- a get has no append
  pub get-none : (name : List ℕ) → job.kind ≡ GetJob name → appends_left s job ≡ 0
  get-none name kind = (let b = appends-drop (read_actions s job.pinned ++ End ∷ []) job.place in let m =
      appends-append (read_actions s job.pinned) (End ∷ []) in let o = appends-others (read_actions s
      job.pinned) (others-reads s job.pinned) in
      omega (arith, appends_left-by s job ∙ ap (appends_by s job) kind, b, m, o))

-- within the first four actions of a list that begins with an append each move stands at its place
pub moves-within : (rest : List Action) (p : ℕ) (action : Action) → p < 4 →
    slice_get (append_actions ++ rest) p ≡ Some action → p ≡ moves_before action
moves-within rest zero action l h = ap moves_before (same_value _ WriteBody action refl h)
moves-within rest (suc zero) action l h = ap moves_before (same_value _ SyncBody action refl h)
moves-within rest (suc (suc zero)) action l h = ap moves_before (same_value _ WriteGate action refl h)
moves-within rest (suc (suc (suc zero))) action l h = ap moves_before (same_value _ SyncGate action refl h)
moves-within rest (suc (suc (suc (suc p)))) action l h = absurd (omega arith)

-- a move of an append among the actions of a drop is one of its append
pub drop-move : (s : Setup) (job : Job) (p : ℕ) (action : Action) → (IsOther action → ⊥) →
    (action ≡ End → ⊥) →
    slice_get (append_actions ++ drop_rest s job) p ≡ Some action → p ≡ moves_before action
drop-move s job p action move n h = elim (split_get append_actions (drop_rest s job) p action h) [
  | inl a ↦ moves-within [] p action a.0 a.1
  | inr b ↦ absurd (elim (split_get (remove_actions s job) (End ∷ []) (p - 4) action b.1) [
    | inl r ↦ move (each_get IsOther (remove_actions s job) (p - 4) action (others-removals s job) r.1)
    | inr e ↦ n (each_get (λ (x : Action). x ≡ End) (End ∷ []) _ action (refl, tt) e.1)
  ])
]

-- the first move of a drop's append stands at the start of its list
pub drop-body : (s : Setup) (job : Job) (p : ℕ) →
    slice_get (append_actions ++ drop_rest s job) p ≡ Some WriteBody → p ≡ 0
drop-body s job p h = drop-move s job p WriteBody (λ i. i) (λ e. cc) h

-- ---- the next action

-- so what is left begins with it
pub next-left : (w : State) (job : Job) (action : Action) → next_action w job ≡ Some action →
    (action ≡ End → ⊥) → actions_left (setup_in w) job
    ≡ action ∷ drop (job.place + 1) (actions_of (setup_in w) job)
next-left w job action h n =
    drop-get (actions_of (setup_in w) job) job.place action (next_stands w job action h n)

-- ---- the first move of a first append

-- within the first four actions of a list that begins with an append the first move is the first
pub body-within : (rest : List Action) (p : ℕ) → p < 4 →
    slice_get (append_actions ++ rest) p ≡ Some WriteBody → p ≡ 0
body-within rest p l h = moves-within rest p WriteBody l h

-- the list of a put, and of an audit
pub put-list : (s : Setup) (job : Job) (name bytes : List ℕ) → job.kind ≡ PutJob name bytes →
    actions_of s job ≡ append_actions ++ put_rest s job bytes
unfolding actions_of
put-list s job name bytes kind = ap (actions_by s job) kind

-- an audit makes an append, and then its asks, its second append and the end
pub audit-list : (s : Setup) (job : Job) → job.kind ≡ AuditJob →
    actions_of s job ≡ append_actions ++ audit_rest s job
unfolding actions_of
audit-list s job kind = ap (actions_by s job) kind

-- a job whose list begins with an append and whose place is the second is in its order
second-order : (s : Setup) (job : Job) (rest : List Action) → actions_of s job ≡ append_actions ++ rest →
    job.place ≡ 1 → IsInOrder 1 (actions_left s job)
second-order s job rest e one =
    (let o : IsInOrder 0 (append_actions ++ rest) = subst (IsInOrder 0) e (in_order s job) in
    let t = in_order-step 0 WriteBody (SyncBody ∷ (WriteGate ∷ (SyncGate ∷ rest))) (λ f. cc) o in
    subst (λ p. IsInOrder 1 (drop p (actions_of s job))) (sym one)
    (subst (λ xs. IsInOrder 1 (drop 1 xs)) (sym e) t.1))

-- the first append's first move leaves this, whatever number it draws
pub put-second : (w : State) (job next : Job) (name bytes : List ℕ) → job.kind ≡ PutJob name bytes →
    next_action w job ≡ Some WriteBody → job.place < 4 → next.kind ≡ job.kind → next.place ≡ job.place + 1 →
    IsInOrder 1 (actions_left (setup_in w) next) ×
    (appends_left (setup_in w) next ≡ appends_left (setup_in w) job)
put-second w job next name bytes kind is l same place =
    (let zero_place = body-within (put_rest (setup_in w) job bytes) job.place l
    (ap (λ xs. slice_get xs job.place) (sym (put-list (setup_in w) job name bytes kind))
    ∙ next_stands w job WriteBody is (λ e. cc)) in
    let one : next.place ≡ 1 = omega (arith, zero_place, place) in (
      second-order (setup_in w) next (put_rest (setup_in w) next bytes)
          (put-list (setup_in w) next name bytes (same ∙ kind)) one,
      put-first (setup_in w) next name bytes (same ∙ kind) (omega (arith, one))
          ∙ sym (put-first (setup_in w) job name bytes kind l),
    ))

-- the first move of an audit's first append leaves the same, whatever number it draws
pub audit-second : (w : State) (job next : Job) → job.kind ≡ AuditJob → next_action w job ≡ Some WriteBody →
    job.place < 4 → next.kind ≡ job.kind → next.place ≡ job.place + 1 →
    IsInOrder 1 (actions_left (setup_in w) next) ×
    (appends_left (setup_in w) next ≡ appends_left (setup_in w) job)
audit-second w job next kind is l same place = (let zero_place = body-within (audit_rest (setup_in w) job)
    job.place l (ap (λ xs. slice_get xs job.place) (sym (audit-list (setup_in w) job kind))
    ∙ next_stands w job WriteBody is (λ e. cc)) in
    let one : next.place ≡ 1 = omega (arith, zero_place, place) in (
      second-order (setup_in w) next (audit_rest (setup_in w) next)
          (audit-list (setup_in w) next (same ∙ kind)) one,
      audit-first (setup_in w) next (same ∙ kind) (omega (arith, one))
          ∙ sym (audit-first (setup_in w) job kind l),
    ))
