-- What the stores and removals of a job are of, and where its appends stand.
use Rattle.machine_defs.proofs.Words.{◌≡◌, zero, suc, ◌-◌, ◌≤◌, Bool, false, cond, refl, sym, subst, ◌∙◌, inl, inr, arith, slice_get, flat_map, cases_Bool, upto, Setup, Kind, PutJob, GetJob, DropJob, AuditJob, RepairJob, UpgradeJob, Pinned, Job, Action, WriteBody, SyncBody, WriteGate, SyncGate, Store, Fetch, Ask, Work, Remove, End, append_actions, on_each_provider, on_each_stripe, open_actions, store_actions, read_actions, rewrite_actions, repair_actions, rounds_of, ask_actions, remove_actions, actions_by, profiled, stripes_of, State, setup_in, next_action, is_idle_drop, Each, In, each_flat_in, each_get, each_append, each_map, each_flat}
use Rattle.std.proofs.Common.{ℕ, ◌+◌, ◌<◌, true, List, [], ◌∷◌, ◌++◌, length, Some, None}
use Rattle.machine_defs.proofs.JobLists.{cond_true, cond_false}
use Rattle.machine_defs.proofs.ActionLists.{split_get}
use Rattle.machine_defs.proofs.Numbers.{next_by, next_is_by}

-- a job works on a file of this object number
pub record HasPin (job : Job) (o : ℕ) : Type 0 where
  pub file : Pinned
  pub pinned : In file job.pinned
  pub id_is : file.id ≡ o

-- a put stores under its own number, a repair under those of its files, and others not at all; a job removes
-- only the object that it takes away; gets and repairs alone work on stripes, and a get appends nothing
abbrev pub IsFair : Job → Kind → Action → Type 0
IsFair job (PutJob name bytes) (Store j o s) = o ≡ job.subject
IsFair job RepairJob (Store j o s) = HasPin job o
IsFair job kind (Store j o s) = ⊥
IsFair job kind (Remove j o) = In o job.older
IsFair job (GetJob name) (Work o s) = Unit {0}
IsFair job RepairJob (Work o s) = Unit {0}
IsFair job kind (Work o s) = ⊥
IsFair job (GetJob name) WriteBody = ⊥
IsFair job (GetJob name) SyncBody = ⊥
IsFair job (GetJob name) WriteGate = ⊥
IsFair job (GetJob name) SyncGate = ⊥
IsFair job kind action = Unit {0}

fair_removals : (s : Setup) (job : Job) (kind : Kind) →
    ((j o : ℕ) → In o job.older → IsFair job kind (Remove j o)) →
    Each (IsFair job kind) (remove_actions s job)
fair_removals s job kind h =
    each_flat_in (IsFair job kind) (λ object. on_each_provider s (λ j. Remove j object)) job.older
    (λ o i. each_map (IsFair job kind) (λ j. Remove j o) (upto s.n) (λ j. h j o i))

fair_cond : (job : Job) (kind : Kind) (b : Bool) (a : Action) → IsFair job kind a →
    Each (IsFair job kind) (cond b (a ∷ []) [])
fair_cond job kind true a h = (h, tt)
fair_cond job kind false a h = tt

-- all actions of a job are fair, whatever its kind
pub fair : (s : Setup) (job : Job) (kind : Kind) → Each (IsFair job kind) (actions_by s job kind)
fair s job (PutJob name bytes) = (
  tt,
  (
    tt,
    (
      tt,
      (
        tt,
        each_append (IsFair job (PutJob name bytes)) (store_actions s job bytes)
            (append_actions ++ (remove_actions s job ++ End ∷ [])) (each_flat (IsFair job (PutJob name bytes))
            (λ stripe. on_each_provider s (λ j. Store j job.subject stripe))
            (upto (stripes_of (profiled s job.profile) (length bytes)))
            (λ stripe. each_map (IsFair job (PutJob name bytes)) (λ j. Store j job.subject stripe) (upto s.n)
            (λ j. refl))) (
              tt,
              (
                tt,
                (
                  tt,
                  (
                    tt,
                    each_append (IsFair job (PutJob name bytes)) (remove_actions s job) (End ∷ [])
                        (fair_removals s job (PutJob name bytes) (λ j o i. i)) (tt, tt),
                  ),
                ),
              ),
            ),
      ),
    ),
  ),
)
fair s job (GetJob name) = each_append (IsFair job (GetJob name)) (read_actions s job.pinned) (End ∷ [])
    (each_flat (IsFair job (GetJob name)) (λ (f : Pinned). on_each_stripe (profiled s f.profile)
    (length f.bytes) (open_actions s f.id)) job.pinned (λ f. each_flat (IsFair job (GetJob name))
    (open_actions s f.id) (upto (stripes_of (profiled s f.profile) (length f.bytes)))
    (λ stripe. each_append (IsFair job (GetJob name)) (on_each_provider s (λ j. Fetch j f.id stripe))
    (Work f.id stripe ∷ [])
    (each_map (IsFair job (GetJob name)) (λ j. Fetch j f.id stripe) (upto s.n) (λ j. tt)) (tt, tt)))) (tt, tt)
fair s job (DropJob name) = (
  tt,
  (
    tt,
    (
      tt,
      (
        tt,
        each_append (IsFair job (DropJob name)) (remove_actions s job) (End ∷ [])
            (fair_removals s job (DropJob name) (λ j o i. i)) (tt, tt),
      ),
    ),
  ),
)
fair s job AuditJob = (
  tt,
  (
    tt,
    (
      tt,
      (
        tt,
        each_append (IsFair job AuditJob) (ask_actions s job) (append_actions ++ End ∷ [])
            (each_flat (IsFair job AuditJob)
            (λ (f : Pinned). flat_map (λ round. on_each_provider s (λ j. Ask j f.id round))
            (rounds_of (profiled s f.profile) (length f.bytes))) job.pinned
            (λ f. each_flat (IsFair job AuditJob) (λ round. on_each_provider s (λ j. Ask j f.id round))
            (rounds_of (profiled s f.profile) (length f.bytes))
            (λ round. each_map (IsFair job AuditJob) (λ j. Ask j f.id round) (upto s.n) (λ j. tt))))
            (tt, (tt, (tt, (tt, (tt, tt))))),
      ),
    ),
  ),
)
fair s job RepairJob = each_append (IsFair job RepairJob) (repair_actions s job) (append_actions ++ End ∷ [])
    (each_flat_in (IsFair job RepairJob) (λ (f : Pinned). on_each_stripe (profiled s f.profile)
    (length f.bytes) (λ stripe. open_actions s f.id stripe ++ rewrite_actions s job f.id stripe)) job.pinned
    (λ f i. each_flat (IsFair job RepairJob) (λ stripe. open_actions s f.id stripe ++ rewrite_actions s job
    f.id stripe) (upto (stripes_of (profiled s f.profile) (length f.bytes)))
    (λ stripe. each_append (IsFair job RepairJob) (open_actions s f.id stripe)
    (rewrite_actions s job f.id stripe) (each_append (IsFair job RepairJob)
    (on_each_provider s (λ j. Fetch j f.id stripe)) (Work f.id stripe ∷ [])
    (each_map (IsFair job RepairJob) (λ j. Fetch j f.id stripe) (upto s.n) (λ j. tt)) (tt, tt))
    (each_flat (IsFair job RepairJob) (λ j. cond (job.flagged j) (Store j f.id stripe ∷ []) []) (upto s.n)
    (λ j. fair_cond job RepairJob (job.flagged j) (Store j f.id stripe)
    (record { file = f; pinned = i; id_is = refl })))))) (tt, (tt, (tt, (tt, (tt, tt)))))
fair s job UpgradeJob = (tt, (tt, (tt, (tt, (tt, tt)))))

fair_by : (w : State) (job : Job) (kind : Kind) (place : ℕ) (action : Action) →
    next_by w job kind place ≡ Some action → IsFair job kind action
fair_by w job (DropJob name) place action h = elim (cases_Bool (is_idle_drop w job (DropJob name))) [
  | inl t ↦ subst (IsFair job (DropJob name)) (let e : Some End ≡ Some action = sym
      (cond_true (is_idle_drop w job (DropJob name)) (Some End)
      (slice_get (actions_by (setup_in w) job (DropJob name)) place) t) ∙ h in
      let f : End ≡ action = cc in f) tt
  | inr f ↦ each_get (IsFair job (DropJob name)) (actions_by (setup_in w) job (DropJob name)) place action
      (fair (setup_in w) job (DropJob name)) (sym (cond_false (is_idle_drop w job (DropJob name)) (Some End)
      (slice_get (actions_by (setup_in w) job (DropJob name)) place) f) ∙ h)
]
fair_by w job kind place action h = each_get (IsFair job kind)
    (actions_by (setup_in w) job kind) place action (fair (setup_in w) job kind) h

-- the next action of a job is fair
pub is_fair : (w : State) (job : Job) (action : Action) → next_action w job ≡ Some action →
    IsFair job job.kind action
is_fair w job action h = fair_by w job job.kind job.place action (sym (next_is_by w job) ∙ h)

-- how many stores a put makes
abbrev pub stores_count : State → Job → List ℕ → ℕ
stores_count w job bytes = length (store_actions (setup_in w) job bytes)

-- neither a store nor a move
abbrev IsRest : Action → Type 0
IsRest (Store j o s) = ⊥
IsRest WriteBody = ⊥
IsRest SyncGate = ⊥
IsRest action = Unit {0}

-- a store
abbrev pub IsStore : Action → Type 0
IsStore (Store j o s) = Unit {0}
IsStore action = ⊥

-- a move of an append
abbrev IsMove : Action → Type 0
IsMove (Store j o s) = ⊥
IsMove action = Unit {0}

rest_tail : (s : Setup) (job : Job) → Each IsRest (remove_actions s job ++ End ∷ [])
rest_tail s job = each_append IsRest (remove_actions s job) (End ∷ [])
    (each_flat IsRest (λ object. on_each_provider s (λ j. Remove j object)) job.older
    (λ o. each_map IsRest (λ j. Remove j o) (upto s.n) (λ j. tt))) (tt, tt)

-- the actions that store a file are stores
pub all_stores : (s : Setup) (job : Job) (bytes : List ℕ) → Each IsStore (store_actions s job bytes)
all_stores s job bytes = each_flat IsStore (λ stripe. on_each_provider s (λ j. Store j job.subject stripe))
    (upto (stripes_of (profiled s job.profile) (length bytes)))
    (λ stripe. each_map IsStore (λ j. Store j job.subject stripe) (upto s.n) (λ j. tt))

-- an action of a put stands in its first append, among its stores, in its second append, or after it
pub data PutAt (w : State) (job : Job) (bytes : List ℕ) (p : ℕ) (action : Action) : Type 0 where
  first : p < 4 → slice_get append_actions p ≡ Some action → PutAt w job bytes p action
  store : 4 ≤ p → p < 4 + stores_count w job bytes → IsStore action → PutAt w job bytes p action
  second : (q : ℕ) → p ≡ 4 + stores_count w job bytes + q → q < 4 → slice_get append_actions q ≡ Some action →
      PutAt w job bytes p action
  after : 8 + stores_count w job bytes ≤ p → IsRest action → PutAt w job bytes p action

-- each action of a put stands in one of these four parts
pub put_at : (w : State) (job : Job) (name bytes : List ℕ) (p : ℕ) (action : Action) →
    slice_get (actions_by (setup_in w) job (PutJob name bytes)) p ≡ Some action → PutAt w job bytes p action
put_at w job name bytes p action h =
    elim (split_get append_actions
    (store_actions (setup_in w) job
    bytes ++ (append_actions ++ (remove_actions (setup_in w) job ++ End ∷ []))) p action h) [
      | inl a ↦ PutAt.first a.0 a.1
      | inr b ↦ elim (split_get (store_actions (setup_in w) job bytes)
          (append_actions ++ (remove_actions (setup_in w) job ++ End ∷ [])) (p - 4) action b.1) [
            | inl c ↦ PutAt.store b.0 (let l = b.0 in let k = c.0 in omega arith)
                (each_get IsStore (store_actions (setup_in w) job bytes) (p - 4) action
                (all_stores (setup_in w) job bytes) c.1)
            | inr d ↦ elim (split_get append_actions (remove_actions (setup_in w) job ++ End ∷ [])
                (p - 4 - stores_count w job bytes) action d.1) [
                  | inl e ↦ PutAt.second (p - 4 - stores_count w job bytes)
                      (let l = b.0 in let k = d.0 in omega arith) e.0 e.1
                  | inr f ↦ PutAt.after (let l = b.0 in let k = d.0 in let m = f.0 in omega arith)
                      (each_get IsRest (remove_actions (setup_in w) job ++ End ∷ [])
                      (p - 4 - stores_count w job bytes - 4) action (rest_tail (setup_in w) job) f.1)
                ]
          ]
    ]

-- the next action of a put stands where its place says
pub put_next : (w : State) (job : Job) (name bytes : List ℕ) (action : Action) →
    job.kind ≡ PutJob name bytes → next_action w job ≡ Some action → PutAt w job bytes job.place action
put_next w job name bytes action kind h =
    put_at w job name bytes job.place action (let e = sym (next_is_by w job) ∙ h in let f = rw kind at e in f)

-- where a move stands in an append
pub gate_is_last : (q : ℕ) → slice_get append_actions q ≡ Some SyncGate → q ≡ 3
gate_is_last zero h = absurd (let e : Some WriteBody ≡ Some SyncGate = h in cc)
gate_is_last (suc zero) h = absurd (let e : Some SyncBody ≡ Some SyncGate = h in cc)
gate_is_last (suc (suc zero)) h = absurd (let e : Some WriteGate ≡ Some SyncGate = h in cc)
gate_is_last (suc (suc (suc zero))) h = refl
gate_is_last (suc (suc (suc (suc q)))) h = absurd (let e : None ≡ Some SyncGate = h in cc)

-- a store of a put stands among its stores
pub store_place : (w : State) (job : Job) (name bytes : List ℕ) (j o s : ℕ) → job.kind ≡ PutJob name bytes →
    next_action w job ≡ Some (Store j o s) → (4 ≤ job.place) × (job.place < 4 + stores_count w job bytes)
store_place w job name bytes j o s kind h = elim (put_next w job name bytes (Store j o s) kind h) [
  | PutAt.first l e ↦ absurd
      (each_get IsMove append_actions job.place (Store j o s) (tt, (tt, (tt, (tt, tt)))) e)
  | PutAt.store l k is ↦ (l, k)
  | PutAt.second q is l e ↦
      absurd (each_get IsMove append_actions q (Store j o s) (tt, (tt, (tt, (tt, tt)))) e)
  | PutAt.after l is ↦ absurd is
]

-- a fourth move of a put stands at place 3, or behind the stores and three more
pub gate_place : (w : State) (job : Job) (name bytes : List ℕ) → job.kind ≡ PutJob name bytes →
    next_action w job ≡ Some SyncGate → 4 ≤ job.place → job.place ≡ 7 + stores_count w job bytes
gate_place w job name bytes kind h later = elim (put_next w job name bytes SyncGate kind h) [
  | PutAt.first l e ↦ absurd (omega arith)
  | PutAt.store l k is ↦ absurd is
  | PutAt.second q is l e ↦ (let z = gate_is_last q e in omega arith)
  | PutAt.after l is ↦ absurd is
]
