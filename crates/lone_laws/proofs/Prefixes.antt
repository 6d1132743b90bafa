-- The first part of a job's list of actions does not depend on what the job decides at the end of it.
use Rattle.std.proofs.Common.{◌≡◌, ℕ, zero, suc, ◌+◌, ◌-◌, ◌<◌, ◌≤◌, List, [], ◌∷◌, ◌++◌, length, take, drop, None, Some, refl, ap, sym, ◌∙◌, inl, inr, arith}
use Rattle.std.specs.Prelude.{slice_get}
use Rattle.std.proofs.Math.Seq.{drop-append-add}
use Rattle.std.proofs.lemmas.Bool.{cases_lt}
use Rattle.record_defs.specs.Records.{Setup}
use Rattle.record_defs.specs.Table.{version_of}
use Rattle.machine_defs.specs.Jobs.{Kind, PutJob, GetJob, DropJob, AuditJob, RepairJob, UpgradeJob, aim_of, Job}
use Rattle.machine_defs.specs.Actions.{Action, SyncBody, WriteGate, SyncGate, End, append_actions, store_actions, ask_actions, repair_actions, actions_by, actions_of, appends_left}
use Rattle.machine_defs.specs.States.{State, setup_in}
use Rattle.machine_defs.specs.Space.{append_sizes}
use Rattle.machine_defs.specs.Steps.{next_action}
use Rattle.machine_defs.proofs.ActionLists.{split_get}
use Rattle.machine_defs.proofs.Fair.{gate_place}
use Rattle.machine_defs.proofs.NextActions.{next_stands}
use Rattle.state_laws.proofs.Orders.{others-repairs, put_rest, drop_rest, audit_rest, put-list, audit-list, appends_in, appends-append, appends-move, appends-others, appends-removals, put-first, audit-first, get-none}
use Rattle.state_laws.proofs.Gates.{decided, drop-list, drop-gate, audit-same, repair-same, upgrade-same}
use Rattle.lone_laws.proofs.Lists.{take-append-add}

-- behind the second append of a put nothing of the part before depends on what is taken away
put-front : (s : Setup) (job : Job) (bytes : List ℕ) (p : ℕ) → p ≡ 8 + length (store_actions s job bytes) →
    take p (append_actions ++ put_rest s job bytes)
    ≡ append_actions ++ (store_actions s job bytes ++ append_actions)
put-front s job bytes p e = ap (λ n. take n (append_actions ++ put_rest s job bytes))
    (let f : p ≡ 4 + (length (store_actions s job bytes) + (4 + 0)) = omega (arith, e) in f)
    ∙ (take-append-add append_actions (put_rest s job bytes) (length (store_actions s job bytes) + (4 + 0))
    ∙ ap (λ xs. append_actions ++ xs)
    (take-append-add (store_actions s job bytes) (append_actions ++ drop_rest s job) (4 + 0)
    ∙ ap (λ xs. store_actions s job bytes ++ xs) (take-append-add append_actions (drop_rest s job) 0)))

module _ (w : State) (job : Job) (older : List ℕ) (next : next_action w job ≡ Some SyncGate) where
  -- the actions up to a fourth move are the same, whatever it decides on
  abbrev pub SameFront : Type 0
  SameFront = take (job.place + 1) (actions_of (setup_in w) (decided job older))
      ≡ take (job.place + 1) (actions_of (setup_in w) job)

  not-end : SyncGate ≡ End → ⊥
  not-end e = cc

  put-first_front : (name bytes : List ℕ) → job.kind ≡ PutJob name bytes → older ≡ job.older → SameFront
  put-first_front name bytes kind e = ap (take (job.place + 1))
      (put-list (setup_in w) (decided job older) name bytes kind
      ∙ (ap (λ o. append_actions ++ put_rest (setup_in w) (decided job o) bytes) e
      ∙ sym (put-list (setup_in w) job name bytes kind)))

  put-later_front : (name bytes : List ℕ) → job.kind ≡ PutJob name bytes → 4 ≤ job.place → SameFront
  put-later_front name bytes kind l = (let at = gate_place w job name bytes kind next l in
      ap (take (job.place + 1)) (put-list (setup_in w) (decided job older) name bytes kind)
      ∙ (put-front (setup_in w) (decided job older) bytes (job.place + 1) (omega (arith, at))
      ∙ (sym (put-front (setup_in w) job bytes (job.place + 1) (omega (arith, at)))
      ∙ ap (take (job.place + 1)) (sym (put-list (setup_in w) job name bytes kind)))))

  drop-front : (name : List ℕ) → job.kind ≡ DropJob name → SameFront
  drop-front name kind = (let at = drop-gate (setup_in w) job job.place
      (ap (λ xs. slice_get xs job.place) (sym (drop-list (setup_in w) job name kind))
      ∙ next_stands w job SyncGate next not-end) in
      let four : job.place + 1 ≡ 4 + 0 = omega (arith, at) in
      ap (take (job.place + 1)) (drop-list (setup_in w) (decided job older) name kind)
      ∙ (ap (λ n. take n (append_actions ++ drop_rest (setup_in w) (decided job older))) four
      ∙ (take-append-add append_actions (drop_rest (setup_in w) (decided job older)) 0
      ∙ (sym (take-append-add append_actions (drop_rest (setup_in w) job) 0)
      ∙ (ap (λ n. take n (append_actions ++ drop_rest (setup_in w) job)) (sym four)
      ∙ ap (take (job.place + 1)) (sym (drop-list (setup_in w) job name kind)))))))

  -- a job's actions up to the fourth move at which it decides do not hang on what it takes away
  pub same-front : (kind : Kind) → job.kind ≡ kind → ((name : List ℕ) → kind ≡ GetJob name → ⊥) →
      ((name bytes : List ℕ) → kind ≡ PutJob name bytes → job.place < 4 → older ≡ job.older) → SameFront
  same-front (PutJob name bytes) kind n h = elim (cases_lt job.place 4) [
    | inl l ↦ put-first_front name bytes kind (h name bytes refl l)
    | inr l ↦ put-later_front name bytes kind l
  ]
  same-front (GetJob name) kind n h = absurd (n name refl)
  same-front (DropJob name) kind n h = drop-front name kind
  same-front AuditJob kind n h = ap (take (job.place + 1)) (audit-same (setup_in w) job older kind)
  same-front RepairJob kind n h = ap (take (job.place + 1)) (repair-same (setup_in w) job older kind)
  same-front UpgradeJob kind n h = ap (take (job.place + 1)) (upgrade-same (setup_in w) job older kind)

-- ---- how many appends a job has left at its begin

-- an upgrade is one append
pub upgrade-list : (s : Setup) (job : Job) → job.kind ≡ UpgradeJob →
    actions_of s job ≡ append_actions ++ End ∷ []
unfolding actions_of
upgrade-list s job kind = ap (actions_by s job) kind

-- a repair's actions are its fetches, works and stores, one append, and the end
pub repair-list : (s : Setup) (job : Job) → job.kind ≡ RepairJob →
    actions_of s job ≡ repair_actions s job ++ (append_actions ++ End ∷ [])
unfolding actions_of
repair-list s job kind = ap (actions_by s job) kind

-- as many as its kind appends
pub appends-whole : (w : State) (job : Job) (kind : Kind) → job.kind ≡ kind → job.place ≡ 0 →
    appends_left (setup_in w) job ≡ length (append_sizes (version_of w.records) (setup_in w) (aim_of kind))
appends-whole w job (PutJob name bytes) kind first =
    put-first (setup_in w) job name bytes kind (omega (arith, first))
appends-whole w job (GetJob name) kind first = get-none (setup_in w) job name kind
appends-whole w job (DropJob name) kind first =
    ap (λ p. appends_in (drop p (actions_of (setup_in w) job))) first
    ∙ (ap appends_in (drop-list (setup_in w) job name kind)
    ∙ (appends-move (drop_rest (setup_in w) job) ∙ ap (λ n. 1 + n) (appends-removals (setup_in w) job)))
appends-whole w job AuditJob kind first = audit-first (setup_in w) job kind (omega (arith, first))
appends-whole w job RepairJob kind first = ap (λ p. appends_in (drop p (actions_of (setup_in w) job))) first
    ∙ (ap appends_in (repair-list (setup_in w) job kind)
    ∙ (appends-append (repair_actions (setup_in w) job) (append_actions ++ End ∷ [])
    ∙ (let a = appends-others (repair_actions (setup_in w) job) (others-repairs (setup_in w) job) in
    let b = appends-move (End ∷ []) in omega (arith, a, b))))
appends-whole w job UpgradeJob kind first = ap (λ p. appends_in (drop p (actions_of (setup_in w) job))) first
    ∙ (ap appends_in (upgrade-list (setup_in w) job kind) ∙ appends-move (End ∷ []))

-- ---- an audit whose appends are done

-- behind the first appends of a list, an element before the second has it still before it
pub audit-within : (xs : List Action) (p : ℕ) → p < length xs →
    0 < appends_in (drop p (xs ++ (append_actions ++ End ∷ [])))
audit-within [] p l = absurd (omega (arith, l))
audit-within (x ∷ xs) zero l =
    (let a = appends-append (x ∷ xs) (append_actions ++ End ∷ []) in let b = appends-move (End ∷ []) in
    omega (arith, a, b))
audit-within (x ∷ xs) (suc p) l = audit-within xs p (omega (arith, l))

-- an audit whose appends are done has only its end left
pub audit-over : (w : State) (job : Job) (action : Action) → job.kind ≡ AuditJob →
    appends_left (setup_in w) job ≡ 0 → next_action w job ≡ Some action → (action ≡ End → ⊥) → ⊥
audit-over w job action kind none next n = (let list = audit-list (setup_in w) job kind in
    let at : slice_get (append_actions ++ audit_rest (setup_in w) job) job.place ≡ Some action =
    ap (λ xs. slice_get xs job.place) (sym list) ∙ next_stands w job action next n in
    let left : appends_in (drop job.place (append_actions ++ audit_rest (setup_in w) job)) ≡ 0 =
    ap (λ xs. appends_in (drop job.place xs)) (sym list) ∙ none in
    over job.place at left)
  where
    tail : (q : ℕ) → slice_get (append_actions ++ End ∷ []) q ≡ Some action →
        appends_in (drop q (append_actions ++ End ∷ [])) ≡ 0 → ⊥
    tail zero h e = (let f : appends_in (append_actions ++ End ∷ []) ≡ 1 = refl in omega (arith, e, f))
    tail (suc zero) h e =
        (let f : appends_in (SyncBody ∷ WriteGate ∷ SyncGate ∷ End ∷ []) ≡ 1 = refl in omega (arith, e, f))
    tail (suc (suc zero)) h e =
        (let f : appends_in (WriteGate ∷ SyncGate ∷ End ∷ []) ≡ 1 = refl in omega (arith, e, f))
    tail (suc (suc (suc zero))) h e =
        (let f : appends_in (SyncGate ∷ End ∷ []) ≡ 1 = refl in omega (arith, e, f))
    tail (suc (suc (suc (suc zero)))) h e =
        n (let f : Some End ≡ Some action = h in let g : End ≡ action = cc in sym g)
    tail (suc (suc (suc (suc (suc q))))) h e = (let f : None ≡ Some action = h in cc)

    rest : (q : ℕ) → slice_get (audit_rest (setup_in w) job) q ≡ Some action →
        appends_in (drop q (audit_rest (setup_in w) job)) ≡ 0 → ⊥
    rest q h e = elim (split_get (ask_actions (setup_in w) job) (append_actions ++ End ∷ []) q action h) [
      | inl a ↦ (let l = audit-within (ask_actions (setup_in w) job) q a.0 in omega (arith, l, e))
      | inr b ↦ (let f : q ≡ length
          (ask_actions (setup_in w) job) + (q - length (ask_actions (setup_in w) job)) =
          (let g = b.0 in omega (arith, g)) in
          tail (q - length (ask_actions (setup_in w) job)) b.1
          (ap appends_in (sym (ap (λ k. drop k (audit_rest (setup_in w) job)) f
          ∙ drop-append-add (ask_actions (setup_in w) job) (append_actions ++ End ∷ [])
          (q - length (ask_actions (setup_in w) job)))) ∙ e))
    ]

    over : (p : ℕ) → slice_get (append_actions ++ audit_rest (setup_in w) job) p ≡ Some action →
        appends_in (drop p (append_actions ++ audit_rest (setup_in w) job)) ≡ 0 → ⊥
    over zero h e = (let f = appends-move (audit_rest (setup_in w) job) in omega (arith, e, f))
    over (suc zero) h e =
        (let f = appends-append (SyncBody ∷ WriteGate ∷ SyncGate ∷ []) (audit_rest (setup_in w) job) in
        let g : appends_in (SyncBody ∷ WriteGate ∷ SyncGate ∷ []) ≡ 1 = refl in omega (arith, e, f, g))
    over (suc (suc zero)) h e = (let f = appends-append (WriteGate ∷ SyncGate ∷ [])
        (audit_rest (setup_in w) job) in let g : appends_in (WriteGate ∷ SyncGate ∷ []) ≡ 1 = refl in
        omega (arith, e, f, g))
    over (suc (suc (suc zero))) h e = (let f = appends-append (SyncGate ∷ []) (audit_rest (setup_in w) job) in
        let g : appends_in (SyncGate ∷ []) ≡ 1 = refl in omega (arith, e, f, g))
    over (suc (suc (suc (suc q)))) h e = rest q h e
